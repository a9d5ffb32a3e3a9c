-- The first violation of a list of rows.
use Rattle.std.specs.Prelude.{ℕ, List, [], ◌∷◌, ◌++◌, length, Some, ◌≡◌, ◌⊎◌, ◌+◌, ◌<◌, ◌≤◌, ⊤, All, slice_get}
use Rattle.conflict_matrix.specs.Matrix.{intergreen_of}
use Rattle.junction_model.specs.declared.group.Group.{Group}
use Rattle.junction_model.specs.Junction.{JunctionView}
use Rattle.plan_model.specs.Fits.{group_count}
use Rattle.aspect_player.specs.declared.aspect.Aspect.{Aspect}
use Rattle.aspect_player.specs.declared.aspect.Aspect.TheVariants.{Green, Amber}
use Rattle.aspect_player.specs.Safe.{Shows, ShowsOther, IsSafe}
use Rattle.log_monitor.specs.declared.violation.Violation.{Violation}
use Rattle.log_monitor.specs.declared.violation.Violation.TheVariants as violation

-- each row has an aspect for each group
abbrev pub AreRows : JunctionView → List (List Aspect) → Type 0
AreRows junction rows = All (λ row. length row ≡ group_count junction) rows

-- row v shows group j green, and row u, at most the intergreen before it, group i, which no row from there to v does later
pub record BreaksClearance (junction : JunctionView) (rows : List (List Aspect)) (v i j u : ℕ) : Type 0 where
  pub intergreen : ℕ
  pub conflict : intergreen_of junction.conflicts i j ≡ Some intergreen
  pub second : Shows rows v j Green
  pub first : Shows rows u i Green
  pub ordered : u ≤ v
  pub near : v ≤ u + intergreen
  pub latest : (t : ℕ) → u < t → t ≤ v → ¬ Shows rows t i Green

-- row v is one of the amber of group i, after the last row of a green, and doesn't show amber
pub record BreaksAmber (junction : JunctionView) (rows : List (List Aspect)) (v i : ℕ) : Type 0 where
  pub group : Group
  pub there : slice_get junction.groups i ≡ Some group
  pub last : ℕ
  pub green : Shows rows last i Green
  pub ended : ShowsOther rows (last + 1) i
  pub later : last < v
  pub within : v ≤ last + group.times.amber
  pub other : ¬ Shows rows v i Amber

-- row v is the first after a green of group i that has a row before it and fewer rows than the minimum
pub record BreaksMinimum (junction : JunctionView) (rows : List (List Aspect)) (v i : ℕ) : Type 0 where
  pub group : Group
  pub there : slice_get junction.groups i ≡ Some group
  pub before : ℕ
  pub seconds : ℕ
  pub some : 1 ≤ seconds
  pub begun : ShowsOther rows before i
  pub green : (k : ℕ) → 1 ≤ k → k ≤ seconds → Shows rows (before + k) i Green
  pub ended : ShowsOther rows (before + seconds + 1) i
  pub now : v ≡ before + seconds + 1
  pub short : seconds < group.times.min_green

-- the violation stands at row v
abbrev pub StandsAt : JunctionView → List (List Aspect) → ℕ → Violation → Type 0
StandsAt junction rows v (violation.Clearance i j u w) = BreaksClearance junction rows v i j u × (w ≡ v)
StandsAt junction rows v (violation.Amber i w) = BreaksAmber junction rows v i × (w ≡ v)
StandsAt junction rows v (violation.Minimum i w) = BreaksMinimum junction rows v i × (w ≡ v)

-- the order of the violations of one row: clearances by the first group, then the second, then ambers, then minimum greens
abbrev pub ComesBefore : Violation → Violation → Type 0
ComesBefore (violation.Clearance i j u w) (violation.Clearance k l x y) = (i < k) ⊎ ((i ≡ k) × (j < l))
ComesBefore (violation.Clearance i j u w) (violation.Amber k y) = ⊤
ComesBefore (violation.Clearance i j u w) (violation.Minimum k y) = ⊤
ComesBefore (violation.Amber i w) (violation.Clearance k l x y) = ⊥
ComesBefore (violation.Amber i w) (violation.Amber k y) = i < k
ComesBefore (violation.Amber i w) (violation.Minimum k y) = ⊤
ComesBefore (violation.Minimum i w) (violation.Clearance k l x y) = ⊥
ComesBefore (violation.Minimum i w) (violation.Amber k y) = ⊥
ComesBefore (violation.Minimum i w) (violation.Minimum k y) = i < k

-- of those that stand it is the first
pub record IsLeast (Stands : Violation → Type 0) (found : Violation) : Type 0 where
  pub stands : Stands found
  pub least : (other : Violation) → Stands other → ¬ ComesBefore other found

-- the rows before the violation's own are safe, with that one they aren't, and it is the first of those that stand there
pub record IsFirstViolation (junction : JunctionView) (rows : List (List Aspect)) (found : Violation) : Type 0 where
  pub before : List (List Aspect)
  pub row : List Aspect
  pub after : List (List Aspect)
  pub parts : rows ≡ before ++ row ∷ after
  pub safe : IsSafe junction before
  pub unsafe : ¬ IsSafe junction (before ++ row ∷ [])
  pub first : IsLeast (StandsAt junction (before ++ row ∷ []) (length before)) found

-- the same violation, where row 0 has this second
abbrev pub in_seconds : ℕ → Violation → Violation
in_seconds first (violation.Clearance i j u v) = violation.Clearance i j (first + u) (first + v)
in_seconds first (violation.Amber i v) = violation.Amber i (first + v)
in_seconds first (violation.Minimum i v) = violation.Minimum i (first + v)
