-- What a monitor remembers of a list of rows, and which violation it sees next.
use Rattle.std.specs.Prelude.{ℕ, List, [], ◌∷◌, length, Option, None, Some, MatchOption, Bool, true, false, if◌then◌else◌, ◌≡◌, ◌≢◌, ◌+◌, ◌<◌, ◌≤◌, slice_get}
use Rattle.std.specs.Option.{option_and_then}
use Rattle.conflict_matrix.specs.Matrix.{intergreen_of}
use Rattle.junction_model.specs.declared.group.Group.{Group}
use Rattle.junction_model.specs.Junction.{JunctionView}
use Rattle.plan_model.specs.Fits.{group_count}
use Rattle.aspect_player.specs.declared.aspect.Aspect.{Aspect}
use Rattle.aspect_player.specs.declared.aspect.Aspect.TheVariants.{Red, RedAmber, Green, Amber}
use Rattle.aspect_player.specs.Safe.{Shows}
use Rattle.log_monitor.specs.declared.memory.GroupMemory.{GroupMemory}
use Rattle.log_monitor.specs.declared.violation.Violation.{Violation}
use Rattle.log_monitor.specs.declared.violation.Violation.TheVariants as violation
use Rattle.log_monitor.specs.Violations.{IsLeast}

pub record Memory : Type 0 where
  -- the number of rows
  pub rows : ℕ
  pub groups : List GroupMemory

-- the last row that shows group i green, if one does
abbrev pub IsLastGreen : List (List Aspect) → ℕ → Option ℕ → Type 0
IsLastGreen rows i last = MatchOption last ((t : ℕ) → ¬ Shows rows t i Green)
    (λ u. Shows rows u i Green × ((t : ℕ) → u < t → ¬ Shows rows t i Green))

-- the first row of the run of green with which the list ends, if it ends with one
abbrev pub IsRunStart : List (List Aspect) → ℕ → Option ℕ → Type 0
IsRunStart rows i since = MatchOption since ((t : ℕ) → t + 1 ≡ length rows → ¬ Shows rows t i Green)
    (λ f. (f < length rows) × ((t : ℕ) → f ≤ t → t < length rows → Shows rows t i Green) × ((t : ℕ) → t + 1 ≡ f → ¬ Shows rows t i Green))

pub record IsMemoryOf (junction : JunctionView) (rows : List (List Aspect)) (m : Memory) : Type 0 where
  pub count : m.rows ≡ length rows
  pub groups : length m.groups ≡ group_count junction
  pub last : (i : ℕ) (own : GroupMemory) → slice_get m.groups i ≡ Some own → IsLastGreen rows i own.last
  pub since : (i : ℕ) (own : GroupMemory) → slice_get m.groups i ≡ Some own → IsRunStart rows i own.since

-- ---- a row added

abbrev pub run_start : ℕ → Option ℕ → ℕ
run_start v None = v
run_start v (Some f) = f

-- what is remembered of a group after row v shows this aspect of it
abbrev pub group_after : ℕ → Aspect → GroupMemory → GroupMemory
group_after v Green own = record { last = Some v; since = Some (run_start v own.since) }
group_after v Red own = record { last = own.last; since = None }
group_after v RedAmber own = record { last = own.last; since = None }
group_after v Amber own = record { last = own.last; since = None }

unfoldable pub groups_after : ℕ → List Aspect → List GroupMemory → List GroupMemory
groups_after v [] groups = []
groups_after v (aspect ∷ row) [] = []
groups_after v (aspect ∷ row) (own ∷ groups) = group_after v aspect own ∷ groups_after v row groups

-- the memory with a row added
abbrev pub with_row : Memory → List Aspect → Memory
with_row m row = record { rows = m.rows + 1; groups = groups_after m.rows row m.groups }

-- ---- the next violation

abbrev pub last_of : Memory → ℕ → Option ℕ
last_of m i = option_and_then (λ (own : GroupMemory). own.last) (slice_get m.groups i)

abbrev pub since_of : Memory → ℕ → Option ℕ
since_of m i = option_and_then (λ (own : GroupMemory). own.since) (slice_get m.groups i)

abbrev pub is_green : Option Aspect → Bool
is_green (Some Green) = true
is_green (Some Red) = false
is_green (Some RedAmber) = false
is_green (Some Amber) = false
is_green None = false

-- the last row with a green of group i, the new one included
abbrev pub latest_of : Memory → List Aspect → ℕ → Option ℕ
latest_of m row i = (if is_green (slice_get row i) then Some m.rows else last_of m i)

-- the row shows group j green, and the last green of group i is at most the intergreen before it
pub record NextClearance (junction : JunctionView) (m : Memory) (row : List Aspect) (i j u : ℕ) : Type 0 where
  pub intergreen : ℕ
  pub conflict : intergreen_of junction.conflicts i j ≡ Some intergreen
  pub second : slice_get row j ≡ Some Green
  pub first : latest_of m row i ≡ Some u
  pub near : m.rows ≤ u + intergreen

-- the last green of group i has ended, its amber isn't over, and the row doesn't show amber
pub record NextAmber (junction : JunctionView) (m : Memory) (row : List Aspect) (i : ℕ) : Type 0 where
  pub group : Group
  pub there : slice_get junction.groups i ≡ Some group
  pub last : ℕ
  pub remembered : last_of m i ≡ Some last
  pub ended : ¬ ((last + 1 ≡ m.rows) × (slice_get row i ≡ Some Green))
  pub within : m.rows ≤ last + group.times.amber
  pub other : slice_get row i ≢ Some Amber

-- the run of green of group i ends with this row, began after the first one, and has fewer rows than the minimum
pub record NextMinimum (junction : JunctionView) (m : Memory) (row : List Aspect) (i : ℕ) : Type 0 where
  pub group : Group
  pub there : slice_get junction.groups i ≡ Some group
  pub since : ℕ
  pub remembered : since_of m i ≡ Some since
  pub begun : 1 ≤ since
  pub ended : slice_get row i ≢ Some Green
  pub short : m.rows < since + group.times.min_green

abbrev pub StandsNext : JunctionView → Memory → List Aspect → Violation → Type 0
StandsNext junction m row (violation.Clearance i j u w) = NextClearance junction m row i j u × (w ≡ m.rows)
StandsNext junction m row (violation.Amber i w) = NextAmber junction m row i × (w ≡ m.rows)
StandsNext junction m row (violation.Minimum i w) = NextMinimum junction m row i × (w ≡ m.rows)

-- the next violation of a memory and a row
abbrev pub IsNext : JunctionView → Memory → List Aspect → Violation → Type 0
IsNext junction m row found = IsLeast (StandsNext junction m row) found

abbrev pub HasNoNext : JunctionView → Memory → List Aspect → Type 0
HasNoNext junction m row = (found : Violation) → ¬ StandsNext junction m row found
