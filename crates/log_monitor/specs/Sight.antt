-- What contracts see of a row before a monitor's memory.
use Rattle.std.specs.Prelude.{ℕ, List, length, Option, MatchOption, ◌≡◌, ◌<◌, ◌≤◌, ◌≢◌, ◌+◌}
use Rattle.junction_model.specs.Junction.{JunctionView}
use Rattle.plan_model.specs.Fits.{group_count}
use Rattle.aspect_player.specs.declared.aspect.Aspect.{Aspect}
use Rattle.aspect_player.specs.declared.aspect.Aspect.TheVariants.{Green, Amber}
use Rattle.log_monitor.specs.declared.sight.Sight.{Sight}
use Rattle.log_monitor.specs.declared.violation.Violation.{Violation}
use Rattle.log_monitor.specs.Memory.{Memory, NextClearance, NextAmber, NextMinimum, HasNoNext, IsNext}

abbrev pub junction_in : Sight → JunctionView
junction_in sight = sight.junction.now

abbrev pub memory_in : Sight → Memory
memory_in sight = record { rows = sight.rows; groups = sight.groups.now }

abbrev pub row_in : Sight → List Aspect
row_in sight = sight.row.now

-- a memory and an aspect for each group
pub record IsWhole (sight : Sight) : Type 0 where
  pub groups : length sight.groups.now ≡ group_count (junction_in sight)
  pub row : length sight.row.now ≡ group_count (junction_in sight)

abbrev pub BreaksPair : Sight → ℕ → ℕ → ℕ → Type 0
BreaksPair sight i j u = NextClearance (junction_in sight) (memory_in sight) (row_in sight) i j u

-- the row breaks the clearance of the pair, after row u
abbrev pub IsPairJudged : Sight → ℕ → ℕ → Option ℕ → Type 0
IsPairJudged sight i j answer = MatchOption answer ((u : ℕ) → ¬ BreaksPair sight i j u) (λ u. BreaksPair sight i j u)

-- no group below n is one that group i clears too late
abbrev pub NoneTo : Sight → ℕ → ℕ → Type 0
NoneTo sight i n = (j u : ℕ) → j < n → ¬ BreaksPair sight i j u

-- no group below n clears too late
abbrev pub NoneFrom : Sight → ℕ → Type 0
NoneFrom sight n = (i j u : ℕ) → i < n → ¬ BreaksPair sight i j u

-- the first group to which group i clears too late, and the row
abbrev pub IsFirstTo : Sight → ℕ → Option (ℕ × ℕ) → Type 0
IsFirstTo sight i answer = MatchOption answer ((j u : ℕ) → ¬ BreaksPair sight i j u)
    (λ found. BreaksPair sight i found.0 found.1 × NoneTo sight i found.0)

-- the first clearance that the row breaks, if it breaks one
abbrev pub IsFirstClearance : Sight → Option Violation → Type 0
IsFirstClearance sight answer = MatchOption answer (NoneFrom sight (group_count (junction_in sight)))
    (IsNext (junction_in sight) (memory_in sight) (row_in sight))

abbrev pub BreaksAmberOf : Sight → ℕ → Type 0
BreaksAmberOf sight i = NextAmber (junction_in sight) (memory_in sight) (row_in sight) i

abbrev pub BreaksMinimumOf : Sight → ℕ → Type 0
BreaksMinimumOf sight i = NextMinimum (junction_in sight) (memory_in sight) (row_in sight) i

-- row v is one of the amber after this last green, and shows another aspect
abbrev pub OwesAmber : Option ℕ → ℕ → ℕ → Aspect → Type 0
OwesAmber last v amber shown = MatchOption last ⊥ (λ u. (v ≤ u + amber) × (shown ≢ Amber) × ¬ ((u + 1 ≡ v) × (shown ≡ Green)))

-- a run of green since this row, which isn't the first of all, ends with row v and is too short
abbrev pub EndsShort : Option ℕ → ℕ → ℕ → Aspect → Type 0
EndsShort since v min_green shown = MatchOption since ⊥ (λ f. (1 ≤ f) × (shown ≢ Green) × (v < f + min_green))

-- the next violation, if there is one
abbrev pub IsSeen : JunctionView → Memory → List Aspect → Option Violation → Type 0
IsSeen junction m row answer = MatchOption answer (HasNoNext junction m row) (IsNext junction m row)
