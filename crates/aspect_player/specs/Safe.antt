-- Safe rows, whatever they come from.
use Rattle.std.specs.Prelude.{ℕ, List, length, Some, ◌≡◌, ◌≢◌, ◌+◌, ◌<◌, ◌≤◌, slice_get}
use Rattle.std.specs.Option.{option_and_then}
use Rattle.conflict_matrix.specs.Matrix.{intergreen_of}
use Rattle.junction_model.specs.declared.group.Group.{Group}
use Rattle.junction_model.specs.Junction.{JunctionView}
use Rattle.junction_model.specs.Rules.{IsJunction}
use Rattle.plan_model.specs.SignalPlan.{PlanView}
use Rattle.plan_model.specs.Fits.{Fits}
use Rattle.aspect_player.specs.declared.aspect.Aspect.{Aspect}
use Rattle.aspect_player.specs.declared.aspect.Aspect.TheVariants.{Green, Amber}
use Rattle.aspect_player.specs.Timetable.{timetable}

-- row t shows this aspect of group i
abbrev pub Shows : List (List Aspect) → ℕ → ℕ → Aspect → Type 0
Shows rows t i aspect = option_and_then (λ row. slice_get row i) (slice_get rows t) ≡ Some aspect

-- row t shows group i, and not green
abbrev pub ShowsOther : List (List Aspect) → ℕ → ℕ → Type 0
ShowsOther rows t i = (aspect : Aspect) × Shows rows t i aspect × (aspect ≢ Green)

-- between a green of group i and a later one of group j that conflicts with it lies at least the intergreen
abbrev pub IsClearance : JunctionView → List (List Aspect) → Type 0
IsClearance junction rows = (i j w u v : ℕ) → intergreen_of junction.conflicts i j ≡ Some w → u ≤ v →
    Shows rows u i Green → Shows rows v j Green → u + w < v

-- after the last row of a green, each row of the group's amber that is there shows amber
abbrev pub IsWholeAmber : JunctionView → List (List Aspect) → Type 0
IsWholeAmber junction rows = (i u k : ℕ) (group : Group) → slice_get junction.groups i ≡ Some group →
    Shows rows u i Green → ShowsOther rows (u + 1) i → 1 ≤ k → k ≤ group.times.amber → u + k < length rows → Shows rows (u + k) i Amber

-- a green of n rows with another aspect just before it and just after it lasts at least the minimum
abbrev pub IsWholeGreen : JunctionView → List (List Aspect) → Type 0
IsWholeGreen junction rows = (i u n : ℕ) (group : Group) → slice_get junction.groups i ≡ Some group → 1 ≤ n →
    ShowsOther rows u i → ((k : ℕ) → 1 ≤ k → k ≤ n → Shows rows (u + k) i Green) → ShowsOther rows (u + n + 1) i → group.times.min_green ≤ n

pub record IsSafe (junction : JunctionView) (rows : List (List Aspect)) : Type 0 where
  pub clearance : IsClearance junction rows
  pub amber : IsWholeAmber junction rows
  pub minimum : IsWholeGreen junction rows

-- the rows of a plan that fits are safe, however many there are
abbrev pub SafetyLaw : Type 0
SafetyLaw = (junction : JunctionView) (p : PlanView) (n : ℕ) → IsJunction junction → Fits junction p → IsSafe junction (timetable junction p n)
