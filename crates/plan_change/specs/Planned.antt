-- Changes that are planned ahead, and the text of what is shown with them.
use Rattle.std.specs.Prelude.{ℕ, List, length, take, ◌≡◌, ◌≤◌, ◌<◌, map, All, AllPairs, slice_get, Some}
use Rattle.junction_model.specs.Junction.{JunctionView}
use Rattle.plan_model.specs.Plan.{plan_of}
use Rattle.plan_model.specs.declared.plan.Plan.{Plan}
use Rattle.plan_model.specs.Fits.{Fits}
use Rattle.plan_model.specs.SignalPlan.{PlanView}
use Rattle.aspect_player.specs.Lines.{display_text}
use Rattle.plan_change.specs.declared.change_list.PlannedChange.{PlannedChange}
use Rattle.plan_change.specs.Schedule.{RequestView}
use Rattle.plan_change.specs.Changes.{change_display}

-- the request that the change makes
abbrev pub planned : PlannedChange → RequestView
planned change = record { at = change.at; plan = plan_of change.plan }

abbrev pub requests_planned : List PlannedChange → List RequestView
requests_planned changes = map planned changes

-- each comes after the one before
abbrev pub AreRising : List PlannedChange → Type 0
AreRising changes = AllPairs (λ (a b : PlannedChange). a.at < b.at) changes

abbrev pub ArePlannedFor : JunctionView → List PlannedChange → Type 0
ArePlannedFor junction changes = All (λ (change : PlannedChange). Fits junction (plan_of change.plan)) changes

-- the first changes, of this number, come before this second, and the others not
pub record IsDueFrom (changes : List PlannedChange) (number second : ℕ) : Type 0 where
  pub few : number ≤ length changes
  pub past : (k : ℕ) (change : PlannedChange) → k < number → slice_get changes k ≡ Some change → change.at < second
  pub coming : (k : ℕ) (change : PlannedChange) → number ≤ k → slice_get changes k ≡ Some change → second ≤ change.at

-- the requests are those of the changes before this second, and no others
pub record AreMade (changes : List PlannedChange) (requests : List RequestView) (second : ℕ) : Type 0 where
  pub number : ℕ
  pub due : IsDueFrom changes number second
  pub made : requests ≡ requests_planned (take number changes)

-- the header and the rows of n seconds
abbrev pub changed_text : JunctionView → PlanView → List RequestView → ℕ → List ℕ
changed_text junction first requests n = display_text junction (change_display junction first requests) n

abbrev pub change_of : ℕ → Plan → PlannedChange
change_of at plan = record { at = at; plan = plan }
