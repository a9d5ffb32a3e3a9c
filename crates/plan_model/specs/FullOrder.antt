-- Plans from the starts that meet a full order.
use Rattle.std.specs.Prelude.{ℕ, List, length, Some, ◌≡◌, ◌<◌, ◌≤◌, All, slice_get}
use Rattle.constraint_cycles.specs.Marks.{item_count, IsDecided}
use Rattle.constraint_cycles.specs.Starts.{MeetsOrder}
use Rattle.constraint_cycles.specs.declared.mark.Mark.{Mark}
use Rattle.junction_model.specs.declared.group.Group.{Group}
use Rattle.junction_model.specs.Junction.{JunctionView}
use Rattle.junction_model.specs.Rules.{IsJunction}
use Rattle.plan_model.specs.SignalPlan.{PlanView, green_of}
use Rattle.plan_model.specs.Fits.{HasEachGroup, IsWithinLimits, Fits}

-- each green is from its group's minimum to its maximum
abbrev pub HasGreens : JunctionView → PlanView → Type 0
HasGreens junction p = (i : ℕ) (group : Group) → slice_get junction.groups i ≡ Some group → (group.times.min_green ≤ green_of p i) × (green_of p i ≤ group.times.max_green)

-- the plan has a cycle within the limits, starts below it, and greens that its groups may have
pub record IsShaped (junction : JunctionView) (p : PlanView) : Type 0 where
  pub groups : HasEachGroup junction p
  pub cycle : IsWithinLimits junction p
  pub starts : All (λ start. start < p.cycle) p.starts
  pub greens : HasGreens junction p

-- where it meets an order that decides each item, with its own greens as the needs, it fits
abbrev pub FullOrderFitsLaw : Type 0
FullOrderFitsLaw = (junction : JunctionView) (p : PlanView) (marks : List Mark) → IsJunction junction → IsShaped junction p →
    length marks ≡ item_count junction.conflicts → IsDecided marks → MeetsOrder junction.conflicts marks p.greens p.cycle p.starts → Fits junction p
