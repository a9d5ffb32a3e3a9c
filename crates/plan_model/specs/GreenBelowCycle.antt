-- A green of a plan that fits doesn't fill the cycle, and neither do a green and the amber after it.
use Rattle.std.specs.Prelude.{ℕ, Some, ◌≡◌, ◌+◌, ◌<◌, slice_get}
use Rattle.junction_model.specs.declared.group.Group.{Group}
use Rattle.junction_model.specs.Junction.{JunctionView}
use Rattle.junction_model.specs.Rules.{IsJunction}
use Rattle.plan_model.specs.SignalPlan.{PlanView, green_of}
use Rattle.plan_model.specs.Fits.{Fits, group_count}

abbrev pub GreenBelowCycleLaw : Type 0
GreenBelowCycleLaw = (junction : JunctionView) (p : PlanView) (i : ℕ) → IsJunction junction → Fits junction p →
    i < group_count junction → green_of p i < p.cycle

abbrev pub AmberBelowCycleLaw : Type 0
AmberBelowCycleLaw = (junction : JunctionView) (p : PlanView) (i : ℕ) (group : Group) → IsJunction junction → Fits junction p →
    slice_get junction.groups i ≡ Some group → green_of p i + group.times.amber < p.cycle
