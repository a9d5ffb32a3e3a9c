-- Plans with shorter greens.
use Rattle.std.specs.Prelude.{ℕ, length, Some, ◌≡◌, ◌<◌, ◌≤◌, slice_get}
use Rattle.junction_model.specs.declared.group.Group.{Group}
use Rattle.junction_model.specs.Junction.{JunctionView}
use Rattle.plan_model.specs.SignalPlan.{PlanView, green_of}
use Rattle.plan_model.specs.Fits.{Fits, group_count}

-- the cycle and the starts of p, and each green between the group's minimum and that of p
pub record IsShortened (junction : JunctionView) (p q : PlanView) : Type 0 where
  pub cycle : q.cycle ≡ p.cycle
  pub starts : q.starts ≡ p.starts
  pub groups : length q.greens ≡ group_count junction
  pub least : (i : ℕ) (group : Group) → slice_get junction.groups i ≡ Some group → group.times.min_green ≤ green_of q i
  pub most : (i : ℕ) → i < group_count junction → green_of q i ≤ green_of p i

abbrev pub ShorteningLaw : Type 0
ShorteningLaw = (junction : JunctionView) (p q : PlanView) → Fits junction p → IsShortened junction p q → Fits junction q
