-- The least green from a group's minimum on, for one lane or for several.
use Rattle.std.specs.Prelude.{ℕ, ◌<◌, ◌≤◌, ◌↔◌, IsSomeAnd, slice_get}
use Rattle.sig_base.specs.declared.group_times.GroupTimes.{GroupTimes}
use Rattle.sig_base.specs.declared.lane_set.LaneSet.{LaneSet}
use Rattle.sig_base.specs.declared.target.Target.{Target}
use Rattle.flow_model.specs.declared.lane.Lane.{Lane}
use Rattle.constraint_cycles.specs.Edge.{longest_green, unserved_need}
use Rattle.junction_model.specs.declared.group.Group.{Group}
use Rattle.junction_model.specs.Junction.{JunctionView}
use Rattle.plan_model.specs.Multiplier.{Serves}
use Rattle.plan_model.specs.Serving.{multiplier_under}
use Rattle.least_greens.specs.Need.{CountsForGroup}

-- of the greens from the minimum to 300 seconds exactly those from `least` on serve; 301 where none does
pub record IsLeastFrom (minimum : ℕ) (serves : ℕ → Type 0) (least : ℕ) : Type 0 where
  pub most : least ≤ unserved_need
  pub exactly : (green : ℕ) → minimum ≤ green → green ≤ longest_green → serves green ↔ (least ≤ green)

-- under this green of group i lane k serves, if it is asked
abbrev pub ServesAt : JunctionView → LaneSet → Target → GroupTimes → ℕ → ℕ → ℕ → ℕ → Type 0
ServesAt junction lanes target times cycle i k green =
    (lane : Lane) → CountsForGroup junction lanes i k lane → Serves target (multiplier_under lane times cycle green)

-- each lane below n does
abbrev pub ServesBelow : JunctionView → LaneSet → Target → GroupTimes → ℕ → ℕ → ℕ → ℕ → Type 0
ServesBelow junction lanes target times cycle i n green = (k : ℕ) → k < n → ServesAt junction lanes target times cycle i k green

-- the least green of group i for lane k alone
abbrev pub IsLaneNeed : JunctionView → LaneSet → Target → ℕ → ℕ → ℕ → ℕ → Type 0
IsLaneNeed junction lanes target cycle i k least = IsSomeAnd (slice_get junction.groups i) (λ (group : Group).
    IsLeastFrom group.times.min_green (ServesAt junction lanes target group.times cycle i k) least)

-- and for its minimum and the lanes below n
abbrev pub IsNeedBelow : JunctionView → LaneSet → Target → ℕ → ℕ → ℕ → ℕ → Type 0
IsNeedBelow junction lanes target cycle i n least = IsSomeAnd (slice_get junction.groups i) (λ (group : Group).
    (group.times.min_green ≤ least) × IsLeastFrom group.times.min_green (ServesBelow junction lanes target group.times cycle i n) least)
