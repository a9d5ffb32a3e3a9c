-- The least green with which all lanes of a group serve a target.
use Rattle.std.specs.Prelude.{ℕ, Some, ◌≡◌, ◌<◌, ◌≤◌, IsBitSet, slice_get}
use Rattle.sig_base.specs.declared.lane_set.LaneSet.{LaneSet}
use Rattle.sig_base.specs.declared.target.Target.{Target}
use Rattle.flow_model.specs.declared.lane.Lane.{Lane}
use Rattle.constraint_cycles.specs.Edge.{longest_green, unserved_need}
use Rattle.junction_model.specs.declared.group.Group.{Group}
use Rattle.junction_model.specs.Junction.{JunctionView}
use Rattle.plan_model.specs.Multiplier.{Serves}
use Rattle.plan_model.specs.Serving.{multiplier_under}

-- a lane of the set and of group i, on which something arrives
pub record CountsForGroup (junction : JunctionView) (lanes : LaneSet) (i k : ℕ) (lane : Lane) : Type 0 where
  pub there : slice_get junction.lanes k ≡ Some lane
  pub chosen : IsBitSet lanes.bits k
  pub own : lane.group ≡ i
  pub arriving : 1 ≤ lane.arrival

-- a green of group i is at most its maximum
abbrev pub IsAllowed : JunctionView → ℕ → ℕ → Type 0
IsAllowed junction i green = (group : Group) → slice_get junction.groups i ≡ Some group → green ≤ group.times.max_green

-- the green of group i is at least its minimum and at most its maximum, and under it each such lane's multiplier
-- reaches the target's ratio, or exceeds it
pub record IsEnough (junction : JunctionView) (lanes : LaneSet) (target : Target) (cycle i green : ℕ) : Type 0 where
  pub minimum : (group : Group) → slice_get junction.groups i ≡ Some group → group.times.min_green ≤ green
  pub maximum : IsAllowed junction i green
  pub serves : (group : Group) (k : ℕ) (lane : Lane) → slice_get junction.groups i ≡ Some group → CountsForGroup junction lanes i k lane →
      Serves target (multiplier_under lane group.times cycle green)

-- the least green of 1 to 300 seconds that is enough, and 301 where none is
pub record IsNeed (junction : JunctionView) (lanes : LaneSet) (target : Target) (cycle i need : ℕ) : Type 0 where
  pub some : 1 ≤ need
  pub most : need ≤ unserved_need
  pub enough : need ≤ longest_green → IsEnough junction lanes target cycle i need
  pub least : (green : ℕ) → 1 ≤ green → green < need → ¬ IsEnough junction lanes target cycle i green
