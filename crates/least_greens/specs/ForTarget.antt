-- The needs of all groups for a target, and what closes an order or a cycle for it.
use Rattle.std.specs.Prelude.{ℕ, List, map, if◌then◌else◌, nat_lt}
use Rattle.std.specs.List.{range_with_len}
use Rattle.sig_base.specs.declared.lane_set.LaneSet.{LaneSet}
use Rattle.sig_base.specs.declared.ratio.Ratio.{Ratio}
use Rattle.sig_base.specs.declared.target.Target.{Target}
use Rattle.sig_base.specs.declared.target.Target.TheVariants.{Reach, Beat}
use Rattle.constraint_cycles.specs.Closing.{Closes}
use Rattle.constraint_cycles.specs.Tree.{ClosesCycle}
use Rattle.constraint_cycles.specs.declared.mark.Mark.{Mark}
use Rattle.constraint_cycles.specs.declared.node.Node.{Node}
use Rattle.junction_model.specs.Junction.{JunctionView}
use Rattle.plan_model.specs.Fits.{group_count}
use Rattle.least_greens.specs.NeedOf.{need_of}

-- the need of each group
abbrev pub needs_of : JunctionView → LaneSet → Target → ℕ → List ℕ
needs_of junction lanes target cycle = map (need_of junction lanes target cycle) (range_with_len 0 (group_count junction))

-- the walk closes the order for the target
abbrev pub ClosesFor : JunctionView → LaneSet → Target → ℕ → List Mark → List ℕ → Type 0
ClosesFor junction lanes target cycle marks walk = Closes junction.conflicts marks (needs_of junction lanes target cycle) cycle walk

-- the tree closes the cycle for the target
abbrev pub ClosesCycleFor : JunctionView → LaneSet → Target → ℕ → List Node → Type 0
ClosesCycleFor junction lanes target cycle nodes = ClosesCycle junction.conflicts (needs_of junction lanes target cycle) cycle nodes

-- the target of a cycle's tree beside a plan of this cycle and multiplier: to reach it below the plan's cycle, to beat
-- it from there on
abbrev pub target_beside : ℕ → Ratio → ℕ → Target
target_beside plan_cycle multiplier cycle = (if nat_lt cycle plan_cycle then Reach multiplier else Beat multiplier)
