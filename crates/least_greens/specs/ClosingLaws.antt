-- The needs of all groups, and what the walks and trees that close for a target say of other targets and of plans.
use Rattle.std.specs.Prelude.{ℕ, List, length, ◌≡◌, ◌<◌, ◌≤◌, slice_index}
use Rattle.sig_base.specs.Ratio.{fraction_of}
use Rattle.sig_base.specs.declared.lane_set.LaneSet.{LaneSet}
use Rattle.sig_base.specs.declared.ratio.Ratio.{Ratio}
use Rattle.sig_base.specs.declared.target.Target.{Target}
use Rattle.sig_base.specs.declared.target.Target.TheVariants.{Beat}
use Rattle.constraint_cycles.specs.Edge.{AreNeeds}
use Rattle.constraint_cycles.specs.Starts.{MeetsOrder}
use Rattle.constraint_cycles.specs.declared.mark.Mark.{Mark}
use Rattle.constraint_cycles.specs.declared.node.Node.{Node}
use Rattle.junction_model.specs.Junction.{JunctionView}
use Rattle.junction_model.specs.Rules.{IsJunction}
use Rattle.plan_model.specs.Fits.{group_count}
use Rattle.plan_model.specs.Multiplier.{IsLeastMultiplier, MeetsTarget}
use Rattle.plan_model.specs.OwnOrder.{BeginsWithGroup0}
use Rattle.plan_model.specs.SignalPlan.{PlanView}
use Rattle.least_greens.specs.NeedOf.{need_of}
use Rattle.least_greens.specs.ForTarget.{needs_of, ClosesFor, ClosesCycleFor}
use Rattle.least_greens.specs.Targets.{IsNotAbove}

-- one need for each group, its own
abbrev pub NeedsLaw : Type 0
NeedsLaw = (junction : JunctionView) (lanes : LaneSet) (target : Target) (cycle : ℕ) →
    (length (needs_of junction lanes target cycle) ≡ group_count junction)
    × ((g : ℕ) → g < group_count junction → slice_index (needs_of junction lanes target cycle) g ≡ need_of junction lanes target cycle g)
    × (IsJunction junction → AreNeeds junction.conflicts (needs_of junction lanes target cycle))

-- a walk that closes an order for a target closes it for every target that this one isn't above
abbrev pub RisingWalkLaw : Type 0
RisingWalkLaw = (junction : JunctionView) (lanes : LaneSet) (s t : Target) (cycle : ℕ) (marks : List Mark) (walk : List ℕ) → 1 ≤ cycle →
    IsNotAbove s t → ClosesFor junction lanes s cycle marks walk → ClosesFor junction lanes t cycle marks walk

-- and so does a tree that closes a cycle
abbrev pub RisingCycleLaw : Type 0
RisingCycleLaw = (junction : JunctionView) (lanes : LaneSet) (s t : Target) (cycle : ℕ) (nodes : List Node) → 1 ≤ cycle →
    IsNotAbove s t → ClosesCycleFor junction lanes s cycle nodes → ClosesCycleFor junction lanes t cycle nodes

-- where a tree closes a cycle for a target, no plan of that cycle meets it
abbrev pub ClosedCycleLaw : Type 0
ClosedCycleLaw = (junction : JunctionView) (p : PlanView) (lanes : LaneSet) (target : Target) (nodes : List Node) → IsJunction junction →
    ClosesCycleFor junction lanes target p.cycle nodes → ¬ MeetsTarget junction p lanes target

-- a plan that meets an order, with its own greens as the needs, misses each target for which a walk closes the order;
-- so to beat the plan's least multiplier isn't above that target
abbrev pub PassedPlanLaw : Type 0
PassedPlanLaw = (junction : JunctionView) (p : PlanView) (lanes : LaneSet) (target : Target) (marks : List Mark) (walk : List ℕ) →
    BeginsWithGroup0 junction p → MeetsOrder junction.conflicts marks p.greens p.cycle p.starts → ClosesFor junction lanes target p.cycle marks walk →
    (¬ MeetsTarget junction p lanes target)
    × ((r : Ratio) → IsLeastMultiplier junction p lanes (fraction_of r) → IsNotAbove (Beat r) target)
