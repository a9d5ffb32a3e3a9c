-- What a search is asked, and the plans that it finds.
use Rattle.std.specs.Prelude.{ℕ, List, Option, None, Some, ◌≡◌, ◌≤◌, ⊤}
use Rattle.sig_base.specs.Ratio.{fraction_of}
use Rattle.sig_base.specs.declared.lane_set.LaneSet.{LaneSet}
use Rattle.sig_base.specs.declared.ratio.Ratio.{Ratio}
use Rattle.sig_base.specs.declared.target.Target.{Target}
use Rattle.sig_base.specs.declared.target.Target.TheVariants.{Reach, Beat}
use Rattle.constraint_cycles.specs.Marks.{root_marks, Refines, IsDecided}
use Rattle.constraint_cycles.specs.declared.mark.Mark.{Mark}
use Rattle.difference_system.specs.Solution.{AreLeastStarts}
use Rattle.junction_model.specs.Junction.{JunctionView}
use Rattle.least_greens.specs.ForTarget.{needs_of}
use Rattle.least_greens.specs.Targets.{IsNotAbove}
use Rattle.plan_model.specs.Multiplier.{IsLeastMultiplier, MeetsTarget}
use Rattle.plan_model.specs.MultiplierLaws.{HasFlow}
use Rattle.plan_model.specs.SignalPlan.{PlanView, start_of}
use Rattle.cycle_orders.specs.Lean.{MeetsByGreens}
use Rattle.cycle_orders.specs.declared.answer.Mode.{Mode}
use Rattle.cycle_orders.specs.declared.answer.Mode.TheVariants as mode

-- the junction and the set of its lanes, the target, the cycle and the mode
pub record SearchView : Type 0 where
  pub junction : JunctionView
  pub lanes : LaneSet
  pub target : Target
  pub cycle : ℕ
  pub mode : Mode

abbrev pub search_of : JunctionView → LaneSet → Target → ℕ → Mode → SearchView
search_of junction lanes target cycle mode = record { junction = junction; lanes = lanes; target = target; cycle = cycle; mode = mode }

-- to look for the best plan asks for a lane of the set on which something arrives
abbrev pub IsModeFor : JunctionView → LaneSet → Mode → Type 0
IsModeFor junction lanes mode.First = ⊤
IsModeFor junction lanes mode.Best = HasFlow junction lanes

-- the cycle is within the limits, and the mode one for the lanes
pub record IsSearchable (s : SearchView) : Type 0 where
  pub least : s.junction.least_cycle ≤ s.cycle
  pub greatest : s.cycle ≤ s.junction.greatest_cycle
  pub flow : IsModeFor s.junction s.lanes s.mode

-- the running target: the one that is asked, or, once there is a plan, to beat that plan's multiplier over the lanes
abbrev pub IsRunning : SearchView → Option PlanView → Target → Type 0
IsRunning s None target = target ≡ s.target
IsRunning s (Some p) target = (r : Ratio) × IsLeastMultiplier s.junction p s.lanes (fraction_of r) × (target ≡ Beat r)

-- the plan of an order that decides each item: its greens are the needs for the target, and its starts the least ones
-- that meet the order with them
pub record IsPlanOfOrder (s : SearchView) (target : Target) (marks : List Mark) (p : PlanView) : Type 0 where
  pub below_root : Refines (root_marks s.junction.conflicts) marks
  pub decided : IsDecided marks
  pub lasts : p.cycle ≡ s.cycle
  pub greens : p.greens ≡ needs_of s.junction s.lanes target s.cycle
  pub starts : AreLeastStarts (λ starts. MeetsByGreens s.junction (record { cycle = p.cycle; starts = starts; greens = p.greens }) marks) p.starts

-- the plan is that of the order for reaching its own multiplier over the lanes
pub record IsAtOwnRatio (junction : JunctionView) (lanes : LaneSet) (marks : List Mark) (p : PlanView) : Type 0 where
  pub ratio : Ratio
  pub own : IsLeastMultiplier junction p lanes (fraction_of ratio)
  pub plan : IsPlanOfOrder (search_of junction lanes (Reach ratio) p.cycle mode.Best) (Reach ratio) marks p

-- the plan of the order for a target that is at least the asked one: it meets both, and begins with group 0
pub record IsPlanFor (s : SearchView) (target : Target) (marks : List Mark) (p : PlanView) : Type 0 where
  pub of_order : IsPlanOfOrder s target marks p
  pub first : start_of p 0 ≡ 0
  pub risen : IsNotAbove s.target target
  pub meets : MeetsTarget s.junction p s.lanes target
  pub meets_asked : MeetsTarget s.junction p s.lanes s.target

-- a plan that was found before, if any: that of some order for a target that is at least the asked one
abbrev pub IsEarlierPlan : SearchView → Option PlanView → Type 0
IsEarlierPlan s None = ⊤
IsEarlierPlan s (Some p) = (target : Target) × (marks : List Mark) × IsPlanFor s target marks p

-- the target is the running one before the first plan, or after some plan
pub record WasRunning (s : SearchView) (target : Target) : Type 0 where
  pub before : Option PlanView
  pub earlier : IsEarlierPlan s before
  pub running : IsRunning s before target
