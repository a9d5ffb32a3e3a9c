-- The lanes that alone hold the multiplier of a junction's plans down, and of which none can be left out.
use Rattle.std.specs.Prelude.{ℕ, List, ◌==◌, ◌≤◌, ◌+◌, IsSomeAnd, slice_get}
use Rattle.std.specs.Int.{bit_at}
use Rattle.std.specs.List.{filter, range_with_len, AllZip}
use Rattle.sig_base.specs.LaneSet.{IsIn, without}
use Rattle.sig_base.specs.declared.lane_set.LaneSet.{LaneSet}
use Rattle.sig_base.specs.declared.ratio.Ratio.{Ratio}
use Rattle.sig_base.specs.declared.target.Target.TheVariants.{Beat}
use Rattle.constraint_cycles.specs.declared.node.Node.{Node}
use Rattle.flow_model.specs.declared.lane.Lane.{Lane}
use Rattle.junction_model.specs.Junction.{JunctionView}
use Rattle.least_greens.specs.ForTarget.{ClosesCycleFor}
use Rattle.plan_model.specs.Multiplier.{MeetsTarget}
use Rattle.plan_model.specs.SignalPlan.{PlanView}
use Rattle.cycle_orders.specs.Forest.{EachTreeOf, HasTreesBelow}
use Rattle.cycle_orders.specs.Lean.{IsLeanFor}

-- the lanes of the set among those below n, by rising numbers
abbrev pub members_below : LaneSet → ℕ → List ℕ
members_below lanes n = filter (λ k. bit_at lanes.bits k == 1) (range_with_len 0 n)

-- all lanes of the set
unfoldable pub members : LaneSet → List ℕ
members lanes = members_below lanes 32

-- something arrives on lane k
abbrev pub HasArrival : JunctionView → ℕ → Type 0
HasArrival junction k = IsSomeAnd (slice_get junction.lanes k) (λ (lane : Lane). 1 ≤ lane.arrival)

-- each lane on which something arrives is in the set
abbrev pub HasEachArrival : JunctionView → LaneSet → Type 0
HasEachArrival junction lanes = (k : ℕ) → HasArrival junction k → IsIn lanes k

-- each lane of the set is one of the junction's, and something arrives on it
abbrev pub AreArriving : JunctionView → LaneSet → Type 0
AreArriving junction lanes = (k : ℕ) → IsIn lanes k → HasArrival junction k

module _ (junction : JunctionView) (multiple : Ratio) where
  -- a plan beats the multiple over a set of lanes: it fits, and each lane of the set on which something arrives has a
  -- greater multiplier
  abbrev pub BeatsOver : LaneSet → PlanView → Type 0
  BeatsOver lanes p = MeetsTarget junction p lanes (Beat multiple)

  abbrev pub BeatsWithout : LaneSet → ℕ → PlanView → Type 0
  BeatsWithout lanes k p = BeatsOver (without lanes k) p

  -- no plan does
  abbrev pub IsUnbeaten : LaneSet → Type 0
  IsUnbeaten lanes = (p : PlanView) → ¬ BeatsOver lanes p

  -- no plan beats the multiple over the set, and over the set without any one of its lanes some plan does
  pub record IsIrreducible (lanes : LaneSet) : Type 0 where
    pub arriving : AreArriving junction lanes
    pub unbeaten : IsUnbeaten lanes
    pub each : (k : ℕ) → IsIn lanes k → (p : PlanView) × BeatsWithout lanes k p

  -- there is a tree for each cycle, and it closes its cycle for beating the multiple over the set
  pub record ClosesEach (lanes : LaneSet) (forest : List (List Node)) : Type 0 where
    pub trees : HasTreesBelow junction (junction.greatest_cycle + 1) forest
    pub closed : EachTreeOf junction (ClosesCycleFor junction lanes (Beat multiple)) forest

  -- no tree splits an order without need
  abbrev pub AreLean : LaneSet → List (List Node) → Type 0
  AreLean lanes forest = EachTreeOf junction (IsLeanFor junction lanes (Beat multiple)) forest

  -- lean trees that close each cycle show that no plan beats the multiple over the set; for each lane of the set, by
  -- rising numbers, a plan shows that it can't be left out
  pub record IsShownBy (lanes : LaneSet) (plans : List PlanView) (forest : List (List Node)) : Type 0 where
    pub closes : ClosesEach lanes forest
    pub lean : AreLean lanes forest
    pub beating : AllZip (BeatsWithout lanes) (members lanes) plans
