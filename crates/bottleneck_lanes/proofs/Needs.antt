-- What a set of lanes says of plans and needs: a smaller set asks less, and lanes on which nothing arrives ask nothing.
use Rattle.std.proofs.Common.{ℕ, List, [], ◌∷◌, ◌≡◌, ◌<◌, ◌≤◌, subst, refl, arith}
use Rattle.std.specs.Prelude.{map, length, nat_lt}
use Rattle.std.specs.List.{range_with_len}
use Rattle.std.proofs.lemmas.Bool.{cond_both}
use Rattle.sig_base.specs.Fraction.{IsAtMost, IsSameFraction}
use Rattle.sig_base.specs.LaneSet.{IsIn}
use Rattle.sig_base.specs.Ratio.{fraction_of}
use Rattle.sig_base.specs.declared.lane_set.LaneSet.{LaneSet}
use Rattle.sig_base.specs.declared.ratio.Ratio.{Ratio}
use Rattle.sig_base.specs.declared.target.Target.{Target}
use Rattle.sig_base.specs.declared.target.Target.TheVariants.{Reach, Beat}
use Rattle.constraint_cycles.specs.Tree.{ClosesCycle}
use Rattle.constraint_cycles.specs.declared.node.Node.{Node}
use Rattle.junction_model.specs.Junction.{JunctionView}
use Rattle.junction_model.specs.Rules.{IsJunction}
use Rattle.plan_model.specs.AllLanes.{all_lanes}
use Rattle.plan_model.specs.Claims.{IsPlanMultiplier}
use Rattle.plan_model.specs.Fits.{Fits, group_count}
use Rattle.plan_model.specs.SignalPlan.{PlanView}
use Rattle.plan_model.proofs.AllLanes.{chosen, all_lanes_multiplier_law}
use Rattle.plan_model.proofs.MultiplierLaws.{one_multiplier_law}
use Rattle.plan_model.proofs.LeastLane.{counts_within}
use Rattle.least_greens.specs.ClosingLaws.{ClosedCycleLaw, RisingCycleLaw}
use Rattle.least_greens.specs.ForTarget.{target_beside, ClosesCycleFor}
use Rattle.least_greens.specs.Need.{IsEnough}
use Rattle.least_greens.specs.NeedOf.{need_of}
use Rattle.least_greens.specs.Targets.{IsNotAbove}
use Rattle.least_greens.proofs.NeedOf.{need_law, one_need_law}
use Rattle.cycle_orders.proofs.EachTree.{tree_of, map_trees}
use Rattle.bottleneck_lanes.specs.Answer.{ShowsBest}
use Rattle.bottleneck_lanes.specs.Laws.{SmallerSetLaw, UnbeatenLaw, BesideLaw}
use Rattle.bottleneck_lanes.specs.Critical.{HasArrival, HasEachArrival, ClosesEach}
use Rattle.bottleneck_lanes.proofs.ArrivingLanes.{arrives, arrival_within}

module _ (junction : JunctionView) (rules : IsJunction junction) where
  module _ (lanes other : LaneSet) (same : (k : ℕ) → HasArrival junction k → (IsIn lanes k → IsIn other k) × (IsIn other k → IsIn lanes k)) (target : Target) (cycle : ℕ) where
    enough_up : (i green : ℕ) → IsEnough junction lanes target cycle i green → IsEnough junction other target cycle i green
    enough_up i green enough = record {
      minimum = enough.minimum;
      maximum = enough.maximum;
      serves = λ group k lane there counts. enough.serves group k lane there
          (record { there = counts.there; chosen = (same k (arrives junction k lane counts.there counts.arriving)).1 counts.chosen; own = counts.own; arriving = counts.arriving });
    }

    enough_down : (i green : ℕ) → IsEnough junction other target cycle i green → IsEnough junction lanes target cycle i green
    enough_down i green enough = record {
      minimum = enough.minimum;
      maximum = enough.maximum;
      serves = λ group k lane there counts. enough.serves group k lane there
          (record { there = counts.there; chosen = (same k (arrives junction k lane counts.there counts.arriving)).0 counts.chosen; own = counts.own; arriving = counts.arriving });
    }

    same_need : (i : ℕ) → need_of junction lanes target cycle i ≡ need_of junction other target cycle i
    same_need i =
        let own = need_law junction lanes target cycle i in
        one_need_law junction other target cycle i (need_of junction lanes target cycle i) (record {
          some = own.some;
          most = own.most;
          enough = λ within. enough_up i (need_of junction lanes target cycle i) (own.enough within);
          least = λ green some below enough. own.least green some below (enough_down i green enough);
        })

    map_same : (numbers : List ℕ) → map (need_of junction lanes target cycle) numbers ≡ map (need_of junction other target cycle) numbers
    map_same [] = refl
    map_same (i ∷ numbers) = rw (same_need i, map_same numbers) refl

    -- so what closes a cycle over the one set closes it over the other
    pub same_closes : (nodes : List Node) → ClosesCycleFor junction lanes target cycle nodes → ClosesCycleFor junction other target cycle nodes
    same_closes nodes closes = subst (λ needs. ClosesCycle junction.conflicts needs cycle nodes) (map_same (range_with_len 0 (group_count junction))) closes

  -- all lanes ask what those ask on which something arrives
  pub all_closes : (multiple : Ratio) (lanes : LaneSet) (forest : List (List Node)) → HasEachArrival junction lanes →
      ClosesEach junction multiple all_lanes forest → ClosesEach junction multiple lanes forest
  all_closes multiple lanes forest each closes = record {
    trees = closes.trees;
    closed = map_trees _ _ forest junction.least_cycle (λ cycle nodes from to own.
        same_closes all_lanes lanes (λ k has. (λ is. each k has, λ is. chosen k (arrival_within junction k rules has))) (Beat multiple) cycle nodes own) closes.closed;
  }

pub smaller_set_law : SmallerSetLaw
smaller_set_law junction multiple lanes rest p rules smaller beats = record {
  fits = beats.fits;
  serves = λ k own among.
      let past : length junction.lanes ≤ k → ⊥ = λ late. counts_within junction p k own among.multiplier late in
      let few = rules.lanes.few in
      let within : k < 32 = omega arith in
      beats.serves k own (record { chosen = smaller k within among.chosen; multiplier = among.multiplier });
}

pub unbeaten_law : ClosedCycleLaw → UnbeatenLaw
unbeaten_law closed junction multiple lanes forest rules shown p beats =
    let tree = tree_of _ forest junction.least_cycle p.cycle beats.fits.cycle.least (omega (arith, shown.trees, beats.fits.cycle.greatest)) shown.closed in
    closed junction p lanes (Beat multiple) tree.0 rules tree.1 beats

at_most_own : (multiple : Ratio) → IsAtMost (fraction_of multiple) (fraction_of multiple)
at_most_own multiple = omega arith

below_beating : (plan_cycle cycle : ℕ) (multiple : Ratio) → IsNotAbove (target_beside plan_cycle multiple cycle) (Beat multiple)
below_beating plan_cycle cycle multiple = cond_both (nat_lt cycle plan_cycle) (Reach multiple) (Beat multiple) (λ t. IsNotAbove t (Beat multiple))
    (λ shorter. at_most_own multiple) (λ longer. at_most_own multiple)

pub beside_law : RisingCycleLaw → BesideLaw
beside_law rising junction p multiple forest rules is trees each = record {
  multiple = multiple;
  is = is;
  closes = record {
    trees = trees;
    closed = map_trees _ _ forest junction.least_cycle (λ cycle nodes from to closes.
        rising junction all_lanes (target_beside p.cycle multiple cycle) (Beat multiple) cycle nodes (omega (arith, from, rules.cycles.some)) (below_beating p.cycle cycle multiple) closes) each;
  };
}

-- two ratios that are the multiplier of one plan have one value
same_multiple : (junction : JunctionView) (p : PlanView) (one other : Ratio) → IsJunction junction → Fits junction p → IsPlanMultiplier junction p (fraction_of one) →
    IsPlanMultiplier junction p (fraction_of other) → IsSameFraction (fraction_of one) (fraction_of other)
same_multiple junction p one other rules fits is other_is = one_multiplier_law junction p all_lanes (fraction_of one) (fraction_of other) rules
    (omega (arith, rules.cycles.some, fits.cycle.least)) is.positive other_is.positive
    ((all_lanes_multiplier_law junction p (fraction_of one) rules).1 is) ((all_lanes_multiplier_law junction p (fraction_of other) rules).1 other_is)

-- so trees that close for beating the one close for beating the other
pub same_closed : RisingCycleLaw → (junction : JunctionView) (p : PlanView) (forest : List (List Node)) (multiple : Ratio) → IsJunction junction → Fits junction p →
    (best : ShowsBest junction p forest) → IsPlanMultiplier junction p (fraction_of multiple) → ClosesEach junction multiple all_lanes forest
same_closed rising junction p forest multiple rules fits best is =
    let same = same_multiple junction p best.multiple multiple rules fits best.is is in record {
      trees = best.closes.trees;
      closed = map_trees _ _ forest junction.least_cycle (λ cycle nodes from to closes.
          rising junction all_lanes (Beat best.multiple) (Beat multiple) cycle nodes (omega (arith, from, rules.cycles.some)) (omega (arith, same)) closes) best.closes.closed;
    }
