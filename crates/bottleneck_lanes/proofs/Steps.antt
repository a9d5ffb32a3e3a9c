-- One lane after another: what is known below a lane, and what its test makes of it.
use Rattle.std.proofs.Common.{ℕ, List, [], ◌∷◌, ◌++◌, ◌≡◌, ◌+◌, ◌-◌, ◌<◌, ◌≤◌, inl, inr, length, subst, sym, arith, below_more}
use Rattle.std.specs.Prelude.{IfOk, Result, Ok, Err}
use Rattle.std.specs.List.{AllZip}
use Rattle.std.proofs.lemmas.Bool.{cases_lt}
use Rattle.sig_base.specs.LaneSet.{IsIn, without}
use Rattle.sig_base.specs.Ratio.{fraction_of}
use Rattle.sig_base.specs.declared.no_memory.NoMemory.{NoMemory}
use Rattle.sig_base.specs.declared.lane_set.LaneSet.{LaneSet}
use Rattle.sig_base.specs.declared.ratio.Ratio.{Ratio}
use Rattle.sig_base.proofs.Without.{was_in, still_in, other_than, gone}
use Rattle.constraint_cycles.specs.declared.node.Node.{Node}
use Rattle.junction_model.specs.Junction.{JunctionView}
use Rattle.junction_model.specs.Rules.{IsJunction}
use Rattle.plan_model.specs.Claims.{IsPlanMultiplier}
use Rattle.plan_model.specs.SignalPlan.{PlanView}
use Rattle.least_greens.specs.ClosingLaws.{ClosedCycleLaw}
use Rattle.cycle_orders.proofs.EachTree.{map_trees}
use Rattle.bottleneck_lanes.specs.Answer.{AreTrimmed, IsFound, IsStop, IsAnswerFor, IsBottleneck}
use Rattle.bottleneck_lanes.specs.declared.answer.BottleAnswer.{BottleAnswer}
use Rattle.bottleneck_lanes.specs.Critical.{members, members_below, HasEachArrival, AreArriving, BeatsWithout, ClosesEach, AreLean}
use Rattle.bottleneck_lanes.specs.SoFar.{IsTestedBelow, IsNeededBy, IsNeeded, IsJudgedIfArriving}
use Rattle.bottleneck_lanes.specs.Tested.{IsEndedTest, IsBeatenTest, IsStoppedForest, IsJudged, IsTestPlan, IsLeftBeside}
use Rattle.bottleneck_lanes.proofs.ArrivingLanes.{arrival_within, arrival_below}
use Rattle.bottleneck_lanes.proofs.Members.{members_with, members_same, members_rest, members_alike, zip_push, zip_weaker}
use Rattle.bottleneck_lanes.proofs.Needs.{smaller_set_law, unbeaten_law}

module _ (junction : JunctionView) (multiple : Ratio) (budget : ℕ) (given : List (List Node)) (rules : IsJunction junction) where
  -- before the first test
  pub begun : (lanes : LaneSet) (forest : List (List Node)) → AreArriving junction lanes → HasEachArrival junction lanes → ClosesEach junction multiple lanes forest →
      AreLean junction multiple lanes forest → AreTrimmed junction multiple lanes given forest → IsTestedBelow junction multiple budget given 0 lanes [] forest
  begun lanes forest arriving each closes lean trimmed = record {
    arriving = arriving;
    untested = λ k from has. each k has;
    closes = closes;
    lean = lean;
    beating = tt;
    needed = λ k below. absurd (omega (arith, below));
    judged = λ k below. absurd (omega (arith, below));
    whole = λ every. trimmed;
    reduced = λ not. absurd (not each);
  }

  module _ (n : ℕ) (lanes : LaneSet) (plans : List PlanView) (forest : List (List Node)) (so_far : IsTestedBelow junction multiple budget given n lanes plans forest) where
    -- so are the plans below the next lane
    stay_needed : AllZip (IsNeededBy junction multiple budget (n + 1) lanes) (members_below lanes n) plans
    stay_needed = zip_weaker (IsNeededBy junction multiple budget n lanes) (IsNeededBy junction multiple budget (n + 1) lanes) (members_below lanes n) plans
        (λ k p own. (omega (arith, own.0), own.1, own.2)) so_far.beating

    -- a lane on which nothing arrives isn't tested
    pub skipped : ¬ IsIn lanes n → IsTestedBelow junction multiple budget given (n + 1) lanes plans forest
    skipped not = record {
      arriving = so_far.arriving;
      untested = λ k from has. so_far.untested k (omega (arith, from)) has;
      closes = so_far.closes;
      lean = so_far.lean;
      beating = rw (members_same lanes n not) stay_needed;
      needed = below_more (IsNeeded junction multiple lanes) n so_far.needed (λ is. absurd (not is));
      judged = below_more (IsJudgedIfArriving junction multiple budget lanes) n so_far.judged (λ has. absurd (not (so_far.untested n (omega arith) has)));
      whole = so_far.whole;
      reduced = so_far.reduced;
    }

    module _ (is : IsIn lanes n) where
      small : n < 32
      small = arrival_within junction n rules (so_far.arriving n is)

      -- what is left beside it
      beside : IsLeftBeside junction lanes n (without lanes n)
      beside j = (
        λ among. let own = was_in lanes n j among in elim (cases_lt j n) [
          | inl less ↦ inl (less, own)
          | inr late ↦ (let other = other_than lanes n j small among in inr (omega (arith, late, other), so_far.arriving j own))
        ],
        λ either. elim either [
          | inl below ↦ still_in lanes n j small (omega (arith, below.0, small)) below.1 (omega (arith, below.0))
          | inr above ↦ still_in lanes n j small (arrival_within junction j rules above.1) (so_far.untested j (omega (arith, above.0)) above.1) (omega (arith, above.0))
        ],
      )

      -- a lane that is needed
      pub kept : (p : PlanView) → IsBeatenTest junction multiple budget (without lanes n) p → IsTestedBelow junction multiple budget given (n + 1) lanes (plans ++ p ∷ []) forest
      kept p test = record {
        arriving = so_far.arriving;
        untested = λ k from has. so_far.untested k (omega (arith, from)) has;
        closes = so_far.closes;
        lean = so_far.lean;
        beating = rw (members_with lanes n is) (zip_push (IsNeededBy junction multiple budget (n + 1) lanes) (members_below lanes n) plans n p stay_needed
            (omega arith, test.plan.meets, record { rest = without lanes n; left = beside; beaten = test }));
        needed = below_more (IsNeeded junction multiple lanes) n so_far.needed (λ own. (p, test.plan.meets));
        judged = below_more (IsJudgedIfArriving junction multiple budget lanes) n so_far.judged (λ has. record {
          rest = without lanes n;
          left = beside;
          exactly = (λ not. absurd (not is), λ unbeaten. absurd (unbeaten p test.plan.meets));
          beaten = λ own. (p, test);
          ended = λ not. absurd (not is);
        });
        whole = so_far.whole;
        reduced = so_far.reduced;
      }

      -- a lane that is left out
      abbrev pub fewer : LaneSet
      fewer = without lanes n

      below_stays : (j : ℕ) → j < n → (IsIn fewer j → IsIn lanes j) × (IsIn lanes j → IsIn fewer j)
      below_stays j less = (λ own. was_in lanes n j own, λ own. still_in lanes n j small (omega (arith, less, small)) own (omega (arith, less)))

      closes_of : (trees : List (List Node)) → IsEndedTest junction multiple budget fewer trees → ClosesEach junction multiple fewer trees
      closes_of trees ended = record {
        trees = ended.trees;
        closed = map_trees _ _ trees junction.least_cycle (λ cycle nodes from to own. record { whole = own.tree.whole; visited = own.visited; sound = own.tree.sound }) ended.each;
      }

      still_beats : (k : ℕ) (p : PlanView) → k < 32 → BeatsWithout junction multiple lanes k p → BeatsWithout junction multiple fewer k p
      still_beats k p within beats = smaller_set_law junction multiple (without lanes k) (without fewer k) p rules
          (λ j few among. still_in lanes k j within few (was_in lanes n j (was_in fewer k j among)) (other_than fewer k j within among)) beats

      still_needed : (k : ℕ) → k < n → IsNeeded junction multiple fewer k
      still_needed k less own =
          let before = so_far.needed k less (was_in lanes n k own) in
          (before.0, still_beats k before.0 (omega (arith, less, small)) before.1)

      still_beside : (k : ℕ) (rest : LaneSet) → k < n → IsLeftBeside junction lanes k rest → IsLeftBeside junction fewer k rest
      still_beside k rest less left j = (
        λ among. elim ((left j).0 among) [
          | inl below ↦ inl (below.0, (below_stays j (omega (arith, below.0, less))).1 below.1)
          | inr above ↦ inr above
        ],
        λ either. (left j).1 (elim either [
          | inl below ↦ inl (below.0, (below_stays j (omega (arith, below.0, less))).0 below.1)
          | inr above ↦ inr above
        ]),
      )

      still_judged : (k : ℕ) → k < n → IsJudged junction multiple budget lanes k → IsJudged junction multiple budget fewer k
      still_judged k less judged = record {
        rest = judged.rest;
        left = still_beside k judged.rest less judged.left;
        exactly = (
          λ not. judged.exactly.0 (λ own. not ((below_stays k less).1 own)),
          λ unbeaten own. judged.exactly.1 unbeaten ((below_stays k less).0 own),
        );
        beaten = λ own. judged.beaten ((below_stays k less).0 own);
        ended = λ not. judged.ended (λ own. not ((below_stays k less).1 own));
      }

      still_plan : (k : ℕ) (p : PlanView) → k < n → IsTestPlan junction multiple budget lanes k p → IsTestPlan junction multiple budget fewer k p
      still_plan k p less own = record { rest = own.rest; left = still_beside k own.rest less own.left; beaten = own.beaten }

      left_beside : IsLeftBeside junction fewer n fewer
      left_beside j = (
        λ among. elim ((beside j).0 among) [
          | inl below ↦ inl (below.0, among)
          | inr above ↦ inr above
        ],
        λ either. elim either [
          | inl below ↦ below.1
          | inr above ↦ (beside j).1 (inr above)
        ],
      )

      pub left_out : ClosedCycleLaw → (trees : List (List Node)) → IsEndedTest junction multiple budget fewer trees →
          IsTestedBelow junction multiple budget given (n + 1) fewer plans trees
      left_out closed trees ended = record {
        arriving = λ k own. so_far.arriving k (was_in lanes n k own);
        untested = λ k from has. still_in lanes n k small (arrival_within junction k rules has) (so_far.untested k (omega (arith, from)) has) (omega (arith, from));
        closes = closes_of trees ended;
        lean = map_trees _ _ trees junction.least_cycle (λ cycle nodes from to own. own.tree.lean) ended.each;
        beating = rw (members_same fewer n (gone lanes n small), members_alike fewer lanes n (λ k less. below_stays k less))
            (zip_weaker (IsNeededBy junction multiple budget n lanes) (IsNeededBy junction multiple budget (n + 1) fewer) (members_below lanes n) plans
            (λ k p own. (omega (arith, own.0), still_beats k p (omega (arith, own.0, small)) own.1, still_plan k p own.0 own.2)) so_far.beating);
        needed = below_more (IsNeeded junction multiple fewer) n still_needed (λ own. absurd (gone lanes n small own));
        judged = below_more (IsJudgedIfArriving junction multiple budget fewer) n (λ k less has. still_judged k less (so_far.judged k less has)) (λ has. record {
          rest = fewer;
          left = left_beside;
          exactly = (λ not. unbeaten_law closed junction multiple fewer trees rules (closes_of trees ended), λ unbeaten. gone lanes n small);
          beaten = λ own. absurd (gone lanes n small own);
          ended = λ not. (trees, ended);
        });
        whole = λ every. absurd (gone lanes n small (every n (so_far.arriving n is)));
        reduced = λ not. ended;
      }

      -- a test that was stopped
      pub stopped : ClosedCycleLaw → (trees : List (List Node)) → IsStoppedForest junction multiple budget fewer trees → IsStop junction multiple budget given lanes n trees
      stopped closed trees stop = record {
        test = record {
          arriving = so_far.arriving;
          tested = is;
          unbeaten = unbeaten_law closed junction multiple lanes forest rules so_far.closes;
          above = λ k over has. so_far.untested k (omega (arith, over)) has;
          below = so_far.needed;
          stopped = stop;
        };
        judged = so_far.judged;
      }

    -- behind the last lane
    pub found : ClosedCycleLaw → n ≡ length junction.lanes → IsFound junction multiple budget given lanes plans forest
    unfolding members
    found closed last =
        let within : (k : ℕ) → IsIn lanes k → k < n = λ k is. (let below = arrival_below junction k (so_far.arriving k is) in omega (arith, last, below)) in
        let few = rules.lanes.few in
        let all : n + (32 - n) ≡ 32 = omega arith in
        let none : (k : ℕ) → n ≤ k → ¬ IsIn lanes k = λ k late is. (let below = within k is in omega (arith, late, below)) in
        let same = members_rest lanes n (32 - n) none in
        record {
          irreducible = record {
            arriving = so_far.arriving;
            unbeaten = unbeaten_law closed junction multiple lanes forest rules so_far.closes;
            each = λ k is. so_far.needed k (within k is) is;
          };
          shown = record {
            closes = so_far.closes;
            lean = so_far.lean;
            beating = subst (λ numbers. AllZip (BeatsWithout junction multiple lanes) numbers plans) (sym (subst (λ m. members_below lanes m ≡ members_below lanes n) all same))
                (zip_weaker (IsNeededBy junction multiple budget n lanes) (BeatsWithout junction multiple lanes) (members_below lanes n) plans (λ k p own. own.1) so_far.beating);
          };
          judged = λ k has. so_far.judged k (let own = arrival_below junction k has in omega (arith, own, last)) has;
          tested = subst (λ numbers. AllZip (IsTestPlan junction multiple budget lanes) numbers plans) (sym (subst (λ m. members_below lanes m ≡ members_below lanes n) all same))
              (zip_weaker (IsNeededBy junction multiple budget n lanes) (IsTestPlan junction multiple budget lanes) (members_below lanes n) plans (λ k p own. own.2) so_far.beating);
          whole = so_far.whole;
          reduced = so_far.reduced;
        }

-- the answer for a multiple that is the plan's multiplier
pub for_plan : (junction : JunctionView) (p : PlanView) (multiple : Ratio) (budget : ℕ) (given : List (List Node)) → IsPlanMultiplier junction p (fraction_of multiple) →
    (result : Result BottleAnswer NoMemory) → IfOk result (IsAnswerFor junction multiple budget given) → IfOk result (IsBottleneck junction p budget given)
for_plan junction p multiple budget given is (Ok answer) own = record { multiple = multiple; is = is; is_answer = own }
for_plan junction p multiple budget given is (Err fault) own = tt
