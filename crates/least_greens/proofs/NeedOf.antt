-- The need found by trying is the one need; it rises with the target, and longer greens are enough too.
use Rattle.std.proofs.Common.{ℕ, ◌<◌, ◌≤◌, arith}
use Rattle.std.proofs.lemmas.Bool.{both_ways}
use Rattle.sig_base.specs.Ratio.{fraction_of}
use Rattle.sig_base.specs.declared.group_times.GroupTimes.{GroupTimes}
use Rattle.sig_base.specs.declared.lane_set.LaneSet.{LaneSet}
use Rattle.sig_base.specs.declared.target.Target.{Target}
use Rattle.sig_base.specs.declared.target.Target.TheVariants.{Reach, Beat}
use Rattle.flow_model.specs.declared.lane.Lane.{Lane}
use Rattle.junction_model.specs.Junction.{JunctionView}
use Rattle.plan_model.specs.Multiplier.{Serves}
use Rattle.plan_model.specs.Serving.{LaneServingLaw, multiplier_under}
use Rattle.least_greens.specs.Laws.{NeedLaw, OneNeedLaw, RisingNeedLaw, EnoughLaw}
use Rattle.least_greens.specs.Need.{IsAllowed, IsEnough, IsNeed}
use Rattle.least_greens.specs.NeedOf.{is_enough, need_of}
use Rattle.least_greens.specs.Targets.{IsNotAbove}
use Rattle.plan_model.proofs.LaneMultiplier.{some_product}
use Rattle.least_greens.proofs.Enough.{enough_tells}
use Rattle.least_greens.proofs.TargetOrder.{lesser_target_law}
use Rattle.least_greens.proofs.FirstFrom.{first_is_found}

pub need_law : NeedLaw
need_law junction lanes target cycle i =
    let found = first_is_found (is_enough junction lanes target cycle i) 1 300 in
    let tells = enough_tells junction lanes target cycle i in
    record {
      some = found.least;
      most = omega (arith, found.most);
      enough = λ within. (tells _).0 (found.passes (omega arith));
      least = λ green some below enough. both_ways _ (found.fails green some below) ((tells green).1 enough);
    }

not_less : (junction : JunctionView) (lanes : LaneSet) (target : Target) (cycle i a b : ℕ) →
    IsNeed junction lanes target cycle i a → IsNeed junction lanes target cycle i b → a < b → ⊥
not_less junction lanes target cycle i a b is other less = other.least a is.some less (is.enough (omega (arith, other.most)))

pub one_need_law : OneNeedLaw
one_need_law junction lanes target cycle i need is =
    let own = need_law junction lanes target cycle i in
    let above = not_less junction lanes target cycle i need (need_of junction lanes target cycle i) is own in
    let below = not_less junction lanes target cycle i (need_of junction lanes target cycle i) need own is in
    omega (arith, above, below)

longer_serves : LaneServingLaw → (target : Target) (lane : Lane) (times : GroupTimes) (cycle shorter longer : ℕ) → shorter ≤ longer →
    Serves target (multiplier_under lane times cycle shorter) → Serves target (multiplier_under lane times cycle longer)
longer_serves law (Reach r) lane times cycle shorter longer h = (law lane times cycle shorter longer (fraction_of r) h).0
longer_serves law (Beat r) lane times cycle shorter longer h = (law lane times cycle shorter longer (fraction_of r) h).1

longer_enough : LaneServingLaw → (junction : JunctionView) (lanes : LaneSet) (target : Target) (cycle i shorter longer : ℕ) → shorter ≤ longer → IsAllowed junction i longer →
    IsEnough junction lanes target cycle i shorter → IsEnough junction lanes target cycle i longer
longer_enough law junction lanes target cycle i shorter longer h allowed enough = record {
  minimum = λ group there. omega (arith, enough.minimum group there);
  maximum = allowed;
  serves = λ group k lane there asked. longer_serves law target lane group.times cycle shorter longer h (enough.serves group k lane there asked);
}

pub enough_law : LaneServingLaw → EnoughLaw
enough_law law junction lanes target cycle i green some within allowed =
    let need = need_law junction lanes target cycle i in (
      λ enough.
          let long : green < need_of junction lanes target cycle i → ⊥ = λ short. need.least green some short enough in
          omega (arith, long),
      λ long. longer_enough law junction lanes target cycle i _ green long allowed (need.enough (omega arith)),
    )

lesser_enough : (junction : JunctionView) (lanes : LaneSet) (s t : Target) (cycle i green : ℕ) → 1 ≤ cycle → IsNotAbove s t →
    IsEnough junction lanes t cycle i green → IsEnough junction lanes s cycle i green
lesser_enough junction lanes s t cycle i green some order enough = record {
  minimum = enough.minimum;
  maximum = enough.maximum;
  serves = λ group k lane there asked. lesser_target_law s t (multiplier_under lane group.times cycle green) order
      (some_product lane.arrival cycle asked.arriving some) (enough.serves group k lane there asked);
}

pub rising_need_law : RisingNeedLaw
rising_need_law junction lanes s t cycle i some order =
    let lesser = need_law junction lanes s cycle i in
    let greater = need_law junction lanes t cycle i in
    let falls : need_of junction lanes t cycle i < need_of junction lanes s cycle i → ⊥ = λ less.
    lesser.least _ greater.some less (lesser_enough junction lanes s t cycle i _ some order (greater.enough (omega (arith, lesser.most)))) in
    omega (arith, falls)
