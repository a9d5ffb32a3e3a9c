-- A plan meets a target exactly where it fits and no green is below its group's need.
use Rattle.std.proofs.Common.{ℕ, ◌≡◌, ◌<◌, refl}
use Rattle.std.specs.Prelude.{Some, slice_get}
use Rattle.std.proofs.lemmas.Option.{slice_get_within}
use Rattle.sig_base.specs.declared.lane_set.LaneSet.{LaneSet}
use Rattle.sig_base.specs.declared.target.Target.{Target}
use Rattle.flow_model.specs.declared.lane.Lane.{Lane}
use Rattle.junction_model.specs.declared.group.Group.{Group}
use Rattle.junction_model.specs.Junction.{JunctionView}
use Rattle.plan_model.specs.Fits.{Fits, group_count}
use Rattle.plan_model.specs.Multiplier.{CountsAs, MeetsTarget}
use Rattle.plan_model.specs.SignalPlan.{PlanView, green_of}
use Rattle.plan_model.specs.Serving.{LaneServingLaw, multiplier_under}
use Rattle.plan_model.proofs.GreenBelowCycle.{green_most}
use Rattle.plan_model.proofs.LaneMultiplier.{lane_of, multiplier_of}
use Rattle.plan_model.proofs.IsShown.{fits_shown, shown_green}
use Rattle.least_greens.specs.Laws.{PlanNeedLaw}
use Rattle.least_greens.specs.Need.{CountsForGroup, IsEnough}
use Rattle.least_greens.proofs.NeedOf.{enough_law}

-- an asked lane counts, with its multiplier under its group's green
asked_counts : (junction : JunctionView) (p : PlanView) (lanes : LaneSet) (i k : ℕ) (group : Group) (lane : Lane) → slice_get junction.groups i ≡ Some group →
    CountsForGroup junction lanes i k lane → CountsAs junction p lanes k (multiplier_under lane group.times p.cycle (green_of p i))
asked_counts junction p lanes i k group lane there asked = record {
  chosen = asked.chosen;
  multiplier = rw (← asked.own) (multiplier_of junction p k lane group asked.there (rw asked.own there) asked.arriving);
}

meets_enough : (junction : JunctionView) (p : PlanView) (lanes : LaneSet) (target : Target) (i : ℕ) → MeetsTarget junction p lanes target →
    IsEnough junction lanes target p.cycle i (green_of p i)
meets_enough junction p lanes target i meets = record {
  minimum = λ group there. meets.fits.greens i group there;
  maximum = λ group there. meets.fits.longest i group there;
  serves = λ group k lane there asked. meets.serves k _ (asked_counts junction p lanes i k group lane there asked);
}

enough_meets : (junction : JunctionView) (p : PlanView) (lanes : LaneSet) (target : Target) → Fits junction p →
    ((i : ℕ) → i < group_count junction → IsEnough junction lanes target p.cycle i (green_of p i)) → MeetsTarget junction p lanes target
enough_meets junction p lanes target fits enough = record {
  fits = fits;
  serves = λ k own counts.
      let of = lane_of junction p k own counts.multiplier in
      let asked : CountsForGroup junction lanes of.0.group k of.0 = record { there = of.2.lane_there; chosen = counts.chosen; own = refl; arriving = of.2.arrives } in
      rw of.2.value at ((enough of.0.group (slice_get_within _ _ _ of.2.group_there)).serves of.1 k of.0 of.2.group_there asked);
}

pub plan_need_law : LaneServingLaw → PlanNeedLaw
plan_need_law serving junction p lanes target rules =
    let enough = λ (i : ℕ) (fits : Fits junction p) (h : i < group_count junction).
    enough_law serving junction lanes target p.cycle i (green_of p i) (shown_green junction p i (fits_shown junction p rules fits) h) (green_most junction p i rules fits h) (fits.longest i) in (
      λ meets. (meets.fits, λ i h. (enough i meets.fits h).0 (meets_enough junction p lanes target i meets)),
      λ long. enough_meets junction p lanes target long.0 (λ i h. (enough i long.0 h).1 (long.1 i h)),
    )
