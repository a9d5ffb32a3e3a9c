use Rattle.plan_model.specs.FittedPlan.{fitted_plan_of}
use Rattle.bottleneck_lanes.specs.Text.{bottleneck_text}
use Rattle.bottleneck_lanes.proofs.NoFloat.{no_float}
use Rattle.bottleneck_lanes.proofs.writing.write_bottleneck.Goals as goal

pub returns : goal.returns
unfolding bottleneck_text
returns c =
    let value = c.in_ok-value.ensures in
    let text = c.in_ok-text.ensures.text (rw (value, c.plan.ensures.value) (no_float (fitted_plan_of c.args.best.now) c.args.budget c.args.answer.now)) in
    let again = rw (value, c.plan.ensures.value) at text in
    rw c.into_bytes.ensures.value again
