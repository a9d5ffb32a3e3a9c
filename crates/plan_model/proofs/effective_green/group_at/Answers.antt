use Rattle.std.proofs.Common.{◌≡◌, refl}
use Rattle.std.specs.Prelude.{Some, slice_get}
use Rattle.std.proofs.lemmas.Option.{slice_get_read}
use Rattle.plan_model.specs.FittedPlan.{junction_of}
use Rattle.plan_model.proofs.effective_green.group_at.Goals as goal

pub returns-clause-amber : goal.returns-clause-amber
returns-clause-amber c =
    let there : slice_get (junction_of c.args.plan.now).groups c.args.group ≡ Some c.index-groups-group.result =
    slice_get_read _ _ c.args.group c.index-groups-group.result refl c.requires (rw (c.groups.ensures.value, c.junction-2.ensures) at c.index-groups-group.is) in
    c.green_below_cycle_law.ensures.amber _ _ c.args.group c.index-groups-group.result (rw c.junction.ensures at c.rules.ensures) c.plan.ensures.fits there
