use Rattle.std.proofs.Common.{◌≡◌, ◌≤◌, length, ap, arith}
use Rattle.plan_model.specs.Fits.{group_count}
use Rattle.plan_model.specs.Plan.{plan_of}
use Rattle.plan_change.specs.Heads.{kept_record}
use Rattle.plan_change.proofs.Filled.{filled_more}
use Rattle.plan_change.proofs.heads.kept_heads.Goals as goal

pub loop-i-preserved : goal.loop-i-preserved
loop-i-preserved c =
    let few : group_count c.args.junction.now ≤ 16 = c.rules.ensures.groups.few in
    let groups : length c.groups-i-end.result.now ≡ group_count c.args.junction.now = ap length c.groups-i-end.ensures.value in
    filled_more (kept_record c.args.junction.now (plan_of c.args.plan.now) c.args.old.now) c.loop-i.i c.loop-i.heads c.kept_of.result (omega arith) c.loop-i.invariant c.kept_of.ensures
