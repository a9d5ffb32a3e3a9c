use Rattle.std.proofs.Common.{◌≡◌, ◌<◌, ◌≤◌, length, ap, arith}
use Rattle.plan_model.specs.Fits.{group_count}
use Rattle.plan_change.specs.Heads.{green_left, head_at}
use Rattle.plan_change.proofs.Filled.{greatest_more, greatest_none}
use Rattle.plan_change.proofs.heads.kept_seconds.Goals as goal

pub loop-i-init : goal.loop-i-init
loop-i-init c =
    let none = greatest_none (green_left c.args.junction.now c.args.heads.now) in
    record { value = omega arith; bound = omega arith }

pub loop-i-preserved : goal.loop-i-preserved
loop-i-preserved c =
    let junction = c.args.junction.now in
    let heads = c.args.heads.now in
    let i = c.loop-i.i in
    let few : group_count junction ≤ 16 = c.rules.ensures.groups.few in
    let groups : length c.groups-i-end.result.now ≡ group_count junction = ap length c.groups-i-end.ensures.value in
    let inside : i < group_count junction = omega arith in
    let short : (head_at heads i).over ≤ 400 = c.requires i inside in
    let more = greatest_more i (green_left junction heads) in
    let amber = ap (λ t. t.amber) c.times_of.ensures.value in
    record { value = omega (arith, more, amber, c.green_left_of.ensures, c.max-left.ensures, c.loop-i.invariant.value); bound = omega (arith, amber, c.green_left_of.ensures, c.max-left.ensures, c.loop-i.invariant.bound) }
