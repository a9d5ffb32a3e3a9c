use Rattle.std.proofs.Common.{ℕ, ◌≡◌, ◌<◌, ◌≤◌, length, ap, sym, arith, rules}
use Rattle.std.specs.Prelude.{unwrap_or}
use Rattle.conflict_matrix.specs.Matrix.{intergreen_of}
use Rattle.plan_model.specs.Fits.{group_count}
use Rattle.plan_change.proofs.Filled.{greatest_more, greatest_none}
use Rattle.plan_change.proofs.Settled.{wait_most}
use Rattle.plan_change.proofs.heads.greatest_wait.Goals as goal

pub loop-to-init : goal.loop-to-init
loop-to-init c = record { value = sym (greatest_none _); bound = omega arith }

pub loop-to-preserved : goal.loop-to-preserved
loop-to-preserved c =
    let junction = c.args.junction.now in
    let j = c.loop-to.to in
    let waits : ℕ → ℕ = λ k. unwrap_or (intergreen_of junction.conflicts c.args.group k) 0 in
    let few : group_count junction ≤ 16 = c.rules.ensures.groups.few in
    let groups : length c.groups-to-end.result.now ≡ group_count junction = ap length c.groups-to-end.ensures.value in
    let inside : j < group_count junction = omega arith in
    let more = greatest_more j waits in
    let own : c.unwrap_or.result ≡ waits j = search rules in
    let short : waits j ≤ 60 = wait_most (intergreen_of junction.conflicts c.args.group j) (λ w is. c.rules.ensures.conflicts.table.bounded c.args.group j w (omega (arith, c.requires)) (omega arith) is) in
    record { value = omega (arith, more, own, c.max-most.ensures, c.loop-to.invariant.value); bound = omega (arith, own, short, c.max-most.ensures, c.loop-to.invariant.bound) }
