use Rattle.std.proofs.Common.{◌≡◌, ◌+◌, Some, slice_get, length, refl, ap, arith}
use Rattle.std.proofs.lemmas.Option.{slice_get_read}
use Rattle.bottleneck_lanes.proofs.TrimmedTrees.{none_trimmed, given_closes, trimmed_more, all_trimmed}
use Rattle.bottleneck_lanes.proofs.trimming.trim_each.Goals as goal

pub loop-number-init : goal.loop-number-init
loop-number-init g c = rw c.new-trimmed.ensures (none_trimmed c.args.junction.now c.args.multiple c.args.lanes c.args.given.now)

pub trim-requires-clause-closes : goal.trim-requires-clause-closes
trim-requires-clause-closes g c =
    let number = c.loop-number.number in
    let cycle = c.least_cycle-least_cycle.result + number in
    let at : slice_get c.args.given.now number ≡ Some c.index-trees-number.result =
    rw c.items-trees.ensures at (slice_get_read c.items-trees.result.now _ number c.index-trees-number.result refl c.loop-number-test.true c.index-trees-number.is) in
    let own : cycle ≡ c.args.junction.now.least_cycle + number = ap (λ n. n + number) c.least_cycle-least_cycle.ensures.value in
    rw (c.new-rule.ensures.junction, c.new-rule.ensures.lanes) (given_closes c.args.junction.now c.args.multiple c.args.lanes c.args.given.now number cycle c.index-trees-number.result at own c.requires.closes.closed)

pub loop-number-preserved : goal.loop-number-preserved
loop-number-preserved g c =
    let number = c.loop-number.number in
    let cycle = c.least_cycle-least_cycle.result + number in
    let at : slice_get c.args.given.now number ≡ Some c.index-trees-number.result =
    rw c.items-trees.ensures at (slice_get_read c.items-trees.result.now _ number c.index-trees-number.result refl c.loop-number-test.true c.index-trees-number.is) in
    let own : cycle ≡ c.args.junction.now.least_cycle + number = ap (λ n. n + number) c.least_cycle-least_cycle.ensures.value in
    let closes = rw (c.new-rule.ensures.junction, c.new-rule.ensures.lanes) at c.in_ok-tree.ensures.closes in
    let lean = rw (c.new-rule.ensures.junction, c.new-rule.ensures.lanes) at c.in_ok-tree.ensures.lean in
    let stands = rw (c.new-rule.ensures.junction, c.new-rule.ensures.lanes) at c.in_ok-tree.ensures.trimmed in
    trimmed_more c.args.junction.now c.args.multiple c.args.lanes c.args.given.now number cycle c.index-trees-number.result c.in_ok-tree.tree c.loop-number.trimmed _ at own
    c.loop-number.invariant c.in_ok-push.ensures.ok closes lean stands

pub returns-clause-closes : goal.returns-clause-closes
returns-clause-closes g c = all_trimmed c.args.junction.now c.args.multiple c.args.lanes c.args.given.now c.loop-number.number c.loop-number.trimmed c.loop-number.invariant
    (omega (arith, c.loop-number-test.false, c.loop-number.auto.number-end, ap length c.items-trees.ensures)) c.requires.closes.trees

pub returns-clause-lean : goal.returns-clause-lean
returns-clause-lean g c = c.loop-number.invariant.lean

pub returns-clause-trimmed : goal.returns-clause-trimmed
returns-clause-trimmed g c = c.loop-number.invariant.stand
