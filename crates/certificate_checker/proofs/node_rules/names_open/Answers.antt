use Rattle.std.proofs.Common.{◌≡◌, ◌+◌, ◌≤◌, length, nat_lt, ap, refl, arith, false}
use Rattle.std.proofs.lemmas.Bool.{le-ltb}
use Rattle.std.proofs.lemmas.Option.{slice_get_past}
use Rattle.constraint_cycles.specs.Order.{marks_of}
use Rattle.certificate_checker.proofs.node_rules.names_open.Goals as goal

pub returns-else-item-items : goal.returns-else-item-items
returns-else-item-items c =
    let past : length (marks_of c.args.order.now) ≤ c.args.item = omega (arith, c.requires.marks, c.pair_count.ensures, ap length c.links.ensures.value, c.if-item-items.false) in
    let test : nat_lt c.args.item (c.pair_count.result + length c.links.result.now) ≡ false = le-ltb _ _ (omega (arith, c.if-item-items.false)) in
    rw (test, slice_get_past (marks_of c.args.order.now) c.args.item past) refl
