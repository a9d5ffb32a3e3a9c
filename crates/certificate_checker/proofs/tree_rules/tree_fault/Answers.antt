use Rattle.std.proofs.Common.{◌≡◌, refl, sym, ◌∙◌, arith}
use Rattle.std.specs.Prelude.{Some, slice_get}
use Rattle.std.proofs.lemmas.Option.{slice_get_read}
use Rattle.std.proofs.lemmas.List.{length-take}
use Rattle.certificate_checker.proofs.TreeRules.{judged_fault}
use Rattle.certificate_checker.proofs.IsWalking.{walking_first, walking_order, walking_judged, walking_room, walking_next, walking_finished, walking_all, none_left}
use Rattle.certificate_checker.proofs.tree_rules.tree_fault.Goals as goal

pub loop-place-init : goal.loop-place-init
loop-place-init c =
    rw c.new-coming.ensures (walking_first _ _ _ c.root.ensures.made c.root.ensures.marks (omega (arith, c.root.result.few, length-take c.root.result.count c.root.result.marks)))

pub node_fault-requires-clause-order : goal.node_fault-requires-clause-order
node_fault-requires-clause-order c = walking_order _ _ _ _ _ _ _ c.in-Some.ensures c.loop-place.invariant

pub returns-in-Some-node_fault : goal.returns-in-Some-node_fault
returns-in-Some-node_fault c =
    let at : slice_get c.args.nodes.now c.loop-place.place ≡ Some c.index-nodes-place.result = slice_get_read c.args.nodes.now _ c.loop-place.place c.index-nodes-place.result refl c.loop-place-test.true c.index-nodes-place.is in
    judged_fault _ _ _ _ _ _ (walking_judged _ _ _ _ _ _ _ c.in-Some.ensures c.loop-place.invariant) c.index-nodes-place.result c.in-Some-node_fault.rule at (sym c.in-Some-node_fault.ensures)

pub put_below-requires-clause-room : goal.put_below-requires-clause-room
put_below-requires-clause-room c = walking_room _ _ _ _ _ _ _ c.in-Some.ensures c.loop-place.invariant

pub loop-place-preserved : goal.loop-place-preserved
loop-place-preserved c =
    let at : slice_get c.args.nodes.now c.loop-place.place ≡ Some c.index-nodes-place.result = slice_get_read c.args.nodes.now _ c.loop-place.place c.index-nodes-place.result refl c.loop-place-test.true c.index-nodes-place.is in
    rw c.seen_after-seen.ensures (walking_next _ _ _ _ _ _ _ c.in-Some.ensures c.loop-place.invariant c.index-nodes-place.result _ at (sym c.in_default-node_fault.ensures) c.put_below.ensures)

pub returns-then-not-seen : goal.returns-then-not-seen
returns-then-not-seen c = walking_finished _ _ _ _ _ (none_left c.pop-2.result _ _ (sym c.is_some.ensures ∙ c.if-is_some.false) c.pop-2.ensures) c.if-basis.true c.if-not-seen.true c.loop-place-test.false c.loop-place.invariant

pub returns : goal.returns
returns c = walking_all _ _ _ _ _ (none_left c.pop-2.result _ _ (sym c.is_some.ensures ∙ c.if-is_some.false) c.pop-2.ensures) c.else-basis.either c.loop-place-test.false c.loop-place.invariant
