use Rattle.std.proofs.Common.{◌≢◌, ◌-◌, Some, sym, ap, ◌∙◌, arith, length, set, slice_get, drop}
use Rattle.std.proofs.lemmas.Option.{slice_get_within, same_Some}
use Rattle.constraint_cycles.specs.Order.{order_of, marks_of}
use Rattle.constraint_cycles.specs.declared.mark.Mark.TheVariants.{Open, First}
use Rattle.difference_system.proofs.NextOrder.{next_made}
use Rattle.cycle_orders.proofs.Ways.{last_decided, turned_way, turned_above, turned_waiting, back_way, back_waiting, back_above, along_length, along_later, along_root}
use Rattle.cycle_orders.proofs.place.turn.Goals as goal

pub returns-in-First-clause-way : goal.returns-in-First-clause-way
returns-in-First-clause-way c =
    rw c.set.ensures.marks (turned_way c.args.closure.now.conflicts c.args.items.now (marks_of c.loop-depth.order) c.loop-depth.depth c.in-Some.item c.loop-depth-test.true
    (sym c.get.ensures.value ∙ c.in-Some.is) c.loop-depth.invariant.way)

pub returns-in-First-clause-waiting : goal.returns-in-First-clause-waiting
returns-in-First-clause-waiting c =
    rw c.set.ensures.marks (c.loop-depth.invariant.waiting ∙ turned_waiting c.args.closure.now.conflicts c.args.items.now (marks_of c.loop-depth.order) c.loop-depth.depth c.in-Some.item c.loop-depth-test.true
    (sym c.get.ensures.value ∙ c.in-Some.is) c.loop-depth.invariant.way (c.mark.ensures ∙ ap (λ x. Some x) c.in-First.is))

pub returns-in-First-clause-above : goal.returns-in-First-clause-above
returns-in-First-clause-above c =
    rw c.set.ensures.marks (c.loop-depth.invariant.above ∙ sym (turned_above c.args.closure.now.conflicts c.args.items.now (marks_of c.loop-depth.order) c.loop-depth.depth c.in-Some.item c.loop-depth-test.true
    (sym c.get.ensures.value ∙ c.in-Some.is) c.loop-depth.invariant.way))

pub set-requires-in-loop-depth : goal.set-requires-in-loop-depth
set-requires-in-loop-depth c =
    let d = last_decided c.args.closure.now.conflicts c.args.items.now (marks_of c.loop-depth.order) c.loop-depth.depth c.in-Some.item c.loop-depth-test.true
    (sym c.get.ensures.value ∙ c.in-Some.is) c.loop-depth.invariant.way in
    record {
      below = slice_get_within (marks_of c.loop-depth.order) c.in-Some.item d.mark d.marked;
      unfixed = omega (arith, d.unfixed, c.loop-depth.invariant.made.fixed);
    }

pub undo-requires : goal.undo-requires
undo-requires c =
    let e = back_above c.args.closure.now.conflicts c.args.items.now (marks_of c.loop-depth.order) c.loop-depth.depth c.in-Some.item c.loop-depth-test.true
    (sym c.get.ensures.value ∙ c.in-Some.is) c.loop-depth.invariant.way in
    let long = along_length c.args.items.now (set (marks_of c.loop-depth.order) c.in-Some.item Open) (c.loop-depth.depth - 1) in
    let same = ap length (c.loop-depth.invariant.above ∙ e) in
    omega (arith, same, long, c.if-depth-gt0.true)

pub loop-depth-preserved-then-depth-gt0 : goal.loop-depth-preserved-then-depth-gt0
loop-depth-preserved-then-depth-gt0 c =
    let m = c.args.closure.now.conflicts in
    let items = c.args.items.now in
    let marks = marks_of c.loop-depth.order in
    let i = c.loop-depth.invariant in
    let at = sym c.get.ensures.value ∙ c.in-Some.is in
    let other : slice_get marks c.in-Some.item ≢ Some First = λ first. c.in_default-mark.not-First (same_Some c.mark.result First (sym c.mark.ensures ∙ first)) in
    record {
      made = next_made m (order_of c.loop-depth.order) (order_of c.set-in-loop-depth.new.self) c.in-Some.item Open i.made c.set-in-loop-depth.ensures.marks c.set-in-loop-depth.ensures.fixed;
      way = rw c.set-in-loop-depth.ensures.marks (back_way m items marks c.loop-depth.depth c.in-Some.item c.loop-depth-test.true at i.way);
      within = omega (arith, i.within);
      waiting = rw c.set-in-loop-depth.ensures.marks (i.waiting ∙ back_waiting m items marks c.loop-depth.depth c.in-Some.item c.loop-depth-test.true at i.way other);
      above = ap (λ v. v.orders) c.undo.ensures ∙ rw c.set-in-loop-depth.ensures.marks (
          ap (λ l. drop 1 l) (i.above ∙ back_above m items marks c.loop-depth.depth c.in-Some.item c.loop-depth-test.true at i.way)
          ∙ along_later items (set marks c.in-Some.item Open) (c.loop-depth.depth - 1) c.if-depth-gt0.true);
      needs = ap (λ v. v.needs) c.undo.ensures ∙ i.needs;
      cycle = ap (λ v. v.cycle) c.undo.ensures ∙ i.cycle;
      conflicts = ap (λ v. v.conflicts) c.undo.ensures ∙ i.conflicts;
    }

pub loop-depth-preserved : goal.loop-depth-preserved
loop-depth-preserved c =
    let m = c.args.closure.now.conflicts in
    let items = c.args.items.now in
    let marks = marks_of c.loop-depth.order in
    let i = c.loop-depth.invariant in
    let at = sym c.get.ensures.value ∙ c.in-Some.is in
    let other : slice_get marks c.in-Some.item ≢ Some First = λ first. c.in_default-mark.not-First (same_Some c.mark.result First (sym c.mark.ensures ∙ first)) in
    record {
      made = next_made m (order_of c.loop-depth.order) (order_of c.set-in-loop-depth.new.self) c.in-Some.item Open i.made c.set-in-loop-depth.ensures.marks c.set-in-loop-depth.ensures.fixed;
      way = rw c.set-in-loop-depth.ensures.marks (back_way m items marks c.loop-depth.depth c.in-Some.item c.loop-depth-test.true at i.way);
      within = omega (arith, i.within);
      waiting = rw c.set-in-loop-depth.ensures.marks (i.waiting ∙ back_waiting m items marks c.loop-depth.depth c.in-Some.item c.loop-depth-test.true at i.way other);
      above = rw c.set-in-loop-depth.ensures.marks (
          i.above ∙ back_above m items marks c.loop-depth.depth c.in-Some.item c.loop-depth-test.true at i.way
          ∙ along_root items (set marks c.in-Some.item Open) (c.loop-depth.depth - 1) (omega (arith, c.if-depth-gt0.false)));
      needs = i.needs;
      cycle = i.cycle;
      conflicts = i.conflicts;
    }
