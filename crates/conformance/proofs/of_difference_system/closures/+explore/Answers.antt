use Rattle.std.proofs.Common.{List, ◌≡◌, ◌≤◌, ◌<◌, ◌-◌, ap, sym, subst, ◌∙◌, arith, refl, rules, length, set, slice_get}
use Rattle.conflict_matrix.specs.Conflicts.{matrix_of}
use Rattle.constraint_cycles.specs.Marks.{IsOrderFor}
use Rattle.constraint_cycles.specs.Order.{order_of, marks_of}
use Rattle.constraint_cycles.specs.declared.mark.Mark.{Mark}
use Rattle.difference_system.specs.Closure.{ClosureView, top_of, decided, raised, MeetsTop}
use Rattle.difference_system.specs.Solution.{IsSolvable}
use Rattle.difference_system.proofs.NextOrder.{next_made}
use Rattle.conformance.proofs.of_difference_system.closures.+explore.Goals as goal

pub set-requires-clause-unfixed : goal.set-requires-clause-unfixed
set-requires-clause-unfixed g t c = c.order_law.ensures (order_of c.args.order.now) c.in-Some.item c.args.order.now.held c.in-Some.ensures

pub insert-requires-clause-was_open : goal.insert-requires-clause-was_open
insert-requires-clause-was_open g t c =
    ap (λ (marks : List Mark). slice_get marks c.in-Some.item) (ap top_of c.loop-way.invariant ∙ c.requires.top) ∙ c.in-Some.ensures

pub insert-requires-clause-solvable : goal.insert-requires-clause-solvable
insert-requires-clause-solvable g t c =
    let back : raised (raised c.args.closure.now c.args.others.now) c.args.needs.now ≡ c.args.closure.now = ap (raised c.args.closure.now) (sym c.requires.same_needs) in
    let same : c.raise-2.new.self ≡ c.loop-way.closure =
    c.raise-2.ensures ∙ ap (λ (view : ClosureView). raised view c.args.needs.now) c.raise.ensures ∙ back ∙ sym c.loop-way.invariant in
    subst (λ (view : ClosureView). IsSolvable (MeetsTop view)) same (c.if-not-is_met.ensures refl)

pub explore-requires : goal.explore-requires
explore-requires g t c =
    let inserted = c.insert.ensures in
    let kept = c.loop-way.invariant in
    let made : IsOrderFor (matrix_of c.args.conflicts.now) (order_of c.set.new.self) =
    next_made (matrix_of c.args.conflicts.now) (order_of c.args.order.now) (order_of c.set.new.self) c.in-Some.item c.if-way-eq0.mark c.requires.order c.set.ensures.marks c.set.ensures.fixed in
    let conflicts : c.insert.new.self.conflicts ≡ matrix_of c.args.conflicts.now = ap (λ (view : ClosureView). view.conflicts) inserted ∙ ap (λ (view : ClosureView). view.conflicts) kept ∙ c.requires.conflicts in
    let needs : c.insert.new.self.needs ≡ c.args.needs.now = ap (λ (view : ClosureView). view.needs) inserted ∙ ap (λ (view : ClosureView). view.needs) kept ∙ c.requires.same_needs in
    let top : top_of c.insert.new.self ≡ marks_of c.set.new.self =
    ap top_of inserted ∙ ap (λ (marks : List Mark). set marks c.in-Some.item c.if-way-eq0.mark) (ap top_of kept ∙ c.requires.top) ∙ sym c.set.ensures.marks in
    let root : 1 ≤ length c.insert.new.self.orders = omega (arith, ap (λ (view : ClosureView). length view.orders) inserted) in
    let less : c.args.depth - 1 < t = omega arith in
    search rules

pub undo-requires : goal.undo-requires
undo-requires g t c =
    let after = c.explore.ensures ∙ c.insert.ensures ∙ ap (λ (view : ClosureView). decided view c.in-Some.item c.if-way-eq0.mark) c.loop-way.invariant in
    omega (arith, ap (λ (view : ClosureView). length view.orders) after, c.requires.root)
