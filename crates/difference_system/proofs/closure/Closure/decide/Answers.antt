use Rattle.std.proofs.Common.{◌∙◌, ap, arith, set}
use Rattle.difference_system.proofs.Levels.{room_left, levels_more, levels_push}
use Rattle.difference_system.proofs.closure.Closure.decide.Goals as goal

pub unreachable-requires : goal.unreachable-requires
unreachable-requires c =
    let was_open = rw (← c.self.view_is) at c.requires.was_open in
    let table = c.self.inside.conflicts.table in
    let room = room_left _ _ _ _ _ c.self.invariant c.args.item (omega (arith, c.pair_laws.ensures.few _ table, table.links.linkable.few)) was_open in
    omega (arith, room, c.in-Err.ensures.full, c.self.inside.levels.ok.0)

pub invariant_of-self : goal.invariant_of-self
invariant_of-self c =
    let was_open = rw (← c.self.view_is) at c.requires.was_open in
    let marks = rw (← c.self.view_is) at c.top-top.ensures.marks in
    let decision = c.grown-level.ensures.decision ∙ ap (λ ms. (ms, c.args.item)) (c.order_with-order.ensures.marks ∙ ap (λ ms. set ms c.args.item c.args.mark) marks) in
    rw c.in-Ok.ensures.items
    (levels_more _ _ _ _ _ c.self.invariant _ c.args.item c.args.mark c.grown-level.result was_open c.requires.decides decision c.grown-level.ensures.level c.push.ensures.capacity)

pub returns-clause-solvable : goal.returns-clause-solvable
returns-clause-solvable c = λ _.
    rw (c.in-Ok.ensures.items, levels_push c.self.inside.levels.items c.grown-level.result) (c.rests.ensures c.grown-level.ensures.met)
