use Rattle.std.proofs.Common.{None, ◌<◌, refl, sym, subst, ap, ◌∙◌, length}
use Rattle.std.proofs.lemmas.Bool.{false≢true}
use Rattle.cycle_orders.specs.Answer.{plan_in}
use Rattle.cycle_orders.specs.Session.{HasUnvisited}
use Rattle.cycle_orders.specs.Standing.{IsStanding}
use Rattle.cycle_orders.proofs.Standings.{left, on_the_way, first_plan, way_none, way_best}
use Rattle.cycle_orders.proofs.Finishes.{finish_stopped, finish_closed, finish_found}
use Rattle.cycle_orders.proofs.session.Session.finish.Goals as goal

pub returns-then-left-clause-answer : goal.returns-then-left-clause-answer
returns-then-left-clause-answer g c = λ n within.
    let i = c.self.inside in
    let unvisited = c.has_unvisited-left.ensures.0 c.if-left.true in
    let below = (left i.search i.search.mode i.target i.place i.tree i.count i.plan c.self.invariant).1 (rw (← c.self.view_is) at unvisited) in
    let way = on_the_way i.search i.search.mode i.target i.place i.tree i.count i.plan c.self.invariant below in
    let all = within.all unvisited in
    rw (← c.self.view_is) (finish_stopped i.search i.target i.place i.tree i.count n i.plan way below (rw (← c.self.view_is) at all))

pub returns-in-First-clause-answer : goal.returns-in-First-clause-answer
returns-in-First-clause-answer g c = λ n within.
    let i = c.self.inside in
    let over : ¬ (i.count < length i.tree) = λ below.
    false≢true (sym c.if-left.false ∙ c.has_unvisited-left.ensures.1 (subst HasUnvisited c.self.view_is ((left i.search i.search.mode i.target i.place i.tree i.count i.plan c.self.invariant).0 below))) in
    let way = way_none i.search i.search.mode i.target i.place i.tree i.count (subst (IsStanding i.search i.target i.place i.tree i.count) c.in-None.is c.self.invariant) in
    rw (← c.self.view_is) (finish_closed i.search i.target i.place i.tree i.count n c.closed_cycle_law.ensures c.rules.ensures.junction None way over (rw (← c.self.view_is) at within.most))

pub returns-clause-answer : goal.returns-clause-answer
returns-clause-answer g c = λ n within.
    let i = c.self.inside in
    let over : ¬ (i.count < length i.tree) = λ below.
    false≢true (sym c.if-left.false ∙ c.has_unvisited-left.ensures.1 (subst HasUnvisited c.self.view_is ((left i.search i.search.mode i.target i.place i.tree i.count i.plan c.self.invariant).0 below))) in
    let best = sym c.mode-mode.ensures ∙ c.in-Best.is in
    let way = way_best i.search i.search.mode i.target i.place i.tree i.count i.plan best c.self.invariant in
    rw (← c.self.view_is) (finish_closed i.search i.target i.place i.tree i.count n c.closed_cycle_law.ensures c.rules.ensures.junction i.plan way over (rw (← c.self.view_is) at within.most))

pub returns-in-Some-clause-answer : goal.returns-in-Some-clause-answer
returns-in-Some-clause-answer g c = λ n within.
    let i = c.self.inside in
    let first = sym c.mode-mode.ensures ∙ c.in-First.is in
    let found = first_plan i.search i.search.mode i.target i.place i.tree i.count c.in-Some.plan first (subst (IsStanding i.search i.target i.place i.tree i.count) c.in-Some.is c.self.invariant) in
    rw (← c.self.view_is) (finish_found i.search i.target i.place i.tree i.count n c.in-Some.plan found (rw (← c.self.view_is) at within.most))

pub returns-then-left-clause-same : goal.returns-then-left-clause-same
returns-then-left-clause-same g c = rw (← c.self.view_is) (refl, refl)

pub returns-in-First-clause-same : goal.returns-in-First-clause-same
returns-in-First-clause-same g c = rw (← c.self.view_is) (refl, ap plan_in (sym c.in-None.is))

pub returns-clause-same : goal.returns-clause-same
returns-clause-same g c = rw (← c.self.view_is) (refl, refl)
