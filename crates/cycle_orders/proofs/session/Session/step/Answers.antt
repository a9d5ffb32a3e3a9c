use Rattle.std.proofs.Common.{◌≤◌, length, sym, ap, ◌∙◌, arith}
use Rattle.cycle_orders.specs.Answer.{plan_in}
use Rattle.cycle_orders.specs.Place.{order_at}
use Rattle.cycle_orders.proofs.Rising.{starts_of_full}
use Rattle.cycle_orders.proofs.Standings.{left, on_the_way, carried_plan, some_coming, stands_on, stands_first, stands_best}
use Rattle.cycle_orders.proofs.TargetOrders.{not_above_itself}
use Rattle.cycle_orders.proofs.session.Session.step.Goals as goal

pub visit-requires-clause-within : goal.visit-requires-clause-within
visit-requires-clause-within g c =
    let i = c.self.inside in
    (left i.search i.search.mode i.target i.place i.tree i.count i.plan c.self.invariant).1 (rw (← c.self.view_is) at c.requires)

pub visit-requires-clause-some : goal.visit-requires-clause-some
visit-requires-clause-some g c =
    let i = c.self.inside in
    let below = (left i.search i.search.mode i.target i.place i.tree i.count i.plan c.self.invariant).1 (rw (← c.self.view_is) at c.requires) in
    some_coming i.search i.target i.place i.tree i.count i.plan (on_the_way i.search i.search.mode i.target i.place i.tree i.count i.plan c.self.invariant below) below

pub visit-requires-clause-due : goal.visit-requires-clause-due
visit-requires-clause-due g c =
    let i = c.self.inside in
    let below = (left i.search i.search.mode i.target i.place i.tree i.count i.plan c.self.invariant).1 (rw (← c.self.view_is) at c.requires) in
    let place = (on_the_way i.search i.search.mode i.target i.place i.tree i.count i.plan c.self.invariant below).place in
    rw place.asks.conflicts place.due

pub invariant_of-self-in_default : goal.invariant_of-self-in_default
invariant_of-self-in_default g c =
    let i = c.self.inside in
    let below = (left i.search i.search.mode i.target i.place i.tree i.count i.plan c.self.invariant).1 (rw (← c.self.view_is) at c.requires) in
    let some : 1 ≤ i.search.cycle = omega (arith, c.rules.ensures.searchable.least, c.rules.ensures.junction.cycles.some) in
    stands_on i.search c.rising_law.ensures.walk c.target_law.ensures.transitive some i.search.mode i.target i.place i.tree i.count i.plan c.self.invariant below
    c.passed_plan_law.ensures c.growth_law.ensures.needs c.agreeing_law.ensures c.exclusion_law.ensures (not_above_itself c.target_law.ensures.total i.target)
    c.visit.new.place c.visit.new.tree c.in_ok-visited.visited c.in_default.not-Full c.in_ok-visited.ensures.visit

pub plan_of-requires-clause-risen : goal.plan_of-requires-clause-risen
plan_of-requires-clause-risen g c =
    let i = c.self.inside in
    let below = (left i.search i.search.mode i.target i.place i.tree i.count i.plan c.self.invariant).1 (rw (← c.self.view_is) at c.requires) in
    (on_the_way i.search i.search.mode i.target i.place i.tree i.count i.plan c.self.invariant below).tree_is.searched.risen

pub plan_of-requires-clause-starts : goal.plan_of-requires-clause-starts
plan_of-requires-clause-starts g c =
    let i = c.self.inside in
    let below = (left i.search i.search.mode i.target i.place i.tree i.count i.plan c.self.invariant).1 (rw (← c.self.view_is) at c.requires) in
    let full = rw c.in-Full.is at c.in_ok-visited.ensures.visit in (
      order_at i.place,
      starts_of_full c.agreeing_law.ensures i.search i.target i.place c.in-Full.starts
          (on_the_way i.search i.search.mode i.target i.place i.tree i.count i.plan c.self.invariant below).place full.starts_here,
    )

pub keep_visited-requires : goal.keep_visited-requires
keep_visited-requires g c =
    let full = rw c.in-Full.is at c.in_ok-visited.ensures.visit in
    let i = c.self.inside in
    let below = (left i.search i.search.mode i.target i.place i.tree i.count i.plan c.self.invariant).1 (rw (← c.self.view_is) at c.requires) in
    omega (arith, below, ap length full.same)

pub invariant_of-self-in-First : goal.invariant_of-self-in-First
invariant_of-self-in-First g c =
    let i = c.self.inside in
    let below = (left i.search i.search.mode i.target i.place i.tree i.count i.plan c.self.invariant).1 (rw (← c.self.view_is) at c.requires) in
    let some : 1 ≤ i.search.cycle = omega (arith, c.rules.ensures.searchable.least, c.rules.ensures.junction.cycles.some) in
    let full = rw c.in-Full.is at c.in_ok-visited.ensures.visit in
    let first = sym c.mode.ensures ∙ c.in-First.is in
    let starts = starts_of_full c.agreeing_law.ensures i.search i.target i.place c.in-Full.starts
    (on_the_way i.search i.search.mode i.target i.place i.tree i.count i.plan c.self.invariant below).place full.starts_here in
    rw (c.keep_visited.ensures, full.same) (stands_first i.search c.rising_law.ensures.walk c.target_law.ensures.transitive some i.search.mode i.target i.place i.tree i.count i.plan c.self.invariant below
    first first c.plan_of.result c.visit.new.place c.plan_of.ensures.junction (c.plan_of.ensures.plan (order_at i.place) starts))

pub raise_until_closed-raised-requires-clause-some : goal.raise_until_closed-raised-requires-clause-some
raise_until_closed-raised-requires-clause-some g c =
    let i = c.self.inside in
    let below = (left i.search i.search.mode i.target i.place i.tree i.count i.plan c.self.invariant).1 (rw (← c.self.view_is) at c.requires) in
    let full = rw c.in-Full.is at c.in_ok-visited.ensures.visit in
    let there = some_coming i.search i.target i.place i.tree i.count i.plan (on_the_way i.search i.search.mode i.target i.place i.tree i.count i.plan c.self.invariant below) below in
    omega (arith, there, ap length full.moved.coming)

pub raise_until_closed-raised-requires-clause-running : goal.raise_until_closed-raised-requires-clause-running
raise_until_closed-raised-requires-clause-running g c =
    let i = c.self.inside in
    let below = (left i.search i.search.mode i.target i.place i.tree i.count i.plan c.self.invariant).1 (rw (← c.self.view_is) at c.requires) in
    let way = on_the_way i.search i.search.mode i.target i.place i.tree i.count i.plan c.self.invariant below in
    record { before = plan_in i.plan; earlier = carried_plan i.search i.plan way.carried; running = way.running }

pub close-requires-clause-some : goal.close-requires-clause-some
close-requires-clause-some g c =
    let i = c.self.inside in
    let below = (left i.search i.search.mode i.target i.place i.tree i.count i.plan c.self.invariant).1 (rw (← c.self.view_is) at c.requires) in
    let full = rw c.in-Full.is at c.in_ok-visited.ensures.visit in
    let there = some_coming i.search i.target i.place i.tree i.count i.plan (on_the_way i.search i.search.mode i.target i.place i.tree i.count i.plan c.self.invariant below) below in
    omega (arith, there, ap length full.moved.coming, ap length c.raise_until_closed-raised.ensures.coming)

pub close-requires-clause-within : goal.close-requires-clause-within
close-requires-clause-within g c =
    let i = c.self.inside in
    let below = (left i.search i.search.mode i.target i.place i.tree i.count i.plan c.self.invariant).1 (rw (← c.self.view_is) at c.requires) in
    let full = rw c.in-Full.is at c.in_ok-visited.ensures.visit in
    omega (arith, below, ap length full.same)

pub invariant_of-self-2 : goal.invariant_of-self-2
invariant_of-self-2 g c =
    let i = c.self.inside in
    let below = (left i.search i.search.mode i.target i.place i.tree i.count i.plan c.self.invariant).1 (rw (← c.self.view_is) at c.requires) in
    let some : 1 ≤ i.search.cycle = omega (arith, c.rules.ensures.searchable.least, c.rules.ensures.junction.cycles.some) in
    let full = rw c.in-Full.is at c.in_ok-visited.ensures.visit in
    let best = sym c.mode.ensures ∙ c.in-Best.is in
    stands_best i.search c.rising_law.ensures.walk c.target_law.ensures.transitive some i.search.mode i.target i.place i.tree i.count i.plan c.self.invariant below
    c.growth_law.ensures.needs best c.visit.new.place c.raise_until_closed-raised.new.place c.close.new.place c.close.new.tree c.raise_until_closed-raised.result full.moved.coming
    c.raise_until_closed-raised.ensures (rw full.same at c.close.ensures)

pub prove-unreachable-requires : goal.prove-unreachable-requires
prove-unreachable-requires g c =
    let i = c.self.inside in
    let below = (left i.search i.search.mode i.target i.place i.tree i.count i.plan c.self.invariant).1 (rw (← c.self.view_is) at c.requires) in
    omega (arith, below, c.if-prove.true, ap length c.items.ensures)
