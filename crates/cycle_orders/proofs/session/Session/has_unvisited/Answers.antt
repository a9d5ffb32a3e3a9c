use Rattle.std.proofs.Common.{length, ap, arith}
use Rattle.std.proofs.lemmas.Bool.Decides.{nat_tests}
use Rattle.cycle_orders.proofs.Standings.{left}
use Rattle.cycle_orders.proofs.session.Session.has_unvisited.Goals as goal

pub returns : goal.returns
returns g c =
    let i = c.self.inside in
    let both = left i.search i.search.mode i.target i.place i.tree i.count i.plan c.self.invariant in
    let same = ap length c.items.ensures in
    rw (← c.self.view_is) (λ below. both.0 (grind (arith, nat_tests)), λ more. let below = both.1 more in grind (arith, nat_tests))
