use Rattle.difference_system.proofs.Levels.{written_back, levels_renewed}
use Rattle.difference_system.proofs.closure.Closure.raise.Goals as goal

pub invariant_of-self : goal.invariant_of-self
invariant_of-self c =
    let same = rw c.deref_mut.ensures.value at c.renew.ensures.decisions in
    let needed = rw (← c.self.view_is) at c.requires in
    rw (written_back c.self.inside.levels.items c.renew.new.levels c.self.inside.levels.len same c.self.inside.levels.ok.0)
    (levels_renewed _ _ _ _ c.self.inside.levels.items _ _ c.self.invariant needed c.renew.ensures.each same)
