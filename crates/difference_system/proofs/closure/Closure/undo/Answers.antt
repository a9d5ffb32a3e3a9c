use Rattle.difference_system.proofs.Levels.{levels_less}
use Rattle.difference_system.proofs.closure.Closure.undo.Goals as goal

pub invariant_of-self : goal.invariant_of-self
invariant_of-self c =
    let several = rw (← c.self.view_is) at c.requires in
    rw c.pop.ensures.capacity (levels_less _ _ _ _ _ c.self.invariant _ _ c.pop.ensures.items several)
