use Rattle.std.proofs.Common.{sym}
use Rattle.conflict_matrix.specs.Conflicts.{matrix_of}
use Rattle.difference_system.proofs.Levels.{top_level, top_first, levels_some}
use Rattle.difference_system.proofs.closure.Closure.top.Goals as goal

pub returns-clause-marks : goal.returns-clause-marks
returns-clause-marks c =
    let some = levels_some (matrix_of c.self.inside.conflicts) c.self.inside.levels.items c.self.invariant.decisions in
    let first = top_first c.self.inside.levels.items c.index.result.now some (rw (← c.self.inside.levels.ok.0, ← c.len.ensures) c.index.ensures) in
    rw (← c.self.view_is) (sym first)

pub returns-clause-level : goal.returns-clause-level
returns-clause-level c =
    rw (← c.self.view_is) (top_level _ _ _ _ _ c.self.invariant c.index.result.now (rw (← c.self.inside.levels.ok.0, ← c.len.ensures) c.index.ensures))
