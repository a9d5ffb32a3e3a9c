use Rattle.std.proofs.Common.{arith}
use Rattle.constraint_cycles.proofs.Refinement.{refined_by_decision}
use Rattle.constraint_cycles.proofs.Growth.{closes_rises, need_rises, refinement_rises}
use Rattle.constraint_cycles.proofs.laws.growth_law.Goals as goal

pub returns-clause-needs : goal.returns-clause-needs
returns-clause-needs c = λ m marks needs more cycle walk no_less closes. closes_rises m marks marks needs more cycle no_less (need_rises m marks needs more cycle no_less) walk closes

pub returns-clause-refinement : goal.returns-clause-refinement
returns-clause-refinement c = λ m marks finer needs cycle walk refines closes.
    closes_rises m marks finer needs needs cycle (λ g below. omega arith) (refinement_rises m marks finer needs cycle refines) walk closes

pub returns-clause-decision : goal.returns-clause-decision
returns-clause-decision c = λ m marks needs cycle item mark walk was_open closes.
    closes_rises m marks _ needs needs cycle (λ g below. omega arith) (refinement_rises m marks _ needs cycle (refined_by_decision marks item mark was_open)) walk closes
