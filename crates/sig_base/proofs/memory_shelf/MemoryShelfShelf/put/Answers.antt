use Rattle.std.proofs.Common.{rules}
use Rattle.sig_base.proofs.memory_shelf.MemoryShelfShelf.put.Goals as goal

pub returns-then-is_next_failing-clause-cause : goal.returns-then-is_next_failing-clause-cause
returns-then-is_next_failing-clause-cause c = rw (← c.self.view_is) (search rules)
