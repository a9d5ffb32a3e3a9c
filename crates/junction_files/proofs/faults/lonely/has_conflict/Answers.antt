use Rattle.std.proofs.Common.{rules}
use Rattle.junction_files.specs.Faults.{Involves}
use Rattle.junction_files.proofs.ElementAt.{any_found}
use Rattle.junction_files.proofs.faults.lonely.has_conflict.Goals as goal

pub returns : goal.returns
returns c = any_found (Involves c.args.name.now) _ _ _ c.elements.ensures (search rules)
