use Rattle.std.proofs.Common.{rules}
use Rattle.junction_files.specs.Faults.{IsNamed}
use Rattle.junction_files.proofs.ElementAt.{any_found}
use Rattle.junction_files.proofs.faults.name.names_group.Goals as goal

pub returns : goal.returns
returns c = any_found (IsNamed c.args.name.now) _ _ _ c.elements.ensures (search rules)
