use Rattle.std.proofs.Common.{rules, refl}
use Rattle.junction_files.specs.Faults.{NamesGroups}
use Rattle.junction_files.proofs.ElementAt.{any_found}
use Rattle.junction_files.proofs.faults.twice.some_names_groups.Goals as goal

pub returns : goal.returns
returns c = any_found (NamesGroups c.args.one c.args.other c.args.a.now c.args.b.now) _ _ _ refl (search rules)
