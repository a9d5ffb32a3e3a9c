use Rattle.std.proofs.Common.{rules}
use Rattle.toml.specs.Data.{Data}
use Rattle.junction_files.specs.Faults.{IsNamed, IsAbove}
use Rattle.junction_files.proofs.ElementAt.{any_found}
use Rattle.junction_files.proofs.faults.short_intergreen.some_has_more.Goals as goal

pub returns : goal.returns
returns c =
    any_found (λ (group : Data). IsNamed c.args.name.now group × IsAbove group c.args.key c.args.number) _ _ _ c.elements-groups.ensures (search rules)
