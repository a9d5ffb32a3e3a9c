use Rattle.std.proofs.Common.{rules, ◌≡◌, pos, Some}
use Rattle.toml.specs.Data.{Data}
use Rattle.junction_files.specs.Document.{whole_in}
use Rattle.junction_files.proofs.ElementAt.{all_found}
use Rattle.junction_files.specs.declared.faults.Key.TheVariants as key
use Rattle.junction_files.proofs.faults.no_flow.nothing_arrives.Goals as goal

pub returns : goal.returns
returns c = all_found (λ (lane : Data). whole_in lane key.Arrival ≡ Some (pos 0)) _ _ _ c.elements.ensures (search rules)
