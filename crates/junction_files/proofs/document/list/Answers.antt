use Rattle.std.proofs.Common.{rules, ◌≡◌, Some, map, option_and_then, refl}
use Rattle.toml.specs.Data.{as_array}
use Rattle.toml.specs.View.{view, items_of}
use Rattle.junction_files.specs.Document.{value_in}
use Rattle.junction_files.proofs.ElementAt.{elements-items_of}
use Rattle.junction_files.proofs.document.list.Goals as goal

pub returns-in-Some : goal.returns-in-Some
returns-in-Some c =
    let found : Some (items_of (map view c.in-Some.elements.now.items)) ≡ option_and_then as_array (value_in (view c.args.element.now) c.args.key) =
    search rules in
    rw (← found, elements-items_of, c.as_slice.ensures.value) refl
