use Rattle.std.proofs.Common.{rules, ◌≡◌, ◌-◌, length, min, refl}
use Rattle.std.proofs.lemmas.List.{take-map, take_min}
use Rattle.junction_files.proofs.document.elements_before.Goals as goal

pub returns : goal.returns
returns c =
    let end : c.min-end.result ≡ min (c.args.number - 1) (length c.elements-elements.result.now) = search rules in
    rw (← c.elements-elements.ensures, take-map, end, take_min) refl
