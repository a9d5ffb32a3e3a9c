use Rattle.std.proofs.Common.{◌∷◌, ◌≡◌, map, take}
use Rattle.std.specs.Fmt.{decimal}
use Rattle.aspect_player.specs.Lines.{word_of}
use Rattle.aspect_player.proofs.lines.row.Given as goal

abbrev pub invariant-loop-aspect : goal.invariant-loop-aspect
invariant-loop-aspect l = map (λ f. f.now) l.fields.items ≡ decimal l.second ∷ map word_of (take l.aspect-index l.aspects)
