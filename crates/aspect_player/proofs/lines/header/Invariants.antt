use Rattle.std.proofs.Common.{codes, ◌∷◌, ◌≡◌, map, take}
use Rattle.junction_model.specs.declared.group.Group.{Group}
use Rattle.aspect_player.proofs.lines.header.Given as goal

abbrev pub invariant-loop-group : goal.invariant-loop-group
invariant-loop-group l = map (λ f. f.now) l.fields.items ≡ codes "second" ∷ map (λ (group : Group). group.label) (take l.group-index l.junction.groups)
