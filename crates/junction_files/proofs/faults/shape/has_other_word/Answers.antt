use Rattle.std.proofs.Common.{rules, refl, string_bytes}
use Rattle.std.proofs.lemmas.Map.Iter.{rest_more}
use Rattle.std.specs.Map.Iter.{deref}
use Rattle.junction_files.specs.Faults.{IsOtherWord}
use Rattle.junction_files.proofs.Elements.{any_first, any_later, any_rest}
use Rattle.junction_files.proofs.faults.shape.has_other_word.Goals as goal

pub returns-then-not-is_part_key : goal.returns-then-not-is_part_key
returns-then-not-is_part_key c =
    let more = rest_more deref _ _ _ c.in-Some.found c.in-Some.is c.next.ensures.steps in
    let other : IsOtherWord c.args.part c.args.version (string_bytes c.in-Some.found.now) = search rules in
    ((λ _. c.loop-found.invariant.1 (rw more (any_first _ _ _ other))), (λ _. refl))

pub loop-found-preserved : goal.loop-found-preserved
loop-found-preserved c =
    let more = rest_more deref _ _ _ c.in-Some.found c.in-Some.is c.next.ensures.steps in
    let listed : ¬ IsOtherWord c.args.part c.args.version (string_bytes c.in-Some.found.now) = search rules in (
      (λ some. any_rest (IsOtherWord c.args.part c.args.version) _ _ listed (rw more at (c.loop-found.invariant.0 some))),
      (λ some. c.loop-found.invariant.1 (rw more (any_later (IsOtherWord c.args.part c.args.version) _ _ some))),
    )
