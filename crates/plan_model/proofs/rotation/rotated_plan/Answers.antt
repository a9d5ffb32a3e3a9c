use Rattle.std.proofs.Common.{ℕ, List, [], ◌∷◌, ◌++◌, ◌≡◌, ◌+◌, ◌<◌, ◌≤◌, ◌∙◌, sym, ap, map, take, set, length, get_or, ◌%◌, arith, rules}
use Rattle.std.proofs.lemmas.List.{length-set, take_more_set, map_more}
use Rattle.plan_model.specs.Plan.{plan_of}
use Rattle.plan_model.proofs.rotation.rotated_plan.Goals as goal

one_more : (f : ℕ → ℕ) (xs ys : List ℕ) (i x : ℕ) → i < length xs → i < length ys → take i xs ≡ map f (take i ys) → x ≡ f (get_or ys i 0) →
    take (i + 1) (set xs i x) ≡ map f (take (i + 1) ys)
one_more f xs ys i x h k before is =
    take_more_set xs i x h ∙ ap (λ made. made ++ x ∷ []) before ∙ ap (λ last. map f (take i ys) ++ last ∷ []) is ∙ sym (map_more f ys i 0 k)

pub loop-i-preserved : goal.loop-i-preserved
loop-i-preserved c =
    let here : c.loop-i.i < length (plan_of c.args.plan.now).starts = rw c.starts-count.ensures at c.loop-i-test.true in
    let few : length (plan_of c.args.plan.now).starts ≤ 16 = search rules in
    record {
      room = length-set c.loop-i.starts c.loop-i.i c.later.result ∙ c.loop-i.invariant.room;
      so_far = one_more (λ start. (start + c.args.by) % (plan_of c.args.plan.now).cycle) c.loop-i.starts (plan_of c.args.plan.now).starts c.loop-i.i c.later.result
          (omega (arith, here, few, c.loop-i.invariant.room)) here c.loop-i.invariant.so_far (rw (← c.starts.ensures, ← c.cycle.ensures) c.later.ensures);
    }
