use Rattle.std.proofs.Common.{ℕ, map, [], ◌∷◌, ◌++◌, ◌≡◌, ◌+◌, ◌-◌, ◌≤◌, refl, arith, append_assoc}
use Rattle.std.specs.List.{range_with_len}
use Rattle.std.proofs.lemmas.List.FromFn.{map-range_with_len_more}
use Rattle.sample_junctions.proofs.pairs.put_pairs_above.Goals as goal

row_more : (i j : ℕ) → i + 1 ≤ j → map {A = ℕ} {B = ℕ × ℕ} (λ k. (i, k)) (range_with_len (i + 1) ((j + 1) - (i + 1)))
    ≡ map (λ k. (i, k)) (range_with_len (i + 1) (j - (i + 1))) ++ (i, j) ∷ []
row_more i j below =
    let one_more : (j + 1) - (i + 1) ≡ (j - (i + 1)) + 1 = omega arith in
    rw one_more (map-range_with_len_more {X = ℕ × ℕ} (λ k. (i, k)) (i + 1) (j - (i + 1)) j (omega arith))

pub loop-j-preserved : goal.loop-j-preserved
loop-j-preserved c = rw (c.in_ok-push.ensures.items, c.loop-j.invariant, append_assoc, row_more c.args.i c.loop-j.j (omega arith)) refl
