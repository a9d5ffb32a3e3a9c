use Rattle.std.proofs.Common.{ℕ, List, [], ◌∷◌, ◌++◌, ◌≡◌, ◌+◌, refl, arith}
use Rattle.std.specs.List.{range_with_len, flat_map}
use Rattle.std.proofs.lemmas.List.{append-nil, map-id}
use Rattle.std.proofs.lemmas.Grind.{flat_map-append}
use Rattle.std.proofs.lemmas.List.FromFn.{map-range_with_len_more}
use Rattle.sample_junctions.proofs.pairs.all_pairs.Goals as goal

rows_more : (f : ℕ → List (ℕ × ℕ)) (i : ℕ) → flat_map f (range_with_len 0 (i + 1)) ≡ flat_map f (range_with_len 0 i) ++ f i
rows_more f i =
    let one_more : range_with_len 0 (i + 1) ≡ range_with_len 0 i ++ i ∷ [] = simp map-id at (map-range_with_len_more (λ (k : ℕ). k) 0 i i (omega arith)) in
    rw (one_more, flat_map-append, append-nil) refl

pub loop-i-preserved : goal.loop-i-preserved
loop-i-preserved c = rw (c.in_ok-put_pairs_above.ensures, c.loop-i.invariant, rows_more) refl
