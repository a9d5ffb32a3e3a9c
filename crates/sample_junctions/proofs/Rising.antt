-- Pairs of groups whose places in a table of 16 columns rise.
use Rattle.std.proofs.Common.{ℕ, zero, suc, List, [], ◌∷◌, ◌++◌, Some, map, length, slice_get, Contains, ◌≡◌, ◌≤◌, ◌<◌, ◌+◌, ◌-◌, ◌*◌, inl, inr, refl, sym, subst, ap, arith}
use Rattle.std.specs.Prelude.{⊤}
use Rattle.std.specs.List.{range_with_len, flat_map}
use Rattle.std.proofs.lemmas.Bool.{cases_eq}
use Rattle.std.proofs.lemmas.List.{length-append}
use Rattle.std.proofs.lemmas.List.FromFn.{length-map-range_with_len, get_or-map-range_with_len}
use Rattle.std.proofs.lemmas.List.Elements.{Contains-append_left, Contains-append_right}
use Rattle.std.proofs.lemmas.Option.{same_Some, slice_get_within}
use Rattle.sample_junctions.specs.Conflicts.{pairs_above, all_pairs}

abbrev pub place_of : ℕ × ℕ → ℕ
place_of pair = 16 * pair.0 + pair.1

-- pairs among n groups, the lower one first, whose places rise from a bound on
abbrev pub AreRising : ℕ → ℕ → List (ℕ × ℕ) → Type 0
AreRising n low [] = ⊤
AreRising n low (p ∷ ps) = (low ≤ place_of p) × (p.0 < p.1) × (p.1 < n) × AreRising n (place_of p + 1) ps

pub rising_above : (n low high : ℕ) (ps : List (ℕ × ℕ)) → low ≤ high → AreRising n high ps → AreRising n low ps
rising_above n low high [] below h = tt
rising_above n low high (p ∷ ps) below h = (omega (arith, h.0), h.1, h.2, h.3)

row_rises : (n i j m low : ℕ) (rest : List (ℕ × ℕ)) → n ≤ 16 → i < j → j + m ≤ n → low ≤ 16 * i + j → AreRising n (16 * (i + 1)) rest →
    AreRising n low (map (λ k. (i, k)) (range_with_len j m) ++ rest)
row_rises n i j zero low rest few above within below h = rising_above n low (16 * (i + 1)) rest (omega arith) h
row_rises n i j (suc m) low rest few above within below h =
    (below, above, omega arith, row_rises n i (j + 1) m (16 * i + j + 1) rest few (omega arith) (omega arith) (omega arith) h)

rows_rise : (n i m low : ℕ) → n ≤ 16 → i + m ≡ n → low ≤ 16 * i → AreRising n low (flat_map (pairs_above n) (range_with_len i m))
rows_rise n i zero low few same below = tt
rows_rise n i (suc m) low few same below =
    row_rises n i (i + 1) (n - (i + 1)) low (flat_map (pairs_above n) (range_with_len (i + 1) m)) few (omega arith) (omega arith) (omega arith)
    (rows_rise n (i + 1) m (16 * (i + 1)) few (omega arith) (omega arith))

pub all_pairs_rise : (n : ℕ) → n ≤ 16 → AreRising n 0 (all_pairs n)
all_pairs_rise n few = rows_rise n 0 n 0 few (omega arith) (omega arith)

-- what holds of a pair of the list
pub rising_at : (n low : ℕ) (ps : List (ℕ × ℕ)) → AreRising n low ps → (k : ℕ) (p : ℕ × ℕ) → slice_get ps k ≡ Some p →
    (low ≤ place_of p) × (p.0 < p.1) × (p.1 < n)
rising_at n low [] h k p found = absurd (omega (arith, slice_get_within [] k p found))
rising_at n low (q ∷ ps) h zero p found =
    subst (λ (r : ℕ × ℕ). (low ≤ place_of r) × (r.0 < r.1) × (r.1 < n)) (same_Some q p found) (h.0, h.1, h.2)
rising_at n low (q ∷ ps) h (suc k) p found = let r = rising_at n (place_of q + 1) ps h.3 k p found in (omega (arith, h.0, r.0), r.1, r.2)

-- an earlier pair has the lower place
pub rising_apart : (n low : ℕ) (ps : List (ℕ × ℕ)) → AreRising n low ps → (j k : ℕ) (p q : ℕ × ℕ) → j < k →
    slice_get ps j ≡ Some p → slice_get ps k ≡ Some q → place_of p < place_of q
rising_apart n low [] h j k p q before first last = absurd (omega (arith, slice_get_within [] k q last))
rising_apart n low (r ∷ ps) h j zero p q before first last = absurd (omega arith)
rising_apart n low (r ∷ ps) h zero (suc k) p q before first last =
    let later = rising_at n (place_of r + 1) ps h.3 k q last in
    subst (λ (s : ℕ × ℕ). place_of s < place_of q) (same_Some r p first) (omega (arith, later.0))
rising_apart n low (r ∷ ps) h (suc j) (suc k) p q before first last = rising_apart n (place_of r + 1) ps h.3 j k p q (omega arith) first last

above_has : (n i : ℕ) → i + 1 < n → Contains {X = ℕ × ℕ} (pairs_above n i) (i, i + 1)
above_has n i below =
    let more : 0 < n - (i + 1) = omega arith in (
      0,
      rw (length-map-range_with_len {X = ℕ × ℕ} (λ j. (i, j)) (i + 1) (n - (i + 1))) more,
      get_or-map-range_with_len {X = ℕ × ℕ} (λ j. (i, j)) (i + 1) (n - (i + 1)) 0 (i + 1) (i, i + 1) more (omega arith),
    )

rows_have : (n i a m : ℕ) → a ≤ i → i < a + m → i + 1 < n → Contains {X = ℕ × ℕ} (flat_map (pairs_above n) (range_with_len a m)) (i, i + 1)
rows_have n i a zero from to below = absurd (omega arith)
rows_have n i a (suc m) from to below = elim (cases_eq a i) [
  | inl same ↦ Contains-append_left (pairs_above n a) _ (i, i + 1)
      (subst (λ b. Contains {X = ℕ × ℕ} (pairs_above n b) (i, i + 1)) (sym same) (above_has n i below))
  | inr other ↦ Contains-append_right (pairs_above n a) _ (i, i + 1) (rows_have n i (a + 1) m (omega arith) (omega arith) below)
]

-- a group and the next one are a pair
pub all_pairs_have : (n i : ℕ) → i + 1 < n → Contains {X = ℕ × ℕ} (all_pairs n) (i, i + 1)
all_pairs_have n i below = rows_have n i 0 n (omega arith) (omega arith) below

rows_length : (n i m : ℕ) → i + m ≡ n → 2 * length (flat_map (pairs_above n) (range_with_len i m)) + m ≡ m * m
rows_length n i zero same = refl
rows_length n i (suc m) same =
    let rest = flat_map (pairs_above n) (range_with_len (i + 1) m) in
    let row : length (pairs_above n i) ≡ n - (i + 1) = length-map-range_with_len {X = ℕ × ℕ} (λ j. (i, j)) (i + 1) (n - (i + 1)) in
    omega (arith, rows_length n (i + 1) m (omega arith), row, length-append (pairs_above n i) rest)

pub all_pairs_few : (n : ℕ) → n ≤ 16 → length (all_pairs n) ≤ 120
all_pairs_few n few =
    let rest : n + (16 - n) ≡ 16 = omega arith in
    omega (arith, rows_length n 0 n (omega arith), ap (λ (x : ℕ). x * n) rest)
