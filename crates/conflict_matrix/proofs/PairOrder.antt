-- The numbered pairs of a table stand in order, and they are its conflicting pairs.
use Rattle.std.proofs.Common.{ℕ, zero, suc, List, ◌∷◌, ◌++◌, ◌≡◌, ◌<◌, ◌≤◌, ◌+◌, ◌-◌, ◌*◌, ◌⊎◌, inl, inr, refl, length, map, Bool, true, is_some, arith, length-append, mul-le-mul_left}
use Rattle.std.specs.List.{range_with_len, flat_map, filter, All, AllPairs, Contains}
use Rattle.std.proofs.lemmas.Bool.{cases_eq, cond_both}
use Rattle.std.proofs.lemmas.List.{length-map}
use Rattle.std.proofs.lemmas.List.Elements.{All-nil, All-append, All-map, All-filter, filter_passes, Contains-append_left, Contains-append_right}
use Rattle.std.proofs.lemmas.List.Kept.{AllPairs-cons}
use Rattle.std.proofs.lemmas.List.FromFn.{length-range_with_len, get_or-range_with_len}
use Rattle.std.proofs.lemmas.List.Sums.{length-filter, count_by-le-length}
use Rattle.conflict_matrix.specs.Matrix.{Matrix, intergreen_of}
use Rattle.conflict_matrix.specs.Pairs.{later_partners, row_of, pairs_of}
use Rattle.conflict_matrix.specs.PairLaws.{IsPair}

-- by the first group, then the second
abbrev pub IsBefore : ℕ × ℕ → ℕ × ℕ → Type 0
IsBefore p q = (p.0 < q.0) ⊎ ((p.0 ≡ q.0) × (p.1 < q.1))

-- the pairs whose lower group is one of the n from group a on
abbrev pub rows_from : Matrix → ℕ → ℕ → List (ℕ × ℕ)
rows_from m a n = flat_map (row_of m) (range_with_len a n)

range_within : (b n : ℕ) → All (λ x. (b ≤ x) × (x < b + n)) (range_with_len b n)
range_within b n k d h =
    let inside : k < n = omega (arith, length-range_with_len b n) in
    rw (get_or-range_with_len b n k d inside) (omega arith, omega arith)

partners_conflict : (m : Matrix) (i : ℕ) → All (λ j. IsPair m (i, j)) (later_partners m i)
partners_conflict m i k d h =
    let p : ℕ → Bool = λ j. is_some (intergreen_of m i j) in
    let within = All-filter p (λ j. (i + 1 ≤ j) × (j < i + 1 + (m.groups - (i + 1)))) (range_with_len (i + 1) (m.groups - (i + 1))) (range_within (i + 1) (m.groups - (i + 1))) k d h in
    record {
      rising = omega (arith, within);
      within = omega (arith, within);
      conflicting = filter_passes p (range_with_len (i + 1) (m.groups - (i + 1))) k d h;
    }

rows_conflict : (m : Matrix) (a n : ℕ) → All (λ q. IsPair m q × (a ≤ q.0)) (rows_from m a n)
rows_conflict m a zero = All-nil (λ q. IsPair m q × (a ≤ q.0))
rows_conflict m a (suc n) =
    All-append (λ q. IsPair m q × (a ≤ q.0)) (row_of m a) (rows_from m (a + 1) n)
    (All-map (λ q. IsPair m q × (a ≤ q.0)) (λ j. (a, j)) (later_partners m a) (λ k d h. (partners_conflict m a k d h, omega arith)))
    (λ k d h. let later = rows_conflict m (a + 1) n k d h in (later.0, omega (arith, later.1)))

row_rises : (p : ℕ → Bool) (a b n : ℕ) (rest : List (ℕ × ℕ)) → All (λ q. a < q.0) rest → AllPairs IsBefore rest → AllPairs IsBefore (map (λ j. (a, j)) (filter p (range_with_len b n)) ++ rest)
row_rises p a b zero rest above rise = rise
row_rises p a b (suc n) rest above rise =
    let more = row_rises p a (b + 1) n rest above rise in
    let later : All (IsBefore (a, b)) (map (λ j. (a, j)) (filter p (range_with_len (b + 1) n)) ++ rest) =
    All-append (IsBefore (a, b)) (map (λ j. (a, j)) (filter p (range_with_len (b + 1) n))) rest
    (All-map (IsBefore (a, b)) (λ j. (a, j)) (filter p (range_with_len (b + 1) n))
    (All-filter p (λ j. IsBefore (a, b) (a, j)) (range_with_len (b + 1) n) (λ k d h. inr (refl, omega (arith, range_within (b + 1) n k d h)))))
    (λ k d h. inl (above k d h)) in
    cond_both (p b) (b ∷ filter p (range_with_len (b + 1) n)) (filter p (range_with_len (b + 1) n)) (λ js. AllPairs IsBefore (map (λ j. (a, j)) js ++ rest))
    (λ _. AllPairs-cons IsBefore (a, b) (map (λ j. (a, j)) (filter p (range_with_len (b + 1) n)) ++ rest) later more)
    (λ _. more)

rows_rise : (m : Matrix) (a n : ℕ) → AllPairs IsBefore (rows_from m a n)
rows_rise m a zero = λ i j d below within. absurd (omega arith)
rows_rise m a (suc n) =
    row_rises (λ j. is_some (intergreen_of m a j)) a (a + 1) (m.groups - (a + 1)) (rows_from m (a + 1) n)
    (λ k d h. omega (arith, (rows_conflict m (a + 1) n k d h).1))
    (rows_rise m (a + 1) n)

row_has : (p : ℕ → Bool) (a b n j : ℕ) → b ≤ j → j < b + n → p j ≡ true → Contains {X = ℕ × ℕ} (map (λ k. (a, k)) (filter p (range_with_len b n))) (a, j)
row_has p a b zero j from below passes = absurd (omega arith)
row_has p a b (suc n) j from below passes = elim (cases_eq b j) [
  | inl here ↦ rw (here, passes) (0, omega arith, refl)
  | inr apart ↦
      let more = row_has p a (b + 1) n j (omega arith) (omega arith) passes in
      cond_both (p b) (b ∷ filter p (range_with_len (b + 1) n)) (filter p (range_with_len (b + 1) n)) (λ js. Contains {X = ℕ × ℕ} (map (λ k. (a, k)) js) (a, j))
      (λ _. (suc more.0, omega (arith, more.1), more.2))
      (λ _. more)
]

rows_have : (m : Matrix) (a n i j : ℕ) → a ≤ i → i < a + n → IsPair m (i, j) → Contains (rows_from m a n) (i, j)
rows_have m a zero i j from below pair = absurd (omega arith)
rows_have m a (suc n) i j from below pair = elim (cases_eq a i) [
  | inl here ↦
      rw here (Contains-append_left (row_of m i) (rows_from m (i + 1) n) (i, j)
      (row_has (λ k. is_some (intergreen_of m i k)) i (i + 1) (m.groups - (i + 1)) j (omega arith) (omega arith) pair.conflicting))
  | inr apart ↦
      Contains-append_right (row_of m a) (rows_from m (a + 1) n) (i, j) (rows_have m (a + 1) n i j (omega arith) (omega arith) pair)
]

fewer : (p : ℕ → Bool) (b l n : ℕ) → l ≤ n → length (filter p (range_with_len b l)) ≤ n
fewer p b l n h = omega (arith, length-filter p (range_with_len b l), count_by-le-length p (range_with_len b l), length-range_with_len b l)

pub rows_few : (m : Matrix) (a n : ℕ) → a + n ≡ m.groups → 2 * length (rows_from m a n) + n ≤ n * n
rows_few m a zero e = omega arith
rows_few m a (suc n) e =
    let row : length (later_partners m a) ≤ n = fewer (λ j. is_some (intergreen_of m a j)) (a + 1) (m.groups - (a + 1)) n (omega arith) in
    simp (length-append, length-map) (omega (arith, rows_few m (a + 1) n (omega arith)))

pub pairs_conflict : (m : Matrix) → All (IsPair m) (pairs_of m)
pairs_conflict m k d h = (rows_conflict m 0 m.groups k d h).0

pub pairs_rise : (m : Matrix) → AllPairs IsBefore (pairs_of m)
pairs_rise m = rows_rise m 0 m.groups

pub pairs_have : (m : Matrix) (i j : ℕ) → IsPair m (i, j) → Contains (pairs_of m) (i, j)
pairs_have m i j pair = rows_have m 0 m.groups i j (omega arith) (omega arith) pair

pub pairs_few : (m : Matrix) → m.groups ≤ 16 → length (pairs_of m) ≤ 120
pairs_few m few = omega (arith, rows_few m 0 m.groups (omega arith), mul-le-mul_left m.groups few)
