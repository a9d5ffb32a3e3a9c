-- Numbering the pairs of a table, row by row.
use Rattle.std.proofs.Common.{ℕ, zero, suc, List, [], ◌∷◌, ◌++◌, ◌≡◌, ◌≢◌, ◌<◌, ◌≤◌, ◌+◌, ◌-◌, ◌*◌, inl, inr, refl, ap, sym, ◌∙◌, subst, length, get_or, set, map, slice_get, Some, None, true, false, Bool, cond, min, max, is_some, if◌then◌else◌, ◌==◌, arith, get_or-set_same, get_or-set_other, append_assoc, length-set}
use Rattle.std.specs.List.{range_with_len, flat_map, filter}
use Rattle.std.proofs.lemmas.Bool.Decides.{nat_tests}
use Rattle.std.proofs.lemmas.Bool.{cases_lt, cases_order, both_ways}
use Rattle.std.proofs.lemmas.List.{take_more_set, length-take-le, map_push, map-id, append-nil}
use Rattle.std.proofs.lemmas.Grind.{flat_map-append}
use Rattle.std.proofs.lemmas.List.FromFn.{filter_of_map_range_with_len_more, map-range_with_len_more}
use Rattle.std.proofs.lemmas.Option.{none-some}
use Rattle.conflict_matrix.specs.Matrix.{Matrix, IsMatrix, intergreen_of, AreConflicting}
use Rattle.conflict_matrix.specs.Pairs.{row_of}
use Rattle.conflict_matrix.specs.Numbering.{numbered_pairs, with_pair, HasRoom, HasNumber, IsNumberedBelow, IsNumbering}
use Rattle.conflict_matrix.specs.declared.numbering.Numbering.{Numbering}

slice_get_left : (xs ys : List (ℕ × ℕ)) (k : ℕ) (x : ℕ × ℕ) → slice_get xs k ≡ Some x → slice_get (xs ++ ys) k ≡ Some x
slice_get_left [] ys k x h = absurd (none-some x h)
slice_get_left (y ∷ xs) ys zero x h = h
slice_get_left (y ∷ xs) ys (suc k) x h = slice_get_left xs ys k x h

slice_get_last : (xs : List (ℕ × ℕ)) (k : ℕ) (x : ℕ × ℕ) → length xs ≡ k → slice_get (xs ++ x ∷ []) k ≡ Some x
slice_get_last [] zero x h = refl
slice_get_last [] (suc k) x h = absurd (omega arith)
slice_get_last (y ∷ xs) zero x h = absurd (omega arith)
slice_get_last (y ∷ xs) (suc k) x h = slice_get_last xs k x (omega arith)

pairs_more : (n : Numbering) (i j : ℕ) → HasRoom n → numbered_pairs (with_pair n i j) ≡ numbered_pairs n ++ (i, j) ∷ []
pairs_more n i j h = take_more_set n.pairs n.count (i, j) (omega arith)

two_writes : (xs : List ℕ) (x y k v : ℕ) → k ≢ x → k ≢ y → get_or (set (set xs x v) y v) k 0 ≡ get_or xs k 0
two_writes xs x y k v p q = get_or-set_other (set xs x v) y k v 0 q ∙ get_or-set_other xs x k v 0 p

two_places : (xs : List ℕ) (x y v : ℕ) → x ≢ y → x < length xs → get_or (set (set xs x v) y v) x 0 ≡ v
two_places xs x y v p q = get_or-set_other (set xs x v) y x v 0 p ∙ get_or-set_same xs x v 0 q

has_its_number : (n : Numbering) (i j : ℕ) → HasRoom n → i < j → j < 16 → HasNumber (with_pair n i j) i j
has_its_number n i j h below within =
    let second : 16 * j + i < length (set n.numbers (16 * i + j) n.count) = rw length-set (omega arith) in
    let up : get_or (set (set n.numbers (16 * i + j) n.count) (16 * j + i) n.count) (16 * i + j) 0 ≡ n.count =
    two_places n.numbers (16 * i + j) (16 * j + i) n.count (λ e. omega arith) (omega arith) in
    record {
      rising = rw (up, pairs_more n i j h) (slice_get_last (numbered_pairs n) n.count (i, j) (length-take-le n.count n.pairs (omega arith)));
      falling = get_or-set_same (set n.numbers (16 * i + j) n.count) (16 * j + i) n.count 0 second ∙ sym up;
    }

keeps_number : (n : Numbering) (i j a b : ℕ) → HasRoom n → i < j → j < 16 → a < b → b < 16 → 16 * a + b ≢ 16 * i + j → HasNumber n a b → HasNumber (with_pair n i j) a b
keeps_number n i j a b h below within under inside ne has =
    let up : get_or (set (set n.numbers (16 * i + j) n.count) (16 * j + i) n.count) (16 * a + b) 0 ≡ get_or n.numbers (16 * a + b) 0 =
    two_writes n.numbers (16 * i + j) (16 * j + i) (16 * a + b) n.count ne (λ e. omega arith) in
    let down : get_or (set (set n.numbers (16 * i + j) n.count) (16 * j + i) n.count) (16 * b + a) 0 ≡ get_or n.numbers (16 * b + a) 0 =
    two_writes n.numbers (16 * i + j) (16 * j + i) (16 * b + a) n.count (λ e. omega arith) (λ e. ne (omega arith)) in
    record {
      rising = rw (up, pairs_more n i j h) (slice_get_left (numbered_pairs n) ((i, j) ∷ []) (get_or n.numbers (16 * a + b) 0) (a, b) has.rising);
      falling = down ∙ has.falling ∙ sym up;
    }

numbered_more : (m : Matrix) (n : Numbering) (i j a b : ℕ) → HasRoom n → i < j → j < 16 → IsNumberedBelow m n (16 * i + j) → a < b → b < 16 → 16 * a + b < 16 * i + (j + 1) → AreConflicting m a b → HasNumber (with_pair n i j) a b
numbered_more m n i j a b room below within h under inside before c =
    elim (cases_lt (16 * a + b) (16 * i + j)) [
      | inl earlier ↦ keeps_number n i j a b room below within under inside (λ e. omega arith) (h.numbered a b under inside earlier c)
      | inr here ↦
          let row : i ≡ a = omega arith in
          let column : j ≡ b = omega arith in
          subst (λ (x : ℕ). HasNumber (with_pair n i j) a x) column
          (subst (λ (x : ℕ). HasNumber (with_pair n i j) x j) row (has_its_number n i j room below within))
    ]

-- the pairs of row i with partners below j are numbered, after those of `old`
pub record IsRow (m : Matrix) (old new : Numbering) (i j : ℕ) : Type 0 where
  pub few : new.count + (i + 1) ≤ old.count + j
  pub numbered : IsNumberedBelow m new (16 * i + j)
  pub row : numbered_pairs new ≡ numbered_pairs old ++ map (λ k. (i, k)) (filter (λ k. is_some (intergreen_of m i k)) (range_with_len (i + 1) (j - (i + 1))))

partners_more : (p : ℕ → Bool) (i j : ℕ) → i < j → filter p (range_with_len (i + 1) ((j + 1) - (i + 1))) ≡ filter p (range_with_len (i + 1) (j - (i + 1))) ++ cond (p j) (j ∷ []) []
partners_more p i j below =
    let one_more : (j + 1) - (i + 1) ≡ (j - (i + 1)) + 1 = omega arith in
    rw one_more (simp map-id at (filter_of_map_range_with_len_more p (λ (k : ℕ). k) (i + 1) (j - (i + 1)) j (omega arith)))

pub row_more : (m : Matrix) (old n : Numbering) (i j : ℕ) → HasRoom n → i < j → j < 16 → AreConflicting m i j → IsRow m old n i j → IsRow m old (with_pair n i j) i (j + 1)
row_more m old n i j room below within conflicting h =
    record {
      few = omega arith;
      numbered = record { few = omega arith; numbered = λ a b under inside bound c. numbered_more m n i j a b room below within h.numbered under inside bound c };
      row = rw (pairs_more n i j room, partners_more (λ k. is_some (intergreen_of m i k)) i j below, conflicting, h.row, map_push, append_assoc) refl;
    }

pub row_skipped : (m : Matrix) (old n : Numbering) (i j : ℕ) → i < j → j < 16 → is_some (intergreen_of m i j) ≡ false → IsRow m old n i j → IsRow m old n i (j + 1)
row_skipped m old n i j below within apart h = record {
  few = omega arith;
  numbered = record {
    few = h.numbered.few;
    numbered = λ a b under inside before c. elim (cases_lt (16 * a + b) (16 * i + j)) [
      | inl earlier ↦ h.numbered.numbered a b under inside earlier c
      | inr here ↦
          let row : a ≡ i = omega arith in
          let column : b ≡ j = omega arith in
          absurd (both_ways _ apart (rw (row, column) at c))
    ];
  };
  row = rw (partners_more (λ k. is_some (intergreen_of m i k)) i j below, apart, append-nil) h.row;
}

pub conflicting_cell : (c : ℕ) → c ≢ 255 → is_some (if c == 255 then None else Some c) ≡ true
conflicting_cell c h = grind (arith, nat_tests)

pub apart_cell : (c : ℕ) → c ≡ 255 → is_some (if c == 255 then None else Some c) ≡ false
apart_cell c h = grind (arith, nat_tests)

-- with what a row adds there is room for all pairs of 16 groups
least_square : (i d : ℕ) → i + d ≡ 14 → 29 * i ≤ i * i + 210
least_square i d e = omega (arith, ap (λ (x : ℕ). x * i) e, ap (λ (x : ℕ). d * x) e)

pub room_for_row : (i j old new : ℕ) → i < j → j < 16 → 2 * old + i * i ≤ 31 * i → new + (i + 1) ≤ old + j → new < 120
room_for_row i j old new below within few more = omega (arith, least_square i (14 - i) (omega arith))

-- the pairs of the rows before i are numbered
pub record AreRows (m : Matrix) (n : Numbering) (i : ℕ) : Type 0 where
  pub few : 2 * n.count + i * i ≤ 31 * i
  pub numbered : IsNumberedBelow m n (16 * i)
  pub rows : numbered_pairs n ≡ flat_map (row_of m) (range_with_len 0 i)

rows_more : (f : ℕ → List (ℕ × ℕ)) (i : ℕ) → flat_map f (range_with_len 0 (i + 1)) ≡ flat_map f (range_with_len 0 i) ++ f i
rows_more f i =
    let one_more : range_with_len 0 (i + 1) ≡ range_with_len 0 i ++ i ∷ [] = simp map-id at (map-range_with_len_more (λ (k : ℕ). k) 0 i i (omega arith)) in
    rw (one_more, flat_map-append, append-nil) refl

pub rows_row : (m : Matrix) (old new : Numbering) (i : ℕ) → AreRows m old i → 2 * new.count + (i + 1) * (i + 1) ≤ 31 * (i + 1) → IsNumberedBelow m new (16 * (i + 1)) → numbered_pairs new ≡ numbered_pairs old ++ row_of m i → AreRows m new (i + 1)
rows_row m old new i h few numbered row = record {
  few = few;
  numbered = numbered;
  rows = rw (row, h.rows, rows_more) refl;
}

pub numbering_from_rows : (m : Matrix) (n : Numbering) → IsMatrix m → AreRows m n m.groups → IsNumbering m n
numbering_from_rows m n matrix h = record {
  few = h.numbered.few;
  whole = h.rows;
  numbered = λ i j first second c.
      let inside = matrix.inside i j first second c in
      elim (cases_order i j) [
        | inl same ↦ absurd (matrix.apart i first (rw (← same) at c))
        | inr apart ↦ elim apart [
          | inl below ↦
              let has = h.numbered.numbered i j below second (omega (arith, inside)) c in
              let low : min i j ≡ i = omega arith in
              let high : max i j ≡ j = omega arith in
              rw (low, high) (rw h.rows at has.rising)
          | inr above ↦
              let has = h.numbered.numbered j i above first (omega (arith, inside)) (matrix.symmetric i j first second c) in
              let low : min i j ≡ j = omega arith in
              let high : max i j ≡ i = omega arith in
              rw (low, high, has.falling) (rw h.rows at has.rising)
        ]
      ];
}
