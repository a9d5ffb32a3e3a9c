-- The due order of items, and lists that are in it.
use Rattle.std.proofs.Common.{ℕ, suc, List, [], ◌∷◌, ◌++◌, ◌≡◌, ◌≢◌, ◌+◌, ◌<◌, ◌≤◌, ◌⊎◌, inl, inr, true, length, length-append, sym, subst, ◌∙◌, arith, slice_index, get_or}
use Rattle.std.specs.List.{list_any}
use Rattle.std.proofs.lemmas.Bool.{cases_lt, false≢true, ne_eqb}
use Rattle.std.proofs.lemmas.Bool.Decides.{eqb_tells}
use Rattle.std.proofs.lemmas.Grind.{get_or_default_zero}
use Rattle.std.proofs.Math.Dec.{eqb}
use Rattle.std.proofs.lemmas.List.{get_or_append_left}
use Rattle.std.proofs.Math.Seq.{get_or-append_seam}
use Rattle.std.proofs.lemmas.Map.Keys.{IsDistinct-from_apart}
use Rattle.std.proofs.lemmas.Map.Steps.{length-le_from_distinct_below}
use Rattle.std.proofs.lemmas.Option.{slice_get_within, same_Some}
use Rattle.conflict_matrix.specs.Matrix.{Matrix}
use Rattle.conflict_matrix.specs.Pairs.{pairs_of}
use Rattle.cycle_orders.specs.Due.{IsEarlierPair, ComesBefore}
use Rattle.cycle_orders.specs.DueItems.{IsListed, AreInDueOrder}

earlier_one_way : (p q : ℕ × ℕ) → IsEarlierPair p q → IsEarlierPair q p → ⊥
earlier_one_way p q (inl h) (inl g) = omega arith
earlier_one_way p q (inl h) (inr g) = omega (arith, g.0)
earlier_one_way p q (inr h) (inl g) = omega (arith, h.0)
earlier_one_way p q (inr h) (inr g) = omega (arith, h.1, g.1)

-- of two items at most one comes before the other
pub one_way : (m : Matrix) (item other : ℕ) → ComesBefore m item other → ComesBefore m other item → ⊥
one_way m item other (inl h) (inl g) =
    let first : g.other_pair ≡ h.pair = same_Some g.other_pair h.pair (sym g.other_at ∙ h.at) in
    let second : g.pair ≡ h.other_pair = same_Some g.pair h.other_pair (sym g.at ∙ h.other_at) in
    earlier_one_way h.pair h.other_pair h.earlier (subst (λ p. IsEarlierPair p h.pair) second (subst (IsEarlierPair g.pair) first g.earlier))
one_way m item other (inl h) (inr g) = let within = slice_get_within (pairs_of m) item h.pair h.at in omega (arith, g.0)
one_way m item other (inr h) (inl g) = let within = slice_get_within (pairs_of m) other g.pair g.at in omega (arith, h.0)
one_way m item other (inr h) (inr g) = omega (arith, h.1, g.1)

-- so no item comes before itself
pub apart : (m : Matrix) (items : List ℕ) → AreInDueOrder m items → (k l : ℕ) → k < l → l < length items → slice_index items k ≢ slice_index items l
apart m items rising k l below within same =
    let h = subst (λ x. ComesBefore m x (slice_index items l)) same (rising k l below within) in
    one_way m (slice_index items l) (slice_index items l) h h

below_found : (xs : List ℕ) (n q : ℕ) → ((k : ℕ) → k < length xs → slice_index xs k < n) → list_any (eqb q) xs ≡ true → q < n
below_found [] n q h found = absurd (false≢true found)
below_found (x ∷ xs) n q h found = elim (eqb_tells q x) [
  | inl same ↦ let first = h 0 (omega arith) in omega (arith, same.1)
  | inr other ↦ below_found xs n q (λ k below. h (suc k) (omega arith)) (rw other.0 at found)
]

-- so there are at most as many items as numbers below a bound of theirs
pub few : (m : Matrix) (items : List ℕ) (n : ℕ) → AreInDueOrder m items → ((k : ℕ) → k < length items → slice_index items k < n) → length items ≤ n
few m items n rising below =
    length-le_from_distinct_below items n
    (IsDistinct-from_apart eqb items (λ i j d before within.
    ne_eqb (get_or items i d) (get_or items j d)
    (λ same. apart m items rising i j before within (sym (get_or_default_zero items i d (omega arith)) ∙ same ∙ get_or_default_zero items j d within))))
    (λ q found. below_found items n q below found)

-- one more item, behind all others
module _ (m : Matrix) (items : List ℕ) (item : ℕ) where
  abbrev longer : List ℕ
  longer = items ++ item ∷ []

  pub old_item : (k : ℕ) → k < length items → slice_index longer k ≡ slice_index items k
  old_item k below = get_or_append_left items (item ∷ []) 0 k below

  pub new_item : slice_index longer (length items) ≡ item
  new_item = get_or-append_seam items item [] 0

  pub longer_length : length longer ≡ length items + 1
  longer_length = length-append items (item ∷ [])

  -- a number of an item is an old one, or the last one
  pub place_of : (k : ℕ) → k < length longer → (k < length items) ⊎ (k ≡ length items)
  place_of k within = elim (cases_lt k (length items)) [
    | inl below ↦ inl below
    | inr past ↦ inr (omega (arith, longer_length))
  ]

  pub each_longer : (P : ℕ → Type 0) → ((k : ℕ) → k < length items → P (slice_index items k)) → P item → (k : ℕ) → k < length longer → P (slice_index longer k)
  each_longer P old last k within = elim (place_of k within) [
    | inl below ↦ subst P (sym (old_item k below)) (old k below)
    | inr same ↦ rw same (subst P (sym new_item) last)
  ]

  pub rising_longer : AreInDueOrder m items → ((k : ℕ) → k < length items → ComesBefore m (slice_index items k) item) → AreInDueOrder m longer
  rising_longer rising last k l before within = elim (place_of l within) [
    | inl below ↦ subst (λ x. ComesBefore m x (slice_index longer l)) (sym (old_item k (omega arith))) (subst (ComesBefore m (slice_index items k)) (sym (old_item l below)) (rising k l before below))
    | inr same ↦
        let below : k < length items = omega (arith, same) in
        subst (λ x. ComesBefore m x (slice_index longer l)) (sym (old_item k below)) (rw same (subst (ComesBefore m (slice_index items k)) (sym new_item) (last k below)))
  ]

  pub listed_longer : (other : ℕ) → IsListed items other → IsListed longer other
  listed_longer other h = (h.0, omega (arith, h.1, longer_length), old_item h.0 h.1 ∙ h.2)

  pub listed_last : IsListed longer item
  listed_last = (length items, omega (arith, longer_length), new_item)
