-- Lists in which no two elements have one label.
use Rattle.std.proofs.Common.{ℕ, List, length, take, ◌≡◌, ◌≢◌, ◌+◌, ◌<◌, Any, AllPairs, arith, ap, sym, ◌∙◌, get_or}
use Rattle.std.proofs.lemmas.List.{get_or_default, take_more, get_or-take, length-take-le}
use Rattle.std.proofs.lemmas.List.Quantifiers.{all_pairs_push}

abbrev pub AreDistinct : {T : Type 0} → (T → List ℕ) → List T → Type 0
AreDistinct label_of items = AllPairs (λ a b. label_of a ≢ label_of b) items

-- one more element, whose label none before it has
pub distinct_more : {T : Type 0} (label_of : T → List ℕ) (label : List ℕ) (xs : List T) (i : ℕ) (x : T) → i < length xs → x ≡ get_or xs i x →
    label ≡ label_of x → AreDistinct label_of (take i xs) → ¬ Any (λ item. label_of item ≡ label) (take i xs) → AreDistinct label_of (take (i + 1) xs)
distinct_more label_of label xs i x h e own old new = rw (take_more xs i x h, ← e)
    (all_pairs_push (λ a b. label_of a ≢ label_of b) (take i xs) x old (λ k d below same.
    new (k, get_or (take i xs) k d, below, get_or_default (take i xs) k _ _ below, same ∙ sym own)))

-- no element before another has its label
pub no_earlier : {T : Type 0} (label_of : T → List ℕ) (label : List ℕ) (xs : List T) (i : ℕ) (x : T) → i < length xs → x ≡ get_or xs i x →
    label ≡ label_of x → AreDistinct label_of xs → ¬ Any (λ item. label_of item ≡ label) (take i xs)
no_earlier label_of label xs i x h e own all found =
    let short = length-take-le i xs in
    let below : found.0 < i = omega arith in
    let other : get_or xs found.0 x ≡ found.1 = get_or_default xs found.0 _ _ (omega arith) ∙ sym (get_or-take i xs found.0 found.1 below) ∙ found.3 in
    all found.0 i x below h (ap label_of other ∙ found.4 ∙ own ∙ ap label_of e)
