-- The members of a set by rising numbers, beside a list of as many items.
use Rattle.std.proofs.Common.{ℕ, zero, suc, List, [], ◌∷◌, ◌++◌, ◌≡◌, ◌≢◌, ◌+◌, ◌<◌, ◌≤◌, inl, inr, sym, ◌∙◌, ap, subst, refl, arith, append-nil, map}
use Rattle.std.specs.Prelude.{◌==◌}
use Rattle.std.specs.Int.{bit_at}
use Rattle.std.specs.List.{filter, range_with_len, AllZip}
use Rattle.std.proofs.lemmas.Bool.{ne_eqb}
use Rattle.std.proofs.lemmas.List.{map-append}
use Rattle.std.proofs.lemmas.List.Elements.{filter-append}
use Rattle.sig_base.specs.LaneSet.{IsIn}
use Rattle.sig_base.specs.declared.lane_set.LaneSet.{LaneSet}
use Rattle.sig_base.proofs.Bits.{one_of_set, set_of_one}
use Rattle.sig_base.proofs.Without.{decide_in}
use Rattle.bottleneck_lanes.specs.Critical.{members, members_below}

range_more : (a n : ℕ) → range_with_len a (n + 1) ≡ range_with_len a n ++ (a + n) ∷ []
range_more a zero = let same : a ≡ a + 0 = omega arith in ap (λ x. x ∷ []) same
range_more a (suc n) =
    let step : suc n + 1 ≡ suc (n + 1) = omega arith in
    let same : a + 1 + n ≡ a + suc n = omega arith in
    subst (λ m. range_with_len a m ≡ range_with_len a (suc n) ++ (a + suc n) ∷ []) (sym step)
    (ap (λ xs. a ∷ xs) (subst (λ x. range_with_len (a + 1) (n + 1) ≡ range_with_len (a + 1) n ++ x ∷ []) same (range_more (a + 1) n)))

members_split : (lanes : LaneSet) (n : ℕ) → members_below lanes (n + 1) ≡ members_below lanes n ++ filter (λ k. bit_at lanes.bits k == 1) (n ∷ [])
members_split lanes n =
    let p = λ (k : ℕ). bit_at lanes.bits k == 1 in
    let here : 0 + n ≡ n = omega arith in
    let more = subst (λ x. range_with_len 0 (n + 1) ≡ range_with_len 0 n ++ x ∷ []) here (range_more 0 n) in
    ap (filter p) more ∙ filter-append p (range_with_len 0 n) (n ∷ [])

one_of : (lanes : LaneSet) (n : ℕ) → IsIn lanes n → filter (λ k. bit_at lanes.bits k == 1) (n ∷ []) ≡ n ∷ []
one_of lanes n is = let one = one_of_set lanes.bits n is in rw one refl

none_of : (lanes : LaneSet) (n : ℕ) → ¬ IsIn lanes n → filter (λ k. bit_at lanes.bits k == 1) (n ∷ []) ≡ []
none_of lanes n not = let other : bit_at lanes.bits n ≢ 1 = λ one. not (set_of_one lanes.bits n one) in rw (ne_eqb (bit_at lanes.bits n) 1 other) refl

-- one number more, which is in the set or not
pub members_with : (lanes : LaneSet) (n : ℕ) → IsIn lanes n → members_below lanes (n + 1) ≡ members_below lanes n ++ n ∷ []
members_with lanes n is = members_split lanes n ∙ ap (λ xs. members_below lanes n ++ xs) (one_of lanes n is)

pub members_same : (lanes : LaneSet) (n : ℕ) → ¬ IsIn lanes n → members_below lanes (n + 1) ≡ members_below lanes n
members_same lanes n not = members_split lanes n ∙ ap (λ xs. members_below lanes n ++ xs) (none_of lanes n not) ∙ append-nil (members_below lanes n)

-- numbers from n on that aren't in the set
pub members_rest : (lanes : LaneSet) (n d : ℕ) → ((k : ℕ) → n ≤ k → ¬ IsIn lanes k) → members_below lanes (n + d) ≡ members_below lanes n
members_rest lanes n zero none = let same : n + 0 ≡ n = omega arith in ap (members_below lanes) same
members_rest lanes n (suc d) none =
    let same : n + suc d ≡ n + d + 1 = omega arith in
    ap (members_below lanes) same ∙ members_same lanes (n + d) (none (n + d) (omega arith)) ∙ members_rest lanes n d none

-- two sets with the same members below n
pub members_alike : (lanes other : LaneSet) (n : ℕ) → ((k : ℕ) → k < n → (IsIn lanes k → IsIn other k) × (IsIn other k → IsIn lanes k)) → members_below lanes n ≡ members_below other n
members_alike lanes other zero same = refl
members_alike lanes other (suc n) same =
    let rest = members_alike lanes other n (λ k below. same k (omega (arith, below))) in
    let more : suc n ≡ n + 1 = omega arith in
    let here = same n (omega arith) in
    let both : members_below lanes (n + 1) ≡ members_below other (n + 1) = elim (decide_in lanes n) [
      | inl is ↦ members_with lanes n is ∙ ap (λ xs. xs ++ n ∷ []) rest ∙ sym (members_with other n (here.0 is))
      | inr not ↦ members_same lanes n not ∙ rest ∙ sym (members_same other n (λ is. not (here.1 is)))
    ] in
    subst (λ m. members_below lanes m ≡ members_below other m) (sym more) both

-- a list beside the members, of one relation and of a weaker one
pub zip_push : {B : Type 0} (R : ℕ → B → Type 0) (xs : List ℕ) (ys : List B) (x : ℕ) (y : B) → AllZip R xs ys → R x y → AllZip R (xs ++ x ∷ []) (ys ++ y ∷ [])
zip_push R [] [] x y each own = (own, tt)
zip_push R [] (b ∷ ys) x y each own = absurd each
zip_push R (a ∷ xs) [] x y each own = absurd each
zip_push R (a ∷ xs) (b ∷ ys) x y each own = (each.0, zip_push R xs ys x y each.1 own)

pub zip_weaker : {B : Type 0} (R S : ℕ → B → Type 0) (xs : List ℕ) (ys : List B) → ((x : ℕ) (y : B) → R x y → S x y) → AllZip R xs ys → AllZip S xs ys
zip_weaker R S [] [] follows each = tt
zip_weaker R S [] (b ∷ ys) follows each = absurd each
zip_weaker R S (a ∷ xs) [] follows each = absurd each
zip_weaker R S (a ∷ xs) (b ∷ ys) follows each = (follows a b each.0, zip_weaker R S xs ys follows each.1)

-- all 32 numbers
pub members_all : (lanes : LaneSet) (n : ℕ) → n ≡ 32 → members lanes ≡ members_below lanes n
unfolding members
members_all lanes n all = ap (members_below lanes) (sym all)

-- two lists that give the same, with an item more each
pub listed_more : {A B C : Type 0} (f : A → C) (g : B → C) (xs : List A) (ys : List B) (x : A) (y : B) → map f xs ≡ map g ys → f x ≡ g y → map f (xs ++ x ∷ []) ≡ map g (ys ++ y ∷ [])
listed_more f g xs ys x y same own = rw (map-append f xs (x ∷ []), map-append g ys (y ∷ []), same, own) refl
