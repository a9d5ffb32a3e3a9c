-- Elements of lists by their places.
use Rattle.std.proofs.Common.{suc, Bool, true, false, List, [], ◌∷◌, ◌⊎◌, inl, inr, refl, arith, All, Any, ◌≡◌, zero, map, sym, subst, ℕ, take, length, Some, get_or, slice_get, ◌+◌, ◌-◌, ◌<◌, ◌∙◌, AllPairs, IsSomeAnd, ◌≢◌}
use Rattle.std.specs.Bool.{Decides}
use Rattle.std.proofs.lemmas.Bool.{false≢true, cases_order}
use Rattle.std.proofs.lemmas.List.Elements.{All-nil, All-cons}
use Rattle.std.proofs.lemmas.List.{get_or-take, length-take-le}
use Rattle.std.proofs.lemmas.Option.{slice_get_read, slice_get_within, get_or_from_slice_get, slice_get-get_or}

pub decision : (b : Bool) (P : Type 0) → Decides b P → P ⊎ ¬ P
decision true P h = inl (h.0 refl)
decision false P h = inr (λ p. false≢true (h.1 p))

pub any_first : {X : Type 0} (P : X → Type 0) (x : X) (xs : List X) → P x → Any P (x ∷ xs)
any_first P x xs holds = (zero, x, omega arith, refl, holds)

pub any_later : {X : Type 0} (P : X → Type 0) (x : X) (xs : List X) → Any P xs → Any P (x ∷ xs)
any_later P x xs (k, y, below, is, holds) = (suc k, y, omega arith, is, holds)

pub any_rest : {X : Type 0} (P : X → Type 0) (x : X) (xs : List X) → ¬ P x → Any P (x ∷ xs) → Any P xs
any_rest P x xs wrong (zero, y, below, is, holds) = absurd (wrong (subst P (sym is) holds))
any_rest P x xs wrong (suc k, y, below, is, holds) = (k, y, omega arith, is, holds)

pub any_or_all : {X : Type 0} (P Q : X → Type 0) → ((x : X) → P x ⊎ Q x) → (xs : List X) → Any P xs ⊎ All Q xs
any_or_all P Q each [] = inr (All-nil Q)
any_or_all P Q each (x ∷ xs) = elim (each x) [
  | inl p ↦ inl (0, x, omega arith, refl, p)
  | inr q ↦ elim (any_or_all P Q each xs) [
    | inl any ↦ inl (any_later P x xs any)
    | inr all ↦ inr (All-cons Q x xs q all)
  ]
]

pub none_of_all : {X : Type 0} (P : X → Type 0) (xs : List X) → All (λ x. ¬ P x) xs → ¬ Any P xs
none_of_all P xs all (k, x, inside, at, holds) = all k x inside (rw at holds)

-- what can't fail to hold of some element, where each one either has it or not
pub some_of : {X : Type 0} (P : X → Type 0) → ((x : X) → P x ⊎ ¬ P x) → (xs : List X) → ¬ ¬ Any P xs → Any P xs
some_of P each xs h = elim (any_or_all P (λ x. ¬ P x) each xs) [
  | inl any ↦ any
  | inr all ↦ absurd (h (none_of_all P xs all))
]

pub any_at : {X : Type 0} (P : X → Type 0) (xs : List X) (k : ℕ) (x : X) → slice_get xs k ≡ Some x → P x → Any P xs
any_at P xs k x found holds = (k, x, slice_get_within xs k x found, get_or_from_slice_get xs k x x found, holds)

-- an element before another
pub any_before : {X : Type 0} (P : X → Type 0) (xs : List X) (k n : ℕ) (x y : X) → n < k → slice_get xs k ≡ Some y → slice_get xs n ≡ Some x → P x →
    Any P (take (k + 1 - 1) xs)
any_before P xs k n x y before last found holds =
    let back : k + 1 - 1 ≡ k = omega arith in
    let inside : k < length xs = slice_get_within xs k y last in
    let long : length (take k xs) ≡ k = length-take-le k xs (omega arith) in
    rw back (n, x, omega (arith, long), get_or-take k xs n x before ∙ get_or_from_slice_get xs n x x found, holds)

pub all_at : {X : Type 0} (P : X → Type 0) (xs : List X) (k : ℕ) (x : X) → All P xs → slice_get xs k ≡ Some x → P x
all_at P xs k x all found = rw (get_or_from_slice_get xs k x x found) at (all k x (slice_get_within xs k x found))

pub pair_at : {X : Type 0} (R : X → X → Type 0) (xs : List X) (k l : ℕ) (x y : X) → AllPairs R xs → k < l → slice_get xs k ≡ Some x → slice_get xs l ≡ Some y → R x y
pair_at R xs k l x y pairs less first last =
    rw (get_or_from_slice_get xs k x x first, get_or_from_slice_get xs l y x last) at (pairs k l x less (slice_get_within xs l y last))

-- one label stands at one place
pub one_place : {X : Type 0} (label : X → List ℕ) (xs : List X) (k l : ℕ) (x y : X) → AllPairs (λ a b. label a ≢ label b) xs →
    slice_get xs k ≡ Some x → slice_get xs l ≡ Some y → label x ≡ label y → k ≡ l
one_place label xs k l x y distinct first last same = elim (cases_order k l) [
  | inl e ↦ e
  | inr (inl less) ↦ absurd (pair_at (λ a b. label a ≢ label b) xs k l x y distinct less first last same)
  | inr (inr more) ↦ absurd (pair_at (λ a b. label a ≢ label b) xs l k y x distinct more last first (sym same))
]

-- an element behind a mapped list
pub origin : {X Y : Type 0} (f : X → Y) (P : Y → Type 0) (xs : List X) (k : ℕ) → IsSomeAnd (slice_get (map f xs) k) P →
    (x : X) × (slice_get xs k ≡ Some x) × P (f x)
origin f P [] k h = absurd h
origin f P (x ∷ xs) zero h = (x, refl, h)
origin f P (x ∷ xs) (suc k) h = origin f P xs k h

-- a fact of each element
pub all_of_map : {X Y : Type 0} (f : X → Y) (P : Y → Type 0) (xs : List X) → ((k : ℕ) (x : X) → slice_get xs k ≡ Some x → P (f x)) → All P (map f xs)
all_of_map f P xs h k d inside =
    let b = origin f (λ y. y ≡ get_or (map f xs) k d) xs k (rw (slice_get-get_or (map f xs) k d inside) refl) in
    rw (← b.2) (h k b.0 b.1)

-- a fact of each two elements
pub pairs_of_map : {X Y : Type 0} (f : X → Y) (R : Y → Y → Type 0) (xs : List X) →
    ((i j : ℕ) (x y : X) → i < j → slice_get xs i ≡ Some x → slice_get xs j ≡ Some y → R (f x) (f y)) → AllPairs R (map f xs)
pairs_of_map f R xs h i j d less inside =
    let b = origin f (λ y. y ≡ get_or (map f xs) i d) xs i (rw (slice_get-get_or (map f xs) i d (omega arith)) refl) in
    let c = origin f (λ y. y ≡ get_or (map f xs) j d) xs j (rw (slice_get-get_or (map f xs) j d inside) refl) in
    rw (← b.2, ← c.2) (h i j b.0 c.0 less b.1 c.1)

-- what holds of the elements before a number, and of the one at it
pub before_more : {X : Type 0} (P : X → Type 0) (xs : List X) (i : ℕ) (x : X) → i < length xs → x ≡ get_or xs i x → P x →
    ((k : ℕ) (d : X) → k < i → P (get_or xs k d)) → (k : ℕ) (d : X) → k < i + 1 → P (get_or xs k d)
before_more P xs i x inside read holds before k d below = elim (cases_order k i) [
  | inl same ↦ rw (same, get_or_from_slice_get xs i x d (slice_get_read xs _ i x refl inside read)) holds
  | inr (inl less) ↦ before k d less
  | inr (inr more) ↦ absurd (omega arith)
]
