-- The items of a list with one more at its end.
use Rattle.std.proofs.Common.{ℕ, zero, suc, List, [], ◌∷◌, ◌++◌, ◌≡◌, ◌⊎◌, Some, inl, inr, refl, ap, length, slice_get}
use Rattle.std.proofs.lemmas.Option.{none-some, same_Some}

pub slice_push : {X : Type 0} (xs : List X) (x y : X) (k : ℕ) → slice_get (xs ++ x ∷ []) k ≡ Some y →
    (slice_get xs k ≡ Some y) ⊎ ((k ≡ length xs) × (x ≡ y))
slice_push [] x y zero at = inr (refl, same_Some x y at)
slice_push [] x y (suc k) at = absurd (none-some y at)
slice_push (a ∷ xs) x y zero at = inl at
slice_push (a ∷ xs) x y (suc k) at = elim (slice_push xs x y k at) [
  | inl before ↦ inl before
  | inr last ↦ inr (ap suc last.0, last.1)
]
