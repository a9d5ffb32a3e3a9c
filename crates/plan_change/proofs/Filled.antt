-- Records that a loop fills, and the greatest of numbers that it passes.
use Rattle.std.proofs.Common.{ℕ, suc, List, max, length, set, ◌≡◌, ◌≢◌, ◌<◌, ◌+◌, inl, inr, refl, ap, arith, get_or-set_same, get_or-set_other, length-set}
use Rattle.std.proofs.lemmas.Bool.{cases_lt}
use Rattle.plan_change.specs.declared.head.Head.{Head}
use Rattle.plan_change.specs.Heads.{head_at}
use Rattle.plan_change.specs.Schedule.{greatest}

pub record IsFilled (F : ℕ → Head) (i : ℕ) (heads : List Head) : Type 0 where
  pub room : length heads ≡ 16
  pub filled : (k : ℕ) → k < i → head_at heads k ≡ F k

pub filled_more : (F : ℕ → Head) (i : ℕ) (heads : List Head) (head : Head) → i < 16 → IsFilled F i heads → head ≡ F i → IsFilled F (i + 1) (set heads i head)
filled_more F i heads head few is own = record {
  room = omega (arith, length-set heads i head, is.room);
  filled = λ k h. elim (cases_lt k i) [
    | inl below ↦ let other : k ≢ i = omega arith in rw get_or-set_other (is.filled k below)
    | inr last ↦
        let same : k ≡ i = omega arith in
        let inside : i < length heads = omega (arith, is.room) in
        rw (same, get_or-set_same) own
  ];
}

pub greatest_more : (k : ℕ) (f : ℕ → ℕ) → greatest (k + 1) f ≡ max (f k) (greatest k f)
unfolding greatest
greatest_more k f = let next : k + 1 ≡ suc k = omega arith in ap (λ n. greatest n f) next

pub greatest_none : (f : ℕ → ℕ) → greatest 0 f ≡ 0
unfolding greatest
greatest_none f = refl
