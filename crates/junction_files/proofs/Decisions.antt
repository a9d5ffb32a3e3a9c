-- Facts that stand or don't, and how they are put together.
use Rattle.std.proofs.Common.{ℕ, ℤ, pos, negsuc, Bool, true, false, List, Option, None, Some, IsSomeAnd, All, Any, ◌≡◌, ◌⊎◌, ◌≤◌, ◌<ℤ◌, ◌≤ℤ◌, inl, inr, refl, ap, sym, arith, length}
use Rattle.std.proofs.lemmas.Bool.{false≢true, cases_eq, cases_lt}
use Rattle.std.proofs.lemmas.Bool.Decides.{Decides-int_eq}
use Rattle.std.proofs.lemmas.Int.{ints}
use Rattle.std.proofs.lemmas.Option.{same_Some, none-some}
use Rattle.std.proofs.lemmas.Slice.Eq.{bytes_eq-Decides}
use Rattle.std.specs.Ordering.{int_eq}
use Rattle.std.specs.Str.{bytes_eq}
use Rattle.sig_base.specs.Text.{IsBetween, IsLabel, IsLabelByte, IsTitle}
use Rattle.junction_files.proofs.Elements.{decision, any_or_all, none_of_all}

abbrev pub Decided : Type 0 → Type 0
Decided P = P ⊎ ¬ P

pub stable : {P : Type 0} → Decided P → ¬ ¬ P → P
stable (inl holds) twice = holds
stable (inr wrong) twice = absurd (twice wrong)

pub never : Decided ⊥
never = inr (λ wrong. wrong)

pub fails : {P : Type 0} → Decided P → Decided (¬ P)
fails (inl holds) = inr (λ not. not holds)
fails (inr wrong) = inl wrong

pub both : {P Q : Type 0} → Decided P → Decided Q → Decided (P × Q)
both (inl p) (inl q) = inl (p, q)
both (inl p) (inr wrong) = inr (λ each. wrong each.1)
both (inr wrong) q = inr (λ each. wrong each.0)

pub either : {P Q : Type 0} → Decided P → Decided Q → Decided (P ⊎ Q)
either (inl p) q = inl (inl p)
either (inr wrong) (inl q) = inl (inr q)
either (inr wrong) (inr untrue) = inr (λ one. elim one [ inl p ↦ wrong p | inr q ↦ untrue q ])

pub of_some : {A : Type 0} (o : Option A) (P : A → Type 0) → ((x : A) → Decided (P x)) → Decided (IsSomeAnd o P)
of_some None P each = never
of_some (Some x) P each = each x

pub of_any : {X : Type 0} (P : X → Type 0) → ((x : X) → Decided (P x)) → (xs : List X) → Decided (Any P xs)
of_any P each xs = elim (any_or_all P (λ x. ¬ P x) each xs) [
  | inl any ↦ inl any
  | inr none ↦ inr (none_of_all P xs none)
]

pub of_all : {X : Type 0} (P : X → Type 0) → ((x : X) → Decided (P x)) → (xs : List X) → Decided (All P xs)
of_all P each xs = elim (any_or_all (λ x. ¬ P x) P (λ x. elim (each x) [ inl holds ↦ inr holds | inr wrong ↦ inl wrong ]) xs) [
  | inl (k, x, inside, at, fault) ↦ inr (λ all. fault (rw at at (all k x inside)))
  | inr all ↦ inl all
]

pub is_true : (b : Bool) → Decided (b ≡ true)
is_true true = inl refl
is_true false = inr (λ same. false≢true same)

pub is_none : {A : Type 0} (o : Option A) → Decided (o ≡ None)
is_none None = inl refl
is_none (Some x) = inr (λ same. none-some x (sym same))

pub at_most : (m n : ℕ) → Decided (m ≤ n)
at_most m n = elim (cases_lt n m) [ inl less ↦ inr (λ most. omega arith) | inr most ↦ inl most ]

pub is_text : (o : Option (List ℕ)) (name : List ℕ) → Decided (o ≡ Some name)
is_text None name = inr (λ e. none-some name e)
is_text (Some t) name = elim (decision (bytes_eq t name) (t ≡ name) (bytes_eq-Decides t name)) [
  | inl same ↦ inl (ap Some same)
  | inr other ↦ inr (λ e. other (same_Some t name e))
]

pub is_whole : (o : Option ℤ) (z : ℤ) → Decided (o ≡ Some z)
is_whole None z = inr (λ e. none-some z e)
is_whole (Some y) z = elim (decision (int_eq y z) (y ≡ z) (Decides-int_eq y z)) [
  | inl same ↦ inl (ap Some same)
  | inr other ↦ inr (λ e. other (same_Some y z e))
]

pub is_below : (y z : ℤ) → Decided (y <ℤ z)
is_below (pos m) (pos n) = elim (cases_lt m n) [ inl less ↦ inl (omega (arith, ints)) | inr most ↦ inr (λ below. omega (arith, ints)) ]
is_below (pos m) (negsuc n) = inr (λ below. omega (arith, ints))
is_below (negsuc m) (pos n) = inl (omega (arith, ints))
is_below (negsuc m) (negsuc n) = elim (cases_lt n m) [ inl less ↦ inl (omega (arith, ints)) | inr most ↦ inr (λ below. omega (arith, ints)) ]

pub is_at_most : (y z : ℤ) → Decided (y ≤ℤ z)
is_at_most (pos m) (pos n) = elim (cases_lt n m) [ inl less ↦ inr (λ most. omega (arith, ints)) | inr most ↦ inl (omega (arith, ints)) ]
is_at_most (pos m) (negsuc n) = inr (λ most. omega (arith, ints))
is_at_most (negsuc m) (pos n) = inl (omega (arith, ints))
is_at_most (negsuc m) (negsuc n) = elim (cases_lt m n) [ inl less ↦ inr (λ most. omega (arith, ints)) | inr most ↦ inl (omega (arith, ints)) ]

pub is_between : (low high n : ℕ) → Decided (IsBetween low high n)
is_between low high n = both (at_most low n) (at_most n high)

is_label_byte : (byte : ℕ) → Decided (IsLabelByte byte)
is_label_byte byte = either (is_between 65 90 byte) (either (is_between 97 122 byte) (either (is_between 48 57 byte) (either (cases_eq byte 95) (cases_eq byte 45))))

pub is_label : (bytes : List ℕ) → Decided (IsLabel bytes)
is_label bytes = elim (both (at_most 1 (length bytes)) (both (at_most (length bytes) 16) (of_all IsLabelByte is_label_byte bytes))) [
  | inl kept ↦ inl (record { nonempty = kept.0; short = kept.1.0; plain = kept.1.1 })
  | inr wrong ↦ inr (λ label. wrong (label.nonempty, (label.short, label.plain)))
]

pub is_title : (bytes : List ℕ) → Decided (IsTitle bytes)
is_title bytes = elim (both (at_most 1 (length bytes)) (both (at_most (length bytes) 60) (of_all (IsBetween 32 126) (is_between 32 126) bytes))) [
  | inl kept ↦ inl (record { nonempty = kept.0; short = kept.1.0; plain = kept.1.1 })
  | inr wrong ↦ inr (λ title. wrong (title.nonempty, (title.short, title.plain)))
]
