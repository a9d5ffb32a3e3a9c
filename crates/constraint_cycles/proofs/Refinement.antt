-- Orders that refine others, so decide more items.
use Rattle.std.proofs.Common.{ℕ, zero, suc, List, [], ◌∷◌, ◌≡◌, ◌≢◌, ◌<◌, ◌⊎◌, inl, inr, refl, sym, ap, ◌∙◌, Some, length, get_or, set, drop, slice_get, ◌+◌, ◌-◌, length-set, arith}
use Rattle.std.proofs.lemmas.Bool.{cases_eq, cases_lt}
use Rattle.std.proofs.lemmas.List.{get_or_past, length-drop}
use Rattle.std.proofs.lemmas.Option.{none-some, slice_get_within, slice_get-get_or, get_or_from_slice_get}
use Rattle.constraint_cycles.specs.Marks.{Refines, IsDecided}
use Rattle.constraint_cycles.specs.declared.mark.Mark.{Mark}
use Rattle.constraint_cycles.specs.declared.mark.Mark.TheVariants.{Open, First, Second}

pub marked_here : (marks : List Mark) (item : ℕ) (old new : Mark) → slice_get marks item ≡ Some old → slice_get (set marks item new) item ≡ Some new
marked_here [] item old new h = absurd (none-some old h)
marked_here (mark ∷ marks) zero old new h = refl
marked_here (mark ∷ marks) (suc item) old new h = marked_here marks item old new h

pub marked_elsewhere : (marks : List Mark) (item k : ℕ) (new : Mark) → k ≢ item → slice_get (set marks item new) k ≡ slice_get marks k
marked_elsewhere [] item k new other = refl
marked_elsewhere (mark ∷ marks) zero zero new other = absurd (other refl)
marked_elsewhere (mark ∷ marks) zero (suc k) new other = refl
marked_elsewhere (mark ∷ marks) (suc item) zero new other = refl
marked_elsewhere (mark ∷ marks) (suc item) (suc k) new other = marked_elsewhere marks item k new (λ same. other (ap suc same))

pub refined_by_decision : (marks : List Mark) (item : ℕ) (mark : Mark) → slice_get marks item ≡ Some Open → Refines marks (set marks item mark)
refined_by_decision marks item mark was_open = record {
  as_many = length-set marks item mark;
  kept = λ k kept at decided.
      let other : k ≢ item = λ same. decided (cc (rw same at at)) in
      marked_elsewhere marks item k mark other ∙ at;
}

pub decision_refined : (marks finer : List Mark) (item : ℕ) (mark : Mark) → Refines marks finer → slice_get marks item ≡ Some Open → slice_get finer item ≡ Some mark →
    Refines (set marks item mark) finer
decision_refined marks finer item mark h was_open is = record {
  as_many = h.as_many ∙ sym (length-set marks item mark);
  kept = λ k kept at decided. elim (cases_eq k item) [
    | inl same ↦ rw same (is ∙ sym (marked_here marks item Open mark was_open) ∙ rw same at at)
    | inr other ↦ h.kept k kept (sym (marked_elsewhere marks item k mark other) ∙ at) decided
  ];
}

decided_mark : (mark : Mark) → mark ≢ Open → (mark ≡ First) ⊎ (mark ≡ Second)
decided_mark Open h = absurd (h refl)
decided_mark First h = inl refl
decided_mark Second h = inr refl

-- a full order, one that decides each item, decides those that an order it refines has open
pub full_decides : (marks full : List Mark) (item : ℕ) → Refines marks full → IsDecided full → slice_get marks item ≡ Some Open →
    (slice_get full item ≡ Some First) ⊎ (slice_get full item ≡ Some Second)
full_decides marks full item h decided was_open =
    let within : item < length full = let inside = slice_get_within marks item Open was_open in omega (arith, h.as_many) in
    let is = slice_get-get_or full item Open within in
    elim (decided_mark (get_or full item Open) (decided item Open within)) [
      | inl first ↦ inl (is ∙ ap Some first)
      | inr second ↦ inr (is ∙ ap Some second)
    ]

read_kept : (finer : List Mark) (k : ℕ) (mark : Mark) → (mark ≢ Open → slice_get finer k ≡ Some mark) → (mark ≡ Open) ⊎ (get_or finer k Open ≡ mark)
read_kept finer k Open kept = inl refl
read_kept finer k First kept = inr (get_or_from_slice_get finer k First Open (kept (λ e. cc)))
read_kept finer k Second kept = inr (get_or_from_slice_get finer k Second Open (kept (λ e. cc)))

-- a mark that is read is open, or the other order's too
pub read_refined : (marks finer : List Mark) (k : ℕ) → Refines marks finer → (get_or marks k Open ≡ Open) ⊎ (get_or finer k Open ≡ get_or marks k Open)
read_refined marks finer k h = elim (cases_lt k (length marks)) [
  | inl within ↦ read_kept finer k (get_or marks k Open) (h.kept k (get_or marks k Open) (slice_get-get_or marks k Open within))
  | inr past ↦ inl (get_or_past marks k Open past)
]

pub slice_get-drop : (n : ℕ) (marks : List Mark) (k : ℕ) → slice_get (drop n marks) k ≡ slice_get marks (n + k)
slice_get-drop zero marks k = let same : k ≡ 0 + k = omega arith in ap (slice_get marks) same
slice_get-drop (suc n) [] k = refl
slice_get-drop (suc n) (mark ∷ marks) k = let later : suc (n + k) ≡ suc n + k = omega arith in slice_get-drop n marks k ∙ ap (slice_get (mark ∷ marks)) later

-- the marks from a place on refine those of the other order from there on
pub refined_past : (n : ℕ) (marks finer : List Mark) → Refines marks finer → Refines (drop n marks) (drop n finer)
refined_past n marks finer h = record {
  as_many = length-drop n finer ∙ ap (λ k. k - n) h.as_many ∙ sym (length-drop n marks);
  kept = λ k mark at decided. slice_get-drop n finer k ∙ h.kept (n + k) mark (sym (slice_get-drop n marks k) ∙ at) decided;
}

pub refined_later : (mark other : Mark) (marks finer : List Mark) → Refines (mark ∷ marks) (other ∷ finer) → Refines marks finer
refined_later mark other marks finer h = refined_past 1 (mark ∷ marks) (other ∷ finer) h
