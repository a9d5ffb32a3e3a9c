-- A table that entries filled has what the entries say, where no two name one pair.
use Rattle.std.proofs.Common.{ℕ, zero, suc, List, [], ◌∷◌, ◌≡◌, ◌≢◌, ◌<◌, ◌≤◌, ◌⊎◌, inl, inr, refl, if◌then◌else◌, ◌==◌, ap, sym, ◌∙◌, subst, length, get_or, slice_get, IsSome, Option, Some, None, arith}
use Rattle.std.specs.List.{fold, Any, AllPairs}
use Rattle.std.proofs.lemmas.Bool.Decides.{nat_tests}
use Rattle.std.proofs.lemmas.Option.{slice_get-get_or}
use Rattle.std.proofs.lemmas.List.Elements.{All-nil}
use Rattle.sig_base.specs.First.{NoneBelow}
use Rattle.sig_base.proofs.Option.{some_value}
use Rattle.sig_base.specs.declared.group_times.GroupTimes.{GroupTimes}
use Rattle.conflict_matrix.specs.declared.entry.Entry.{Entry}
use Rattle.conflict_matrix.specs.Matrix.{Matrix, IsMatrix, unlinked, cell_of, intergreen_of}
use Rattle.conflict_matrix.specs.Links.{AreLinks, IsWithin as IsWithinTable}
use Rattle.conflict_matrix.specs.Entries.{IsSamePair, SelfConflictAt, RepeatedAt, Tells, AreEntries, AreFaultless, IsTableOf}
use Rattle.conflict_matrix.specs.Filling.{cell_after, IsFilled}

cell_sound : (i j known w : ℕ) (e : Entry) → cell_after i j known e ≡ w → (known ≡ w) ⊎ Tells i j w e
cell_sound i j known w e h = grind (arith, nat_tests)

cell_complete : (i j known w : ℕ) (e : Entry) → e.a ≢ e.b → Tells i j w e → cell_after i j known e ≡ w
cell_complete i j known w e h t = grind (arith, nat_tests)

same_pair : (i j v w : ℕ) (e f : Entry) → Tells i j w e → Tells i j v f → IsSamePair e f
same_pair i j v w e f t u = grind arith

fold_sound : (i j known w : ℕ) (es : List Entry) → fold (cell_after i j) known es ≡ w → (known ≡ w) ⊎ Any (Tells i j w) es
fold_sound i j known w [] h = inl h
fold_sound i j known w (e ∷ es) h =
    elim (fold_sound i j (cell_after i j known e) w es h) [
      | inl k ↦ (elim (cell_sound i j known w e k) [ inl same ↦ inl same | inr t ↦ inr (0, e, omega arith, refl, t) ])
      | inr later ↦ inr (suc later.0, later.1, omega (arith, later.2), later.3, later.4)
    ]

-- what of each two entries, and of each one, keeps their cells apart
pub record AreApart (es : List Entry) : Type 0 where
  pub pairs : AllPairs (λ e f. ¬ IsSamePair e f) es
  pub groups : (k : ℕ) (d : Entry) → k < length es → (get_or es k d).a ≢ (get_or es k d).b

apart_later : (e : Entry) (es : List Entry) → AreApart (e ∷ es) → AreApart es
apart_later e es h = record {
  pairs = λ i j d below within. h.pairs (suc i) (suc j) d (omega arith) (omega arith);
  groups = λ k d within. h.groups (suc k) d (omega arith);
}

fold_complete : (i j known w : ℕ) (es : List Entry) → AreApart es → Any (Tells i j w) es → fold (cell_after i j) known es ≡ w
fold_complete i j known w [] h any = absurd (omega (arith, any.2))
fold_complete i j known w (e ∷ es) h (zero, x, within, is, tells) =
    let first : 0 < suc (length es) = omega arith in
    let tells_here : Tells i j w e = subst (λ (f : Entry). Tells i j w f) (sym is) tells in
    let here : cell_after i j known e ≡ w = cell_complete i j known w e (h.groups 0 e first) tells_here in
    let v = fold (cell_after i j) (cell_after i j known e) es in
    elim (fold_sound i j (cell_after i j known e) v es refl) [
      | inl same ↦ sym same ∙ here
      | inr later ↦
          let within_later : suc later.0 < suc (length es) = omega (arith, later.2) in
          let after : 0 < suc later.0 = omega arith in
          let tells_later : Tells i j v (get_or es later.0 later.1) = subst (λ (f : Entry). Tells i j v f) (sym later.3) later.4 in
          absurd (h.pairs 0 (suc later.0) later.1 after within_later (same_pair i j v w e (get_or es later.0 later.1) tells_here tells_later))
    ]
fold_complete i j known w (e ∷ es) h (suc n, x, within, is, tells) =
    fold_complete i j (cell_after i j known e) w es (apart_later e es h) (n, x, omega arith, is, tells)

pub apart_from : (es : List Entry) → NoneBelow (SelfConflictAt es) (length es) → NoneBelow (RepeatedAt es) (length es) → AreApart es
apart_from es apart once = record {
  pairs = λ i j d below within same.
      let before : i < length es = omega arith in
      once j within (rw (slice_get-get_or es j d within) (i, below, rw (slice_get-get_or es i d before) same));
  groups = λ k d within self. apart k within (rw (slice_get-get_or es k d within) self);
}

kept_cell : (c w : ℕ) → (if c == 255 then None else Some c) ≡ Some w → (c ≡ w) × (c ≢ 255)
kept_cell c w h = grind (arith, nat_tests)

conflict_cell : (c w : ℕ) → c ≡ w → w ≤ 60 → (if c == 255 then None else Some c) ≡ Some w
conflict_cell c w h k = grind (arith, nat_tests)

stands_at : (es : List Entry) (k : ℕ) (e : Entry) → k < length es → get_or es k e ≡ e → slice_get es k ≡ Some e
stands_at es k e within is = slice_get-get_or es k e within ∙ ap Some is

-- what an entry tells is bounded, and of two groups
record IsWithin (groups i j w : ℕ) : Type 0 where
  pub first : i < groups
  pub second : j < groups
  pub bounded : w ≤ 60

within_table : (groups : List GroupTimes) (es : List Entry) (i j w : ℕ) → AreEntries groups es → Any (Tells i j w) es → IsWithin (length groups) i j w
within_table groups es i j w entries any =
    let at = stands_at es any.0 any.1 any.2 any.3 in
    let named = entries.named any.0 any.1 at in
    let bounded = entries.bounded any.0 any.1 at in
    elim any.4 [
      | inl t ↦ record { first = omega (arith, t, named); second = omega (arith, t, named); bounded = omega (arith, t, bounded) }
      | inr t ↦ record { first = omega (arith, t, named); second = omega (arith, t, named); bounded = omega (arith, t, bounded) }
    ]

entry_from_intergreen : (es : List Entry) (m : Matrix) (i j w : ℕ) → IsFilled es m.cells → i < 16 → j < 16 → intergreen_of m i j ≡ Some w → Any (Tells i j w) es
entry_from_intergreen es m i j w filled first second h =
    let kept = kept_cell (cell_of m i j) w h in
    elim (fold_sound i j 255 w es (sym (filled i j first second) ∙ kept.0)) [
      | inl none ↦ absurd (kept.1 (kept.0 ∙ sym none))
      | inr any ↦ any
    ]

intergreen_from_entry : (es : List Entry) (m : Matrix) (i j w : ℕ) → IsFilled es m.cells → AreApart es → i < 16 → j < 16 → w ≤ 60 → Any (Tells i j w) es → intergreen_of m i j ≡ Some w
intergreen_from_entry es m i j w filled apart first second bounded any = conflict_cell (cell_of m i j) w (filled i j first second ∙ fold_complete i j 255 w es apart any) bounded

-- the other way of an entry
other_sense : (es : List Entry) (i j w : ℕ) → Any (Tells i j w) es → (v : ℕ) × Any (Tells j i v) es
other_sense es i j w any = elim any.4 [
  | inl t ↦ (any.1.b_to_a, (any.0, any.1, any.2, any.3, inr (t.1, t.0, refl)))
  | inr t ↦ (any.1.a_to_b, (any.0, any.1, any.2, any.3, inl (t.1, t.0, refl)))
]

two_groups : (es : List Entry) (i w : ℕ) → AreApart es → Any (Tells i i w) es → ⊥
two_groups es i w apart any =
    let differ : any.1.a ≢ any.1.b = λ same. apart.groups any.0 any.1 any.2 (rw any.3 same) in
    elim any.4 [ inl t ↦ differ (t.0 ∙ sym t.1) | inr t ↦ differ (t.1 ∙ sym t.0) ]

something : (o : Option ℕ) (w : ℕ) → o ≡ Some w → IsSome o
something o w h = rw h refl

no_links : (groups : ℕ) → AreLinks groups []
no_links groups = record {
  linkable = record { few = omega arith; within = All-nil (IsWithinTable groups) };
  apart = λ k below. absurd (omega arith);
  once = λ k below. absurd (omega arith);
}

pub table_from : (groups : List GroupTimes) (es : List Entry) (cells : List ℕ) → AreEntries groups es → AreFaultless groups es → IsFilled es cells → IsTableOf (length groups) es (unlinked (length groups) cells)
table_from groups es cells entries faultless filled = record {
  same_groups = refl;
  intergreens = λ i j w first second. (
    entry_from_intergreen es (unlinked (length groups) cells) i j w filled (omega (arith, entries.few_groups)) (omega (arith, entries.few_groups)),
    λ any. intergreen_from_entry es (unlinked (length groups) cells) i j w filled (apart_from es faultless.apart faultless.once) (omega (arith, entries.few_groups)) (omega (arith, entries.few_groups))
        (within_table groups es i j w entries any).bounded any,
  );
}

pub matrix_from : (groups : List GroupTimes) (es : List Entry) (cells : List ℕ) → AreEntries groups es → AreFaultless groups es → length cells ≡ 256 → IsFilled es cells → IsMatrix (unlinked (length groups) cells)
matrix_from groups es cells entries faultless full filled =
    let m = unlinked (length groups) cells in
    let apart = apart_from es faultless.apart faultless.once in
    record {
      few = entries.few_groups;
      full = full;
      bounded = λ i j w first second h. (within_table groups es i j w entries (entry_from_intergreen es m i j w filled first second h)).bounded;
      symmetric = λ i j first second h.
          let there = some_value (intergreen_of m i j) h in
          let back = other_sense es i j there.0 (entry_from_intergreen es m i j there.0 filled first second there.1) in
          something (intergreen_of m j i) back.0 (intergreen_from_entry es m j i back.0 filled apart second first (within_table groups es j i back.0 entries back.1).bounded back.1);
      apart = λ i first h.
          let there = some_value (intergreen_of m i i) h in
          two_groups es i there.0 apart (entry_from_intergreen es m i i there.0 filled first first there.1);
      inside = λ i j first second h.
          let there = some_value (intergreen_of m i j) h in
          let within = within_table groups es i j there.0 entries (entry_from_intergreen es m i j there.0 filled first second there.1) in
          (within.first, within.second);
      links = no_links (length groups);
    }
