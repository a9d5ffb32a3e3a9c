-- The table of the drawn conflicts has no fault, and keeps the rules of a junction.
use Rattle.std.proofs.Common.{ℕ, List, Option, None, Some, IfSome, IsSomeAnd, map, length, slice_get, option_map, All, Any, ◌≡◌, ◌≤◌, ◌<◌, ◌+◌, ◌-◌, inl, inr, refl, sym, ap, ◌∙◌, subst, arith}
use Rattle.std.proofs.lemmas.Bool.{cases_lt}
use Rattle.std.proofs.lemmas.List.{length-map}
use Rattle.std.proofs.lemmas.List.Elements.{All-map}
use Rattle.std.proofs.lemmas.Option.{slice_get-map, slice_get-get_or, slice_get_within, get_or_from_slice_get}
use Rattle.sig_base.specs.First.{SomeBelow}
use Rattle.sig_base.specs.declared.group_times.GroupTimes.{GroupTimes}
use Rattle.sig_base.proofs.Option.{some_and}
use Rattle.conflict_matrix.specs.Matrix.{Matrix, IsMatrix, AreConflicting, intergreen_of}
use Rattle.conflict_matrix.specs.Entries.{AreEntries, IsFirstFault, IsTableOf, IsSelfConflict, IsSamePair, Involves, IsTooShort, HasShortWay, Tells, SelfConflictAt, RepeatedAt, ShortAt}
use Rattle.conflict_matrix.specs.declared.entry.Entry.{Entry}
use Rattle.conflict_matrix.specs.declared.fault.ConflictFault.{ConflictFault}
use Rattle.conflict_matrix.specs.declared.fault.ConflictFault.TheVariants.{SelfConflict, Twice, Lonely, ShortIntergreen}
use Rattle.junction_model.specs.declared.group.Group.{Group}
use Rattle.junction_model.specs.Rules.{AreConflicts, IsLongEnough}
use Rattle.sample_junctions.specs.Parts.{AreGroupsOfSample}
use Rattle.sample_junctions.specs.Conflicts.{all_pairs, drawn_conflicts}
use Rattle.sample_junctions.proofs.Rising.{AreRising, all_pairs_rise, all_pairs_have, all_pairs_few, rising_at, rising_apart}
use Rattle.sample_junctions.proofs.Drawn.{pair_of, IsDrawn, IsOfNext, all_drawn, drawn_rise, drawn_few, drawn_next}

if_some : {X : Type 0} (o : Option X) (P : X → Type 0) → ((x : X) → o ≡ Some x → P x) → IfSome o P
if_some None P h = tt
if_some (Some x) P h = h x refl

at : {X : Type 0} (P : X → Type 0) (xs : List X) (k : ℕ) (x : X) → All P xs → slice_get xs k ≡ Some x → P x
at P xs k x all found = subst P (get_or_from_slice_get xs k x x found) (all k x (slice_get_within xs k x found))

module _ (x n : ℕ) (several : 2 ≤ n) (few : n ≤ 16) where
  abbrev es : List Entry
  es = drawn_conflicts x (all_pairs n)

  rise : AreRising n 0 (map pair_of es)
  rise = drawn_rise n 0 x (all_pairs n) (all_pairs_rise n few)

  pair_at : (k : ℕ) (e : Entry) → slice_get es k ≡ Some e → slice_get (map pair_of es) k ≡ Some (pair_of e)
  pair_at k e found = slice_get-map pair_of es k ∙ ap (option_map pair_of) found

  lower : (k : ℕ) (e : Entry) → slice_get es k ≡ Some e → (e.a < e.b) × (e.b < n)
  lower k e found = let r = rising_at n 0 (map pair_of es) rise k (pair_of e) (pair_at k e found) in (r.1, r.2)

  drawn : (k : ℕ) (e : Entry) → slice_get es k ≡ Some e → IsDrawn e
  drawn k e found = at IsDrawn es k e (all_drawn x (all_pairs n)) found

  next : (i : ℕ) → i + 1 < n → Any (IsOfNext i) es
  next i below = drawn_next x i (all_pairs n) (all_pairs_have n i below)

  pub are_entries : (times : List GroupTimes) → length times ≡ n → AreEntries times es
  are_entries times size = record {
    few_groups = rw size (several, few);
    few_entries = omega (arith, drawn_few x (all_pairs n), all_pairs_few n few);
    named = λ k e found. let l = lower k e found in rw size (omega (arith, l), l.1);
    bounded = λ k e found. let d = drawn k e found in (omega (arith, d.a_to_b), omega (arith, d.b_to_a));
  }

  not_self : (k : ℕ) → ¬ SelfConflictAt es k
  not_self k self =
      let s = some_and (slice_get es k) IsSelfConflict self in
      omega (arith, lower k s.0 s.1, s.2)

  not_twice : (k : ℕ) → ¬ RepeatedAt es k
  not_twice k repeated =
      let s = some_and (slice_get es k) (λ e. SomeBelow (λ m. IsSomeAnd (slice_get es m) (λ earlier. IsSamePair earlier e)) k) repeated in
      let t = some_and (slice_get es s.2.0) (λ earlier. IsSamePair earlier s.0) s.2.2 in
      let apart = rising_apart n 0 (map pair_of es) rise s.2.0 k (pair_of t.0) (pair_of s.0) s.2.1 (pair_at s.2.0 t.0 t.1) (pair_at k s.0 s.1) in
      let first = lower s.2.0 t.0 t.1 in
      let last = lower k s.0 s.1 in
      elim t.2 [
        | inl same ↦ omega (arith, apart, same)
        | inr crossed ↦ omega (arith, first, last, crossed)
      ]

  involved : (i : ℕ) → i < n → Any (Involves i) es
  involved i below = elim (cases_lt (i + 1) n) [
    | inl more ↦ let f = next i more in (f.0, f.1, f.2, f.3, inl f.4.0)
    | inr last ↦ let f = next (i - 1) (omega arith) in (f.0, f.1, f.2, f.3, inr (omega (arith, f.4.1)))
  ]

  module _ (groups : List Group) (of_sample : AreGroupsOfSample n groups) where
    abbrev times : List GroupTimes
    times = map (λ (group : Group). group.times) groups

    pub times_size : length times ≡ n
    times_size = length-map groups (λ (group : Group). group.times) ∙ of_sample.as_many

    amber : All (λ (t : GroupTimes). t.amber ≡ 3) times
    amber = All-map (λ (t : GroupTimes). t.amber ≡ 3) (λ (group : Group). group.times) groups of_sample.amber

    red_amber : All (λ (t : GroupTimes). t.red_amber ≡ 2) times
    red_amber = All-map (λ (t : GroupTimes). t.red_amber ≡ 2) (λ (group : Group). group.times) groups of_sample.red_amber

    not_too_short : (i j w : ℕ) → 5 ≤ w → ¬ IsTooShort times i j w
    not_too_short i j w long (inl short) =
        let s = some_and (slice_get times i) (λ t. w < t.amber) short in
        omega (arith, s.2, at (λ (t : GroupTimes). t.amber ≡ 3) times i s.0 amber s.1)
    not_too_short i j w long (inr short) =
        let s = some_and (slice_get times j) (λ t. w < t.red_amber) short in
        omega (arith, s.2, at (λ (t : GroupTimes). t.red_amber ≡ 2) times j s.0 red_amber s.1)

    not_short : (k : ℕ) → ¬ ShortAt times es k
    not_short k short =
        let s = some_and (slice_get es k) (HasShortWay times) short in
        let d = drawn k s.0 s.1 in
        elim s.2 [
          | inl a_to_b ↦ not_too_short s.0.a s.0.b s.0.a_to_b d.a_to_b.0 a_to_b
          | inr b_to_a ↦ not_too_short s.0.b s.0.a s.0.b_to_a d.b_to_a.0 b_to_a
        ]

    pub no_fault : (f : ConflictFault) → ¬ IsFirstFault times es f
    no_fault (SelfConflict k) first = not_self k first.holds
    no_fault (Twice k) first = not_twice k first.1.holds
    no_fault (Lonely g) first = first.2.holds (involved g (rw times_size at first.2.within))
    no_fault (ShortIntergreen k way) first = not_short k first.3.holds

    module _ (m : Matrix) (matrix : IsMatrix m) (table : IsTableOf n es m) where
      conflict : (i j w : ℕ) → i < n → j < n → Any (Tells i j w) es → AreConflicting m i j
      conflict i j w in_i in_j tells = rw ((table.intergreens i j w in_i in_j).1 tells) refl

      next_conflict : (i : ℕ) → i + 1 < n → AreConflicting m i (i + 1)
      next_conflict i below =
          let f = next i below in
          conflict i (i + 1) f.1.a_to_b (omega arith) below (f.0, f.1, f.2, f.3, inl (f.4.0, f.4.1, refl))

      partner : (i : ℕ) → i < n → SomeBelow (AreConflicting m i) n
      partner i below = elim (cases_lt (i + 1) n) [
        | inl more ↦ (i + 1, more, next_conflict i more)
        | inr last ↦
            let back : (i - 1) + 1 ≡ i = omega arith in
            (i - 1, omega arith, matrix.symmetric (i - 1) i (omega arith) (omega arith) (rw back at (next_conflict (i - 1) (omega arith))))
      ]

      long : (i j w : ℕ) → i < n → j < n → intergreen_of m i j ≡ Some w → 5 ≤ w
      long i j w in_i in_j found =
          let t = (table.intergreens i j w in_i in_j).0 found in
          let d = drawn t.0 t.1 (slice_get-get_or es t.0 t.1 t.2 ∙ ap Some t.3) in
          elim t.4 [
            | inl forth ↦ omega (arith, forth.2, d.a_to_b)
            | inr back ↦ omega (arith, back.2, d.b_to_a)
          ]

      enough : (i j w : ℕ) (from to : Group) → slice_get groups i ≡ Some from → slice_get groups j ≡ Some to → 5 ≤ w → IsLongEnough from to w
      enough i j w from to at_i at_j least = record {
        amber = omega (arith, least, at (λ (group : Group). group.times.amber ≡ 3) groups i from of_sample.amber at_i);
        red_amber = omega (arith, least, at (λ (group : Group). group.times.red_amber ≡ 2) groups j to of_sample.red_amber at_j);
      }

      pub are_conflicts : AreConflicts groups m
      are_conflicts = record {
        table = matrix;
        same_groups = table.same_groups ∙ sym of_sample.as_many;
        partnered = λ i below. rw table.same_groups (partner i (rw table.same_groups at below));
        long_enough = λ i in_i j in_j. if_some (intergreen_of m i j)
            (λ w. IfSome (slice_get groups i) (λ from. IfSome (slice_get groups j) (λ to. IsLongEnough from to w)))
            (λ w found. if_some (slice_get groups i) (λ from. IfSome (slice_get groups j) (λ to. IsLongEnough from to w))
            (λ from at_i. if_some (slice_get groups j) (λ to. IsLongEnough from to w)
            (λ to at_j. enough i j w from to at_i at_j (long i j w (rw of_sample.as_many at in_i) (rw of_sample.as_many at in_j) found))));
      }
