-- No fault stands at a printed conflict.
use Rattle.std.proofs.Common.{ℕ, Option, Some, IfSome, length, slice_get, ◌≡◌, ◌<◌, ◌≤◌, refl, pos, List, IsSomeAnd, ◌+◌, ◌<ℤ◌, inl, inr, sym, ap, subst, ◌∙◌, arith}
use Rattle.conflict_matrix.specs.Matrix.{Matrix, IsMatrix, AreConflicting, intergreen_of}
use Rattle.junction_model.specs.Junction.{JunctionView}
use Rattle.junction_model.specs.Rules.{IsLongEnough, AreConflicts, IsJunction}
use Rattle.junction_model.specs.declared.group.Group.{Group}
use Rattle.junction_files.specs.Printing.{printed_version, seconds_between, label_at, group_members, conflict_members}
use Rattle.std.proofs.lemmas.Int.{ints}
use Rattle.std.proofs.lemmas.Option.{same_Some, none-some}
use Rattle.toml.specs.Data.{Data, table}
use Rattle.conflict_matrix.specs.Pairs.{pairs_of}
use Rattle.junction_files.specs.Document.{words_in, whole_in}
use Rattle.junction_files.specs.Faults.{IsNamed, HasMore, IsTooShort, NamesGroups, IsWrong, ShapeFault, RangeFault, UnknownFault, SelfConflictFault, TwiceFault, ShortIntergreenFault}
use Rattle.junction_files.specs.declared.document.Version.{Version}
use Rattle.junction_files.specs.declared.faults.Kind.{Kind}
use Rattle.junction_files.specs.declared.faults.Key.{Key}
use Rattle.junction_files.proofs.PrintedDocument.{same_version, whole_at, HasGroup, has_group, group_label, document_of, group_list, conflict_list, origin_before, any_origin}
use Rattle.junction_files.proofs.PrintedNames.{no_other_word, in_bounds, group_here, label_here, label_names_group, same_group}
use Rattle.conflict_matrix.proofs.PairNumbers.{pair_at, rising_pairs_law}
use Rattle.conflict_matrix.proofs.PairOrder.{IsBefore}
use Rattle.junction_files.proofs.Elements.{one_place}
use Rattle.junction_files.specs.declared.faults.Kind.TheVariants as kind
use Rattle.junction_files.specs.declared.faults.Part.TheVariants as part
use Rattle.junction_files.specs.declared.faults.Key.TheVariants as key
use Rattle.sig_base.proofs.Option.{some_or}

pub intergreen_seconds : (m : Matrix) (i j : ℕ) → AreConflicting m i j → intergreen_of m i j ≡ Some (seconds_between m i j)
intergreen_seconds m i j conflicting = some_or (intergreen_of m i j) 0 conflicting

enough : (o : Option ℕ) (a b : Option Group) (w : ℕ) (from to : Group) → o ≡ Some w → a ≡ Some from → b ≡ Some to →
    IfSome o (λ v. IfSome a (λ g. IfSome b (λ h. IsLongEnough g h v))) → IsLongEnough from to w
enough o a b w from to e f g h = rw (e, f, g) at h

pub long_enough : (j : JunctionView) → AreConflicts j.groups j.conflicts → (i k : ℕ) (from to : Group) → i < length j.groups → k < length j.groups →
    AreConflicting j.conflicts i k → slice_get j.groups i ≡ Some from → slice_get j.groups k ≡ Some to → IsLongEnough from to (seconds_between j.conflicts i k)
long_enough j rules i k from to first last conflicting at_i at_k =
    enough (intergreen_of j.conflicts i k) (slice_get j.groups i) (slice_get j.groups k) (seconds_between j.conflicts i k) from to
    (intergreen_seconds j.conflicts i k conflicting) at_i at_k (rules.long_enough i first k last)

pub few_seconds : (m : Matrix) → IsMatrix m → (i j : ℕ) → i < 16 → j < 16 → AreConflicting m i j → seconds_between m i j ≤ 60
few_seconds m matrix i j first last conflicting = matrix.bounded i j (seconds_between m i j) first last (intergreen_seconds m i j conflicting)

shape : (v : Version) (groups : List Group) (m : Matrix) (p : ℕ × ℕ) (at : Key) → ¬ ShapeFault v part.Conflict (table (conflict_members groups m p)) at
shape v groups m p key.Whole wrong = none-some _ (sym wrong)
shape v groups m p key.Other wrong = no_other_word part.Conflict v (words_in (conflict_members groups m p)) refl wrong
shape v groups m p key.A wrong = wrong.1 refl
shape v groups m p key.B wrong = wrong.1 refl
shape v groups m p key.AToB wrong = wrong.1 refl
shape v groups m p key.BToA wrong = wrong.1 refl
shape v groups m p _ wrong = wrong.1

-- a pair of the junction: its two groups conflict in both senses
pub record IsPrintedPair (j : JunctionView) (p : ℕ × ℕ) : Type 0 where
  pub rising : p.0 < p.1
  pub a : p.0 < length j.groups
  pub b : p.1 < length j.groups
  pub few : p.1 < 16
  pub a_to_b : AreConflicting j.conflicts p.0 p.1
  pub b_to_a : AreConflicting j.conflicts p.1 p.0

pub pair_here : (j : JunctionView) → IsJunction j → (k : ℕ) (p : ℕ × ℕ) → slice_get (pairs_of j.conflicts) k ≡ Some p → IsPrintedPair j p
pair_here j facts k p found =
    let pair = pair_at j.conflicts k p found in
    let below : p.1 < length j.groups = rw facts.conflicts.same_groups at pair.within in
    let less = pair.rising in
    let few = facts.groups.few in
    record {
      rising = less;
      a = omega arith;
      b = below;
      few = omega arith;
      a_to_b = pair.conflicting;
      b_to_a = facts.conflicts.table.symmetric p.0 p.1 (omega arith) (omega arith) pair.conflicting;
    }

range : (j : JunctionView) → IsJunction j → (p : ℕ × ℕ) → IsPrintedPair j p → (at : Key) →
    ¬ RangeFault (document_of j) part.Conflict (table (conflict_members j.groups j.conflicts p)) at
range j facts p pair key.AToB wrong =
    let less = pair.rising in let few = pair.few in
    in_bounds (seconds_between j.conflicts p.0 p.1) 0 60 (omega arith) (few_seconds j.conflicts facts.conflicts.table p.0 p.1 (omega arith) few pair.a_to_b) wrong
range j facts p pair key.BToA wrong =
    let less = pair.rising in let few = pair.few in
    in_bounds (seconds_between j.conflicts p.1 p.0) 0 60 (omega arith) (few_seconds j.conflicts facts.conflicts.table p.1 p.0 few (omega arith) pair.b_to_a) wrong
range j facts p pair _ wrong = wrong

reference : (j : JunctionView) (p : ℕ × ℕ) → IsPrintedPair j p → (at : Key) →
    ¬ UnknownFault (document_of j) part.Conflict (table (conflict_members j.groups j.conflicts p)) at
reference j p pair key.A wrong = wrong (label_names_group j p.0 pair.a)
reference j p pair key.B wrong = wrong (label_names_group j p.1 pair.b)
reference j p pair _ wrong = wrong

self : (j : JunctionView) → IsJunction j → (p : ℕ × ℕ) → IsPrintedPair j p → (at : Key) →
    ¬ SelfConflictFault part.Conflict (table (conflict_members j.groups j.conflicts p)) at
self j facts p pair key.Whole wrong =
    let same = same_group j facts p.1 p.0 pair.b pair.a (same_Some _ _ wrong) in
    let less = pair.rising in omega arith
self j facts p pair _ wrong = wrong

not_before : (p q : ℕ × ℕ) → p.0 ≡ q.0 → p.1 ≡ q.1 → ¬ IsBefore p q
not_before p q first last (inl less) = omega arith
not_before p q first last (inr row) = let less = row.1 in omega arith

twice : (j : JunctionView) → IsJunction j → (k : ℕ) (p : ℕ × ℕ) → slice_get (pairs_of j.conflicts) k ≡ Some p → IsPrintedPair j p → (at : Key) →
    ¬ TwiceFault (document_of j) part.Conflict (k + 1) (table (conflict_members j.groups j.conflicts p)) at
twice j facts k p found pair key.Whole wrong =
    let before = origin_before (conflict_members j.groups j.conflicts) (NamesGroups key.A key.B (label_at j.groups p.0) (label_at j.groups p.1))
    (pairs_of j.conflicts) k (rw conflict_list at wrong) in
    let q = before.1 in
    let other = pair_here j facts before.0 q before.3 in
    let same = same_group j facts in
    elim before.4 [
      | inl (a, b) ↦ not_before q p (same q.0 p.0 other.a pair.a (same_Some _ _ a)) (same q.1 p.1 other.b pair.b (same_Some _ _ b))
          (rising_pairs_law j.conflicts before.0 k q p before.3 found before.2)
      | inr (a, b) ↦
          let first = same q.0 p.1 other.a pair.b (same_Some _ _ a) in
          let last = same q.1 p.0 other.b pair.a (same_Some _ _ b) in
          let less = pair.rising in let more = other.rising in omega arith
    ]
twice j facts k p found pair _ wrong = wrong

not_more : (j : JunctionView) → IsJunction j → (i : ℕ) (g : Group) → slice_get j.groups i ≡ Some g → (at : Key) (field : Group → ℕ) →
    ((d : Data) (h : Group) → HasGroup d h → whole_in d at ≡ Some (pos (field h))) → (w : ℕ) → field g ≤ w →
    ¬ HasMore (document_of j) (Some (label_at j.groups i)) at (pos w)
not_more j facts i g found at field whole w enough more =
    let v = printed_version j in
    let any = any_origin (group_members v) (λ d. IsNamed (label_at j.groups i) d × IsSomeAnd (whole_in d at) (λ z. pos w <ℤ z)) j.groups (rw group_list at more) in
    let same : any.0 ≡ i = one_place (λ (h : Group). h.label) j.groups any.0 i any.1 g facts.groups.distinct any.2 found
    (same_Some _ _ (sym (group_label v any.1) ∙ any.3.0) ∙ label_here j.groups i g found) in
    let group : any.1 ≡ g = same_Some any.1 g (sym any.2 ∙ ap (slice_get j.groups) same ∙ found) in
    let above : pos w <ℤ pos (field any.1) = rw (whole (table (group_members v any.1)) any.1 (has_group v any.1)) at any.3.1 in
    let above_g : pos w <ℤ pos (field g) = subst (λ (h : Group). pos w <ℤ pos (field h)) group above in
    omega (arith, ints)

not_short : (j : JunctionView) → IsJunction j → (a b : ℕ) → a < length j.groups → b < length j.groups → AreConflicting j.conflicts a b →
    ¬ IsTooShort (document_of j) (Some (label_at j.groups a)) (Some (label_at j.groups b)) (Some (pos (seconds_between j.conflicts a b)))
not_short j facts a b first last conflicting short =
    let from = group_here j.groups a first in
    let to = group_here j.groups b last in
    let long = long_enough j facts.conflicts a b from.0 to.0 first last conflicting from.1 to.1 in
    elim short [
      | inl amber ↦ not_more j facts a from.0 from.1 key.Amber (λ (g : Group). g.times.amber) (λ d h has. whole_at d key.Amber _ has.amber) (seconds_between j.conflicts a b) long.amber amber
      | inr red ↦ not_more j facts b to.0 to.1 key.RedAmber (λ (g : Group). g.times.red_amber) (λ d h has. whole_at d key.RedAmber _ has.red_amber) (seconds_between j.conflicts a b) long.red_amber red
    ]

intergreen : (j : JunctionView) → IsJunction j → (p : ℕ × ℕ) → IsPrintedPair j p → (at : Key) →
    ¬ ShortIntergreenFault (document_of j) part.Conflict (table (conflict_members j.groups j.conflicts p)) at
intergreen j facts p pair key.AToB wrong = not_short j facts p.0 p.1 pair.a pair.b pair.a_to_b wrong
intergreen j facts p pair key.BToA wrong = not_short j facts p.1 p.0 pair.b pair.a pair.b_to_a wrong
intergreen j facts p pair _ wrong = wrong

pub none_at_conflict : (j : JunctionView) → IsJunction j → (k : ℕ) (p : ℕ × ℕ) → slice_get (pairs_of j.conflicts) k ≡ Some p → (f : Kind) (at : Key) →
    ¬ IsWrong (document_of j) f part.Conflict (k + 1) (table (conflict_members j.groups j.conflicts p)) at
none_at_conflict j facts k p found kind.Shape at wrong = shape (printed_version j) j.groups j.conflicts p at (rw same_version at wrong)
none_at_conflict j facts k p found kind.Range at wrong = range j facts p (pair_here j facts k p found) at wrong
none_at_conflict j facts k p found kind.Unknown at wrong = reference j p (pair_here j facts k p found) at wrong
none_at_conflict j facts k p found kind.SelfConflict at wrong = self j facts p (pair_here j facts k p found) at wrong
none_at_conflict j facts k p found kind.Twice at wrong = twice j facts k p found (pair_here j facts k p found) at wrong
none_at_conflict j facts k p found kind.ShortIntergreen at wrong = intergreen j facts p (pair_here j facts k p found) at wrong
none_at_conflict j facts k p found _ at wrong = wrong
