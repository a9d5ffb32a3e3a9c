-- What a document in which no fault stands spells keeps the rules of a junction.
use Rattle.std.proofs.Common.{ℕ, List, Option, None, Some, IfSome, map, length, slice_get, Any, ◌≡◌, ◌⊎◌, ◌<◌, inl, inr, refl, ap, ◌∙◌}
use Rattle.std.proofs.lemmas.Bool.{cases_eq}
use Rattle.std.proofs.lemmas.List.{length-map}
use Rattle.std.proofs.lemmas.Option.{slice_get-map, slice_get-get_or, slice_get_within}
use Rattle.sig_base.specs.First.{SomeBelow}
use Rattle.sig_base.specs.declared.group_times.GroupTimes.{GroupTimes}
use Rattle.conflict_matrix.specs.Matrix.{Matrix, IsMatrix, with_links, AreConflicting, intergreen_of}
use Rattle.conflict_matrix.specs.declared.entry.Entry.{Entry}
use Rattle.conflict_matrix.specs.declared.link.Link.{Link}
use Rattle.conflict_matrix.specs.Entries.{Involves, Tells, IsTooShort, AreEntries, AreFaultless, IsTableOf}
use Rattle.junction_model.specs.declared.group.Group.{Group}
use Rattle.junction_model.specs.Rules.{AreConflicts, IsLongEnough, AreCycles, IsJunction}
use Rattle.junction_files.proofs.Elements.{some_of, any_at}
use Rattle.junction_files.proofs.Faultless.{not_below, has_title, has_least, has_greatest}
use Rattle.toml.specs.Data.{Data}
use Rattle.junction_model.specs.Junction.{JunctionView}
use Rattle.junction_files.specs.Document.{groups_in, lanes_in}
use Rattle.junction_files.specs.Meaning.{number_of, text_of, group_of, lane_of}
use Rattle.junction_files.specs.Faultless.{IsFaultless}
use Rattle.junction_files.proofs.Groups.{are_groups}
use Rattle.junction_files.proofs.Lanes.{are_lanes}
use Rattle.junction_files.specs.declared.faults.Key.TheVariants as key

involves_or_not : (g : ℕ) (e : Entry) → Involves g e ⊎ ¬ Involves g e
involves_or_not g e = elim (cases_eq e.a g) [
  | inl a ↦ inl (inl a)
  | inr not_a ↦ elim (cases_eq e.b g) [
    | inl b ↦ inl (inr b)
    | inr not_b ↦ inr (λ either. elim either [ inl a ↦ not_a a | inr b ↦ not_b b ])
  ]
]

enough : (times : List GroupTimes) (i j w : ℕ) (from to : Group) → slice_get times i ≡ Some from.times → slice_get times j ≡ Some to.times →
    ¬ IsTooShort times i j w → IsLongEnough from to w
enough times i j w from to at_from at_to long = record {
  amber = not_below w from.times.amber (λ less. long (inl (rw at_from less)));
  red_amber = not_below w to.times.red_amber (λ less. long (inr (rw at_to less)));
}

conflicting : (times : List GroupTimes) (es : List Entry) (m : Matrix) → IsTableOf (length times) es m → (i j w : ℕ) → i < length times → j < length times →
    Any (Tells i j w) es → AreConflicting m i j
conflicting times es m t i j w in_i in_j tells = rw ((t.intergreens i j w in_i in_j).1 tells) refl

partner : (times : List GroupTimes) (es : List Entry) (m : Matrix) → AreEntries times es → IsTableOf (length times) es m → (i : ℕ) → i < length times →
    Any (Involves i) es → SomeBelow (AreConflicting m i) (length times)
partner times es m entries t i in_i (k, e, inside, at, involves_or_not) =
    let found : slice_get es k ≡ Some e = slice_get-get_or es k e inside ∙ ap Some at in
    let named = entries.named k e found in
    elim involves_or_not [
      | inl a ↦ (e.b, named.1, conflicting times es m t i e.b e.a_to_b in_i named.1 (any_at (Tells i e.b e.a_to_b) es k e found (inl (a, refl, refl))))
      | inr b ↦ (e.a, named.0, conflicting times es m t i e.a e.b_to_a in_i named.0 (any_at (Tells i e.a e.b_to_a) es k e found (inr (b, refl, refl))))
    ]

if_some : {A : Type 0} (o : Option A) (P : A → Type 0) → ((x : A) → o ≡ Some x → P x) → IfSome o P
if_some None P h = tt
if_some (Some x) P h = h x refl

enough_at : (times : List GroupTimes) (es : List Entry) (m : Matrix) → AreFaultless times es → IsTableOf (length times) es m →
    (i j w : ℕ) (from to : Group) → intergreen_of m i j ≡ Some w → slice_get times i ≡ Some from.times → slice_get times j ≡ Some to.times → IsLongEnough from to w
enough_at times es m faultless t i j w from to found at_i at_j =
    let said = (t.intergreens i j w (slice_get_within times i from.times at_i) (slice_get_within times j to.times at_j)).0 found in
    let at_k : slice_get es said.0 ≡ Some said.1 = slice_get-get_or es said.0 said.1 said.2 ∙ ap Some said.3 in
    enough times i j w from to at_i at_j (λ short. faultless.long_enough said.0 said.2 (rw at_k (elim said.4 [
      | inl (a, b, tells) ↦ inl (rw (a, b, tells) short)
      | inr (b, a, tells) ↦ inr (rw (b, a, tells) short)
    ])))

pub are_conflicts : (groups : List Group) (times : List GroupTimes) (es : List Entry) (m : Matrix) → times ≡ map (λ (group : Group). group.times) groups →
    AreEntries times es → AreFaultless times es → IsTableOf (length times) es m → IsMatrix m → AreConflicts groups m
are_conflicts groups times es m same entries faultless t matrix =
    let size : length times ≡ length groups = rw same (length-map groups (λ (group : Group). group.times)) in
    let times_at : (i : ℕ) (group : Group) → slice_get groups i ≡ Some group → slice_get times i ≡ Some group.times =
    λ i group found. rw (same, slice_get-map (λ (g : Group). g.times) groups i, found) refl in
    record {
      table = matrix;
      same_groups = t.same_groups ∙ size;
      partnered = λ i below. let in_times : i < length times = rw t.same_groups at below in
          rw t.same_groups (partner times es m entries t i in_times (some_of (Involves i) (involves_or_not i) es (faultless.partnered i in_times)));
      long_enough = λ i _ j _. if_some (intergreen_of m i j)
          (λ w. IfSome (slice_get groups i) (λ from. IfSome (slice_get groups j) (λ to. IsLongEnough from to w)))
          (λ w found. if_some (slice_get groups i) (λ from. IfSome (slice_get groups j) (λ to. IsLongEnough from to w))
          (λ from at_i. if_some (slice_get groups j) (λ to. IsLongEnough from to w)
          (λ to at_j. enough_at times es m faultless t i j w from to found (times_at i from at_i) (times_at j to at_j))));
    }

-- links change nothing of that
pub linked_rules : (groups : List Group) (m : Matrix) (links : List Link) → AreConflicts groups m → IsMatrix (with_links m links) →
    AreConflicts groups (with_links m links)
linked_rules groups m links conflicts matrix = record {
  table = matrix;
  same_groups = conflicts.same_groups;
  partnered = conflicts.partnered;
  long_enough = conflicts.long_enough;
}

pub linked_table : (groups : ℕ) (es : List Entry) (m : Matrix) (links : List Link) → IsTableOf groups es m → IsTableOf groups es (with_links m links)
linked_table groups es m links t = record { same_groups = t.same_groups; intergreens = t.intergreens }

are_cycles : (document : Data) → IsFaultless document → AreCycles (number_of document key.LeastCycle) (number_of document key.GreatestCycle)
are_cycles document faultless =
    let least = has_least document faultless in
    let greatest = has_greatest document faultless in
    record { some = least.least; ordered = greatest.least; longest = greatest.greatest }

-- the parts that a document spells
abbrev pub junction_in : Data → Matrix → JunctionView
junction_in document conflicts = record {
  title = text_of document key.Name;
  least_cycle = number_of document key.LeastCycle;
  greatest_cycle = number_of document key.GreatestCycle;
  groups = map group_of (groups_in document);
  lanes = map (lane_of document) (lanes_in document);
  conflicts = conflicts;
}

pub is_junction : (document : Data) → IsFaultless document → (m : Matrix) → AreConflicts (map group_of (groups_in document)) m → IsJunction (junction_in document m)
is_junction document faultless m conflicts = record {
  title = (has_title document faultless).title;
  cycles = are_cycles document faultless;
  groups = are_groups document faultless;
  lanes = are_lanes document faultless;
  conflicts = conflicts;
}
