-- The next violation of a memory and a row, group by group.
use Rattle.std.proofs.Common.{ℕ, List, length, Option, None, Some, Bool, IsTrue, ◌≡◌, ◌↔◌, ◌≤◌, ◌<◌, ◌+◌, slice_get, inl, inr, refl, sym, ap, ◌∙◌, subst, arith}
use Rattle.std.proofs.lemmas.Bool.{cases_lt}
use Rattle.std.proofs.lemmas.Option.{slice_get_within, same_Some}
use Rattle.sig_base.specs.First.{NoneBelow, IsFirst}
use Rattle.junction_model.specs.declared.group.Group.{Group}
use Rattle.junction_model.specs.Junction.{JunctionView}
use Rattle.plan_model.specs.Fits.{group_count}
use Rattle.aspect_player.specs.declared.aspect.Aspect.{Aspect}
use Rattle.aspect_player.specs.declared.aspect.Aspect.TheVariants.{Green, Amber}
use Rattle.log_monitor.specs.declared.memory.GroupMemory.{GroupMemory}
use Rattle.log_monitor.specs.declared.sight.Sight.{Sight}
use Rattle.log_monitor.specs.declared.violation.Violation.{Violation}
use Rattle.log_monitor.specs.declared.violation.Violation.TheVariants as violation
use Rattle.log_monitor.specs.Memory.{Memory, NextAmber, NextMinimum, StandsNext, IsNext, HasNoNext}
use Rattle.log_monitor.specs.Sight.{junction_in, memory_in, row_in, IsWhole, BreaksPair, NoneTo, NoneFrom, BreaksAmberOf, BreaksMinimumOf, OwesAmber, EndsShort}
use Rattle.log_monitor.specs.Violations.{ComesBefore}
use Rattle.log_monitor.proofs.NextStands.{latest_within}

module _ (sight : Sight) where
  pub none_to_more : (i n : ℕ) → NoneTo sight i n → ((u : ℕ) → ¬ BreaksPair sight i n u) → NoneTo sight i (n + 1)
  none_to_more i n none new j u h breaks = elim (cases_lt j n) [
    | inl old ↦ none j u old breaks
    | inr rest ↦ let same : j ≡ n = omega (arith, h, rest) in new u (subst (λ k. BreaksPair sight i k u) same breaks)
  ]

  pub none_to_all : (i n : ℕ) → length sight.row.now ≤ n → NoneTo sight i n → (j u : ℕ) → ¬ BreaksPair sight i j u
  none_to_all i n all none j u breaks = none j u (omega (arith, all, slice_get_within sight.row.now j Green breaks.second)) breaks

  pub none_from_more : (n : ℕ) → NoneFrom sight n → ((j u : ℕ) → ¬ BreaksPair sight n j u) → NoneFrom sight (n + 1)
  none_from_more n none new i j u h breaks = elim (cases_lt i n) [
    | inl old ↦ none i j u old breaks
    | inr rest ↦ let same : i ≡ n = omega (arith, h, rest) in new j u (subst (λ k. BreaksPair sight k j u) same breaks)
  ]

  pub first_pair : (i j u v : ℕ) → NoneFrom sight i → BreaksPair sight i j u → NoneTo sight i j → v ≡ sight.rows →
      IsNext (junction_in sight) (memory_in sight) (row_in sight) (violation.Clearance i j u v)
  first_pair i j u v none breaks none_to now = record { stands = (breaks, now); least = least }
    where
      least : (other : Violation) → StandsNext (junction_in sight) (memory_in sight) (row_in sight) other →
          ¬ ComesBefore other (violation.Clearance i j u v)
      least (violation.Clearance k l x y) stands before = elim before [
        | inl below ↦ none k l x below stands.0
        | inr same ↦ none_to l x same.1 (subst (λ n. BreaksPair sight n l x) same.0 stands.0)
      ]
      least (violation.Amber k y) stands before = before
      least (violation.Minimum k y) stands before = before

  module _ (whole : IsWhole sight) (clear : NoneFrom sight (group_count (junction_in sight))) where
    no_pair : (i j u : ℕ) → ¬ BreaksPair sight i j u
    no_pair i j u breaks = clear i j u (latest_within (memory_in sight) (row_in sight) i u (group_count (junction_in sight)) whole.groups whole.row breaks.first) breaks

    pub first_amber : (i v : ℕ) → IsFirst (BreaksAmberOf sight) (group_count (junction_in sight)) i → v ≡ sight.rows →
        IsNext (junction_in sight) (memory_in sight) (row_in sight) (violation.Amber i v)
    first_amber i v first now = record { stands = (first.holds, now); least = least }
      where
        least : (other : Violation) → StandsNext (junction_in sight) (memory_in sight) (row_in sight) other →
            ¬ ComesBefore other (violation.Amber i v)
        least (violation.Clearance k l x y) stands before = no_pair k l x stands.0
        least (violation.Amber k y) stands before = first.earlier k before stands.0
        least (violation.Minimum k y) stands before = before

    module _ (amber : NoneBelow (BreaksAmberOf sight) (group_count (junction_in sight))) where
      no_amber : (i : ℕ) → ¬ BreaksAmberOf sight i
      no_amber i breaks = amber i (slice_get_within (junction_in sight).groups i breaks.group breaks.there) breaks

      pub first_minimum : (i v : ℕ) → IsFirst (BreaksMinimumOf sight) (group_count (junction_in sight)) i → v ≡ sight.rows →
          IsNext (junction_in sight) (memory_in sight) (row_in sight) (violation.Minimum i v)
      first_minimum i v first now = record { stands = (first.holds, now); least = least }
        where
          least : (other : Violation) → StandsNext (junction_in sight) (memory_in sight) (row_in sight) other →
              ¬ ComesBefore other (violation.Minimum i v)
          least (violation.Clearance k l x y) stands before = no_pair k l x stands.0
          least (violation.Amber k y) stands before = no_amber k stands.0
          least (violation.Minimum k y) stands before = first.earlier k before stands.0

      pub none_next : NoneBelow (BreaksMinimumOf sight) (group_count (junction_in sight)) →
          HasNoNext (junction_in sight) (memory_in sight) (row_in sight)
      none_next minimum (violation.Clearance k l x y) stands = no_pair k l x stands.0
      none_next minimum (violation.Amber k y) stands = no_amber k stands.0
      none_next minimum (violation.Minimum k y) stands = minimum k (slice_get_within (junction_in sight).groups k stands.0.group stands.0.there) stands.0

module _ (junction : JunctionView) (m : Memory) (row : List Aspect) (i : ℕ) (group : Group) (own : GroupMemory) (shown : Aspect) (answer : Bool)
    (there : slice_get junction.groups i ≡ Some group) (own_is : slice_get m.groups i ≡ Some own) (shown_is : slice_get row i ≡ Some shown) where
  -- the test of a group's amber, by what the list of groups, the memory and the row have of it
  pub amber_same : (IsTrue answer ↔ OwesAmber own.last m.rows group.times.amber shown) →
      (IsTrue answer → NextAmber junction m row i) × (NextAmber junction m row i → IsTrue answer)
  amber_same same = (λ yes. to own.last refl (same.0 yes), λ next. same.1 (from next))
    where
      to : (last : Option ℕ) → own.last ≡ last → OwesAmber last m.rows group.times.amber shown → NextAmber junction m row i
      to None e owes = absurd owes
      to (Some u) e owes = record {
        group = group;
        there = there;
        last = u;
        remembered = rw own_is e;
        ended = λ both. owes.2 (both.0, same_Some shown Green (sym shown_is ∙ both.1));
        within = owes.0;
        other = λ amber. owes.1 (same_Some shown Amber (sym shown_is ∙ amber));
      }

      from : NextAmber junction m row i → OwesAmber own.last m.rows group.times.amber shown
      from next =
          let last : own.last ≡ Some next.last = rw own_is at next.remembered in
          let same_group : next.group ≡ group = same_Some next.group group (sym next.there ∙ there) in
          let within : m.rows ≤ next.last + group.times.amber = subst (λ (g : Group). m.rows ≤ next.last + g.times.amber) same_group next.within in
          subst (λ o. OwesAmber o m.rows group.times.amber shown) (sym last)
          (within, λ amber. next.other (shown_is ∙ ap Some amber), λ both. next.ended (both.0, shown_is ∙ ap Some both.1))

  pub minimum_same : (IsTrue answer ↔ EndsShort own.since m.rows group.times.min_green shown) →
      (IsTrue answer → NextMinimum junction m row i) × (NextMinimum junction m row i → IsTrue answer)
  minimum_same same = (λ yes. to own.since refl (same.0 yes), λ next. same.1 (from next))
    where
      to : (since : Option ℕ) → own.since ≡ since → EndsShort since m.rows group.times.min_green shown → NextMinimum junction m row i
      to None e short = absurd short
      to (Some f) e short = record {
        group = group;
        there = there;
        since = f;
        remembered = rw own_is e;
        begun = short.0;
        ended = λ green. short.1 (same_Some shown Green (sym shown_is ∙ green));
        short = short.2;
      }

      from : NextMinimum junction m row i → EndsShort own.since m.rows group.times.min_green shown
      from next =
          let since : own.since ≡ Some next.since = rw own_is at next.remembered in
          let same_group : next.group ≡ group = same_Some next.group group (sym next.there ∙ there) in
          let short : m.rows < next.since + group.times.min_green = subst (λ (g : Group). m.rows < next.since + g.times.min_green) same_group next.short in
          subst (λ o. EndsShort o m.rows group.times.min_green shown) (sym since)
          (next.begun, λ green. next.ended (shown_is ∙ ap Some green), short)
