-- The violations that stand at a row by the memory of the rows before it are those that stand by the rows.
use Rattle.std.proofs.Common.{ℕ, List, [], ◌∷◌, ◌++◌, length, Option, Some, None, ◌≡◌, ◌≤◌, ◌<◌, ◌+◌, ◌-◌, if◌then◌else◌, slice_get, option_and_then, inl, inr, refl, sym, ap, ◌∙◌, subst, arith}
use Rattle.std.proofs.lemmas.Bool.{cases_lt}
use Rattle.std.proofs.lemmas.Option.{slice_get_within, slice_get_past, option_and_then_some}
use Rattle.junction_model.specs.Junction.{JunctionView}
use Rattle.plan_model.specs.Fits.{group_count}
use Rattle.aspect_player.specs.declared.aspect.Aspect.{Aspect}
use Rattle.aspect_player.specs.declared.aspect.Aspect.TheVariants.{Red, RedAmber, Green, Amber}
use Rattle.aspect_player.specs.Safe.{Shows, ShowsOther, IsSafe}
use Rattle.aspect_player.proofs.Timetable.{in_rows}
use Rattle.log_monitor.specs.declared.memory.GroupMemory.{GroupMemory}
use Rattle.log_monitor.specs.declared.violation.Violation.{Violation}
use Rattle.log_monitor.specs.declared.violation.Violation.TheVariants as violation
use Rattle.log_monitor.specs.Memory.{Memory, IsMemoryOf, IsLastGreen, IsRunStart, is_green, latest_of, group_after, NextClearance, NextAmber, NextMinimum, StandsNext}
use Rattle.log_monitor.specs.Violations.{AreRows, BreaksClearance, BreaksAmber, BreaksMinimum, StandsAt}
use Rattle.log_monitor.proofs.LongerRows.{element, shown_group, shown_some, last_full, longer, shorter, shorter_other, row_count, shown_new, new_shown, old_or_new}
use Rattle.log_monitor.proofs.MemoryAfter.{last_after}

-- a part that is remembered is of a group
remembered : {A : Type 0} (part : GroupMemory → Option A) (groups : List GroupMemory) (i : ℕ) (x : A) →
    option_and_then part (slice_get groups i) ≡ Some x → (own : GroupMemory) × (slice_get groups i ≡ Some own) × (part own ≡ Some x)
remembered part groups i x e = option_and_then_some part (slice_get groups i) x e (λ own at is. (own, at, is))

pub latest_within : (m : Memory) (row : List Aspect) (i u n : ℕ) → length m.groups ≡ n → length row ≡ n → latest_of m row i ≡ Some u → i < n
latest_within m row i u n groups full e = elim (cases_lt i n) [
  | inl inside ↦ inside
  | inr outside ↦
      let none : latest_of m row i ≡ None = rw (slice_get_past row i (omega (arith, outside, full)), slice_get_past m.groups i (omega (arith, outside, groups))) refl in
      absurd (cc)
]

one_last : (all : List (List Aspect)) (i v u : ℕ) (last : Option ℕ) → length all ≡ v + 1 → IsLastGreen all i last → Shows all u i Green →
    ((t : ℕ) → u < t → t ≤ v → ¬ Shows all t i Green) → last ≡ Some u
one_last all i v u None size is shown latest = absurd (is u shown)
one_last all i v u (Some w) size is shown latest = elim (cases_lt u w) [
  | inl above ↦ absurd (latest w above (omega (arith, in_rows all w i Green is.0, size)) is.0)
  | inr rest ↦ elim (cases_lt w u) [
    | inl below ↦ absurd (is.1 u below shown)
    | inr same ↦ let e : w ≡ u = omega (arith, rest, same) in ap Some e
  ]
]

module _ (junction : JunctionView) (rows : List (List Aspect)) (row : List Aspect) (m : Memory) (are : AreRows junction (rows ++ row ∷ []))
    (is : IsMemoryOf junction rows m) where
  size : length (rows ++ row ∷ []) ≡ length rows + 1
  size = row_count rows row

  new_aspect : (i : ℕ) → i < group_count junction → (aspect : Aspect) × (slice_get row i ≡ Some aspect)
  new_aspect i inside =
      let some = shown_some junction (rows ++ row ∷ []) (length rows) i are (omega (arith, size)) inside in
      (some.0, new_shown rows row (length rows) i some.0 refl some.1)

  pub latest : (i : ℕ) → i < group_count junction → IsLastGreen (rows ++ row ∷ []) i (latest_of m row i)
  latest i inside =
      let own = element m.groups i (omega (arith, inside, is.groups)) in
      let new = new_aspect i inside in
      let last = last_after rows row i new.0 own.0 new.1 (is.last i own.0 own.1) in
      let at = subst (λ n. IsLastGreen (rows ++ row ∷ []) i (group_after n new.0 own.0).last) (sym is.count) last in
      rw (new.1, own.1) (by m.rows new.0 own.0 at)
    where
      by : (v : ℕ) (aspect : Aspect) (own : GroupMemory) → IsLastGreen (rows ++ row ∷ []) i (group_after v aspect own).last →
          IsLastGreen (rows ++ row ∷ []) i (if is_green (Some aspect) then Some v else own.last)
      by v Green own last = last
      by v Red own last = last
      by v RedAmber own last = last
      by v Amber own last = last

  latest_inside : (i u : ℕ) → latest_of m row i ≡ Some u → i < group_count junction
  latest_inside i u e = latest_within m row i u (group_count junction) is.groups (last_full junction rows row are) e

  -- ---- clearance

  clearance_stands : (i j u : ℕ) → NextClearance junction m row i j u → BreaksClearance junction (rows ++ row ∷ []) (length rows) i j u
  clearance_stands i j u next =
      let last : IsLastGreen (rows ++ row ∷ []) i (Some u) = subst (IsLastGreen (rows ++ row ∷ []) i) next.first (latest i (latest_inside i u next.first)) in
      record {
        intergreen = next.intergreen;
        conflict = next.conflict;
        second = shown_new rows row j Green next.second;
        first = last.0;
        ordered = omega (arith, in_rows (rows ++ row ∷ []) u i Green last.0, size);
        near = omega (arith, next.near, is.count);
        latest = λ t after _ e. last.1 t after e;
      }

  clearance_next : (i j u : ℕ) → BreaksClearance junction (rows ++ row ∷ []) (length rows) i j u → NextClearance junction m row i j u
  clearance_next i j u stands = record {
    intergreen = stands.intergreen;
    conflict = stands.conflict;
    second = new_shown rows row (length rows) j Green refl stands.second;
    first = one_last (rows ++ row ∷ []) i (length rows) u (latest_of m row i) size
        (latest i (shown_group junction (rows ++ row ∷ []) u i Green are stands.first)) stands.first stands.latest;
    near = omega (arith, stands.near, is.count);
  }

  -- ---- amber

  -- what a row up to the new one shows where it doesn't show green
  other_shown : (t i : ℕ) → t ≤ length rows → i < group_count junction → ¬ Shows (rows ++ row ∷ []) t i Green →
      ShowsOther (rows ++ row ∷ []) t i
  other_shown t i low inside none =
      let some = shown_some junction (rows ++ row ∷ []) t i are (omega (arith, low, size)) inside in
      (some.0, some.1, λ green. none (some.1 ∙ ap Some green))

  amber_stands : (i : ℕ) → NextAmber junction m row i → BreaksAmber junction (rows ++ row ∷ []) (length rows) i
  amber_stands i next =
      let own = remembered (λ o. o.last) m.groups i next.last next.remembered in
      let last : IsLastGreen rows i (Some next.last) = subst (IsLastGreen rows i) own.2 (is.last i own.0 own.1) in
      let below = in_rows rows next.last i Green last.0 in
      record {
        group = next.group;
        there = next.there;
        last = next.last;
        green = longer rows (row ∷ []) next.last i Green last.0;
        ended = other_shown (next.last + 1) i (omega (arith, below)) (slice_get_within junction.groups i next.group next.there)
            (λ e. elim (old_or_new rows row (next.last + 1) i Green e) [
              | inl old ↦ last.1 (next.last + 1) (omega arith) old.1
              | inr new ↦ next.ended (new.0 ∙ sym is.count, new.1)
            ]);
        later = below;
        within = omega (arith, next.within, is.count);
        other = λ e. next.other (new_shown rows row (length rows) i Amber refl e);
      }

  -- a later green would break the amber of the rows before
  amber_last : (i : ℕ) (stands : BreaksAmber junction (rows ++ row ∷ []) (length rows) i) → IsSafe junction rows → (own : GroupMemory) →
      slice_get m.groups i ≡ Some own →
      own.last ≡ Some stands.last
  amber_last i stands safe own at = by own.last (is.last i own at)
    where
      old : Shows rows stands.last i Green
      old = shorter rows (row ∷ []) stands.last i Green stands.later stands.green

      by : (last : Option ℕ) → IsLastGreen rows i last → last ≡ Some stands.last
      by None none = absurd (none stands.last old)
      by (Some w) last = elim (cases_lt w stands.last) [
        | inl below ↦ absurd (last.1 stands.last below old)
        | inr rest ↦ elim (cases_lt stands.last w) [
          | inr same ↦ let e : w ≡ stands.last = omega (arith, rest, same) in ap Some e
          | inl above ↦
              let inside = in_rows rows w i Green last.0 in
              let k : ℕ = w - stands.last in
              let sum : stands.last + k ≡ w = omega arith in
              let next_old : ShowsOther rows (stands.last + 1) i = shorter_other rows (row ∷ []) (stands.last + 1) i (omega (arith, above, inside)) stands.ended in
              let amber = safe.amber i stands.last k stands.group stands.there old next_old (omega (arith, above)) (omega (arith, inside, stands.within)) (omega (arith, inside, sum)) in
              let clash : Shows rows w i Amber = subst (λ t. Shows rows t i Amber) sum amber in
              absurd (let green = last.0 in cc)
        ]
      ]

  amber_next : IsSafe junction rows → (i : ℕ) → BreaksAmber junction (rows ++ row ∷ []) (length rows) i → NextAmber junction m row i
  amber_next safe i stands =
      let own = element m.groups i (omega (arith, slice_get_within junction.groups i stands.group stands.there, is.groups)) in
      let last = amber_last i stands safe own.0 own.1 in
      record {
        group = stands.group;
        there = stands.there;
        last = stands.last;
        remembered = rw own.1 last;
        ended = λ both.
            let green = shown_new rows row i Green both.1 in
            let at : stands.last + 1 ≡ length rows = both.0 ∙ is.count in
            stands.ended.2 (let other = subst (λ t. Shows (rows ++ row ∷ []) t i stands.ended.0) at stands.ended.1 in cc);
        within = omega (arith, stands.within, is.count);
        other = λ e. stands.other (shown_new rows row i Amber e);
      }

  -- ---- minimum

  minimum_stands : (i : ℕ) → NextMinimum junction m row i → BreaksMinimum junction (rows ++ row ∷ []) (length rows) i
  minimum_stands i next =
      let own = remembered (λ o. o.since) m.groups i next.since next.remembered in
      let run : IsRunStart rows i (Some next.since) = subst (IsRunStart rows i) own.2 (is.since i own.0 own.1) in
      let inside = slice_get_within junction.groups i next.group next.there in
      let before : ℕ = next.since - 1 in
      let n : ℕ = length rows - next.since in
      let first : before + 1 ≡ next.since = omega (arith, next.begun) in
      let end : before + n + 1 ≡ length rows = omega (arith, next.begun, run.0) in
      record {
        group = next.group;
        there = next.there;
        before = before;
        seconds = n;
        some = omega (arith, run.0);
        begun = other_shown before i (omega (arith, run.0)) inside (λ e. run.2 before first (shorter rows (row ∷ []) before i Green (omega (arith, run.0)) e));
        green = λ k low high. longer rows (row ∷ []) (before + k) i Green (run.1 (before + k) (omega (arith, low, first)) (omega (arith, high, end, low)));
        ended = other_shown (before + n + 1) i (omega (arith, end)) inside (λ e. next.ended (new_shown rows row (before + n + 1) i Green end e));
        now = sym end;
        short = omega (arith, next.short, is.count, run.0);
      }

  run_is : (i : ℕ) (stands : BreaksMinimum junction (rows ++ row ∷ []) (length rows) i) (own : GroupMemory) →
      slice_get m.groups i ≡ Some own →
      own.since ≡ Some (stands.before + 1)
  run_is i stands own at = by own.since (is.since i own at)
    where
      green_old : (t : ℕ) → stands.before < t → t < length rows → Shows rows t i Green
      green_old t low high =
          let k : ℕ = t - stands.before in
          let sum : stands.before + k ≡ t = omega (arith, low) in
          let all = stands.green k (omega (arith, low)) (omega (arith, high, stands.now)) in
          shorter rows (row ∷ []) t i Green high (subst (λ n. Shows (rows ++ row ∷ []) n i Green) sum all)

      begun_old : ¬ Shows rows stands.before i Green
      begun_old green = stands.begun.2 (let all = longer rows (row ∷ []) stands.before i Green green in let other = stands.begun.1 in cc)

      by : (since : Option ℕ) → IsRunStart rows i since → since ≡ Some (stands.before + 1)
      by None none =
          let t : ℕ = stands.before + stands.seconds in
          absurd (none t (omega (arith, stands.now)) (green_old t (omega (arith, stands.some)) (omega (arith, stands.now))))
      by (Some f) run = elim (cases_lt f (stands.before + 1)) [
        | inl below ↦ absurd (begun_old (run.1 stands.before (omega (arith, below)) (omega (arith, stands.now))))
        | inr rest ↦ elim (cases_lt (stands.before + 1) f) [
          | inr same ↦ let e : f ≡ stands.before + 1 = omega (arith, rest, same) in ap Some e
          | inl above ↦
              let t : ℕ = f - 1 in
              absurd (run.2 t (omega (arith, above)) (green_old t (omega (arith, above)) (omega (arith, above, run.0))))
        ]
      ]

  minimum_next : (i : ℕ) → BreaksMinimum junction (rows ++ row ∷ []) (length rows) i → NextMinimum junction m row i
  minimum_next i stands =
      let own = element m.groups i (omega (arith, slice_get_within junction.groups i stands.group stands.there, is.groups)) in
      let run = run_is i stands own.0 own.1 in
      record {
        group = stands.group;
        there = stands.there;
        since = stands.before + 1;
        remembered = rw own.1 run;
        begun = omega arith;
        ended = λ e.
            let green = shown_new rows row i Green e in
            let other = subst (λ t. Shows (rows ++ row ∷ []) t i stands.ended.0) (sym stands.now) stands.ended.1 in
            stands.ended.2 (cc);
        short = omega (arith, stands.short, stands.now, is.count);
      }

  -- ---- all three

  pub next_stands : (found : Violation) → StandsNext junction m row found → StandsAt junction (rows ++ row ∷ []) (length rows) found
  next_stands (violation.Clearance i j u w) next = (clearance_stands i j u next.0, next.1 ∙ is.count)
  next_stands (violation.Amber i w) next = (amber_stands i next.0, next.1 ∙ is.count)
  next_stands (violation.Minimum i w) next = (minimum_stands i next.0, next.1 ∙ is.count)

  pub stands_next : IsSafe junction rows → (found : Violation) → StandsAt junction (rows ++ row ∷ []) (length rows) found →
      StandsNext junction m row found
  stands_next safe (violation.Clearance i j u w) stands = (clearance_next i j u stands.0, stands.1 ∙ sym is.count)
  stands_next safe (violation.Amber i w) stands = (amber_next safe i stands.0, stands.1 ∙ sym is.count)
  stands_next safe (violation.Minimum i w) stands = (minimum_next i stands.0, stands.1 ∙ sym is.count)
