-- Why the records of a changer stay what the schedule tells, and show what it shows.
use Rattle.std.proofs.Common.{ℕ, Bool, true, false, Option, Some, if◌then◌else◌, ◌&&◌, ◌||◌, eqb, ltb, leb, max, ◌≡◌, ◌≢◌, ◌≤◌, ◌<◌, ◌+◌, ◌-◌, ◌*◌, inl, inr, refl, sym, ap, ◌∙◌, subst, arith}
use Rattle.std.specs.Option.{option_map_or}
use Rattle.std.proofs.lemmas.Bool.{cases_lt, false≢true, and_parts, and_from, or_left, or_right, eqb-true, eq-eqb, ne_eqb, le-leb, leb-true, lt-leb, lt-ltb, ltb-true, or_cases}
use Rattle.std.proofs.lemmas.Bool.Decides.{nat_tests}
use Rattle.sig_base.specs.declared.group_times.GroupTimes.{GroupTimes}
use Rattle.junction_model.specs.Junction.{JunctionView}
use Rattle.junction_model.specs.Rules.{IsJunction}
use Rattle.plan_model.specs.SignalPlan.{PlanView, start_of, green_of}
use Rattle.plan_model.specs.Fits.{Fits, group_count}
use Rattle.plan_change.specs.declared.head.Head.{Head}
use Rattle.plan_change.specs.Runs.{Runs, shown_at}
use Rattle.plan_change.specs.Schedule.{Schedule, times_at, own_gap, change_gap, plan_runs, kept_runs, last_end, end_of_kept, changed}
use Rattle.plan_change.specs.Heads.{IsHead, head_of, tells_run, aspect_of_head, head_later, head_kept}
use Rattle.plan_change.proofs.Tests.{greatest_most, greatest_least, option_most, found_run, run_found}
use Rattle.plan_change.proofs.Runs.{shown_as}
use Rattle.plan_change.proofs.Schedule.{Keeps, kept_is, kept_soon, is_kept_run, changed_is, planned, plan_run, gap_holds_own, after_request}
use Rattle.plan_change.proofs.Sound.{IsSound, changed_sound}
use Rattle.plan_change.proofs.Stays.{stays, announced}
use Rattle.plan_change.proofs.Safety.{same_length}
use Rattle.plan_change.proofs.Turns.{turn}

omega_ne : (n : ℕ) → 1 < n → n ≢ 1
omega_ne n more e = omega arith

not_both : (b : Bool) (over amber : ℕ) → b ≡ true → (b && ltb amber over) ≡ false → over ≤ amber
not_both true over amber e f = grind (arith, nat_tests)
not_both false over amber e f = absurd (false≢true e)

plus_none : (a c : ℕ) → a ≡ a + 0 * c
plus_none a c = grind arith

-- the run that a record tells
abbrev pub IsOwnRun : Runs → GroupTimes → ℕ → Head → ℕ → ℕ → Type 0
IsOwnRun runs times t head a g = (runs a ≡ Some g) × (head.start ≡ a - t) × (head.over ≡ a + g + times.amber - t) × (a ≤ t + times.red_amber)

abbrev own_test : ℕ → GroupTimes → Head → ℕ → ℕ → Bool
own_test t times head a g = eqb head.start (a - t) && eqb head.over (a + g + times.amber - t)

pub own_run : (runs : Runs) (times : GroupTimes) (t : ℕ) (head : Head) → tells_run runs times t head ≡ true → (a : ℕ) × (g : ℕ) × IsOwnRun runs times t head a g
own_run runs times t head e =
    let r = found_run runs (t + times.red_amber + 1) (own_test t times head) e in
    let both = and_parts (eqb head.start (r.0 - t)) (eqb head.over (r.0 + r.1 + times.amber - t)) r.4 in
    (r.0, r.1, (r.3, eqb-true head.start (r.0 - t) both.0, eqb-true head.over (r.0 + r.1 + times.amber - t) both.1, omega (arith, r.2)))

pub run_told : (runs : Runs) (times : GroupTimes) (t : ℕ) (head : Head) (a g : ℕ) → IsOwnRun runs times t head a g → tells_run runs times t head ≡ true
run_told runs times t head a g is =
    run_found runs (t + times.red_amber + 1) (own_test t times head) a g (omega (arith, is.3)) is.0
    (and_from (eqb head.start (a - t)) (eqb head.over (a + g + times.amber - t)) (eq-eqb head.start (a - t) is.1) (eq-eqb head.over (a + g + times.amber - t) is.2))

module _ (junction : JunctionView) (s : Schedule) (sound : IsSound junction s) (i : ℕ) (inside : i < group_count junction) where
  -- the record of the plan's run that started last
  pub turned : (a t : ℕ) (head : Head) → s.begin ≤ a → s.runs i a ≡ Some (green_of s.plan i) → a ≤ t → t < a + s.plan.cycle →
      head ≡ head_of 0 (a + green_of s.plan i + (times_at junction i).amber - t) (a + s.plan.cycle - t) → IsHead junction s i t head
  turned a t head from run past near e =
      let times : GroupTimes = times_at junction i in
      let is = turn junction s i a (green_of s.plan i) sound inside from run in
      let next : t + (a + s.plan.cycle - t) ≡ a + s.plan.cycle = omega arith in
      let own : head_of 0 (a + green_of s.plan i + times.amber - t) (a + s.plan.cycle - t) ≡ head = sym e in
      subst (IsHead junction s i t) own (record {
        own = run_told (s.runs i) times t (head_of 0 (a + green_of s.plan i + times.amber - t) (a + s.plan.cycle - t)) a (green_of s.plan i)
            (run, omega arith, refl, omega arith);
        next = (omega arith, omega arith);
        coming = subst (λ x. s.runs i x ≡ Some (green_of s.plan i)) (sym next) is.next;
        each = λ b h other seen early. elim (is.each b h other) [
          | inl before ↦ absurd (omega arith)
          | inr rest ↦ elim rest [
            | inl same ↦
                let length : h ≡ green_of s.plan i = same_length (s.runs i) b a h (green_of s.plan i) same other run in
                (omega arith, omega arith)
            | inr later ↦ absurd (omega arith)
          ]
        ];
      })

  -- a second later
  pub later_is : (t : ℕ) (head next : Head) → IsHead junction s i t head →
      next ≡ head_later head s.plan.cycle (green_of s.plan i + (times_at junction i).amber) → 1 ≤ s.plan.cycle → IsHead junction s i (t + 1) next
  later_is t head next is e some =
      let times : GroupTimes = times_at junction i in
      let lasts : ℕ = green_of s.plan i + times.amber in
      let started : Head = head_of 0 lasts s.plan.cycle in
      let counted : Head = head_of (head.start - 1) (head.over - 1) (head.next - 1) in
      elim (cases_lt 1 head.next) [
        | inl more ↦
            let test : eqb head.next 1 ≡ false = ne_eqb head.next 1 (omega_ne head.next more) in
            let same : next ≡ counted = e ∙ ap (λ (b : Bool). if b then started else counted) test in
            let moment : t + 1 + (head.next - 1) ≡ t + head.next = omega arith in
            let old = own_run (s.runs i) times t head is.own in
            subst (IsHead junction s i (t + 1)) (sym same) (record {
              own = run_told (s.runs i) times (t + 1) counted old.0 old.1 (old.2.0, omega (arith, old.2.1), omega (arith, old.2.2), omega (arith, old.2.3));
              next = (omega arith, omega (arith, is.next.1));
              coming = subst (λ x. s.runs i x ≡ Some (green_of s.plan i)) (sym moment) is.coming;
              each = λ b h other seen early. let same = is.each b h other (omega arith) (omega arith) in (omega (arith, same.0), omega (arith, same.1));
            })
        | inr last ↦
            let one : head.next ≡ 1 = omega (arith, is.next.0) in
            let test : eqb head.next 1 ≡ true = eq-eqb head.next 1 one in
            let over : t + 1 + green_of s.plan i + times.amber - (t + 1) ≡ lasts = omega arith in
            let cycle : t + 1 + s.plan.cycle - (t + 1) ≡ s.plan.cycle = omega arith in
            let same : next ≡ started = e ∙ ap (λ (b : Bool). if b then started else counted) test in
            let moment : t + head.next ≡ t + 1 = ap (λ x. t + x) one in
            turned (t + 1) (t + 1) next (omega (arith, is.next.1)) (subst (λ x. s.runs i x ≡ Some (green_of s.plan i)) moment is.coming) (omega arith) (omega arith)
            (same ∙ ap (λ x. head_of 0 x s.plan.cycle) (sym over)
            ∙ ap (λ x. head_of 0 (t + 1 + green_of s.plan i + times.amber - (t + 1)) x) (sym cycle))
      ]

  -- what it tells is what the schedule shows
  pub head_shows : (t : ℕ) (head : Head) → IsHead junction s i t head → aspect_of_head head (times_at junction i) ≡ shown_at (s.runs i) (times_at junction i) t
  head_shows t head is =
      let times : GroupTimes = times_at junction i in
      let own = own_run (s.runs i) times t head is.own in
      let a : ℕ = own.0 in
      let g : ℕ = own.1 in
      let start : head.start ≡ a - t = own.2.1 in
      let over : head.over ≡ a + g + times.amber - t = own.2.2 in
      let soon : a ≤ t + times.red_amber = own.2.3 in
      shown_as (s.runs i) times t (eqb head.start 0 && ltb times.amber head.over) (eqb head.start 0 && ltb 0 head.over) (ltb 0 head.start || leb head.next times.red_amber) (
        (λ e.
            let both = and_parts (eqb head.start 0) (ltb times.amber head.over) e in
            let begun = eqb-true head.start 0 both.0 in
            let some = ltb-true times.amber head.over both.1 in
            (a, g, own.2.0, omega arith, omega arith)),
        (λ on.
            let same = is.each on.0 on.1 on.2 (omega (arith, on.4)) (omega (arith, on.3, is.next.0)) in
            and_from (eqb head.start 0) (ltb times.amber head.over) (eq-eqb head.start 0 (omega (arith, same.0, on.3))) (lt-ltb times.amber head.over (omega (arith, same.1, on.4)))),
      )
      (λ off. (
        (λ e.
            let both = and_parts (eqb head.start 0) (ltb 0 head.over) e in
            let begun = eqb-true head.start 0 both.0 in
            let some = ltb-true 0 head.over both.1 in
            let few : head.over ≤ times.amber = not_both (eqb head.start 0) head.over times.amber both.0 off in
            (a, g, own.2.0, omega arith, omega arith)),
        (λ on.
            let same = is.each on.0 on.1 on.2 (omega (arith, on.4)) (omega (arith, on.3, is.next.0)) in
            and_from (eqb head.start 0) (ltb 0 head.over) (eq-eqb head.start 0 (omega (arith, same.0, on.3))) (lt-ltb 0 head.over (omega (arith, same.1, on.4)))),
      ))
      (λ off away. (
        (λ e. elim (or_cases (ltb 0 head.start) (leb head.next times.red_amber) e) [
          | inl waits ↦ let some = ltb-true 0 head.start waits in (a, g, own.2.0, omega arith, soon)
          | inr near ↦ let few = leb-true head.next times.red_amber near in (t + head.next, green_of s.plan i, is.coming, omega (arith, is.next.0), omega arith)
        ]),
        (λ on. elim (cases_lt on.0 (t + head.next)) [
          | inl early ↦
              let same = is.each on.0 on.1 on.2 (omega (arith, on.3)) early in
              or_left (ltb 0 head.start) (leb head.next times.red_amber) (lt-ltb 0 head.start (omega (arith, same.0, on.3)))
          | inr later ↦ or_right (ltb 0 head.start) (leb head.next times.red_amber) (le-leb head.next times.red_amber (omega (arith, on.4)))
        ]),
      ))

  -- what a request at moment n leaves of a record: one kept run
  pub record IsKeptHead (n : ℕ) (head : Head) : Type 0 where
    pub from : ℕ
    pub green : ℕ
    pub own : IsOwnRun (s.runs i) (times_at junction i) n head from green
    pub each : (b g : ℕ) → s.runs i b ≡ Some g → Keeps (s.runs i) (times_at junction i) n b → n < b + g + (times_at junction i).amber →
        (head.start ≡ b - n) × (head.over ≡ b + g + (times_at junction i).amber - n)

  next_first : (n b : ℕ) (head : Head) → IsHead junction s i n head → n + head.next ≤ b → Keeps (s.runs i) (times_at junction i) n b → b ≡ n + head.next
  next_first n b head is late (inl old) = absurd (omega (arith, is.next.0))
  next_first n b head is late (inr new) = let first = new.3 (n + head.next) (green_of s.plan i) is.coming (omega (arith, is.next.0)) in omega arith

  pub kept_head_is : (n : ℕ) (head kept : Head) → IsHead junction s i n head →
      kept ≡ head_kept head (times_at junction i).red_amber (green_of s.plan i + (times_at junction i).amber) → IsKeptHead n kept
  kept_head_is n head kept is e =
      let times : GroupTimes = times_at junction i in
      let lasts : ℕ = green_of s.plan i + times.amber in
      let new : Head = head_of head.next (head.next + lasts) head.next in
      elim (cases_lt times.red_amber head.next) [
        | inl far ↦
            let test : leb head.next times.red_amber ≡ false = lt-leb head.next times.red_amber far in
            let same : kept ≡ head = e ∙ ap (λ (b : Bool). if b then new else head) test in
            let old = own_run (s.runs i) times n head is.own in
            subst (IsKeptHead n) (sym same) (record {
              from = old.0;
              green = old.1;
              own = old.2;
              each = λ b g other keeps seen. let soon = kept_soon (s.runs i) times n b keeps in is.each b g other seen (omega arith);
            })
        | inr near ↦
            let test : leb head.next times.red_amber ≡ true = le-leb head.next times.red_amber near in
            let same : kept ≡ new = e ∙ ap (λ (b : Bool). if b then new else head) test in
            subst (IsKeptHead n) (sym same) (record {
              from = n + head.next;
              green = green_of s.plan i;
              own = (is.coming, omega arith, omega arith, omega arith);
              each = λ b g other keeps seen. elim (cases_lt b (n + head.next)) [
                | inl early ↦
                    let apart = sound.spaced i b (n + head.next) g (green_of s.plan i) inside other is.coming early in
                    absurd (omega arith)
                | inr late ↦
                    let first : b ≡ n + head.next = next_first n b head is late keeps in
                    let length : g ≡ green_of s.plan i = same_length (s.runs i) b (n + head.next) g (green_of s.plan i) first other is.coming in
                    (omega arith, omega arith)
              ];
            })
      ]

  -- when the kept runs are over
  pub kept_end : (n : ℕ) (kept : Head) → IsKeptHead n kept →
      max (n + 1) (last_end (s.runs i) (times_at junction i) n) ≡ max (n + 1) (n + (kept.over - (times_at junction i).amber))
  kept_end n kept is =
      let times : GroupTimes = times_at junction i in
      let ends : ℕ → ℕ = λ b. option_map_or (λ h. b + h) (kept_runs (s.runs i) times n b) 0 in
      let over : kept.over ≡ is.from + is.green + times.amber - n = is.own.2 in
      let keeps = announced junction s n s.plan sound i inside is.from is.green is.own.0 is.own.3 in
      let own : ends is.from ≡ is.from + is.green =
      ap (λ (o : Option ℕ). option_map_or (λ h. is.from + h) o 0) (is_kept_run (s.runs i) times n is.from is.green is.own.0 keeps) in
      let least = greatest_most (n + times.red_amber + 1) ends is.from (omega (arith, is.own.3)) in
      let bound : ℕ = max (n + 1) (n + (kept.over - times.amber)) in
      let most : last_end (s.runs i) times n ≤ bound = greatest_least (n + times.red_amber + 1) ends bound (λ b h.
      option_most (kept_runs (s.runs i) times n b) b bound (λ g e.
      let old = kept_is (s.runs i) times n b g e in
      elim (cases_lt n (b + g + times.amber)) [
        | inl seen ↦ let same = is.each b g old.0 old.1 seen in omega (arith, same.1)
        | inr over ↦ omega arith
      ])) in
      omega (arith, own, least, most)

module _ (junction : JunctionView) (s : Schedule) (rules : IsJunction junction) (sound : IsSound junction s) (n : ℕ) (p : PlanView) (fits : Fits junction p) (i : ℕ) (inside : i < group_count junction) where
  abbrev after : Schedule
  after = changed junction n p s

  -- the record in the schedule of a request
  pub changed_head : (kept head : Head) → IsKeptHead junction s sound i inside n kept → head ≡ head_of kept.start kept.over (after.begin + start_of p i - n) →
      IsHead junction after i n head
  changed_head kept head is e =
      let times : GroupTimes = times_at junction i in
      let next : ℕ = after.begin + start_of p i - n in
      let late : n + 1 ≤ end_of_kept junction s.runs n = after_request junction s.runs n in
      let own : own_gap junction i ≤ change_gap junction = gap_holds_own junction i inside in
      let moment : n + next ≡ after.begin + start_of p i = omega arith in
      let plain : after.begin + start_of p i ≡ after.begin + start_of p i + 0 * p.cycle = plus_none (after.begin + start_of p i) p.cycle in
      let run = stays junction s n p sound i inside is.from is.green is.own.0 (announced junction s n p sound i inside is.from is.green is.own.0 is.own.3) in
      subst (IsHead junction after i n) (sym e) (record {
        own = run_told (after.runs i) times n (head_of kept.start kept.over next) is.from is.green (run, is.own.1, is.own.2, is.own.3);
        next = (omega arith, omega arith);
        coming = (changed_sound junction s n p rules fits sound).played i (n + next) inside (omega arith) ∙ ap (plan_runs p after.begin i) (moment ∙ plain) ∙ plan_run p after.begin i 0;
        each = λ b g other seen early. elim (changed_is junction s.runs n p i b g other) [
          | inl kept ↦ let old = kept_is (s.runs i) times n b g kept in is.each b g old.0 old.1 seen
          | inr new ↦ let its = planned p after.begin i b g new in absurd (omega (arith, its.2))
        ];
      })
