-- Soon after the last request its plan is played.
use Rattle.std.proofs.Common.{ℕ, Option, None, Some, [], ◌∷◌, ◌++◌, ◌≡◌, ◌≤◌, ◌<◌, ◌+◌, ◌-◌, ◌*◌, ◌/◌, ltb, leb, false, max, unwrap_or, inl, inr, ◌⊎◌, refl, sym, ap, ◌∙◌, arith}
use Rattle.std.specs.Option.{option_map_or}
use Rattle.std.proofs.lemmas.Bool.{cases_lt, le-leb, leb-true, lt-ltb, ltb-true}
use Rattle.std.proofs.lemmas.Bool.Decides.{nat_tests}
use Rattle.std.proofs.lemmas.Option.{slice_get_within, get_or_from_slice_get}
use Rattle.std.proofs.lemmas.List.Elements.{All-get_or}
use Rattle.std.proofs.Math.Nat.{div-add-mod'}
use Rattle.conflict_matrix.specs.Matrix.{intergreen_of}
use Rattle.sig_base.specs.declared.group_times.GroupTimes.{GroupTimes}
use Rattle.junction_model.specs.Junction.{JunctionView}
use Rattle.junction_model.specs.Rules.{IsJunction, IsGroup}
use Rattle.plan_model.specs.SignalPlan.{PlanView, start_of, green_of}
use Rattle.plan_model.specs.Fits.{Fits, group_count}
use Rattle.plan_model.proofs.Phase.{phase, phase_below}
use Rattle.plan_model.proofs.IsShown.{group_there, fits_shown, shown_start}
use Rattle.aspect_player.specs.Aspect.{aspect_at}
use Rattle.aspect_player.specs.Counts.{left_at}
use Rattle.aspect_player.proofs.ByPhase.{IsPlayed, aspect_by_left}
use Rattle.aspect_player.proofs.Safety.{plays}
use Rattle.plan_change.specs.Runs.{shown_at}
use Rattle.plan_change.specs.Schedule.{RequestView, Schedule, times_at, own_gap, greatest_from, change_gap, plan_runs, kept_runs, last_end, end_of_kept, begin_after, moment, schedule_of}
use Rattle.plan_change.specs.Laws.{SettledLaw, SettledSoonLaw}
use Rattle.plan_change.proofs.Tests.{greatest_least, option_most}
use Rattle.plan_change.proofs.Runs.{shown_as}
use Rattle.plan_change.proofs.Schedule.{planned, plan_run, kept_is, times_there}
use Rattle.plan_change.proofs.PlanRuns.{next_turn}
use Rattle.plan_change.proofs.Sound.{IsSound, sound, one_more}
use Rattle.plan_change.proofs.Stays.{All-front}

-- the last start at second t or before
pub last_start : (c s t : ℕ) → s < c → s ≤ t → (m : ℕ) × (t ≡ s + m * c + phase c s t)
last_start c s t early from =
    let q : ℕ = (t + c - s) / c in
    let whole : q * c + phase c s t ≡ t + c - s = div-add-mod' (t + c - s) c in
    let below : phase c s t < c = phase_below c s t (omega arith) in
    elim (cases_lt 0 q) [
      | inl some ↦
          let m : ℕ = q - 1 in
          let next : q ≡ m + 1 = omega arith in
          let more : (m + 1) * c ≡ m * c + c = grind arith in
          let same : q * c ≡ (m + 1) * c = ap (λ x. x * c) next in
          (m, omega arith)
      | inr none ↦
          let zero_q : q ≡ 0 = omega arith in
          let nothing : q * c ≡ 0 * c = ap (λ x. x * c) zero_q in
          let plain : 0 * c ≡ 0 = grind arith in
          absurd (omega arith)
    ]

pub wait_most : (o : Option ℕ) → ((w : ℕ) → o ≡ Some w → w ≤ 60) → unwrap_or o 0 ≤ 60
wait_most None h = omega arith
wait_most (Some w) h = h w refl

over_of : (c ph g : ℕ) → ph < c → ltb c (c - ph + g) ≡ false → g ≤ ph
over_of c ph g below e = grind (arith, nat_tests)

module _ (junction : JunctionView) (s : Schedule) (rules : IsJunction junction) (sound : IsSound junction s) (i : ℕ) (inside : i < group_count junction) where
  abbrev p : PlanView
  p = s.plan

  abbrev c : ℕ
  c = s.plan.cycle

  abbrev start : ℕ
  start = start_of s.plan i

  early_start : start < c
  early_start = shown_start junction p i (fits_shown junction p rules sound.fits) inside

  -- the runs at moment b + t, counted from the beginning: the last one that started, and the next one
  record IsAmong (t a : ℕ) : Type 0 where
    late : s.begin ≤ a
    last : (s.runs i a ≡ Some (green_of p i)) × (s.begin + t ≡ a + phase c start t)
    next : s.runs i (a + c) ≡ Some (green_of p i)
    each : (b g : ℕ) → s.runs i b ≡ Some g → (b + g + own_gap junction i ≤ a) ⊎ ((b ≡ a) × (g ≡ green_of p i)) ⊎ (a + c ≤ b)

  among : (t : ℕ) → c ≤ t → (a : ℕ) × IsAmong t a
  among t long =
      let turn = last_start c start t early_start (omega (arith, early_start)) in
      let m : ℕ = turn.0 in
      let a : ℕ = s.begin + start + m * c in
      let follows : (m + 1) * c ≡ m * c + c = grind arith in
      let is : s.runs i a ≡ Some (green_of p i) = sound.played i a inside (omega arith) ∙ plan_run p s.begin i m in
      let after : a + c ≡ s.begin + start + (m + 1) * c = omega arith in
      let next : s.runs i (a + c) ≡ Some (green_of p i) =
      sound.played i (a + c) inside (omega arith) ∙ ap (plan_runs p s.begin i) after ∙ plan_run p s.begin i (m + 1) in (
        a,
        record {
          late = omega arith;
          last = (is, omega (arith, turn.1));
          next = next;
          each = λ b g run. elim (cases_lt b a) [
            | inl before ↦ inl (sound.spaced i b a g (green_of p i) inside run is before)
            | inr from ↦
                let own = planned p s.begin i b g (sym (sound.played i b inside (omega arith)) ∙ run) in
                let b_is : b ≡ s.begin + start + own.1 * c = own.2 in
                elim (cases_lt a b) [
                  | inl later ↦ inr (inr (let turns = next_turn s.begin c start m own.1 (omega arith) in omega arith))
                  | inr same ↦ inr (inl (omega arith, own.0))
                ]
          ];
        },
      )

  -- from a cycle after the beginning on, the plan is played
  pub played : (t : ℕ) (times : GroupTimes) → times_at junction i ≡ times → IsPlayed p i times → c ≤ t → shown_at (s.runs i) times (s.begin + t) ≡ aspect_at p i times t
  played t times same plays long =
      let found = among t long in
      let a : ℕ = found.0 in
      let is = found.1 in
      let T : ℕ = s.begin + t in
      let g : ℕ = green_of p i in
      let ph : ℕ = phase c start t in
      let here : T ≡ a + ph = is.last.1 in
      let below : ph < c = phase_below c start t (omega (arith, early_start)) in
      let amber : (times_at junction i).amber ≡ times.amber = ap (λ x. x.amber) same in
      let red_amber : (times_at junction i).red_amber ≡ times.red_amber = ap (λ x. x.red_amber) same in
      sym (aspect_by_left p i t times plays
      ∙ shown_as (s.runs i) times T (ltb c (left_at p i t + g)) (ltb c (left_at p i t + g + times.amber)) (leb (left_at p i t) times.red_amber) (
        (λ e. (a, g, is.last.0, omega arith, omega (arith, ltb-true _ _ e))),
        (λ on. elim (is.each on.0 on.1 on.2) [
          | inl before ↦ absurd (omega (arith, on.4))
          | inr rest ↦ elim rest [
            | inl own ↦ lt-ltb _ _ (omega (arith, own.0, own.1, on.4))
            | inr next ↦ absurd (omega (arith, on.3))
          ]
        ]),
      )
      (λ off. let over : g ≤ ph = over_of c ph g below off in (
        (λ e. (a, g, is.last.0, omega arith, omega (arith, ltb-true _ _ e))),
        (λ on. elim (is.each on.0 on.1 on.2) [
          | inl before ↦ absurd (omega (arith, on.4))
          | inr rest ↦ elim rest [
            | inl own ↦ lt-ltb _ _ (omega (arith, own.0, own.1, on.4))
            | inr next ↦ absurd (omega (arith, on.3))
          ]
        ]),
      ))
      (λ off away. (
        (λ e. (a + c, g, is.next, omega arith, omega (arith, leb-true _ _ e))),
        (λ on. elim (is.each on.0 on.1 on.2) [
          | inl before ↦ absurd (omega (arith, on.3))
          | inr rest ↦ elim rest [
            | inl own ↦ absurd (omega (arith, own.0, on.3))
            | inr next ↦ le-leb _ _ (omega (arith, on.4))
          ]
        ]),
      )))

pub settled_law : SettledLaw
settled_law junction first requests i t group rules fits asked there late =
    let s : Schedule = schedule_of junction first requests in
    let kept = sound junction first requests rules fits asked.fit in
    let d : ℕ = moment first t - s.begin in
    let round : s.begin + d ≡ moment first t = omega arith in
    ap (λ x. shown_at (s.runs i) group.times x) (sym round)
    ∙ played junction s rules kept i (slice_get_within _ _ _ there) d group.times (times_there junction i group there)
    (plays junction s.plan i group rules kept.fits there) (omega arith)

module _ (junction : JunctionView) (s : Schedule) (rules : IsJunction junction) (sound : IsSound junction s) (n : ℕ) where
  pub bounds : (i : ℕ) → i < group_count junction → ((times_at junction i).amber ≤ 30) × ((times_at junction i).red_amber ≤ 10)
  bounds i inside =
      let group = group_there junction i inside in
      let rule = rw (get_or_from_slice_get junction.groups i group.0 group.0 group.1) at
      (All-get_or IsGroup junction.groups i group.0 inside rules.groups.each) in
      let times = times_there junction i group.0 group.1 in
      let amber : (times_at junction i).amber ≡ group.0.times.amber = ap (λ x. x.amber) times in
      let red_amber : (times_at junction i).red_amber ≡ group.0.times.red_amber = ap (λ x. x.red_amber) times in
      (omega (arith, amber, rule.times.amber), omega (arith, red_amber, rule.times.red_amber))

  ends_soon : end_of_kept junction s.runs n ≤ n + 309
  ends_soon =
      let each = greatest_least (group_count junction) (λ i. last_end (s.runs i) (times_at junction i) n) (n + 309) (λ i inside.
      greatest_least (n + (times_at junction i).red_amber + 1) (λ a. option_map_or (λ g. a + g) (kept_runs (s.runs i) (times_at junction i) n a) 0) (n + 309) (λ a h.
      option_most (kept_runs (s.runs i) (times_at junction i) n a) a (n + 309) (λ g e.
      let is = kept_is (s.runs i) (times_at junction i) n a g e in
      omega (arith, h, (bounds i inside).1, (sound.long i a g inside is.0).2)))) in
      omega (arith, each)

  pub gap_most : change_gap junction ≤ 60
  gap_most =
      let few : group_count junction ≤ 16 = rules.groups.few in
      greatest_least (group_count junction) (λ i. max (greatest_from junction i) (own_gap junction i)) 60 (λ i inside.
      let waits : greatest_from junction i ≤ 60 = greatest_least (group_count junction) (λ j. unwrap_or (intergreen_of junction.conflicts i j) 0) 60 (λ j hj.
      wait_most (intergreen_of junction.conflicts i j) (λ w is. rules.conflicts.table.bounded i j w (omega arith) (omega arith) is)) in
      let b = bounds i inside in
      omega (arith, b.0, b.1, waits))

  pub begins_soon : begin_after junction s.runs n ≤ n + 369
  begins_soon = omega (arith, ends_soon, gap_most)

pub settled_soon_law : SettledSoonLaw
settled_soon_law junction first requests request rules fits asked =
    let before : Schedule = schedule_of junction first requests in
    let kept = sound junction first requests rules fits (All-front (λ (r : RequestView). Fits junction r.plan) requests (request ∷ []) asked.fit) in
    let after = sound junction first (requests ++ request ∷ []) rules fits asked.fit in
    let more = one_more junction first requests request in
    let begin : (schedule_of junction first (requests ++ request ∷ [])).begin ≡ begin_after junction before.runs (moment first request.at) = ap (λ s. s.begin) more in
    omega (arith, begin, begins_soon junction before rules kept (moment first request.at), after.fits.cycle.greatest, rules.cycles.longest)
