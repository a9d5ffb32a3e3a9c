-- Why the rows of a plan that fits are safe.
use Rattle.std.proofs.Common.{ℕ, Some, ◌≡◌, ◌≤◌, ◌<◌, ◌+◌, ◌-◌, ◌%◌, slice_get, inl, inr, sym, ap, ◌∙◌, subst, arith}
use Rattle.std.proofs.lemmas.Bool.{cases_lt}
use Rattle.std.proofs.lemmas.Option.{slice_get_within, get_or_from_slice_get}
use Rattle.std.proofs.lemmas.List.Elements.{All-get_or}
use Rattle.std.proofs.Math.Nat.{mod-lt, mod-eq_of_lt, mod_self}
use Rattle.junction_model.specs.declared.group.Group.{Group}
use Rattle.junction_model.specs.Junction.{JunctionView}
use Rattle.junction_model.specs.Rules.{IsJunction, IsGroup}
use Rattle.plan_model.specs.SignalPlan.{PlanView, GreenAt, start_of, green_of}
use Rattle.plan_model.specs.Fits.{Fits, group_count}
use Rattle.plan_model.proofs.IsShown.{group_there, fits_shown, shown_start, shown_green}
use Rattle.plan_model.proofs.GreenBelowCycle.{amber_below_cycle_law}
use Rattle.plan_model.proofs.Phase.{phase, phase_below, phase_on, phase_round}
use Rattle.aspect_player.specs.declared.aspect.Aspect.TheVariants.{Green, Amber}
use Rattle.aspect_player.specs.Aspect.{aspect_at}
use Rattle.aspect_player.specs.Timetable.{timetable}
use Rattle.aspect_player.specs.Safe.{Shows, ShowsOther, IsClearance, IsWholeAmber, IsWholeGreen, SafetyLaw}
use Rattle.aspect_player.proofs.ByPhase.{IsPlayed, amber_shows, green_shows, is_shown_green}
use Rattle.aspect_player.proofs.Timetable.{shows_own, shows_same, shows_in, row_count}

pub plays : (junction : JunctionView) (p : PlanView) (i : ℕ) (group : Group) → IsJunction junction → Fits junction p →
    slice_get junction.groups i ≡ Some group → IsPlayed p i group.times
plays junction p i group rules fits there =
    let shown = fits_shown junction p rules fits in
    let h : i < group_count junction = slice_get_within _ _ _ there in
    let rule = rw (get_or_from_slice_get junction.groups i group group there) at (All-get_or IsGroup junction.groups i group h rules.groups.each) in
    record {
      start = shown_start junction p i shown h;
      some = shown_green junction p i shown h;
      short = amber_below_cycle_law junction p i group rules fits there;
      brief = rule.times.amber;
    }

green_of_row : (junction : JunctionView) (p : PlanView) (n t i : ℕ) → Shows (timetable junction p n) t i Green → GreenAt p i t
green_of_row junction p n t i shows =
    let there = group_there junction i (shows_in junction (aspect_at p) n t i Green shows) in
    is_shown_green p i t there.0.times (shows_same junction (aspect_at p) n t i there.0 Green there.1 shows)

other_of_row : (junction : JunctionView) (p : PlanView) (n t i : ℕ) (group : Group) → slice_get junction.groups i ≡ Some group →
    ShowsOther (timetable junction p n) t i → green_of p i ≤ phase p.cycle (start_of p i) t
other_of_row junction p n t i group there other = elim (cases_lt (phase p.cycle (start_of p i) t) (green_of p i)) [
  | inl green ↦
      let same : aspect_at p i group.times t ≡ other.0 = shows_same junction (aspect_at p) n t i group other.0 there other.1 in
      absurd (other.2 (sym same ∙ green_shows p i t group.times green))
  | inr over ↦ over
]

clearance : (junction : JunctionView) (p : PlanView) (n : ℕ) → IsJunction junction → Fits junction p → IsClearance junction (timetable junction p n)
clearance junction p n rules fits i j w u v is order first second = elim (cases_lt (u + w) v) [
  | inl apart ↦ apart
  | inr near ↦
      let shown = fits_shown junction p rules fits in
      let hi = shows_in junction (aspect_at p) n u i Green first in
      let hj = shows_in junction (aspect_at p) n v j Green second in
      let c = p.cycle in
      let si : start_of p i < c = shown_start junction p i shown hi in
      let sj : start_of p j < c = shown_start junction p j shown hj in
      let d : ℕ = v - u in
      let end : u + d ≡ v = omega arith in
      let green_i : phase c (start_of p i) u < green_of p i = green_of_row junction p n u i first in
      let green_j : phase c (start_of p j) v < green_of p j = green_of_row junction p n v j second in
      let round : phase c (start_of p i) (u % c) ≡ phase c (start_of p i) u = phase_round c (start_of p i) u (omega arith) in
      let later : phase c (start_of p j) (u % c + d) ≡ phase c (start_of p j) v =
      phase_on c (start_of p j) (u % c) d (omega arith) ∙ ap (λ m. (m + d) % c) (phase_round c (start_of p j) u (omega arith))
      ∙ sym (phase_on c (start_of p j) u d (omega arith)) ∙ ap (phase c (start_of p j)) end in
      absurd (fits.clear i j w (u % c) hi hj is (mod-lt u (omega arith)) (omega (arith, round, green_i), (d, omega arith, omega (arith, later, green_j))))
]

whole_amber : (junction : JunctionView) (p : PlanView) (n : ℕ) → IsJunction junction → Fits junction p → IsWholeAmber junction (timetable junction p n)
whole_amber junction p n rules fits i u k group there first other some few inside =
    let played = plays junction p i group rules fits there in
    let c = p.cycle in
    let s = start_of p i in
    let green : phase c s u < green_of p i = green_of_row junction p n u i first in
    let over : green_of p i ≤ phase c s (u + 1) = other_of_row junction p n (u + 1) i group there other in
    let on : phase c s (u + 1) ≡ phase c s u + 1 = phase_on c s u 1 (omega (arith, played.start)) ∙ mod-eq_of_lt (omega (arith, played.short)) in
    let later : phase c s (u + k) ≡ phase c s u + k = phase_on c s u k (omega (arith, played.start)) ∙ mod-eq_of_lt (omega (arith, played.short)) in
    let amber : aspect_at p i group.times (u + k) ≡ Amber = amber_shows p i (u + k) group.times played (omega arith) (omega arith) in
    let h : u + k < n = omega (arith, inside, row_count junction (aspect_at p) 0 n) in
    subst (λ aspect. Shows (timetable junction p n) (u + k) i aspect) amber (shows_own junction (aspect_at p) n (u + k) i group there h)

whole_green : (junction : JunctionView) (p : PlanView) (n : ℕ) → IsJunction junction → Fits junction p → IsWholeGreen junction (timetable junction p n)
whole_green junction p n rules fits i u m group there some before run after =
    let played = plays junction p i group rules fits there in
    let c = p.cycle in
    let s = start_of p i in
    let over : green_of p i ≤ phase c s u = other_of_row junction p n u i group there before in
    let first : phase c s (u + 1) < green_of p i = green_of_row junction p n (u + 1) i (run 1 (omega arith) some) in
    let below : phase c s u < c = phase_below c s u (omega (arith, played.start)) in
    let on : phase c s (u + 1) ≡ (phase c s u + 1) % c = phase_on c s u 1 (omega (arith, played.start)) in
    let whole : phase c s u + 1 ≡ c = elim (cases_lt (phase c s u + 1) c) [
      | inl less ↦ let same : (phase c s u + 1) % c ≡ phase c s u + 1 = mod-eq_of_lt less in absurd (omega arith)
      | inr more ↦ omega arith
    ] in
    let start : phase c s (u + 1) ≡ 0 = on ∙ ap (λ x. x % c) whole ∙ mod_self c in
    let end : green_of p i ≤ phase c s (u + m + 1) = other_of_row junction p n (u + m + 1) i group there after in
    let same : u + m + 1 ≡ u + 1 + m = omega arith in
    let last : phase c s (u + m + 1) ≡ (0 + m) % c = ap (phase c s) same ∙ phase_on c s (u + 1) m (omega (arith, played.start)) ∙ ap (λ x. (x + m) % c) start in
    elim (cases_lt m (green_of p i)) [
      | inl short ↦
          let small : 0 + m < c = omega (arith, played.short) in
          let value : (0 + m) % c ≡ 0 + m = mod-eq_of_lt small in
          absurd (omega arith)
      | inr long ↦ omega (arith, long, fits.greens i group there)
    ]

pub safety_law : SafetyLaw
safety_law junction p n rules fits = record {
  clearance = clearance junction p n rules fits;
  amber = whole_amber junction p n rules fits;
  minimum = whole_green junction p n rules fits;
}
