-- Why the rows are safe while plans are changed: all are rows of the last schedule.
use Rattle.std.proofs.Common.{ℕ, Some, ◌≡◌, ◌≤◌, ◌<◌, ◌+◌, slice_get, inl, inr, sym, ap, ◌∙◌, subst, arith}
use Rattle.std.proofs.lemmas.Bool.{cases_lt}
use Rattle.std.proofs.lemmas.Option.{slice_get_within}
use Rattle.std.specs.Prelude.{is_some}
use Rattle.sig_base.proofs.Option.{some_value}
use Rattle.conflict_matrix.specs.Matrix.{intergreen_of}
use Rattle.junction_model.specs.declared.group.Group.{Group}
use Rattle.junction_model.specs.Junction.{JunctionView}
use Rattle.junction_model.specs.Rules.{IsJunction}
use Rattle.plan_model.specs.SignalPlan.{PlanView}
use Rattle.plan_model.specs.Fits.{group_count}
use Rattle.plan_model.proofs.IsShown.{group_there}
use Rattle.aspect_player.specs.declared.aspect.Aspect.TheVariants.{Green, Amber}
use Rattle.aspect_player.specs.Timetable.{Display, rows_by}
use Rattle.aspect_player.specs.Safe.{Shows, ShowsOther, IsClearance, IsWholeAmber, IsWholeGreen}
use Rattle.aspect_player.proofs.Timetable.{shows_own, shows_same, shows_in, row_count}
use Rattle.plan_change.specs.Runs.{Runs, shown_at}
use Rattle.plan_change.specs.Schedule.{Schedule, times_at, moment, schedule_of}
use Rattle.plan_change.specs.Changes.{change_display}
use Rattle.plan_change.specs.Laws.{ChangeSafetyLaw}
use Rattle.plan_change.proofs.Runs.{GreenIn, AmberIn, shown_green, green_shown, amber_shown}
use Rattle.plan_change.proofs.Schedule.{times_there}
use Rattle.plan_change.proofs.Sound.{IsSound, sound}
use Rattle.plan_change.proofs.Stays.{shows_last}

pub same_length : (runs : Runs) (a b g h : ℕ) → a ≡ b → runs a ≡ Some g → runs b ≡ Some h → g ≡ h
same_length runs a b g h same e f = let both : Some g ≡ Some h = sym e ∙ ap runs same ∙ f in cc

-- the display shows what the schedule's runs tell
abbrev pub Tells : JunctionView → PlanView → Schedule → Display → Type 0
Tells junction first s display = (i t : ℕ) (group : Group) → slice_get junction.groups i ≡ Some group →
    display i group.times t ≡ shown_at (s.runs i) (times_at junction i) (moment first t)

module _ (junction : JunctionView) (first : PlanView) (s : Schedule) (display : Display) (n : ℕ) (rules : IsJunction junction) (sound : IsSound junction s) (tells : Tells junction first s display) where
  green_row : (t i : ℕ) → Shows (rows_by junction display n) t i Green → GreenIn (s.runs i) (moment first t)
  green_row t i shows =
      let there = group_there junction i (shows_in junction display n t i Green shows) in
      shown_green (s.runs i) (times_at junction i) (moment first t)
      (sym (tells i t there.0 there.1) ∙ shows_same junction display n t i there.0 Green there.1 shows)

  other_row : (t i : ℕ) → ShowsOther (rows_by junction display n) t i → ¬ GreenIn (s.runs i) (moment first t)
  other_row t i other on =
      let there = group_there junction i (shows_in junction display n t i other.0 other.1) in
      other.2 (sym (shows_same junction display n t i there.0 other.0 there.1 other.1) ∙ tells i t there.0 there.1
      ∙ green_shown (s.runs i) (times_at junction i) (moment first t) on)

  amber_row : (t i : ℕ) (group : Group) → slice_get junction.groups i ≡ Some group → t < n → ¬ GreenIn (s.runs i) (moment first t) →
      AmberIn (s.runs i) (times_at junction i).amber (moment first t) → Shows (rows_by junction display n) t i Amber
  amber_row t i group there inside off on =
      subst (λ aspect. Shows (rows_by junction display n) t i aspect)
      (tells i t group there ∙ amber_shown (s.runs i) (times_at junction i) (moment first t) off on)
      (shows_own junction display n t i group there inside)

  pub clearance : IsClearance junction (rows_by junction display n)
  clearance i j w u v is order one two =
      let hi = shows_in junction display n u i Green one in
      let hj = shows_in junction display n v j Green two in
      let x = green_row u i one in
      let y = green_row v j two in
      let few : group_count junction ≤ 16 = rules.groups.few in
      elim (cases_lt y.0 x.0) [
        | inl before ↦
            let back = some_value (intergreen_of junction.conflicts j i) (rules.conflicts.table.symmetric i j (omega (arith, few)) (omega (arith, few)) (ap is_some is)) in
            let apart = sound.clear j i back.0 y.0 x.0 y.1 x.1 hj hi back.1 y.2 x.2 (omega arith) in
            absurd (omega (arith, x.3, y.4, apart))
        | inr after ↦ omega (arith, x.4, y.3, sound.clear i j w x.0 y.0 x.1 y.1 hi hj is x.2 y.2 after)
      ]

  pub whole_amber : IsWholeAmber junction (rows_by junction display n)
  whole_amber i u k group there one other some few inside =
      let hi : i < group_count junction = slice_get_within _ _ _ there in
      let x = green_row u i one in
      let a : ℕ = x.0 in
      let g : ℕ = x.1 in
      let times : (times_at junction i).amber ≡ group.times.amber = ap (λ t. t.amber) (times_there junction i group there) in
      let h : u + k < n = omega (arith, inside, row_count junction display 0 n) in
      let end : a + g ≡ moment first (u + 1) = elim (cases_lt (moment first (u + 1)) (a + g)) [
        | inl more ↦ absurd (other_row (u + 1) i other (a, g, x.2, omega (arith, x.3), more))
        | inr over ↦ omega (arith, x.4)
      ] in
      let off : ¬ GreenIn (s.runs i) (moment first (u + k)) = λ on. elim (cases_lt a on.0) [
        | inl later ↦ let far = sound.spaced i a on.0 g on.1 hi x.2 on.2 later in omega (arith, far, on.3)
        | inr not_later ↦ elim (cases_lt on.0 a) [
          | inl before ↦ let far = sound.spaced i on.0 a on.1 g hi on.2 x.2 before in omega (arith, far, on.4, x.3)
          | inr not_before ↦
              let same : on.0 ≡ a = omega arith in
              let length : on.1 ≡ g = same_length (s.runs i) on.0 a on.1 g same on.2 x.2 in
              omega (arith, on.4)
        ]
      ] in
      amber_row (u + k) i group there h off (a, g, x.2, omega arith, omega arith)

  pub whole_green : IsWholeGreen junction (rows_by junction display n)
  whole_green i u m group there some before run after =
      let hi : i < group_count junction = slice_get_within _ _ _ there in
      let x = green_row (u + 1) i (run 1 (omega arith) some) in
      let a : ℕ = x.0 in
      let g : ℕ = x.1 in
      let times : (times_at junction i).min_green ≡ group.times.min_green = ap (λ t. t.min_green) (times_there junction i group there) in
      let start : a ≡ moment first (u + 1) = elim (cases_lt (moment first u) a) [
        | inl later ↦ omega (arith, x.3)
        | inr old ↦ absurd (other_row u i before (a, g, x.2, old, omega (arith, x.4)))
      ] in
      let end : a + g ≤ moment first (u + m + 1) = elim (cases_lt (moment first (u + m + 1)) (a + g)) [
        | inl more ↦ absurd (other_row (u + m + 1) i after (a, g, x.2, omega arith, more))
        | inr over ↦ over
      ] in
      omega (arith, (sound.long i a g hi x.2).0)

pub change_safety_law : ChangeSafetyLaw
change_safety_law junction first requests n rules fits asked =
    let s : Schedule = schedule_of junction first requests in
    let display = change_display junction first requests in
    let kept = sound junction first requests rules fits asked.fit in
    let tells : Tells junction first s display = λ i t group there. shows_last junction first requests i t group rules fits asked there in
    record {
      clearance = clearance junction first s display n rules kept tells;
      amber = whole_amber junction first s display n rules kept tells;
      minimum = whole_green junction first s display n rules kept tells;
    }
