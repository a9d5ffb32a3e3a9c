-- A plan is read as it was written, and what is read was written.
use Rattle.std.proofs.Common.{◌≡◌, ◌≤◌, ◌&&◌, ◌==◌, ℕ, codes, true, List, length, map, Option, Some, None, IfSome, option_map, All, refl, ap, ◌∙◌, arith}
use Rattle.std.proofs.lemmas.Bool.{and_parts, eqb-true, eq-eqb}
use Rattle.std.proofs.lemmas.List.Elements.{All-weaker}
use Rattle.std.proofs.lemmas.Option.{option_and_then_some, same_Some, none-some, cond_some}
use Rattle.serde_json.specs.Data.{Data, null, boolean, number, string, array, object, Members}
use Rattle.serde_json.specs.Events.{members_len}
use Rattle.serde_json.specs.Find.{get_member}
use Rattle.plan_model.specs.SignalPlan.{PlanView, plan_with}
use Rattle.plan_certificate.specs.Contents.{whole, list, wholes, StandsAt, IsPlanObject, IsPlanData}
use Rattle.plan_certificate.specs.Members.{all_of, whole_within, times_of, times_under, cycle_under, plan_from, plan_under, plan_of_value}
use Rattle.plan_certificate.specs.Ranges.{longest_time, IsPlanAmong}
use Rattle.plan_certificate.specs.Shape.{list_of, has, is_whole, is_list_of, is_plan_of, is_plan}
use Rattle.plan_certificate.proofs.ListReading.{all_back, all_read, option_map_some}
use Rattle.plan_certificate.proofs.Elements.{elements-items_of, list_read}
use Rattle.plan_certificate.proofs.Trees.{IsWithin, number_back, number_read}

abbrev AreShort : List ℕ → Type 0
AreShort seconds = All (λ s. s ≤ longest_time) seconds

times_back : (key : List ℕ) (ms : Members) (seconds : List ℕ) → StandsAt ms key (wholes seconds) → AreShort seconds → times_under key ms ≡ Some seconds
times_back key ms seconds stands short =
    let each : All (IsWithin 0 longest_time) seconds = All-weaker (λ s. s ≤ longest_time) (IsWithin 0 longest_time) (λ s most. (omega arith, most)) seconds short in
    rw (stands, elements-items_of (map whole seconds)) (all_back whole (whole_within 0 longest_time) (IsWithin 0 longest_time) (number_back 0 longest_time) seconds each)

times_value : (d : Data) (seconds : List ℕ) → times_of d ≡ Some seconds → (d ≡ wholes seconds) × AreShort seconds
times_value d seconds h = option_and_then_some (all_of (whole_within 0 longest_time)) (list_of d) seconds h (λ ds listed read.
    let found = all_read whole (whole_within 0 longest_time) (IsWithin 0 longest_time) (number_read 0 longest_time) ds seconds read in
    (list_read d ds listed ∙ ap list found.0, All-weaker (IsWithin 0 longest_time) (λ s. s ≤ longest_time) (λ s inside. inside.1) seconds found.1))

times_read : (key : List ℕ) (ms : Members) (seconds : List ℕ) → times_under key ms ≡ Some seconds → StandsAt ms key (wholes seconds) × AreShort seconds
times_read key ms seconds h = option_and_then_some times_of (get_member key ms) seconds h (λ d stands read.
    let found = times_value d seconds read in
    (stands ∙ ap Some found.0, found.1))

plan_back : (groups : ℕ) (ms : Members) (p : PlanView) → StandsAt ms (codes "cycle") (whole p.cycle) →
    StandsAt ms (codes "greens") (wholes p.greens) → StandsAt ms (codes "starts") (wholes p.starts) → IsPlanAmong groups p → plan_under groups ms ≡ Some p
plan_back groups ms p cycle greens starts h =
    rw (
      cycle,
      number_back 1 longest_time p.cycle (h.some, h.cycle),
      times_back (codes "starts") ms p.starts starts h.starts.1,
      times_back (codes "greens") ms p.greens greens h.greens.1,
      eq-eqb (length p.starts) groups h.starts.0,
      eq-eqb (length p.greens) groups h.greens.0,
    ) refl

-- a plan under three keys
record IsPlanUnder (groups : ℕ) (ms : Members) (p : PlanView) : Type 0 where
  cycle : StandsAt ms (codes "cycle") (whole p.cycle)
  greens : StandsAt ms (codes "greens") (wholes p.greens)
  starts : StandsAt ms (codes "starts") (wholes p.starts)
  range : IsPlanAmong groups p

plan_read : (groups : ℕ) (ms : Members) (p : PlanView) → plan_under groups ms ≡ Some p → IsPlanUnder groups ms p
plan_read groups ms p h =
    option_and_then_some _ (cycle_under ms) p h (λ cycle cycle_found more.
    option_and_then_some _ (times_under (codes "starts") ms) p more (λ starts starts_found rest.
    option_and_then_some (plan_from groups cycle starts) (times_under (codes "greens") ms) p rest (λ greens greens_found made.
    option_and_then_some (whole_within 1 longest_time) (get_member (codes "cycle") ms) cycle cycle_found (λ d stands read.
    let same = cond_some ((length starts == groups) && (length greens == groups)) (plan_with cycle starts greens) p made in
    let counts = and_parts _ _ same.0 in
    let c = number_read 1 longest_time d cycle read in
    let s = times_read (codes "starts") ms starts starts_found in
    let g = times_read (codes "greens") ms greens greens_found in
    rw (← same.1) (record {
      cycle = stands ∙ ap Some c.0;
      greens = g.0;
      starts = s.0;
      range = record {
        some = c.1.0;
        cycle = c.1.1;
        starts = (eqb-true (length starts) groups counts.0, s.1);
        greens = (eqb-true (length greens) groups counts.1, g.1);
      };
    })))))

pub value_back : (groups : ℕ) (d : Data) (plan : Option PlanView) → IsPlanData d plan → IfSome plan (IsPlanAmong groups) → plan_of_value groups d ≡ Some plan
value_back groups d None h range = rw h refl
value_back groups d (Some p) h range = rw h.object (ap (option_map Some) (plan_back groups h.members p h.cycle h.greens h.starts range))

object_read : (groups : ℕ) (ms : Members) (p : PlanView) → is_plan_of ms ≡ true → plan_under groups ms ≡ Some p → IsPlanObject (object ms) p × IsPlanAmong groups p
object_read groups ms p shape h =
    let found = plan_read groups ms p h in
    let third = and_parts _ (has (codes "starts") (is_list_of is_whole) ms) shape in
    let second = and_parts _ (has (codes "greens") (is_list_of is_whole) ms) third.0 in
    let first = and_parts (members_len ms == 3) (has (codes "cycle") is_whole ms) second.0 in (
      record {
        members = ms;
        object = refl;
        three = eqb-true (members_len ms) 3 first.0;
        cycle = found.cycle;
        greens = found.greens;
        starts = found.starts;
      },
      found.range,
    )

some_read : (groups : ℕ) (ms : Members) (plan : Option PlanView) → is_plan_of ms ≡ true → option_map Some (plan_under groups ms) ≡ Some plan →
    IsPlanData (object ms) plan × IfSome plan (IsPlanAmong groups)
some_read groups ms plan shape h =
    let found = option_map_some Some (plan_under groups ms) plan h in
    rw (← found.2) (object_read groups ms found.0 shape found.1)

pub value_read : (groups : ℕ) (d : Data) (plan : Option PlanView) → is_plan d ≡ true → plan_of_value groups d ≡ Some plan →
    IsPlanData d plan × IfSome plan (IsPlanAmong groups)
value_read groups null plan shape h = rw (← same_Some None plan h) (refl, tt)
value_read groups (boolean b) plan shape h = absurd (none-some plan h)
value_read groups (number n) plan shape h = absurd (none-some plan h)
value_read groups (string s) plan shape h = absurd (none-some plan h)
value_read groups (array items) plan shape h = absurd (none-some plan h)
value_read groups (object ms) plan shape h = some_read groups ms plan shape h
