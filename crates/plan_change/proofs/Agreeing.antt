-- A changer agrees with its schedule from the beginning on, a second later and after a request.
use Rattle.std.proofs.Common.{ℕ, zero, suc, List, [], ◌∷◌, ◌++◌, Some, Bool, true, false, if◌then◌else◌, ◌==◌, eqb, max, ◌≡◌, ◌≢◌, ◌≤◌, ◌<◌, ◌+◌, ◌-◌, ◌*◌, slice_get, inl, inr, ◌⊎◌, refl, sym, ap, ◌∙◌, subst, arith}
use Rattle.std.proofs.lemmas.Bool.{cases_lt, eq-eqb, ne_eqb}
use Rattle.std.proofs.lemmas.List.Elements.{All-nil, All-push, All-weaker}
use Rattle.std.proofs.lemmas.List.Quantifiers.{all_pairs_push}
use Rattle.junction_model.specs.declared.group.Group.{Group}
use Rattle.junction_model.specs.Junction.{JunctionView}
use Rattle.junction_model.specs.Rules.{IsJunction}
use Rattle.plan_model.specs.SignalPlan.{PlanView, start_of, green_of}
use Rattle.plan_model.specs.Fits.{Fits, group_count}
use Rattle.plan_model.proofs.IsShown.{fits_shown, shown_start}
use Rattle.plan_change.specs.declared.head.Head.{Head}
use Rattle.plan_change.specs.Runs.{shown_at}
use Rattle.plan_change.specs.Schedule.{RequestView, Schedule, greatest, times_at, change_gap, plan_runs, last_end, end_of_kept, changed, first_schedule, moment, schedule_of}
use Rattle.plan_change.specs.Changes.{schedule_display}
use Rattle.plan_change.specs.Heads.{IsHead, head_of, head_at, head_later, head_kept, aspect_of_head, lasting, first_next, first_record, later_record, kept_record, restarted_record, HasRecords, green_left, kept_left, AreCounting, AreShort}
use Rattle.plan_change.specs.declared.request.Request.{Request}
use Rattle.plan_change.specs.Requests.{Agrees, request_at, request_of, requests_of}
use Rattle.plan_change.proofs.Schedule.{plan_run, times_there}
use Rattle.plan_change.proofs.Sound.{IsSound, sound, first_sound, one_more}
use Rattle.plan_change.proofs.Settled.{bounds}
use Rattle.plan_change.proofs.Records.{turned, later_is, head_shows, IsKeptHead, kept_head_is, kept_end, changed_head}

is_some_number : (s : ℕ) → 0 < s → s ≢ 0
is_some_number s some e = omega arith

next_cases : (s c : ℕ) → ((s ≡ 0) × ((if s == 0 then c else s) ≡ c)) ⊎ ((1 ≤ s) × ((if s == 0 then c else s) ≡ s))
next_cases s c = elim (cases_lt 0 s) [
  | inl some ↦ let test : eqb s 0 ≡ false = ne_eqb s 0 (is_some_number s some) in inr (some, ap (λ (b : Bool). if b then c else s) test)
  | inr none ↦
      let zero_s : s ≡ 0 = omega arith in
      let test : eqb s 0 ≡ true = eq-eqb s 0 zero_s in inl (zero_s, ap (λ (b : Bool). if b then c else s) test)
]

first_start : (p : PlanView) (i : ℕ) → (m : ℕ) × (first_next p i ≡ 0 + start_of p i + m * p.cycle)
first_start p i = elim (next_cases (start_of p i) p.cycle) [
  | inl early ↦ let once : 1 * p.cycle ≡ p.cycle = grind arith in (1, omega (arith, early.0, early.1))
  | inr late ↦ let none : 0 * p.cycle ≡ 0 = grind arith in (0, omega (arith, late.1))
]

first_past : (p : PlanView) (i : ℕ) → start_of p i < p.cycle → (first_next p i ≤ p.cycle) × (1 ≤ first_next p i)
first_past p i h = elim (next_cases (start_of p i) p.cycle) [
  | inl early ↦ (omega (arith, early.1), omega (arith, early.1))
  | inr late ↦ (omega (arith, late.1), omega (arith, late.0, late.1))
]

pub first_agrees : (junction : JunctionView) (p : PlanView) (heads : List Head) → IsJunction junction → Fits junction p →
    HasRecords junction (first_record junction p) heads → Agrees junction p [] 0 p 0 heads
first_agrees junction p heads rules fits are =
    let s : Schedule = first_schedule p in
    let kept : IsSound junction s = first_sound junction p rules fits in
    record {
      fits = fits;
      asked = record { fit = All-nil (λ (r : RequestView). Fits junction r.plan); ordered = λ i j d order h. absurd (omega arith) };
      past = All-nil (λ (r : RequestView). r.at ≤ 0);
      stands = refl;
      settles = omega arith;
      agree = λ i inside.
          let c : ℕ = p.cycle in
          let a : ℕ = first_next p i in
          let start = first_start p i in
          let within = first_past p i (shown_start junction p i (fits_shown junction p rules fits) inside) in
          let run : plan_runs p 0 i a ≡ Some (green_of p i) = ap (plan_runs p 0 i) start.1 ∙ plan_run p 0 i start.0 in
          let over : a + lasting junction p i - c ≡ a + green_of p i + (times_at junction i).amber - (c + 0) = omega arith in
          let next : a ≡ a + c - (c + 0) = omega arith in
          turned junction s kept i inside a (c + 0) (head_at heads i) (omega arith) run (omega (arith, within.0)) (omega (arith, within.1))
          (are i inside ∙ ap (λ x. head_of 0 x a) over ∙ ap (λ x. head_of 0 (a + green_of p i + (times_at junction i).amber - (c + 0)) x) next);
    }

module _ (junction : JunctionView) (first : PlanView) (requests : List RequestView) (second : ℕ) (plan : PlanView) (settled : ℕ) (heads : List Head)
    (rules : IsJunction junction) (is : Agrees junction first requests second plan settled heads) where
  abbrev s : Schedule
  s = schedule_of junction first requests

  abbrev n : ℕ
  n = moment first second

  kept_sound : IsSound junction s
  kept_sound = sound junction first requests rules is.fits is.asked.fit

  pub standing_fits : Fits junction plan
  standing_fits = subst (Fits junction) (sym is.stands) kept_sound.fits

  pub counting : AreCounting junction heads
  counting i inside = (is.agree i inside).next.0

  pub later_agrees : (next : List Head) → HasRecords junction (later_record junction plan heads) next → Agrees junction first requests (second + 1) plan settled next
  later_agrees next are = record {
    fits = is.fits;
    asked = is.asked;
    past = All-weaker (λ (r : RequestView). r.at ≤ second) (λ (r : RequestView). r.at ≤ second + 1) (λ r h. omega arith) requests is.past;
    stands = is.stands;
    settles = is.settles;
    agree = λ i inside.
        let amber : ℕ = (times_at junction i).amber in
        let own : head_at next i ≡ head_later (head_at heads i) s.plan.cycle (green_of s.plan i + amber) =
        are i inside ∙ ap (λ (q : PlanView). head_later (head_at heads i) q.cycle (green_of q i + amber)) is.stands in
        let some : 1 ≤ s.plan.cycle = omega (arith, rules.cycles.some, kept_sound.fits.cycle.least) in
        let follows : n + 1 ≡ moment first (second + 1) = omega arith in
        subst (λ t. IsHead junction s i t (head_at next i)) follows
        (later_is junction s kept_sound i inside n (head_at heads i) (head_at next i) (is.agree i inside) own some);
  }

  pub shows : (i : ℕ) (group : Group) → i < group_count junction → slice_get junction.groups i ≡ Some group →
      aspect_of_head (head_at heads i) (times_at junction i) ≡ schedule_display first s i group.times second
  shows i group inside there =
      head_shows junction s kept_sound i inside n (head_at heads i) (is.agree i inside)
      ∙ ap (λ x. shown_at (s.runs i) x n) (times_there junction i group there)

  module _ (kept : List Head) (are : HasRecords junction (kept_record junction plan heads) kept) where
    kept_is_head : (i : ℕ) (inside : i < group_count junction) → IsKeptHead junction s kept_sound i inside n (head_at kept i)
    kept_is_head i inside =
        let times = times_at junction i in
        let own : head_at kept i ≡ head_kept (head_at heads i) times.red_amber (green_of s.plan i + times.amber) =
        are i inside ∙ ap (λ (q : PlanView). head_kept (head_at heads i) times.red_amber (green_of q i + times.amber)) is.stands in
        kept_head_is junction s kept_sound i inside n (head_at heads i) (head_at kept i) (is.agree i inside) own

    pub short : AreShort junction kept
    short i inside =
        let head = kept_is_head i inside in
        let bound = bounds junction s rules kept_sound n i inside in
        omega (arith, head.own.2, head.own.3, bound.0, bound.1, (kept_sound.long i head.from head.green inside head.own.0).2)

    ends : (k : ℕ) → k ≤ group_count junction →
        max (n + 1) (greatest k (λ i. last_end (s.runs i) (times_at junction i) n)) ≡ n + max 1 (greatest k (green_left junction kept))
    unfolding greatest
    ends zero h = omega arith
    ends (suc k) h =
        let own = kept_end junction s kept_sound k (omega arith) n (head_at kept k) (kept_is_head k (omega arith)) in
        omega (arith, own, ends k (omega arith))

    pub changed_agrees : (p : PlanView) (wait settled_then : ℕ) (next : List Head) → Fits junction p →
        wait ≡ kept_left junction kept + change_gap junction → settled_then ≡ second + (wait + p.cycle) →
        HasRecords junction (restarted_record p wait kept) next →
        Agrees junction first (requests ++ request_at second p ∷ []) second p settled_then next
    changed_agrees p wait settled_then next fits waits settles new =
        let r : RequestView = request_at second p in
        let more = one_more junction first requests r in
        let end : end_of_kept junction s.runs n ≡ n + kept_left junction kept = ends (group_count junction) (omega arith) in
        let begin : (changed junction n p s).begin ≡ n + wait = omega arith in
        let begin_then : (schedule_of junction first (requests ++ r ∷ [])).begin ≡ (changed junction n p s).begin = ap (λ (x : Schedule). x.begin) more in
        let plan_then : (schedule_of junction first (requests ++ r ∷ [])).plan ≡ p = ap (λ (x : Schedule). x.plan) more in
        let cycle_then : (schedule_of junction first (requests ++ r ∷ [])).plan.cycle ≡ p.cycle = ap (λ (x : PlanView). x.cycle) plan_then in
        record {
          fits = is.fits;
          asked = record {
            fit = All-push (λ (r : RequestView). Fits junction r.plan) requests r is.asked.fit fits;
            ordered = all_pairs_push (λ (a b : RequestView). a.at ≤ b.at) requests r is.asked.ordered (λ k d h. is.past k d h);
          };
          past = All-push (λ (r : RequestView). r.at ≤ second) requests r is.past (omega arith);
          stands = sym plan_then;
          settles = omega arith;
          agree = λ i inside.
              let whole : wait + start_of p i ≡ (changed junction n p s).begin + start_of p i - n = omega arith in
              let own : head_at next i ≡ head_of (head_at kept i).start (head_at kept i).over ((changed junction n p s).begin + start_of p i - n) =
              new i inside ∙ ap (λ x. head_of (head_at kept i).start (head_at kept i).over x) whole in
              subst (λ (x : Schedule). IsHead junction x i n (head_at next i)) (sym more)
              (changed_head junction s rules kept_sound n p fits i inside (head_at kept i) (head_at next i) (kept_is_head i inside) own);
        }

-- the same under other names
pub agrees_as : (j k : JunctionView) (p q : PlanView) (rs us : List RequestView) (m o : PlanView) (second settled : ℕ) (heads : List Head) →
    j ≡ k → p ≡ q → rs ≡ us → m ≡ o → Agrees k q us second o settled heads → Agrees j p rs second m settled heads
agrees_as j k p q rs us m o second settled heads e f g h is =
    subst (λ x. Agrees x p rs second m settled heads) (sym e)
    (subst (λ x. Agrees k x rs second m settled heads) (sym f)
    (subst (λ x. Agrees k q x second m settled heads) (sym g)
    (subst (λ x. Agrees k q us second x settled heads) (sym h) is)))

pub requests_more : (requests : List Request) (request : Request) → requests_of (requests ++ request ∷ []) ≡ requests_of requests ++ request_of request ∷ []
requests_more [] request = refl
requests_more (r ∷ rs) request = ap (λ xs. request_of r ∷ xs) (requests_more rs request)
