-- Where no request comes before the last second, the first plan is played.
use Rattle.std.proofs.Common.{ℕ, [], ◌≡◌, ◌≤◌, ◌+◌, ◌-◌, ◌%◌, sym, ap, ◌∙◌, arith}
use Rattle.std.proofs.lemmas.List.Elements.{All-nil, All-weaker}
use Rattle.std.proofs.Math.Nat.{add-mod_right}
use Rattle.junction_model.specs.Junction.{JunctionView}
use Rattle.plan_model.specs.SignalPlan.{PlanView, start_of, green_of}
use Rattle.plan_model.specs.Fits.{Fits}
use Rattle.sig_base.specs.declared.group_times.GroupTimes.{GroupTimes}
use Rattle.aspect_player.specs.Aspect.{aspect_at}
use Rattle.aspect_player.specs.Counts.{left_at}
use Rattle.aspect_player.specs.Phases.{aspect_by}
use Rattle.aspect_player.proofs.ByPhase.{IsPlayed, aspect_by_left}
use Rattle.aspect_player.proofs.Safety.{plays}
use Rattle.aspect_player.proofs.Timetable.{rows_same}
use Rattle.plan_change.specs.Schedule.{RequestView}
use Rattle.plan_change.specs.Changes.{AreRequests, change_display}
use Rattle.plan_change.specs.Laws.{PlainLaw}
use Rattle.plan_change.proofs.Settled.{settled_law}
use Rattle.plan_change.proofs.Stays.{last_schedule_law, own_second_law}

-- a cycle later a plan shows the same
cycle_later : (p : PlanView) (i t : ℕ) (times : GroupTimes) → IsPlayed p i times → aspect_at p i times (p.cycle + t - 0) ≡ aspect_at p i times t
cycle_later p i t times played =
    let c : ℕ = p.cycle in
    let round : c + t - 0 + c - start_of p i ≡ (t + c - start_of p i) + c = omega (arith, played.start) in
    let left : left_at p i (c + t - 0) ≡ left_at p i t = ap (λ x. c - x % c) round ∙ ap (λ x. c - x) (add-mod_right (t + c - start_of p i) c) in
    aspect_by_left p i (c + t - 0) times played ∙ ap (λ x. aspect_by x c (green_of p i) times) left ∙ sym (aspect_by_left p i t times played)

none_asked : (junction : JunctionView) → AreRequests junction []
none_asked junction = record { fit = All-nil (λ (r : RequestView). Fits junction r.plan); ordered = λ i j d order h. absurd (omega arith) }

pub plain_law : PlainLaw
plain_law junction first requests n rules fits asked late =
    rows_same junction (change_display junction first requests) (aspect_at first) 0 n (λ i t group there from below.
    last_schedule_law junction first requests i t group rules fits asked there
    ∙ own_second_law junction first [] requests i t group rules fits asked there
    (All-weaker (λ (r : RequestView). n ≤ r.at + 1) (λ (r : RequestView). t ≤ r.at) (λ r h. omega arith) requests late)
    ∙ settled_law junction first [] i t group rules fits (none_asked junction) there (omega arith)
    ∙ cycle_later first i t group.times (plays junction first i group rules fits there))
