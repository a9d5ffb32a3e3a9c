use Rattle.std.proofs.Common.{◌≡◌, ◌<◌, ◌≤◌, length, get_or, arith, ap, ◌∙◌, subst}
use Rattle.junction_model.specs.Rules.{IsJunction}
use Rattle.plan_model.specs.Fits.{group_count}
use Rattle.plan_model.specs.FittedPlan.{junction_of, fitted_plan_of}
use Rattle.plan_model.specs.SignalPlan.{PlanView}
use Rattle.plan_model.proofs.IsShown.{fits_shown, shown_start}
use Rattle.aspect_player.proofs.Countdown.{filled_first}
use Rattle.aspect_player.proofs.player.Player.new.Goals as goal

pub loop-i-preserved : goal.loop-i-preserved
loop-i-preserved c =
    let junction = junction_of c.args.plan.now in
    let p : PlanView = fitted_plan_of c.args.plan.now in
    let i = c.loop-i.i in
    let rules : IsJunction junction = subst IsJunction c.junction.ensures c.rules.ensures in
    let few : group_count junction ≤ 16 = rules.groups.few in
    let groups : length c.groups-i-end.result.now ≡ group_count junction = ap length (c.groups-i-end.ensures.value ∙ ap (λ j. j.groups) c.junction-2.ensures) in
    let inside : i < group_count junction = omega arith in
    filled_first p i _ (get_or c.starts-starts.result.now i 0) c.cycle-cycle.result c.loop-i.left c.loop-i.invariant (omega arith)
    (shown_start junction p i (fits_shown junction p rules c.plan.ensures.fits) inside)
    (ap (λ xs. get_or xs i 0) (c.starts-starts.ensures ∙ ap (λ q. q.starts) c.plan.ensures.value))
    (c.cycle-cycle.ensures ∙ ap (λ q. q.cycle) c.plan-2.ensures.value)
    c.first_left.ensures
