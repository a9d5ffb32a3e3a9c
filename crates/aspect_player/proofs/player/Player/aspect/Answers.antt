use Rattle.std.proofs.Common.{◌≡◌, get_or, slice_get, Some, ap, sym, ◌∙◌, subst}
use Rattle.std.proofs.lemmas.Option.{slice_get-get_or}
use Rattle.junction_model.specs.Rules.{IsJunction}
use Rattle.plan_model.specs.FittedPlan.{junction_of, fitted_plan_of}
use Rattle.plan_model.specs.SignalPlan.{PlanView}
use Rattle.aspect_player.proofs.Countdown.{aspect_is}
use Rattle.aspect_player.proofs.player.Player.aspect.Goals as goal

pub returns : goal.returns
returns c =
    let junction = junction_of c.args.self.now.plan.now in
    let p : PlanView = fitted_plan_of c.args.self.now.plan.now in
    let i = c.args.group in
    let default = c.index-groups-group.result in
    let group = get_or c.groups.result.now i default in
    let rules : IsJunction junction = subst IsJunction c.junction.ensures c.rules.ensures in
    let groups = c.groups.ensures.value ∙ ap (λ j. j.groups) c.junction-2.ensures in
    let own = slice_get-get_or junction.groups i default c.requires in
    let there : slice_get junction.groups i ≡ Some group = own ∙ ap Some (ap (λ xs. get_or xs i default) (sym groups)) in
    aspect_is junction p i c.args.self.now.second _ _ _ group _ rules c.plan-plan.ensures.fits there (c.args.self.now.counts.each i c.requires)
    (c.cycle.ensures ∙ ap (λ q. q.cycle) c.plan-plan.ensures.value)
    (ap (λ xs. get_or xs i 0) (c.greens.ensures ∙ ap (λ q. q.greens) c.plan-plan.ensures.value))
    c.shown.ensures
