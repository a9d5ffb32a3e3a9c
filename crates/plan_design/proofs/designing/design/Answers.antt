use Rattle.std.proofs.Common.{◌∙◌, ◌<◌, ap, subst, sym}
use Rattle.std.specs.Prelude.{Some, IfSome, option_map}
use Rattle.junction_model.specs.Covers.{cover_of}
use Rattle.plan_model.specs.FittedPlan.{junction_of, fitted_plan_of}
use Rattle.cycle_orders.specs.Answer.{plan_in}
use Rattle.cycle_orders.specs.Forest.{IsExhausted, IsFoundAmong, IsStoppedAt}
use Rattle.cycle_orders.specs.JunctionAnswer.{IfStopped, IsStop, IsPlanOf, IsWithinBudget, CarriesNoPlan, carried_by}
use Rattle.plan_design.specs.Design.{IsDesign}
use Rattle.plan_design.specs.DesignLaws.{IsBest, IsStretchTo, certified}
use Rattle.plan_design.proofs.IsDesign.{best_design, infeasible_design, stopped_design, any_of, none_stretched}
use Rattle.plan_design.proofs.designing.design.Goals as goal

pub returns-in-Optimal-clause-design : goal.returns-in-Optimal-clause-design
returns-in-Optimal-clause-design c =
    let junction = c.args.junction.now in
    let found = c.in-Optimal.plan in
    let best : IsBest c.args.objective junction c.args.least (fitted_plan_of found) c.in-Optimal.trees = rw c.in-Optimal.is at c.in_ok-plan.ensures.best in
    let asked : IsPlanOf junction c.args.least found = rw c.in-Optimal.is at c.in_ok-plan.ensures.plan in
    let own : IsStretchTo (junction_of found) (fitted_plan_of found) (fitted_plan_of c.stretch.result) =
    record { of = c.stretch.ensures.longest; stretched = c.stretch.ensures.stretched; no_worse = c.stretch.ensures.no_worse } in
    let stretch = subst (λ j. IsStretchTo j (fitted_plan_of found) (fitted_plan_of c.stretch.result)) asked.own own in
    let within = subst (IsWithinBudget c.args.budget) c.in-Optimal.is c.in_ok-plan.ensures.within in
    let is = c.certificate_with.ensures.certificate
    ∙ ap (λ own. certified c.args.least c.args.budget own (Some (fitted_plan_of c.stretch.result)) c.in-Optimal.trees) c.claim.ensures in
    subst (IsDesign junction c.args.objective c.args.least c.args.budget) (sym is)
    (best_design junction c.rules.ensures c.args.least c.requires.least c.args.budget c.requires.budget c.shown_law.ensures.greatest c.shown_law.ensures.shortest
    c.shown_law.ensures.shown_range c.args.objective found c.stretch.result c.in-Optimal.trees asked stretch best within)

pub returns-in-Infeasible-clause-design : goal.returns-in-Infeasible-clause-design
returns-in-Infeasible-clause-design c =
    let junction = c.args.junction.now in
    let exhausted : IsExhausted junction c.args.least c.in-Infeasible.trees = rw c.in-Infeasible.is at c.in_ok-plan.ensures.exhausted in
    subst (IsDesign junction c.args.objective c.args.least c.args.budget) (sym c.certificate_with-in-Infeasible.ensures.certificate)
    (infeasible_design junction c.rules.ensures c.args.least c.requires.least c.args.budget c.requires.budget c.shown_law.ensures.exhausted c.shown_law.ensures.shown_range
    c.args.objective c.in-Infeasible.trees exhausted (subst (IsWithinBudget c.args.budget) c.in-Infeasible.is c.in_ok-plan.ensures.within))

pub returns-in-Stopped-clause-design : goal.returns-in-Stopped-clause-design
returns-in-Stopped-clause-design c =
    let junction = c.args.junction.now in
    let stop = c.in-Stopped.is in
    let stretched = c.stretched-plan.result in
    let asked = subst (λ answer. IfSome (carried_by answer) (IsPlanOf junction c.args.least)) stop c.in_ok-plan.ensures.plan in
    let any = any_of junction c.args.least c.in-Stopped.plan stretched asked c.stretched-plan.ensures in
    let uncovered = (subst (λ answer. IsStop answer → c.args.budget < cover_of junction) stop c.in_ok-plan.ensures.covered) tt in
    subst (IsDesign junction c.args.objective c.args.least c.args.budget) (sym c.certificate_with-in-Stopped.ensures.certificate)
    (stopped_design junction c.rules.ensures c.args.least c.requires.least c.args.budget c.requires.budget c.shown_law.ensures.stopped c.shown_law.ensures.stopped_range
    c.args.objective (plan_in c.in-Stopped.plan) (option_map fitted_plan_of stretched) c.in-Stopped.trees
    any
    (subst (λ answer. IfStopped answer (IsStoppedAt junction c.args.least c.args.budget)) stop c.in_ok-plan.ensures.stopped)
    (subst (IsWithinBudget c.args.budget) stop c.in_ok-plan.ensures.within)
    (c.shown_law.ensures.passed junction c.args.least (plan_in c.in-Stopped.plan) (option_map fitted_plan_of stretched) c.in-Stopped.trees c.rules.ensures any
    (subst (λ answer. IfStopped answer (λ p forest. IfSome p (IsFoundAmong junction forest))) stop c.in_ok-plan.ensures.found))
    uncovered
    (λ cycle. none_stretched c.in-Stopped.plan stretched c.stretched-plan.ensures (subst CarriesNoPlan stop (c.in_ok-plan.ensures.without cycle))))
