use Rattle.std.proofs.Common.{◌≤◌, ◌<◌, None, arith, subst, ◌∙◌, refl}
use Rattle.std.specs.Prelude.{⊤}
use Rattle.sig_base.specs.Ratio.{fraction_of}
use Rattle.junction_model.specs.Covers.{cover_of}
use Rattle.plan_model.specs.Claims.{IsCycleOptimal}
use Rattle.plan_model.specs.FittedPlan.{fitted_plan_of}
use Rattle.cycle_orders.specs.Answer.{IsSearchAnswer}
use Rattle.cycle_orders.specs.Forest.{IsShortest, IsStoppedAt}
use Rattle.cycle_orders.specs.JunctionAnswer.{IsPlanOf}
use Rattle.cycle_orders.specs.declared.answer.Mode.TheVariants.{First}
use Rattle.cycle_orders.proofs.JoinedAnswers.{same_search, closed_first, stopped_first, found_first, not_infeasible}
use Rattle.cycle_search.proofs.shortest_cycle.first.Given as given
use Rattle.cycle_search.proofs.shortest_cycle.first.Goals as goal

pub loop-cycle-preserved : goal.loop-cycle-preserved
loop-cycle-preserved g c =
    let before = c.loop-cycle.invariant in
    let is = same_search _ c.args.junction.now _ _ None c.args.least c.loop-cycle.cycle First c.new-rule.ensures.junction (c.new-rule.ensures.lanes ∙ c.all_lanes_law.ensures.set) refl in
    let within : c.loop-cycle.cycle ≤ c.args.junction.now.greatest_cycle = omega (arith, c.loop-cycle-test.true, c.greatest_cycle-cycle-end.ensures.value) in
    let own = subst (IsSearchAnswer _ c.loop-cycle.left c.search.new.budget) c.in-Closed.is c.in_ok-plan.ensures.answer in
    let more = closed_first c.args.junction.now c.args.least c.args.least c.loop-cycle.cycle c.loop-cycle.forest _ is (record { joined = before.joined; within = within })
    c.loop-cycle.left c.search.new.budget c.args.budget before.counted c.in-Closed.tree c.push.new.self c.in_ok-push-in-Closed.ensures.ok c.in-Closed.field-1 c.joined_law.ensures.no_plan own in
    record { joined = more.joined; counted = more.counted }

stopped : (g : given.Over) (c : goal.After-drop-rule-in-Stopped g) →
    IsStoppedAt c.args.junction.now c.args.least c.args.budget None c.push-in-Stopped.new.self × (c.args.budget < cover_of c.args.junction.now) × ⊤
stopped g c =
    let before = c.loop-cycle.invariant in
    let is = same_search _ c.args.junction.now _ _ None c.args.least c.loop-cycle.cycle First c.new-rule.ensures.junction (c.new-rule.ensures.lanes ∙ c.all_lanes_law.ensures.set) refl in
    let within : c.loop-cycle.cycle ≤ c.args.junction.now.greatest_cycle = omega (arith, c.loop-cycle-test.true, c.greatest_cycle-cycle-end.ensures.value) in
    let own = subst (IsSearchAnswer _ c.loop-cycle.left c.search.new.budget) c.in-Stopped.is c.in_ok-plan.ensures.answer in
    stopped_first c.args.junction.now c.args.least c.args.least c.loop-cycle.cycle c.loop-cycle.forest _ is (record { joined = before.joined; within = within })
    c.loop-cycle.left c.search.new.budget c.args.budget before.counted c.in-Stopped.tree c.push-in-Stopped.new.self c.in_ok-push-in-Stopped.ensures.ok c.in-Stopped.field-1
    c.joined_law.ensures.stopped own

pub returns-in-Stopped-clause-stopped : goal.returns-in-Stopped-clause-stopped
returns-in-Stopped-clause-stopped g c = (stopped g c).0

pub returns-in-Stopped-clause-covered : goal.returns-in-Stopped-clause-covered
returns-in-Stopped-clause-covered g c = λ stop. (stopped g c).1

found : (g : given.Over) (c : goal.After-drop-rule-in-Found g) →
    IsPlanOf c.args.junction.now c.args.least c.in-Found.plan × IsCycleOptimal c.args.junction.now (fraction_of c.args.least) (fitted_plan_of c.in-Found.plan)
    × IsShortest c.args.junction.now c.args.least (fitted_plan_of c.in-Found.plan) c.loop-cycle.forest
found g c =
    let before = c.loop-cycle.invariant in
    let is = same_search _ c.args.junction.now _ _ None c.args.least c.loop-cycle.cycle First c.new-rule.ensures.junction (c.new-rule.ensures.lanes ∙ c.all_lanes_law.ensures.set) refl in
    let within : c.loop-cycle.cycle ≤ c.args.junction.now.greatest_cycle = omega (arith, c.loop-cycle-test.true, c.greatest_cycle-cycle-end.ensures.value) in
    let own = subst (IsSearchAnswer _ c.loop-cycle.left c.search.new.budget) c.in-Found.is c.in_ok-plan.ensures.answer in
    found_first c.args.junction.now c.args.least c.args.least c.loop-cycle.cycle c.loop-cycle.forest _ is (record { joined = before.joined; within = within })
    c.loop-cycle.left c.search.new.budget c.joined_law.ensures.shortest c.in-Found.plan own

pub returns-in-Found-clause-optimal : goal.returns-in-Found-clause-optimal
returns-in-Found-clause-optimal g c = (found g c).1

pub returns-in-Found-clause-shortest : goal.returns-in-Found-clause-shortest
returns-in-Found-clause-shortest g c = (found g c).2

pub returns-in-Found-clause-infeasible : goal.returns-in-Found-clause-infeasible
returns-in-Found-clause-infeasible g c = not_infeasible c.args.junction.now c.args.least c.in-Found.plan (found g c).0

pub returns-in-Found-clause-plan : goal.returns-in-Found-clause-plan
returns-in-Found-clause-plan g c = (found g c).0
