use Rattle.std.proofs.Common.{◌≡◌, ◌+◌, ◌≤◌, ◌<◌, None, Some, ap, arith, subst, ◌∙◌}
use Rattle.std.specs.Prelude.{IfSome}
use Rattle.junction_model.specs.Covers.{cover_of}
use Rattle.plan_model.specs.FittedPlan.{fitted_plan_of}
use Rattle.cycle_orders.specs.Answer.{IsSearchAnswer, plan_in}
use Rattle.cycle_orders.specs.Forest.{IsStoppedAt}
use Rattle.cycle_orders.specs.JoinedLaws.{later_plan}
use Rattle.cycle_orders.specs.declared.answer.CycleAnswer.TheVariants as answer
use Rattle.cycle_orders.specs.declared.answer.Mode.TheVariants.{Best}
use Rattle.cycle_orders.specs.JunctionAnswer.{IsPlanOf}
use Rattle.cycle_orders.proofs.JoinedAnswers.{same_search, closed_none, closed_some, stopped_any, not_infeasible, either_or, stopped_or, at_last}
use Rattle.cycle_orders.proofs.FoundAmong.{found_next}
use Rattle.capacity_search.proofs.greatest.greatest.Given as given
use Rattle.capacity_search.proofs.greatest.greatest.Goals as goal
use Rattle.capacity_search.proofs.greatest.greatest.Goals.{in-Some, in_default}

pub loop-cycle-preserved : goal.loop-cycle-preserved
loop-cycle-preserved g c =
    let before = c.loop-cycle.invariant in
    let is = same_search _ c.args.junction.now _ _ (plan_in c.loop-cycle.best) c.loop-cycle.multiple c.loop-cycle.cycle Best
    c.new-rule.ensures.junction (c.new-rule.ensures.lanes ∙ c.all_lanes_law.ensures.set) c.asked-target.ensures in
    let within : c.loop-cycle.cycle ≤ c.args.junction.now.greatest_cycle = omega (arith, c.loop-cycle-test.true, c.greatest_cycle-cycle-end.ensures.value) in
    elim c.match-found.branch [
      | in-Some w ↦ (let own = subst (IsSearchAnswer _ c.loop-cycle.left c.search.new.budget) (c.in-Closed.is ∙ ap (answer.Closed c.in-Closed.tree) w.in-Some.is) c.in_ok-tree.ensures.answer in
          let both = closed_some c.args.junction.now c.args.least (plan_in c.loop-cycle.best) c.loop-cycle.multiple c.loop-cycle.cycle c.loop-cycle.forest Best _ is
          (record { joined = before.joined; within = within }) c.args.budget c.loop-cycle.left c.search.new.budget before.counted c.in-Closed.tree c.push.new.self c.in_ok-push-in-Closed.ensures.ok
          c.joined_law.ensures.better w.in-Some.plan w.plan_multiplier-multiple.result w.plan_multiplier-multiple.ensures own in
          let found = found_next c.args.junction.now c.loop-cycle.forest c.push.new.self c.in-Closed.tree c.in_ok-push-in-Closed.ensures.ok (plan_in c.loop-cycle.best) c.loop-cycle.multiple c.loop-cycle.cycle Best _ is
          before.joined.below (Some w.in-Some.plan) c.loop-cycle.best before.found own.0.carried own.0.found in
          rw (w.best-is, w.multiple-is) (record { plan = both.0; found = found; joined = both.1.joined; counted = both.1.counted }))
      | in_default w ↦ (let own = subst (IsSearchAnswer _ c.loop-cycle.left c.search.new.budget) (c.in-Closed.is ∙ ap (answer.Closed c.in-Closed.tree) w.in_default.is) c.in_ok-tree.ensures.answer in
          let more = closed_none c.args.junction.now c.args.least (plan_in c.loop-cycle.best) c.loop-cycle.multiple c.loop-cycle.cycle c.loop-cycle.forest Best _ is
          (record { joined = before.joined; within = within }) c.args.budget c.loop-cycle.left c.search.new.budget before.counted c.in-Closed.tree c.push.new.self c.in_ok-push-in-Closed.ensures.ok
          c.joined_law.ensures.no_plan own in
          let found = found_next c.args.junction.now c.loop-cycle.forest c.push.new.self c.in-Closed.tree c.in_ok-push-in-Closed.ensures.ok (plan_in c.loop-cycle.best) c.loop-cycle.multiple c.loop-cycle.cycle Best _ is
          before.joined.below None c.loop-cycle.best before.found own.0.carried own.0.found in
          rw (w.best-is, w.multiple-is) (record { plan = before.plan; found = found; joined = more.joined; counted = more.counted }))
    ]

stopped : (g : given.Over) (c : goal.After-drop-rule-in-Stopped g) →
    IsStoppedAt c.args.junction.now c.args.least c.args.budget (later_plan (plan_in c.loop-cycle.best) (plan_in c.in-Stopped.found)) c.push-in-Stopped.new.self
    × (c.args.budget < cover_of c.args.junction.now) × IfSome c.in-Stopped.found (IsPlanOf c.args.junction.now c.args.least)
stopped g c =
    let before = c.loop-cycle.invariant in
    let is = same_search _ c.args.junction.now _ _ (plan_in c.loop-cycle.best) c.loop-cycle.multiple c.loop-cycle.cycle Best
    c.new-rule.ensures.junction (c.new-rule.ensures.lanes ∙ c.all_lanes_law.ensures.set) c.asked-target.ensures in
    let within : c.loop-cycle.cycle ≤ c.args.junction.now.greatest_cycle = omega (arith, c.loop-cycle-test.true, c.greatest_cycle-cycle-end.ensures.value) in
    let own = subst (IsSearchAnswer _ c.loop-cycle.left c.search.new.budget) c.in-Stopped.is c.in_ok-tree.ensures.answer in
    stopped_any c.args.junction.now c.args.least (plan_in c.loop-cycle.best) c.loop-cycle.multiple c.loop-cycle.cycle c.loop-cycle.forest Best _ is
    (record { joined = before.joined; within = within }) c.args.budget c.loop-cycle.left c.search.new.budget before.counted c.in-Stopped.tree c.push-in-Stopped.new.self c.in_ok-push-in-Stopped.ensures.ok
    c.joined_law.ensures.stopped c.in-Stopped.found own

pub returns-in-Stopped-clause-stopped : goal.returns-in-Stopped-clause-stopped
returns-in-Stopped-clause-stopped g c =
    rw c.or.ensures (stopped_or c.args.junction.now c.args.least c.args.budget c.push-in-Stopped.new.self c.in-Stopped.found c.loop-cycle.best (stopped g c).0)

pub returns-in-Stopped-clause-found : goal.returns-in-Stopped-clause-found
returns-in-Stopped-clause-found g c =
    let before = c.loop-cycle.invariant in
    let is = same_search _ c.args.junction.now _ _ (plan_in c.loop-cycle.best) c.loop-cycle.multiple c.loop-cycle.cycle Best
    c.new-rule.ensures.junction (c.new-rule.ensures.lanes ∙ c.all_lanes_law.ensures.set) c.asked-target.ensures in
    let own = subst (IsSearchAnswer _ c.loop-cycle.left c.search.new.budget) c.in-Stopped.is c.in_ok-tree.ensures.answer in
    rw c.or.ensures (found_next c.args.junction.now c.loop-cycle.forest c.push-in-Stopped.new.self c.in-Stopped.tree c.in_ok-push-in-Stopped.ensures.ok (plan_in c.loop-cycle.best) c.loop-cycle.multiple c.loop-cycle.cycle Best _ is
    before.joined.below c.in-Stopped.found c.loop-cycle.best before.found own.0.carried own.0.found)

pub returns-in-Stopped-clause-covered : goal.returns-in-Stopped-clause-covered
returns-in-Stopped-clause-covered g c = λ stop. (stopped g c).1

pub returns-in-Stopped-clause-plan : goal.returns-in-Stopped-clause-plan
returns-in-Stopped-clause-plan g c =
    rw c.or.ensures (either_or (IsPlanOf c.args.junction.now c.args.least) c.in-Stopped.found c.loop-cycle.best (stopped g c).2 c.loop-cycle.invariant.plan)

pub trim_beside-requires-clause-closed : goal.trim_beside-requires-clause-closed
trim_beside-requires-clause-closed g c =
    let start : c.least_cycle-cycle.result ≤ c.greatest_cycle-cycle-end.result + 1 = omega (arith, c.rules.ensures.cycles.ordered, c.least_cycle-cycle.ensures.value, c.greatest_cycle-cycle-end.ensures.value) in
    let last : c.loop-cycle.cycle ≡ c.args.junction.now.greatest_cycle + 1 = omega (arith, c.loop-cycle-test.false, c.loop-cycle.auto.cycle-end start, c.greatest_cycle-cycle-end.ensures.value) in
    let joined = at_last c.args.junction.now c.args.least c.loop-cycle.multiple c.loop-cycle.best c.in-Some-best.plan c.loop-cycle.cycle _ c.loop-cycle.forest c.in-Some-best.is last c.loop-cycle.invariant.joined in
    rw c.new-rule.ensures.junction (c.args.least, (c.joined_law.ensures.greatest c.args.junction.now c.args.least (fitted_plan_of c.in-Some-best.plan) c.loop-cycle.multiple c.loop-cycle.forest joined).1)

pub returns-in-Some-best-clause-greatest : goal.returns-in-Some-best-clause-greatest
returns-in-Some-best-clause-greatest g c =
    let start : c.least_cycle-cycle.result ≤ c.greatest_cycle-cycle-end.result + 1 = omega (arith, c.rules.ensures.cycles.ordered, c.least_cycle-cycle.ensures.value, c.greatest_cycle-cycle-end.ensures.value) in
    let last : c.loop-cycle.cycle ≡ c.args.junction.now.greatest_cycle + 1 = omega (arith, c.loop-cycle-test.false, c.loop-cycle.auto.cycle-end start, c.greatest_cycle-cycle-end.ensures.value) in
    let joined = at_last c.args.junction.now c.args.least c.loop-cycle.multiple c.loop-cycle.best c.in-Some-best.plan c.loop-cycle.cycle _ c.loop-cycle.forest c.in-Some-best.is last c.loop-cycle.invariant.joined in
    let beside = (c.joined_law.ensures.greatest c.args.junction.now c.args.least (fitted_plan_of c.in-Some-best.plan) c.loop-cycle.multiple c.loop-cycle.forest joined).1 in
    rw c.new-rule.ensures.junction at (c.in_ok-trimmed-in-Some-best.ensures.greatest c.args.least (rw c.new-rule.ensures.junction beside))

pub returns-in-Some-best-clause-infeasible : goal.returns-in-Some-best-clause-infeasible
returns-in-Some-best-clause-infeasible g c =
    not_infeasible c.args.junction.now c.args.least c.in-Some-best.plan (subst (λ b. IfSome b (IsPlanOf c.args.junction.now c.args.least)) c.in-Some-best.is c.loop-cycle.invariant.plan)
