use Rattle.std.proofs.Common.{◌≡◌, ◌+◌, ◌≤◌, arith, subst}
use Rattle.cycle_orders.specs.Answer.{IsSearchAnswer}
use Rattle.bottleneck_lanes.proofs.Tests.{same_search, begun, closed_next, stopped_next, found_next, ended_test}
use Rattle.bottleneck_lanes.proofs.testing.tested.Goals as goal

pub loop-cycle-init : goal.loop-cycle-init
loop-cycle-init g c = rw (c.least_cycle-cycle.ensures.value, c.new-forest.ensures) (begun c.args.junction.now c.args.multiple c.args.lanes c.args.budget)

pub loop-cycle-preserved : goal.loop-cycle-preserved
loop-cycle-preserved g c =
    let is = same_search _ c.args.junction.now _ c.args.lanes c.args.multiple c.loop-cycle.cycle c.new-rule.ensures.junction c.new-rule.ensures.lanes in
    let own = subst (IsSearchAnswer _ c.loop-cycle.left c.search.new.budget) c.in-Closed.is c.in_ok-plan.ensures.answer in
    closed_next c.args.junction.now c.args.multiple c.args.lanes c.loop-cycle.cycle _ is c.args.budget c.loop-cycle.left c.search.new.budget c.loop-cycle.forest c.loop-cycle.invariant
    c.in-Closed.tree c.push.new.self c.in_ok-push-in-Closed.ensures.ok c.in-Closed.field-1 own

pub returns-in-Found : goal.returns-in-Found
returns-in-Found g c =
    let is = same_search _ c.args.junction.now _ c.args.lanes c.args.multiple c.loop-cycle.cycle c.new-rule.ensures.junction c.new-rule.ensures.lanes in
    let own = subst (IsSearchAnswer _ c.loop-cycle.left c.search.new.budget) c.in-Found.is c.in_ok-plan.ensures.answer in
    rw c.plan.ensures.value (found_next c.args.junction.now c.args.multiple c.args.lanes c.loop-cycle.cycle _ is c.args.budget c.loop-cycle.left c.search.new.budget c.loop-cycle.forest
    c.loop-cycle.invariant c.in-Found.plan own)

pub returns-in-Stopped : goal.returns-in-Stopped
returns-in-Stopped g c =
    let is = same_search _ c.args.junction.now _ c.args.lanes c.args.multiple c.loop-cycle.cycle c.new-rule.ensures.junction c.new-rule.ensures.lanes in
    let own = subst (IsSearchAnswer _ c.loop-cycle.left c.search.new.budget) c.in-Stopped.is c.in_ok-plan.ensures.answer in
    let within : c.loop-cycle.cycle ≤ c.args.junction.now.greatest_cycle = omega (arith, c.loop-cycle-test.true, c.greatest_cycle-cycle-end.ensures.value) in
    stopped_next c.args.junction.now c.args.multiple c.args.lanes c.loop-cycle.cycle _ is c.args.budget c.loop-cycle.left c.search.new.budget c.loop-cycle.forest c.loop-cycle.invariant
    c.in-Stopped.tree c.push-in-Stopped.new.self c.in_ok-push-in-Stopped.ensures.ok c.in-Stopped.field-1 within own

pub returns : goal.returns
returns g c =
    let start : c.least_cycle-cycle.result ≤ c.greatest_cycle-cycle-end.result + 1 = omega (arith, c.rules.ensures.cycles.ordered, c.least_cycle-cycle.ensures.value, c.greatest_cycle-cycle-end.ensures.value) in
    let last : c.loop-cycle.cycle ≡ c.args.junction.now.greatest_cycle + 1 = omega (arith, c.loop-cycle-test.false, c.loop-cycle.auto.cycle-end start, c.greatest_cycle-cycle-end.ensures.value) in
    ended_test c.args.junction.now c.args.multiple c.args.lanes c.args.budget c.loop-cycle.left c.loop-cycle.cycle c.loop-cycle.forest c.loop-cycle.invariant last
