use Rattle.std.proofs.Common.{length, ap, subst, arith}
use Rattle.plan_model.specs.Plan.{plan_of}
use Rattle.bottleneck_lanes.specs.TestAnswer.{IsTestAnswer}
use Rattle.bottleneck_lanes.proofs.ArrivingLanes.{no_both}
use Rattle.bottleneck_lanes.proofs.Steps.{skipped, kept, left_out, stopped, found}
use Rattle.bottleneck_lanes.proofs.critical.critical_lanes.Goals as goal
use Rattle.bottleneck_lanes.proofs.critical.critical_lanes.Goals.{in-Beaten+in_ok-push-in-Beaten, in-Unbeaten}

pub loop-lane-preserved-then-not-contains : goal.loop-lane-preserved-then-not-contains
loop-lane-preserved-then-not-contains c =
    skipped c.args.junction.now c.args.multiple c.args.budget c.args.branches.now c.rules.ensures c.loop-lane.lane c.loop-lane.lanes c.loop-lane.plans c.loop-lane.shown c.loop-lane.invariant
    (λ is. no_both c.contains.result c.if-not-contains.true (c.contains.ensures.1 is))

pub returns-in-Stopped-clause-answer : goal.returns-in-Stopped-clause-answer
returns-in-Stopped-clause-answer c =
    let answer = subst (IsTestAnswer c.args.junction.now c.args.multiple c.args.budget c.without-rest.result) c.in-Stopped.is c.in_ok-plan.ensures in
    let own = rw c.without-rest.ensures.value at answer in
    stopped c.args.junction.now c.args.multiple c.args.budget c.args.branches.now c.rules.ensures c.loop-lane.lane c.loop-lane.lanes c.loop-lane.plans c.loop-lane.shown c.loop-lane.invariant
    (c.contains.ensures.0 c.if-not-contains.false) c.closed_cycle_law.ensures c.in-Stopped.forest own.0

pub returns-in-Stopped-clause-covered : goal.returns-in-Stopped-clause-covered
returns-in-Stopped-clause-covered c = λ stop.
    (subst (IsTestAnswer c.args.junction.now c.args.multiple c.args.budget c.without-rest.result) c.in-Stopped.is c.in_ok-plan.ensures).1

pub loop-lane-preserved : goal.loop-lane-preserved
loop-lane-preserved c = elim c.match-branch-3.branch [
  | in-Beaten+in_ok-push-in-Beaten w ↦ (
      let answer = subst (IsTestAnswer c.args.junction.now c.args.multiple c.args.budget c.without-rest.result) w.in-Beaten.is c.in_ok-plan.ensures in
      let own = rw c.without-rest.ensures.value at answer in
      rw (w.lanes-is, w.shown-is, w.plans-is, w.in_ok-push-in-Beaten.ensures.ok)
      (kept c.args.junction.now c.args.multiple c.args.budget c.args.branches.now c.rules.ensures c.loop-lane.lane c.loop-lane.lanes c.loop-lane.plans c.loop-lane.shown c.loop-lane.invariant
      (c.contains.ensures.0 c.if-not-contains.false) (plan_of w.in-Beaten.plan) own))
  | in-Unbeaten w ↦ (
      let answer = subst (IsTestAnswer c.args.junction.now c.args.multiple c.args.budget c.without-rest.result) w.in-Unbeaten.is c.in_ok-plan.ensures in
      let own = rw c.without-rest.ensures.value at answer in
      rw (w.lanes-is, w.shown-is, w.plans-is, c.without-rest.ensures.value)
      (left_out c.args.junction.now c.args.multiple c.args.budget c.args.branches.now c.rules.ensures c.loop-lane.lane c.loop-lane.lanes c.loop-lane.plans c.loop-lane.shown c.loop-lane.invariant
      (c.contains.ensures.0 c.if-not-contains.false) c.closed_cycle_law.ensures w.in-Unbeaten.forest own))
]

pub returns-clause-answer : goal.returns-clause-answer
returns-clause-answer c = found c.args.junction.now c.args.multiple c.args.budget c.args.branches.now c.rules.ensures c.loop-lane.lane c.loop-lane.lanes c.loop-lane.plans c.loop-lane.shown c.loop-lane.invariant
    c.closed_cycle_law.ensures (omega (arith, c.loop-lane-test.false, c.loop-lane.auto.lane-end, ap length c.lanes-lane-end.ensures.value))
