use Rattle.std.proofs.Common.{◌≡◌, ◌∙◌, ap, arith, rules}
use Rattle.serde_json.specs.View.{view}
use Rattle.serde_json.proofs.Views.{view-Array}
use Rattle.plan_certificate.specs.Contents.{list, whole}
use Rattle.bottleneck_lanes.proofs.ArrivingLanes.{no_both}
use Rattle.bottleneck_lanes.proofs.Members.{members_with, members_same, members_all, listed_more}
use Rattle.bottleneck_lanes.proofs.writing.lanes_value.Goals as goal
use Rattle.bottleneck_lanes.proofs.writing.lanes_value.Goals.{then-contains+in_ok-push, else-contains}

pub loop-lane-preserved : goal.loop-lane-preserved
loop-lane-preserved c = elim c.if-contains.branch [
  | then-contains+in_ok-push w ↦ (
      let is : view w.from.result ≡ whole c.loop-lane.lane = search rules in
      rw (w.items-is, w.in_ok-push.ensures.items, members_with c.args.lanes c.loop-lane.lane (c.contains.ensures.0 w.if-contains.true))
      (listed_more view whole c.loop-lane.items.items _ w.from.result c.loop-lane.lane c.loop-lane.invariant is))
  | else-contains w ↦ rw (w.items-is, members_same c.args.lanes c.loop-lane.lane (λ is. no_both c.contains.result w.if-contains.false (c.contains.ensures.1 is))) c.loop-lane.invariant
]

pub returns : goal.returns
returns c = rw (members_all c.args.lanes c.loop-lane.lane (omega (arith, c.loop-lane-test.false, c.loop-lane.auto.lane-end))) (view-Array c.loop-lane.items ∙ ap list c.loop-lane.invariant)
