-- The text of an answer on the critical lanes: the compact form of a JSON object, its keys in alphabetical order.
use Rattle.std.specs.Prelude.{ℕ, List, [], codes, map}
use Rattle.sig_base.specs.declared.lane_set.LaneSet.{LaneSet}
use Rattle.serde_json.specs.Data.{Data, Members, null, object, member, no_members}
use Rattle.serde_json.specs.Written.{compact_text}
use Rattle.constraint_cycles.specs.declared.node.Node.{Node}
use Rattle.plan_model.specs.SignalPlan.{PlanView}
use Rattle.plan_certificate.specs.Contents.{list, whole, wholes, forest_data}
use Rattle.plan_certificate.specs.Text.{plan_data}
use Rattle.bottleneck_lanes.specs.Critical.{members}
use Rattle.bottleneck_lanes.specs.declared.answer.BottleAnswer.{BottleAnswer}
use Rattle.bottleneck_lanes.specs.declared.answer.BottleAnswer.TheVariants.{Found, Stopped}

-- the best plan's cycle, starts and greens stand beside the answer
abbrev pub answer_members : List (List Node) → ℕ → LaneSet → PlanView → List PlanView → Data → Members
answer_members branches budget lanes best plans tested =
    member (codes "branches") (forest_data branches)
    (member (codes "budget") (whole budget)
    (member (codes "lanes") (wholes (members lanes))
    (member (codes "plan") (plan_data best)
    (member (codes "plans") (list (map plan_data plans))
    (member (codes "tested") tested
    (member (codes "version") (whole 1) no_members))))))

abbrev pub answer_data : PlanView → ℕ → BottleAnswer → Data
answer_data best budget (Found c) = object (answer_members c.branches budget c.lanes best c.plans null)
answer_data best budget (Stopped lanes lane branches) = object (answer_members branches budget lanes best [] (whole lane))

unfoldable pub bottleneck_text : PlanView → ℕ → BottleAnswer → List ℕ
bottleneck_text best budget answer = compact_text (answer_data best budget answer)
