-- Requests as contracts see them, and what a changer keeps of them.
use Rattle.std.specs.Prelude.{ℕ, List, ◌≡◌, ◌≤◌, map, All}
use Rattle.junction_model.specs.Junction.{JunctionView}
use Rattle.plan_model.specs.SignalPlan.{PlanView}
use Rattle.plan_model.specs.Plan.{plan_of}
use Rattle.plan_model.specs.Fits.{Fits}
use Rattle.plan_change.specs.declared.head.Head.{Head}
use Rattle.plan_change.specs.declared.request.Request.{Request}
use Rattle.plan_change.specs.Schedule.{RequestView, moment, schedule_of}
use Rattle.plan_change.specs.Changes.{AreRequests, settled_at}
use Rattle.plan_change.specs.Heads.{AreHeads}

abbrev pub request_of : Request → RequestView
request_of request = record { at = request.at; plan = plan_of request.plan }

abbrev pub requests_of : List Request → List RequestView
requests_of requests = map request_of requests

abbrev pub request_at : ℕ → PlanView → RequestView
request_at at plan = record { at = at; plan = plan }

-- the plans fit, no request comes before an earlier one or after this second, and the records agree with the schedule
pub record Agrees (junction : JunctionView) (first : PlanView) (requests : List RequestView) (second : ℕ) (plan : PlanView)
    (settled : ℕ) (heads : List Head) : Type 0 where
  pub fits : Fits junction first
  pub asked : AreRequests junction requests
  pub past : All (λ (r : RequestView). r.at ≤ second) requests
  pub stands : plan ≡ (schedule_of junction first requests).plan
  pub settles : settled ≡ settled_at junction first requests
  pub agree : AreHeads junction (schedule_of junction first requests) (moment first second) heads
