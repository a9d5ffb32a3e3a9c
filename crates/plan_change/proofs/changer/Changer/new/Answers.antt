use Rattle.std.proofs.Common.{[], ap, subst}
use Rattle.junction_model.specs.Junction.{JunctionView}
use Rattle.junction_model.specs.Rules.{IsJunction}
use Rattle.plan_model.specs.Plan.{plan_of}
use Rattle.plan_model.specs.FittedPlan.{junction_of, fitted_plan_of}
use Rattle.plan_model.specs.SignalPlan.{PlanView}
use Rattle.plan_change.specs.Heads.{HasRecords, first_record}
use Rattle.plan_change.specs.Requests.{requests_of}
use Rattle.plan_change.proofs.Agreeing.{first_agrees, agrees_as}
use Rattle.plan_change.proofs.changer.Changer.new.Goals as goal

pub invariant_of-result : goal.invariant_of-result
invariant_of-result c =
    let junction : JunctionView = junction_of c.args.plan.now in
    let p : PlanView = fitted_plan_of c.args.plan.now in
    let heads = c.first_heads.result in
    let rules : IsJunction junction = subst IsJunction c.junction.ensures c.rules.ensures in
    let are : HasRecords junction (first_record junction p) heads =
    subst (λ j. HasRecords j (first_record j p) heads) c.junction-3.ensures
    (subst (λ q. HasRecords c.junction-3.result.now (first_record c.junction-3.result.now q) heads) c.plan-3.ensures.value c.first_heads.ensures) in
    record {
      agrees = agrees_as c.junction-2.result.now junction (plan_of c.plan.result.now) p (requests_of c.new.result.items) [] (plan_of c.plan-2.result.now) p 0 0 heads
          c.junction-2.ensures c.plan.ensures.value (ap requests_of c.new.ensures.items) c.plan-2.ensures.value
          (first_agrees junction p heads rules c.plan.ensures.fits are);
    }
