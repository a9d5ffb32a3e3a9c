use Rattle.std.proofs.Common.{◌≡◌, ◌+◌, ◌-◌, ap, ◌∙◌, subst, arith}
use Rattle.plan_model.specs.SignalPlan.{PlanView}
use Rattle.plan_model.specs.FittedPlan.{fitted_plan_of}
use Rattle.stage_builder.specs.Stages.{IsGreenSet}
use Rattle.stage_builder.proofs.GreenSet.{one_set}
use Rattle.stage_builder.proofs.finding.run_length.Goals as goal

pub returns-then-set_at-set : goal.returns-then-set_at-set
returns-then-set_at-set c =
    let cycle = c.cycle-seconds-end.ensures ∙ ap (λ (p : PlanView). p.cycle) c.plan.ensures.value in
    record {
      short = omega (arith, cycle, c.loop-seconds-test.true);
      same = c.loop-seconds.invariant;
      after = λ is. c.if-set_at-set.true (one_set (fitted_plan_of c.args.plan.now) _ _ _ c.set_at.ensures is);
    }

pub unreachable-requires : goal.unreachable-requires
unreachable-requires c =
    let cycle = c.cycle-seconds-end.ensures ∙ ap (λ (p : PlanView). p.cycle) c.plan.ensures.value in
    let p : PlanView = fitted_plan_of c.args.plan.now in
    let last : c.args.first + (p.cycle - 1) ≡ c.args.first + p.cycle - 1 = omega (arith, c.requires.first) in
    c.requires.before (subst (λ t. IsGreenSet p t c.args.set) last
    (c.loop-seconds.invariant (p.cycle - 1) (omega (arith, cycle, c.loop-seconds-test.false, c.requires.first))))
