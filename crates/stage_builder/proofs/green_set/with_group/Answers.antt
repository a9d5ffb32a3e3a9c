use Rattle.std.proofs.Common.{◌≡◌, ◌*◌, ◌%◌, ◌^◌, subst, arith}
use Rattle.std.proofs.lemmas.Nat.{one_shl}
use Rattle.junction_model.specs.Rules.{IsJunction}
use Rattle.plan_model.specs.SignalPlan.{PlanView, GreenAt}
use Rattle.plan_model.specs.FittedPlan.{junction_of, fitted_plan_of}
use Rattle.stage_builder.proofs.GreenSet.{set_more}
use Rattle.stage_builder.proofs.green_set.with_group.Goals as goal

pub returns-then-is_green : goal.returns-then-is_green
returns-then-is_green c =
    let rules : IsJunction (junction_of c.args.plan.now) = rw c.junction.ensures at c.rules.ensures in
    let bit : 1 * 2 ^ c.args.group % 65536 ≡ 2 ^ c.args.group = one_shl c.args.group 16 (omega (arith, rules.groups.few, c.requires.group)) in
    rw bit (set_more (fitted_plan_of c.args.plan.now) c.args.group c.args.second c.args.set c.requires.below
    (subst (λ (p : PlanView). GreenAt p c.args.group c.args.second) c.plan.ensures.value (c.is_green.ensures.0 c.if-is_green.true)))
