use Rattle.std.proofs.Common.{Some, sym, ap, ◌∙◌}
use Rattle.command_words.specs.CommandOf.{command_view}
use Rattle.junction_program.proofs.Spelled.{as_spelled, as_none}
use Rattle.junction_program.proofs.top_call.perform.Goals as goal

pub returns-in-Some-Capacity-clause-outcome : goal.returns-in-Some-Capacity-clause-outcome
returns-in-Some-Capacity-clause-outcome g c = as_spelled _ _ _ (ap (λ x. Some (command_view x)) (sym c.in-Some-Capacity.field-0-is) ∙ c.in-Some-Capacity.ensures.spelled) c.design_plan.ensures

pub returns-in-Some-Cycle-clause-outcome : goal.returns-in-Some-Cycle-clause-outcome
returns-in-Some-Cycle-clause-outcome g c = as_spelled _ _ _ (ap (λ x. Some (command_view x)) (sym c.in-Some-Cycle.field-0-is) ∙ c.in-Some-Cycle.ensures.spelled) c.design_plan-in-Some-Cycle.ensures

pub returns-in-Some-Check-clause-outcome : goal.returns-in-Some-Check-clause-outcome
returns-in-Some-Check-clause-outcome g c = as_spelled _ _ _ (ap (λ x. Some (command_view x)) (sym c.in-Some-Check.field-0-is) ∙ c.in-Some-Check.ensures.spelled) c.judge.ensures

pub returns-in-None-clause-outcome : goal.returns-in-None-clause-outcome
returns-in-None-clause-outcome g c = as_none _ _ _ _ _ c.in-None.ensures.spelled c.refuse.ensures

pub returns-in-Some-Play-clause-outcome : goal.returns-in-Some-Play-clause-outcome
returns-in-Some-Play-clause-outcome g c = as_spelled _ _ _ (ap (λ x. Some (command_view x)) (sym c.in-Some-Play.field-0-is) ∙ c.in-Some-Play.ensures.spelled) c.play.ensures

pub returns-in-Some-Sample-clause-outcome : goal.returns-in-Some-Sample-clause-outcome
returns-in-Some-Sample-clause-outcome g c = as_spelled _ _ _ (ap (λ x. Some (command_view x)) (sym c.in-Some-Sample.field-0-is) ∙ c.in-Some-Sample.ensures.spelled) c.design_sample.ensures
