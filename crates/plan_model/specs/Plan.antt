-- What contracts see of a plan.
use Rattle.std.specs.Prelude.{take}
use Rattle.plan_model.specs.SignalPlan.{PlanView}
use Rattle.plan_model.specs.declared.plan.Plan.{Plan}

abbrev pub plan_of : Plan → PlanView
plan_of p = record { cycle = p.cycle; starts = take p.count p.starts; greens = take p.count p.greens }
