-- A plan whose starts can be told round its cycle.
use Rattle.sig_base.specs.First.{NoneBelow}
use Rattle.junction_model.specs.Junction.{JunctionView}
use Rattle.plan_model.specs.SignalPlan.{PlanView}
use Rattle.plan_model.specs.Fits.{HasEachGroup, IsWithinLimits, group_count}
use Rattle.plan_model.specs.FirstFault.{StartsLate}

-- the cycle is within the limits, and each start below the cycle
pub record IsInRange (junction : JunctionView) (p : PlanView) : Type 0 where
  pub groups : HasEachGroup junction p
  pub cycle : IsWithinLimits junction p
  pub starts : NoneBelow (StartsLate p) (group_count junction)
