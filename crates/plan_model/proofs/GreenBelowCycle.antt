-- Why no green of a plan that fits fills the cycle, not even with the amber after it.
use Rattle.std.proofs.Common.{ℕ, ◌<◌, ◌≤◌, arith, add-zero}
use Rattle.std.proofs.lemmas.Option.{slice_get_within}
use Rattle.conflict_matrix.specs.Matrix.{intergreen_of}
use Rattle.junction_model.specs.Junction.{JunctionView}
use Rattle.junction_model.specs.Rules.{IsJunction}
use Rattle.plan_model.specs.SignalPlan.{PlanView, start_of, green_of}
use Rattle.plan_model.specs.Fits.{Fits, group_count}
use Rattle.plan_model.specs.GreenBelowCycle.{GreenBelowCycleLaw, AmberBelowCycleLaw}
use Rattle.plan_model.proofs.Gaps.{gaps_of_clear}
use Rattle.plan_model.proofs.Phase.{phase_below, phase_start}
use Rattle.sig_base.proofs.Option.{some_value}
use Rattle.plan_model.proofs.IsShown.{group_there, fits_shown, shown_start, shown_green}

-- at the start of a conflicting group, a green that fills the cycle shows too
pub green_below_cycle_law : GreenBelowCycleLaw
green_below_cycle_law junction p i rules fits h =
    let shown = fits_shown junction p rules fits in
    let same = rules.conflicts.same_groups in
    let partner = rules.conflicts.partnered i (omega (arith, same)) in
    let there : partner.0 < group_count junction = omega (arith, same, partner.1) in
    let wait = some_value (intergreen_of junction.conflicts i partner.0) partner.2 in
    let start = start_of p partner.0 in
    let early : start < p.cycle = shown_start junction p partner.0 shown there in
    let shows : 1 ≤ green_of p partner.0 = shown_green junction p partner.0 shown there in
    let apart : p.cycle ≤ green_of p i → ⊥ = λ full. fits.clear i partner.0 wait.0 start h there wait.1 early
    (omega (arith, phase_below p.cycle (start_of p i) start (omega arith)), (0, omega arith, rw (add-zero start, phase_start p.cycle start) shows)) in
    omega arith

pub green_most : (junction : JunctionView) (p : PlanView) (i : ℕ) → IsJunction junction → Fits junction p → i < group_count junction → green_of p i ≤ 300
green_most junction p i rules fits h =
    omega (arith, green_below_cycle_law junction p i rules fits h, fits.cycle.greatest, rules.cycles.longest)

-- the gap to a conflicting group holds the green and the intergreen, which is at least the amber
pub amber_below_cycle_law : AmberBelowCycleLaw
amber_below_cycle_law junction p i group rules fits there =
    let h : i < group_count junction = slice_get_within _ _ _ there in
    let same = rules.conflicts.same_groups in
    let partner = rules.conflicts.partnered i (omega (arith, same)) in
    let j = partner.0 in
    let inside : j < group_count junction = omega (arith, same, partner.1) in
    let w = some_value (intergreen_of junction.conflicts i j) partner.2 in
    let to = group_there junction j inside in
    let enough = rw (w.1, there, to.1) at (rules.conflicts.long_enough i h j inside) in
    let long = gaps_of_clear junction p (fits_shown junction p rules fits) fits.clear i j w.0 h inside w.1 in
    let below = phase_below p.cycle (start_of p i) (start_of p j) (omega (arith, rules.cycles.some, fits.cycle.least)) in
    omega (arith, enough.amber, long, below)
