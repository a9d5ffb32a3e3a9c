use Rattle.std.proofs.Common.{◌≡◌, ◌+◌, ◌≤◌, refl, arith}
use Rattle.plan_certificate.specs.Certificate.{certificate_of}
use Rattle.cycle_curve.specs.Curve.{RowView, IsDesignedRow}
use Rattle.cycle_curve.proofs.Rows.{row_below, each_below, all_rows, true_curve, never_stopped}
use Rattle.cycle_curve.proofs.designs.curve.Goals as goal

pub loop-cycle-preserved : goal.loop-cycle-preserved
loop-cycle-preserved c =
    let row : RowView = record { cycle = c.loop-cycle.cycle; certificate = certificate_of c.in_ok-certificate.certificate } in
    let here : IsDesignedRow c.args.junction.now c.args.budget row = record { least = c.zero-least.result; zero_is = c.zero-least.ensures; design = c.in_ok-certificate.ensures } in
    record {
      below = rw c.in_ok-push.ensures.ok (row_below c.args.junction.now c.loop-cycle.cycle c.loop-cycle.rows c.loop-cycle.invariant.below row refl);
      designed = rw c.in_ok-push.ensures.ok (each_below c.args.junction.now c.loop-cycle.cycle c.loop-cycle.rows c.loop-cycle.invariant.below row refl
          (IsDesignedRow c.args.junction.now c.args.budget) c.loop-cycle.invariant.designed here);
    }

pub returns-clause-curve : goal.returns-clause-curve
returns-clause-curve c =
    let start : c.least_cycle-cycle.result ≤ c.greatest_cycle-cycle-end.result + 1 = omega (arith, c.rules.ensures.cycles.ordered, c.least_cycle-cycle.ensures.value, c.greatest_cycle-cycle-end.ensures.value) in
    let last : c.loop-cycle.cycle ≡ c.args.junction.now.greatest_cycle + 1 = omega (arith, c.loop-cycle-test.false, c.loop-cycle.auto.cycle-end start, c.greatest_cycle-cycle-end.ensures.value) in
    true_curve c.args.junction.now c.args.budget c.loop-cycle.rows (all_rows c.args.junction.now c.loop-cycle.cycle c.loop-cycle.rows c.rules.ensures c.loop-cycle.invariant.below last) c.loop-cycle.invariant.designed

pub returns-clause-holds : goal.returns-clause-holds
returns-clause-holds c = c.curve_law.ensures.curve c.args.junction.now c.loop-cycle.rows c.rules.ensures (returns-clause-curve c)

pub returns-clause-covered : goal.returns-clause-covered
returns-clause-covered c = λ covers. never_stopped c.args.junction.now c.args.budget c.loop-cycle.rows covers c.loop-cycle.invariant.designed
