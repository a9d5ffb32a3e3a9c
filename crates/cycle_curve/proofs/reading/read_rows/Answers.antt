use Rattle.std.proofs.Common.{◌+◌, ◌∙◌, sym, refl, arith}
use Rattle.plan_certificate.specs.Certificate.{certificate_of}
use Rattle.cycle_curve.specs.Curve.{RowView}
use Rattle.cycle_curve.proofs.Rows.{row_below}
use Rattle.cycle_curve.proofs.Spelt.{rest_behind, spelt_next, fault_at}
use Rattle.cycle_curve.proofs.reading.read_rows.Goals as goal

pub returns-in-Err-clause-fault : goal.returns-in-Err-clause-fault
returns-in-Err-clause-fault c =
    let here = sym c.loop-cycle.invariant.rest ∙ c.line_end-end.ensures.lines in
    fault_at c.args.junction.now c.args.bytes.now c.loop-cycle.rows c.loop-cycle.invariant.spelt _ _ here (c.loop-cycle.line + 1) c.in-Err.fault
    (omega (arith, c.loop-cycle.invariant.counted, c.loop-cycle.invariant.below.count)) (rw c.groups-groups.ensures.value at c.in-Err.ensures.fault)

pub loop-cycle-preserved : goal.loop-cycle-preserved
loop-cycle-preserved c =
    let row : RowView = record { cycle = c.loop-cycle.cycle; certificate = certificate_of c.in-Ok.certificate } in
    let here = sym c.loop-cycle.invariant.rest ∙ c.line_end-end.ensures.lines in
    record {
      below = rw c.in_ok-push.ensures.ok (row_below c.args.junction.now c.loop-cycle.cycle c.loop-cycle.rows c.loop-cycle.invariant.below row refl);
      counted = omega (arith, c.loop-cycle.invariant.counted);
      rest = rw (c.behind-rest.ensures, c.in_ok-push.ensures.ok) (sym (rest_behind c.args.junction.now c.args.bytes.now c.loop-cycle.rows c.loop-cycle.invariant.spelt _ _ here row));
      spelt = rw c.in_ok-push.ensures.ok (spelt_next c.args.junction.now c.args.bytes.now c.loop-cycle.rows c.loop-cycle.invariant.spelt _ _ here row (rw c.groups-groups.ensures.value at c.in-Ok.ensures.certificate));
    }
