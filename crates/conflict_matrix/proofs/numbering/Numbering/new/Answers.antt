use Rattle.std.proofs.Common.{◌≡◌, arith}
use Rattle.conflict_matrix.proofs.Rows.{rows_row, numbering_from_rows}
use Rattle.conflict_matrix.proofs.numbering.Numbering.new.Goals as goal

pub loop-i-preserved : goal.loop-i-preserved
loop-i-preserved c = rows_row _ _ _ _ c.loop-i.invariant c.push_row.ensures.few c.push_row.ensures.numbered c.push_row.ensures.row

pub returns : goal.returns
returns c =
    let last : c.loop-i.i ≡ c.args.groups = omega arith in
    numbering_from_rows _ _ c.requires (rw last at c.loop-i.invariant)
