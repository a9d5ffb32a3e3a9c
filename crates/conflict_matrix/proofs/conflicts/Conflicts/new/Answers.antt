use Rattle.std.proofs.Common.{rules}
use Rattle.conflict_matrix.proofs.Cells.{matrix_from, table_from}
use Rattle.conflict_matrix.proofs.conflicts.Conflicts.new.Goals as goal

pub new-numbering-requires : goal.new-numbering-requires
new-numbering-requires c = matrix_from _ _ _ c.requires c.in_default.ensures (search rules) c.filled_cells-cells.ensures

pub invariant_of-result : goal.invariant_of-result
invariant_of-result c = record {
  table = matrix_from _ _ _ c.requires c.in_default.ensures (search rules) c.filled_cells-cells.ensures;
  numbers = c.new-numbering.ensures;
  few_links = search rules;
}

pub returns-clause-table : goal.returns-clause-table
returns-clause-table c = table_from _ _ _ c.requires c.in_default.ensures c.filled_cells-cells.ensures
