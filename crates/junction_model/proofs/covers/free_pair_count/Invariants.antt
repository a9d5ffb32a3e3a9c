use Rattle.std.proofs.Common.{◌≡◌, ◌≤◌, take}
use Rattle.std.specs.List.{count_by}
use Rattle.conflict_matrix.specs.Conflicts.{matrix_of, pairs_of}
use Rattle.conflict_matrix.specs.Pairs.{is_free}
use Rattle.junction_model.proofs.covers.free_pair_count.Given as goal

abbrev pub invariant-loop-number : goal.invariant-loop-number
invariant-loop-number l = (l.free ≡ count_by is_free (take l.number (pairs_of (matrix_of l.conflicts)))) × (l.free ≤ l.number)
