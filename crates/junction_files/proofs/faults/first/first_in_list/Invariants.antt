use Rattle.std.proofs.Common.{map}
use Rattle.toml.specs.View.{view}
use Rattle.junction_files.proofs.FirstFault.{NoneBefore}
use Rattle.junction_files.proofs.faults.first.first_in_list.Given as goal

abbrev pub invariant-loop-i : goal.invariant-loop-i
invariant-loop-i l = NoneBefore (view l.document) l.kind l.part (map view l.elements) l.i
