use Rattle.std.proofs.Common.{◌≡◌, ◌<◌}
use Rattle.toml.specs.View.{view}
use Rattle.junction_files.specs.Faults.{Fault, Stands}
use Rattle.junction_files.specs.FaultOrder.{part_number}
use Rattle.junction_files.proofs.faults.first.first_of.Given as goal

abbrev pub invariant-loop-part : goal.invariant-loop-part
invariant-loop-part l = (f : Fault) → f.kind ≡ l.kind → part_number f.part < l.part-index → ¬ Stands (view l.document) f
