use Rattle.std.proofs.Common.{◌<◌, ◌+◌}
use Rattle.toml.specs.View.{view}
use Rattle.junction_files.specs.Faults.{Fault, Stands}
use Rattle.junction_files.specs.FaultOrder.{kind_number}
use Rattle.junction_files.proofs.faults.first.first_fault.Given as goal

abbrev pub invariant-loop-kind : goal.invariant-loop-kind
invariant-loop-kind l = (f : Fault) → kind_number f.kind < l.kind-index + 1 → ¬ Stands (view l.document) f
