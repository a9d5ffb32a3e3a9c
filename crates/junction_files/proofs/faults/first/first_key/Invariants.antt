use Rattle.std.proofs.Common.{◌<◌}
use Rattle.toml.specs.View.{view}
use Rattle.junction_files.specs.Faults.{IsWrong}
use Rattle.junction_files.specs.FaultOrder.{key_number}
use Rattle.junction_files.specs.declared.faults.Key.{Key}
use Rattle.junction_files.proofs.faults.first.first_key.Given as goal

abbrev pub invariant-loop-key : goal.invariant-loop-key
invariant-loop-key l = (k : Key) → key_number k < l.key-index → ¬ IsWrong (view l.document) l.kind l.part l.index (view l.element) k
