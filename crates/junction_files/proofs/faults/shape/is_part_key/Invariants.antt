use Rattle.std.proofs.Common.{◌≡◌, ◌<◌, ℕ, get_or}
use Rattle.junction_files.specs.Document.{word_of}
use Rattle.junction_files.specs.declared.faults.Key.TheVariants as key
use Rattle.junction_files.proofs.faults.shape.is_part_key.Given as goal

abbrev pub invariant-loop-key : goal.invariant-loop-key
invariant-loop-key l = (k : ℕ) → k < l.key-index → ¬ (word_of (get_or l.key-items k key.Whole) ≡ l.found)
