use Rattle.std.proofs.Common.{◌↔◌, Any, map, string_bytes}
use Rattle.std.specs.BTreeMap.{keys}
use Rattle.junction_files.specs.Faults.{IsOtherWord}
use Rattle.junction_files.proofs.faults.shape.has_other_word.Given as goal

abbrev pub invariant-loop-found : goal.invariant-loop-found
invariant-loop-found l = Any (IsOtherWord l.part l.version) (map string_bytes (keys l.table)) ↔ Any (IsOtherWord l.part l.version) (map string_bytes l.found-iterator)
