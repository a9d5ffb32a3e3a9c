-- What two writes append, one after the other.
use Rattle.std.proofs.Common.{ℕ, List, Option, ◌+◌, ◌-◌, length, take, drop, take-add, length-drop}
use Rattle.std.proofs.Math.Seq.{take-length}
use Rattle.std.specs.Io.KnownBytes.{Appends}
use Rattle.std.proofs.KnownBytes.{Appends-trans}

pub written_more : (a b d : Option (List ℕ)) (bytes : List ℕ) (done count : ℕ) → Appends a b (take done bytes) →
    Appends b d (take count (take (length bytes - done) (drop done bytes))) → Appends a d (take (done + count) bytes)
written_more a b d bytes done count before now =
    let rest = rw (← length-drop done bytes, take-length (drop done bytes)) at now in
    rw take-add (Appends-trans a b d _ _ before rest)
