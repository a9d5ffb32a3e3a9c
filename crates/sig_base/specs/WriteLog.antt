-- A log of writes, newest first, and what is held once they are done.
use Rattle.std.specs.Prelude.{ℕ, List, map, String, Vec}
use Rattle.std.specs.Global.{Global}
use Rattle.std.specs.FinMap as finite
use Rattle.std.specs.String.{string_bytes}
use Rattle.sig_base.specs.Shelf.{Holdings}

-- a name and its bytes
abbrev pub entry_of : String Global × Vec ℕ Global → List ℕ × List ℕ
entry_of write = (string_bytes write.0, write.1.items)

abbrev pub replayed : List (String Global × Vec ℕ Global) → Holdings
replayed log = finite.from_entries (map entry_of log)
