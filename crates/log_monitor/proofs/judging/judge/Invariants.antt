use Rattle.std.proofs.Common.{List, ◌∷◌, ◌≡◌, ◌≤◌, length}
use Rattle.aspect_player.specs.declared.aspect.Aspect.{Aspect}
use Rattle.log_monitor.specs.Log.{header_of, records_of}
use Rattle.log_monitor.specs.Reading.{junction_read, HasRead}
use Rattle.log_monitor.specs.TakenRecords.{HasTaken}
use Rattle.log_monitor.proofs.judging.judge.Given as goal

-- the rows so far are those of the records so far, and each turn took one
abbrev pub invariant-loop : goal.invariant-loop
invariant-loop l = (junction_read l.reading ≡ l.fn.junction) × (rows : List (List Aspect)) × HasRead l.reading rows
    × HasTaken l.fn.bytes l.reader (header_of l.fn.junction ∷ records_of l.reading.first rows) × (l.counter ≤ length rows)
