-- What contracts see of a log that is being read.
use Rattle.std.specs.Prelude.{ℕ, List, length, None, Some, MatchOption, ◌≡◌, ◌+◌, ◌^◌, ◌==◌, ◌<◌, ◌≤◌, if◌then◌else◌}
use Rattle.junction_model.specs.Junction.{JunctionView}
use Rattle.plan_model.specs.Fits.{group_count}
use Rattle.aspect_player.specs.declared.aspect.Aspect.{Aspect}
use Rattle.aspect_player.specs.Safe.{IsSafe}
use Rattle.log_monitor.specs.declared.reading.Reading.{Reading}
use Rattle.log_monitor.specs.Log.{Fields, record_of, most_second, IsNextSecond}
use Rattle.log_monitor.specs.Memory.{IsMemoryOf, with_row}
use Rattle.log_monitor.specs.Monitor.{watched, memory_of}
use Rattle.log_monitor.specs.Sight.{IsSeen}
use Rattle.log_monitor.specs.declared.verdict.LogVerdict.{LogVerdict}
use Rattle.log_monitor.specs.declared.verdict.LogVerdict.TheVariants as verdict
use Rattle.log_monitor.specs.declared.violation.Violation.{Violation}
use Rattle.log_monitor.specs.declared.violation.Violation.TheVariants as violation
use Rattle.log_monitor.specs.Violations.{AreRows, IsFirstViolation, in_seconds}

abbrev pub junction_read : Reading → JunctionView
junction_read reading = watched reading.monitor

-- the rows so far: how many, and their first violation, or their memory where they are safe
pub record HasRead (reading : Reading) (rows : List (List Aspect)) : Type 0 where
  pub count : reading.rows ≡ length rows
  pub full : AreRows (junction_read reading) rows
  pub seconds : reading.first ≤ most_second
  pub few : length rows < 2 ^ 32
  pub seen : MatchOption reading.found
      (IsSafe (junction_read reading) rows × IsMemoryOf (junction_read reading) rows (memory_of reading.monitor))
      (IsFirstViolation (junction_read reading) rows)

-- the row was seen, unless a violation was found before
pub record Sees (old new : Reading) (row : List Aspect) : Type 0 where
  pub junction : junction_read new ≡ junction_read old
  pub kept : MatchOption old.found
      (IsSeen (junction_read old) (memory_of old.monitor) row new.found ×
      (new.found ≡ None → memory_of new.monitor ≡ with_row (memory_of old.monitor) row))
      (λ found. new.found ≡ Some found)

-- the record was taken: its second and its row
pub record Takes (old new : Reading) (fields : Fields) : Type 0 where
  pub row : List Aspect
  pub second : ℕ
  pub full : length row ≡ group_count (junction_read old)
  pub fields_are : fields ≡ record_of second row
  pub next : IsNextSecond old.first old.rows second
  pub first : new.first ≡ (if old.rows == 0 then second else old.first)
  pub rows : new.rows ≡ old.rows + 1
  pub sees : Sees old new row

abbrev pub IsRead : Reading → Type 0
IsRead reading = (rows : List (List Aspect)) × HasRead reading rows

abbrev pub IsTold : Reading → LogVerdict → Type 0
IsTold reading (verdict.Safe count) = (reading.found ≡ None) × (count ≡ reading.rows)
IsTold reading (verdict.Unsafe told) = (found : Violation) × (reading.found ≡ Some found) × (told ≡ in_seconds reading.first found)

-- rows of 32 bits
abbrev pub in_range : Violation → Type 0
in_range (violation.Clearance i j u v) = (u < 2 ^ 32) × (v < 2 ^ 32)
in_range (violation.Amber i v) = v < 2 ^ 32
in_range (violation.Minimum i v) = v < 2 ^ 32
