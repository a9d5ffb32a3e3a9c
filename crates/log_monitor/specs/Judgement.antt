-- What a judged log is told to be.
use Rattle.std.specs.Prelude.{ℕ, List, length, Result, Ok, Err, ◌≡◌, ◌+◌, ⊤}
use Rattle.csv.specs.declared.error.ErrorKind.{ErrorKind}
use Rattle.csv.specs.declared.error.ErrorKind.TheVariants as kind
use Rattle.junction_model.specs.Junction.{JunctionView}
use Rattle.aspect_player.specs.declared.aspect.Aspect.{Aspect}
use Rattle.aspect_player.specs.Safe.{IsSafe}
use Rattle.log_monitor.specs.declared.fault.LogFault.{LogFault}
use Rattle.log_monitor.specs.declared.fault.LogFault.TheVariants as fault
use Rattle.log_monitor.specs.declared.verdict.LogVerdict.{LogVerdict}
use Rattle.log_monitor.specs.declared.verdict.LogVerdict.TheVariants as verdict
use Rattle.log_monitor.specs.declared.violation.Violation.{Violation}
use Rattle.log_monitor.specs.Violations.{IsFirstViolation, in_seconds}
use Rattle.log_monitor.specs.Log.{Fields, IsLogOf, IsFirstFault}

-- the rows are safe, and this is their number
pub record IsSafeLog (junction : JunctionView) (read : List Fields) (count : ℕ) : Type 0 where
  pub first : ℕ
  pub rows : List (List Aspect)
  pub log : IsLogOf junction read first rows
  pub safe : IsSafe junction rows
  pub counted : count ≡ length rows

-- the rows aren't safe, and this is their first violation, with the seconds of the log
pub record IsUnsafeLog (junction : JunctionView) (read : List Fields) (told : Violation) : Type 0 where
  pub first : ℕ
  pub rows : List (List Aspect)
  pub log : IsLogOf junction read first rows
  pub found : Violation
  pub violation : IsFirstViolation junction rows found
  pub told_is : told ≡ in_seconds first found

abbrev pub IsVerdict : JunctionView → List Fields → LogVerdict → Type 0
IsVerdict junction read (verdict.Safe count) = IsSafeLog junction read count
IsVerdict junction read (verdict.Unsafe told) = IsUnsafeLog junction read told

-- the verdict on a log, or its first fault; no memory needs no cause
abbrev pub IsJudged : JunctionView → List Fields → Result LogVerdict LogFault → Type 0
IsJudged junction read (Ok given) = IsVerdict junction read given
IsJudged junction read (Err fault.Memory) = ⊤
IsJudged junction read (Err fault.Header) = IsFirstFault junction read fault.Header
IsJudged junction read (Err (fault.Record number)) = IsFirstFault junction read (fault.Record number)
IsJudged junction read (Err (fault.Second number)) = IsFirstFault junction read (fault.Second number)
IsJudged junction read (Err (fault.Aspect number)) = IsFirstFault junction read (fault.Aspect number)

-- the fault that an error of the reader is told as, after so many rows
abbrev pub IsRefusedAs : ErrorKind → ℕ → LogFault → Type 0
IsRefusedAs (kind.UnequalLengths pos expected len) rows given = given ≡ fault.Record (rows + 1)
IsRefusedAs (kind.Io e) rows given = given ≡ fault.Memory
IsRefusedAs (kind.Utf8 pos err) rows given = given ≡ fault.Memory
IsRefusedAs kind.OutOfMemory rows given = given ≡ fault.Memory
IsRefusedAs (kind.Serialize text) rows given = given ≡ fault.Memory
IsRefusedAs (kind.Deserialize pos err) rows given = given ≡ fault.Memory
