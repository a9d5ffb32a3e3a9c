-- What is true of all logs.
use Rattle.std.specs.Prelude.{length, ℕ, List, [], Result, Ok, Err, ◌≡◌, ◌≢◌, ◌⊎◌}
use Rattle.junction_model.specs.Junction.{JunctionView}
use Rattle.junction_model.specs.Rules.{IsJunction}
use Rattle.plan_model.specs.SignalPlan.{PlanView}
use Rattle.plan_model.specs.Fits.{Fits}
use Rattle.aspect_player.specs.declared.aspect.Aspect.{Aspect}
use Rattle.aspect_player.specs.Timetable.{Display, rows_by}
use Rattle.aspect_player.specs.Lines.{rows_text, display_text, played_text}
use Rattle.aspect_player.specs.Safe.{IsSafe}
use Rattle.log_monitor.specs.declared.fault.LogFault.{LogFault}
use Rattle.log_monitor.specs.declared.fault.LogFault.TheVariants as fault
use Rattle.log_monitor.specs.declared.verdict.LogVerdict.{LogVerdict}
use Rattle.log_monitor.specs.declared.verdict.LogVerdict.TheVariants as verdict
use Rattle.log_monitor.specs.declared.violation.Violation.{Violation}
use Rattle.log_monitor.specs.Violations.{AreRows, IsFirstViolation}
use Rattle.log_monitor.specs.Log.{Fields, records_in, IsLogOf, IsFirstFault}
use Rattle.log_monitor.specs.Judgement.{IsUnsafeLog, IsJudged}
use Rattle.log_monitor.specs.Lines.{NamesGroups}

-- a log has one list of rows, and where it has a row, one first second
abbrev pub OneLogLaw : Type 0
OneLogLaw = (junction : JunctionView) (read : List Fields) (first other : ℕ) (rows more : List (List Aspect)) →
    IsLogOf junction read first rows → IsLogOf junction read other more → (rows ≡ more) × (rows ≢ [] → first ≡ other)

-- what has a fault is no log
abbrev pub NoLogLaw : Type 0
NoLogLaw = (junction : JunctionView) (read : List Fields) (found : LogFault) (first : ℕ) (rows : List (List Aspect)) →
    IsFirstFault junction read found → ¬ IsLogOf junction read first rows

-- and it has one first fault
abbrev pub OneFaultLaw : Type 0
OneFaultLaw = (junction : JunctionView) (read : List Fields) (one other : LogFault) →
    IsFirstFault junction read one → IsFirstFault junction read other → one ≡ other

-- records are a log, or they have a first fault
abbrev pub LogOrFaultLaw : Type 0
LogOrFaultLaw = (junction : JunctionView) (read : List Fields) →
    ((first : ℕ) × (rows : List (List Aspect)) × IsLogOf junction read first rows) ⊎ ((found : LogFault) × IsFirstFault junction read found)

-- a list with a first violation isn't safe
abbrev pub UnsafeLaw : Type 0
UnsafeLaw = (junction : JunctionView) (rows : List (List Aspect)) (found : Violation) →
    IsFirstViolation junction rows found → ¬ IsSafe junction rows

-- and it has one first violation
abbrev pub OneViolationLaw : Type 0
OneViolationLaw = (junction : JunctionView) (rows : List (List Aspect)) (found other : Violation) →
    IsFirstViolation junction rows found → IsFirstViolation junction rows other → found ≡ other

-- records are judged in one way, where memory could be had
abbrev pub OneVerdictLaw : Type 0
OneVerdictLaw = (junction : JunctionView) (read : List Fields) (one other : Result LogVerdict LogFault) →
    one ≢ Err fault.Memory → other ≢ Err fault.Memory → IsJudged junction read one → IsJudged junction read other → one ≡ other

-- the groups of a log's violation are groups of the junction
abbrev pub GroupsLaw : Type 0
GroupsLaw = (junction : JunctionView) (read : List Fields) (told : Violation) → IsUnsafeLog junction read told → NamesGroups junction told

-- the text of rows that each have an aspect for each group is their log, from second 0
abbrev pub RowsTextLaw : Type 0
RowsTextLaw = (junction : JunctionView) (rows : List (List Aspect)) → AreRows junction rows →
    IsLogOf junction (records_in (rows_text junction rows)) 0 rows

-- the text of safe rows is judged safe, with their number, or no memory could be had
abbrev pub SafeTextLaw : Type 0
SafeTextLaw = (junction : JunctionView) (rows : List (List Aspect)) (result : Result LogVerdict LogFault) →
    AreRows junction rows → IsSafe junction rows →
    IsJudged junction (records_in (rows_text junction rows)) result → (result ≡ Ok (verdict.Safe (length rows))) ⊎ (result ≡ Err fault.Memory)

-- so is the text of any display whose rows are safe: of what is played, and of what is shown while plans change
abbrev pub DisplayedLaw : Type 0
DisplayedLaw = (junction : JunctionView) (display : Display) (seconds : ℕ) (result : Result LogVerdict LogFault) →
    IsSafe junction (rows_by junction display seconds) →
    IsJudged junction (records_in (display_text junction display seconds)) result → (result ≡ Ok (verdict.Safe seconds)) ⊎ (result ≡ Err fault.Memory)

-- the text of a plan that fits is judged safe, with the number of its rows, or no memory could be had
abbrev pub PlayedLaw : Type 0
PlayedLaw = (junction : JunctionView) (p : PlanView) (seconds : ℕ) (result : Result LogVerdict LogFault) →
    IsJunction junction → Fits junction p →
    IsJudged junction (records_in (played_text junction p seconds)) result → (result ≡ Ok (verdict.Safe seconds)) ⊎ (result ≡ Err fault.Memory)
