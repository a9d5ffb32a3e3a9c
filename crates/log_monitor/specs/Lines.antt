-- The lines of a verdict and of a fault.
use Rattle.std.specs.Prelude.{codes, ℕ, List, [], ◌++◌, decimal, ◌<◌, slice_get}
use Rattle.std.specs.Option.{option_map_or}
use Rattle.junction_model.specs.declared.group.Group.{Group}
use Rattle.junction_model.specs.Junction.{JunctionView}
use Rattle.plan_model.specs.Fits.{group_count}
use Rattle.log_monitor.specs.declared.fault.LogFault.{LogFault}
use Rattle.log_monitor.specs.declared.fault.LogFault.TheVariants as fault
use Rattle.log_monitor.specs.FaultWords.{fault_number, fault_word}
use Rattle.log_monitor.specs.declared.verdict.LogVerdict.{LogVerdict}
use Rattle.log_monitor.specs.declared.verdict.LogVerdict.TheVariants as verdict
use Rattle.log_monitor.specs.declared.violation.Violation.{Violation}
use Rattle.log_monitor.specs.declared.violation.Violation.TheVariants as violation

abbrev pub name_of : JunctionView → ℕ → List ℕ
name_of junction i = option_map_or (λ (group : Group). group.label) (slice_get junction.groups i) []

-- the groups of the violation are groups of the junction
abbrev pub NamesGroups : JunctionView → Violation → Type 0
NamesGroups junction (violation.Clearance i j u v) = (i < group_count junction) × (j < group_count junction)
NamesGroups junction (violation.Amber i v) = i < group_count junction
NamesGroups junction (violation.Minimum i v) = i < group_count junction

-- what comes after `violation `
abbrev pub violation_words : JunctionView → Violation → List ℕ
violation_words junction (violation.Clearance i j u v) =
    codes "clearance " ++ (name_of junction i ++ (codes " " ++ (name_of junction j ++
    (codes " seconds " ++ (decimal u ++ (codes " " ++ decimal v))))))
violation_words junction (violation.Amber i v) = codes "amber " ++ (name_of junction i ++ (codes " second " ++ decimal v))
violation_words junction (violation.Minimum i v) = codes "minimum " ++ (name_of junction i ++ (codes " second " ++ decimal v))

abbrev pub verdict_line : JunctionView → LogVerdict → List ℕ
verdict_line junction (verdict.Safe rows) = codes "safe " ++ (decimal rows ++ codes "\n")
verdict_line junction (verdict.Unsafe told) = codes "violation " ++ (violation_words junction told ++ codes "\n")

-- what tells the record of a fault, where it is one of a record
abbrev pub record_words : LogFault → List ℕ
record_words fault.Header = []
record_words (fault.Record number) = codes " record " ++ decimal number
record_words (fault.Second number) = codes " record " ++ decimal number
record_words (fault.Aspect number) = codes " record " ++ decimal number
record_words fault.Memory = []

abbrev pub fault_line : LogFault → List ℕ
fault_line found =
    codes "bad log " ++ (decimal (fault_number found) ++ (codes " " ++ (fault_word found ++ (record_words found ++ codes "\n"))))
