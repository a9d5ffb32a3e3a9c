-- Logs: what a recorded list is as bytes.
use Rattle.std.specs.Prelude.{codes, ℕ, zero, suc, List, [], ◌∷◌, ◌++◌, length, map, drop, Some, ◌≡◌, ◌≢◌, ◌+◌, ◌≤◌, slice_get}
use Rattle.std.specs.Fmt.{decimal}
use Rattle.csv.specs.Reading.{default_config, records, strip_bom}
use Rattle.junction_model.specs.declared.group.Group.{Group}
use Rattle.junction_model.specs.Junction.{JunctionView}
use Rattle.plan_model.specs.Fits.{group_count}
use Rattle.aspect_player.specs.declared.aspect.Aspect.{Aspect}
use Rattle.aspect_player.specs.Lines.{word_of}
use Rattle.log_monitor.specs.Violations.{AreRows}
use Rattle.log_monitor.specs.declared.fault.LogFault.{LogFault}
use Rattle.log_monitor.specs.declared.fault.LogFault.TheVariants as fault

-- the fields of one record, each as its bytes
abbrev pub Fields : Type 0
Fields = List (List ℕ)

-- the records of bytes, as the reader of `csv` gives them with its default settings and no header row
abbrev pub records_in : List ℕ → List Fields
records_in bytes = records default_config (strip_bom bytes)

-- `second` and the names of the groups
abbrev pub header_of : JunctionView → Fields
header_of junction = codes "second" ∷ map (λ (group : Group). group.label) junction.groups

-- the number of the second and the word of each aspect
abbrev pub record_of : ℕ → List Aspect → Fields
record_of second row = decimal second ∷ map word_of row

-- the records of rows, of which the first has this second and each later one the next
unfoldable pub records_of : ℕ → List (List Aspect) → List Fields
records_of second [] = []
records_of second (row ∷ rows) = record_of second row ∷ records_of (second + 1) rows

abbrev pub most_second : ℕ
most_second = 4294967295

-- the records are the header and those of these rows, of which the first has this second
pub record IsLogOf (junction : JunctionView) (read : List Fields) (first : ℕ) (rows : List (List Aspect)) : Type 0 where
  pub full : AreRows junction rows
  pub seconds : first ≤ most_second
  pub records : read ≡ header_of junction ∷ records_of first rows

-- ---- faults

-- the second that may stand after so many rows, of which the first had this second
abbrev pub IsNextSecond : ℕ → ℕ → ℕ → Type 0
IsNextSecond first zero second = second ≤ most_second
IsNextSecond first (suc rows) second = second ≡ first + suc rows

abbrev pub HasFields : JunctionView → Fields → Type 0
HasFields junction fields = length fields ≡ group_count junction + 1

abbrev pub HasSecond : ℕ → ℕ → Fields → Type 0
HasSecond first rows fields = (second : ℕ) × IsNextSecond first rows second × (slice_get fields 0 ≡ Some (decimal second))

abbrev pub HasAspects : Fields → Type 0
HasAspects fields = (row : List Aspect) × (drop 1 fields ≡ map word_of row)

-- the records of these rows come first, after the header, and then this one
pub record IsAfterRows (junction : JunctionView) (read : List Fields) (fields : Fields) : Type 0 where
  pub first : ℕ
  pub rows : List (List Aspect)
  pub before : IsLogOf junction (header_of junction ∷ records_of first rows) first rows
  pub rest : List Fields
  pub parts : read ≡ header_of junction ∷ (records_of first rows ++ fields ∷ rest)

-- the first fault of a record after so many rows, of which the first had this second
abbrev pub IsFaultAfter : JunctionView → ℕ → ℕ → Fields → LogFault → Type 0
IsFaultAfter junction first rows fields fault.Header = ⊥
IsFaultAfter junction first rows fields (fault.Record number) =
    (number ≡ rows + 1) × ¬ HasFields junction fields
IsFaultAfter junction first rows fields (fault.Second number) =
    (number ≡ rows + 1) × HasFields junction fields × ¬ HasSecond first rows fields
IsFaultAfter junction first rows fields (fault.Aspect number) =
    (number ≡ rows + 1) × HasFields junction fields × HasSecond first rows fields × ¬ HasAspects fields
IsFaultAfter junction first rows fields fault.Memory = ⊥

-- the first fault of the first record that is none of a row
pub record IsRecordFault (junction : JunctionView) (read : List Fields) (found : LogFault) : Type 0 where
  pub fields : Fields
  pub after : IsAfterRows junction read fields
  pub fault : IsFaultAfter junction after.first (length after.rows) fields found

-- the first fault of the records: another header, or none, and else that of a later record
abbrev pub IsFirstFault : JunctionView → List Fields → LogFault → Type 0
IsFirstFault junction read fault.Header = (rest : List Fields) → read ≢ header_of junction ∷ rest
IsFirstFault junction read (fault.Record number) = IsRecordFault junction read (fault.Record number)
IsFirstFault junction read (fault.Second number) = IsRecordFault junction read (fault.Second number)
IsFirstFault junction read (fault.Aspect number) = IsRecordFault junction read (fault.Aspect number)
IsFirstFault junction read fault.Memory = ⊥
