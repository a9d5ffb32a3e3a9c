-- What is true of all lists of rows and of their memories.
use Rattle.std.specs.Prelude.{List, [], ◌∷◌, ◌++◌, length, ◌≡◌, ◌↔◌}
use Rattle.junction_model.specs.Junction.{JunctionView}
use Rattle.plan_model.specs.Fits.{group_count}
use Rattle.aspect_player.specs.declared.aspect.Aspect.{Aspect}
use Rattle.aspect_player.specs.Safe.{IsSafe}
use Rattle.log_monitor.specs.declared.violation.Violation.{Violation}
use Rattle.log_monitor.specs.Memory.{Memory, IsMemoryOf, IsNext, HasNoNext, with_row}
use Rattle.log_monitor.specs.Violations.{AreRows, IsFirstViolation}

abbrev pub PrefixLaw : Type 0
PrefixLaw = (junction : JunctionView) (rows more : List (List Aspect)) → IsSafe junction (rows ++ more) → IsSafe junction rows

abbrev pub MemoryLaw : Type 0
MemoryLaw = (junction : JunctionView) (rows : List (List Aspect)) (row : List Aspect) (m : Memory) →
    length row ≡ group_count junction → IsMemoryOf junction rows m → IsMemoryOf junction (rows ++ row ∷ []) (with_row m row)

-- what the memory of a safe list tells of a row
pub record TellsNext (junction : JunctionView) (rows : List (List Aspect)) (row : List Aspect) (m : Memory) : Type 0 where
  pub violation : (found : Violation) → IsNext junction m row found ↔ IsFirstViolation junction (rows ++ row ∷ []) found
  pub none : HasNoNext junction m row ↔ IsSafe junction (rows ++ row ∷ [])

abbrev pub NextLaw : Type 0
NextLaw = (junction : JunctionView) (rows : List (List Aspect)) (row : List Aspect) (m : Memory) →
    AreRows junction (rows ++ row ∷ []) → IsSafe junction rows → IsMemoryOf junction rows m → TellsNext junction rows row m
