-- The number and the word of a fault, as they are printed.
use Rattle.std.specs.Prelude.{ℕ, codes, List}
use Rattle.log_monitor.specs.declared.fault.LogFault.{LogFault}
use Rattle.log_monitor.specs.declared.fault.LogFault.TheVariants as fault

abbrev pub fault_number : LogFault → ℕ
fault_number fault.Header = 1
fault_number (fault.Record number) = 2
fault_number (fault.Second number) = 3
fault_number (fault.Aspect number) = 4
fault_number fault.Memory = 0

abbrev pub fault_word : LogFault → List ℕ
fault_word fault.Header = codes "header"
fault_word (fault.Record number) = codes "record"
fault_word (fault.Second number) = codes "second"
fault_word (fault.Aspect number) = codes "aspect"
fault_word fault.Memory = codes "memory"
