-- The number and the word of a fault, as they are printed.
use Rattle.std.specs.Prelude.{ℕ, codes, List}
use Rattle.plan_certificate.specs.declared.fault.CertificateFault.{CertificateFault}
use Rattle.plan_certificate.specs.declared.fault.CertificateFault.TheVariants as fault

abbrev pub fault_number : CertificateFault → ℕ
fault_number fault.NotJson = 1
fault_number fault.Shape = 2
fault_number fault.Range = 3
fault_number fault.Memory = 0

abbrev pub fault_word : CertificateFault → List ℕ
fault_word fault.NotJson = codes "not_json"
fault_word fault.Shape = codes "shape"
fault_word fault.Range = codes "range"
fault_word fault.Memory = codes "memory"
