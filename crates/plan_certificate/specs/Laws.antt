-- What is true of all texts of certificates.
use Rattle.std.specs.Prelude.{ℕ, List, ◌≡◌, ◌≢◌, ◌≤◌, ◌<◌, ◌^◌, ◌⊎◌}
use Rattle.plan_certificate.specs.Certificate.{CertificateView}
use Rattle.plan_certificate.specs.Ranges.{IsInRange}
use Rattle.plan_certificate.specs.Reads.{Spells, IsRefusal}
use Rattle.plan_certificate.specs.Text.{text_of}
use Rattle.plan_certificate.specs.declared.fault.CertificateFault.{CertificateFault}
use Rattle.plan_certificate.specs.declared.fault.CertificateFault.TheVariants.{Memory}

-- the text of a certificate spells it for every number of groups for which its parts are in their ranges
abbrev pub WrittenLaw : Type 0
WrittenLaw = (groups : ℕ) (c : CertificateView) → IsInRange groups c → c.budget < 2 ^ 64 → Spells groups (text_of c) c

-- bytes spell at most one certificate
abbrev pub OneCertificateLaw : Type 0
OneCertificateLaw = (groups : ℕ) (bytes : List ℕ) (c d : CertificateView) → 2 ≤ groups →
    Spells groups bytes c → Spells groups bytes d → c ≡ d

-- bytes that spell a certificate are refused for want of memory alone
abbrev pub RefusalLaw : Type 0
RefusalLaw = (groups : ℕ) (bytes : List ℕ) (c : CertificateView) (refused : CertificateFault) →
    Spells groups bytes c → IsRefusal groups bytes refused → refused ≡ Memory

-- bytes are refused for one fault
abbrev pub OneFaultLaw : Type 0
OneFaultLaw = (groups : ℕ) (bytes : List ℕ) (one other : CertificateFault) → one ≢ Memory → other ≢ Memory →
    IsRefusal groups bytes one → IsRefusal groups bytes other → one ≡ other

-- the bytes are refused for this fault, which isn't want of memory, and for no other
pub record IsOnlyRefusal (groups : ℕ) (bytes : List ℕ) (fault : CertificateFault) : Type 0 where
  pub own : fault ≢ Memory
  pub refused : IsRefusal groups bytes fault
  pub only : (other : CertificateFault) → other ≢ Memory → IsRefusal groups bytes other → other ≡ fault

-- for 2 to 16 groups every list of bytes spells a certificate, or is refused for one fault
abbrev pub TotalityLaw : Type 0
TotalityLaw = (groups : ℕ) (bytes : List ℕ) → 2 ≤ groups → groups ≤ 16 →
    ((c : CertificateView) × Spells groups bytes c) ⊎ ((fault : CertificateFault) × IsOnlyRefusal groups bytes fault)
