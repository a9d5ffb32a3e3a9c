-- What bytes spell, or why they spell no certificate.
use Rattle.std.specs.Prelude.{ℕ, List, Some, ◌≡◌, ⊤, Result, Ok, Err, IsUtf8}
use Rattle.serde_json.specs.Data.{Data}
use Rattle.serde_json.specs.Read.{read}
use Rattle.plan_certificate.specs.Certificate.{CertificateView, certificate_of}
use Rattle.plan_certificate.specs.Contents.{Contents, Holds}
use Rattle.plan_certificate.specs.Ranges.{IsInRange}
use Rattle.plan_certificate.specs.Text.{contents_of}
use Rattle.plan_certificate.specs.Version.{IsVersionOf}
use Rattle.plan_certificate.specs.declared.certificate.Certificate.{Certificate}
use Rattle.plan_certificate.specs.declared.fault.CertificateFault.{CertificateFault}
use Rattle.plan_certificate.specs.declared.fault.CertificateFault.TheVariants as fault

-- the bytes are a JSON text of this value
pub record IsJson (bytes : List ℕ) (d : Data) : Type 0 where
  pub utf8 : IsUtf8 bytes
  pub value : read bytes ≡ Some d

-- the value is a certificate's, all parts in their ranges for this number of groups
pub record IsCertificate (groups : ℕ) (d : Data) (c : CertificateView) : Type 0 where
  pub version : ℕ
  pub contents : Holds d (contents_of version c)
  pub allowed : IsVersionOf c.branches version
  pub range : IsInRange groups c

pub record Spells (groups : ℕ) (bytes : List ℕ) (c : CertificateView) : Type 0 where
  pub value : Data
  pub json : IsJson bytes value
  pub certificate : IsCertificate groups value c

-- the value has another shape
abbrev pub IsMisshapen : Data → Type 0
IsMisshapen d = (contents : Contents) → ¬ Holds d contents

-- the value has the shape, but is no certificate's
pub record IsOutOfRange (groups : ℕ) (d : Data) : Type 0 where
  pub contents : Contents
  pub held : Holds d contents
  pub no_certificate : (c : CertificateView) → ¬ IsCertificate groups d c

-- the fault of a value
abbrev pub IsFaultOf : ℕ → Data → CertificateFault → Type 0
IsFaultOf groups d fault.NotJson = ⊥
IsFaultOf groups d fault.Shape = IsMisshapen d
IsFaultOf groups d fault.Range = IsOutOfRange groups d
IsFaultOf groups d fault.Memory = ⊤

pub record SpellsFault (groups : ℕ) (bytes : List ℕ) (refused : CertificateFault) : Type 0 where
  pub value : Data
  pub json : IsJson bytes value
  pub fault : IsFaultOf groups value refused

abbrev pub IsRefusal : ℕ → List ℕ → CertificateFault → Type 0
IsRefusal groups bytes fault.NotJson = (d : Data) → ¬ IsJson bytes d
IsRefusal groups bytes fault.Shape = SpellsFault groups bytes fault.Shape
IsRefusal groups bytes fault.Range = SpellsFault groups bytes fault.Range
IsRefusal groups bytes fault.Memory = ⊤

-- the answer is this certificate, or memory is wanting
abbrev pub GivesBack : CertificateView → Result Certificate CertificateFault → Type 0
GivesBack c (Ok found) = certificate_of found ≡ c
GivesBack c (Err refused) = refused ≡ fault.Memory
