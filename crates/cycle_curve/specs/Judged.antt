-- What is found of the bytes that are to be a curve of a junction: the first fault of their lines, or the verdict on the rows
-- that the lines spell.
use Rattle.std.specs.Prelude.{ℕ, List, Some, Result, Ok, Err, ◌≡◌, ◌≢◌, ◌+◌, ◌<◌, ⊤, length, slice_get}
use Rattle.junction_model.specs.Junction.{JunctionView}
use Rattle.junction_model.specs.Narrowed.{narrowed}
use Rattle.plan_model.specs.Fits.{group_count}
use Rattle.plan_certificate.specs.Certificate.{CertificateView}
use Rattle.plan_certificate.specs.Ranges.{IsInRange}
use Rattle.plan_certificate.specs.Reads.{Spells, IsRefusal}
use Rattle.plan_certificate.specs.declared.claim.Claim.TheVariants as claim
use Rattle.plan_certificate.specs.declared.fault.CertificateFault.{CertificateFault}
use Rattle.plan_certificate.specs.declared.fault.CertificateFault.TheVariants as refusal
use Rattle.certificate_checker.specs.CertificateRules.{BreaksNoRule, IsFirstOfAll}
use Rattle.certificate_checker.specs.Proves.{ProvesClaim}
use Rattle.certificate_checker.specs.declared.rule.Rule.{Rule}
use Rattle.cycle_curve.specs.Curve.{RowView, AreRowsOf, EachRow, IsTrueCurve, RowHolds, NoneStopped, zero}
use Rattle.cycle_curve.specs.Lines.{lines_of, HasItsLines}
use Rattle.cycle_curve.specs.declared.verdict.CurveFault.{CurveFault}
use Rattle.cycle_curve.specs.declared.verdict.CurveFault.TheVariants as fault
use Rattle.cycle_curve.specs.declared.verdict.CurveVerdict.{CurveVerdict}
use Rattle.cycle_curve.specs.declared.verdict.CurveVerdict.TheVariants as verdict

-- none of a shortest cycle, and of the least 0/1
pub record HasOwnClaim (c : CertificateView) : Type 0 where
  pub no_cycle : c.claim ≢ claim.Cycle
  pub least : c.least ≡ zero

abbrev pub HasStopped : List RowView → Type 0
HasStopped rows = (k : ℕ) × (row : RowView) × (slice_get rows k ≡ Some row) × (row.certificate.claim ≡ claim.Stopped)

-- the line of this number is refused for this
abbrev pub IsRefusedLine : ℕ → List ℕ → ℕ → CurveFault → Type 0
IsRefusedLine groups text line fault.Lines = ⊥
IsRefusedLine groups text line (fault.NotJson number) = (number ≡ line) × IsRefusal groups text refusal.NotJson
IsRefusedLine groups text line (fault.Shape number) = (number ≡ line) × IsRefusal groups text refusal.Shape
IsRefusedLine groups text line (fault.Range number) = (number ≡ line) × IsRefusal groups text refusal.Range
IsRefusedLine groups text line fault.Memory = ⊤

module _ (junction : JunctionView) where
  -- the row has a claim of a curve, and breaks no rule for the junction with its cycle alone
  pub record IsInOrder (row : RowView) : Type 0 where
    pub own_claim : HasOwnClaim row.certificate
    pub rules : BreaksNoRule (narrowed junction row.cycle) row.certificate

  -- it proves its claim, which isn't that of a stopped search
  pub record IsProvedRow (row : RowView) : Type 0 where
    pub finished : row.certificate.claim ≢ claim.Stopped
    pub proves : ProvesClaim (narrowed junction row.cycle) row.certificate

  abbrev pub AreInOrderBelow : ℕ → List RowView → Type 0
  AreInOrderBelow n rows = (k : ℕ) (row : RowView) → k < n → slice_get rows k ≡ Some row → IsInOrder row

  -- the row of this number is the first one that isn't in order
  pub record IsFirstAtFault (rows : List RowView) (wrong : RowView → Type 0) (cycle : ℕ) : Type 0 where
    pub number : ℕ
    pub row : RowView
    pub there : slice_get rows number ≡ Some row
    pub of_cycle : row.cycle ≡ cycle
    pub is_wrong : wrong row
    pub first : AreInOrderBelow number rows

  -- its claim is right, and the first rule that it breaks is this one; the rule's own cycle is that of its tree, or 0
  pub record BreaksFirst (rule : Rule) (node : ℕ) (row : RowView) : Type 0 where
    pub own_claim : HasOwnClaim row.certificate
    pub own_cycle : ℕ
    pub breaks : IsFirstOfAll (narrowed junction row.cycle) row.certificate rule own_cycle node

  -- no row is at fault and each proves its claim, or some row is that of a stopped search; or the first one at fault
  abbrev pub IsVerdictOn : List RowView → CurveVerdict → Type 0
  IsVerdictOn rows verdict.Proved = AreInOrderBelow (length rows) rows × EachRow IsProvedRow rows
  IsVerdictOn rows verdict.Partial = AreInOrderBelow (length rows) rows × HasStopped rows
  IsVerdictOn rows (verdict.Claim cycle) = IsFirstAtFault rows (λ (row : RowView). ¬ HasOwnClaim row.certificate) cycle
  IsVerdictOn rows (verdict.Broken rule cycle node) = IsFirstAtFault rows (BreaksFirst rule node) cycle

  -- what is found of one row
  abbrev pub IsRowVerdict : RowView → CurveVerdict → Type 0
  IsRowVerdict row verdict.Proved = IsInOrder row × IsProvedRow row
  IsRowVerdict row verdict.Partial = IsInOrder row × (row.certificate.claim ≡ claim.Stopped)
  IsRowVerdict row (verdict.Claim cycle) = (cycle ≡ row.cycle) × ¬ HasOwnClaim row.certificate
  IsRowVerdict row (verdict.Broken rule cycle node) = (cycle ≡ row.cycle) × BreaksFirst rule node row

  -- the rows are those of the junction's cycles, with parts in their ranges
  pub record AreInRange (rows : List RowView) : Type 0 where
    pub of_junction : AreRowsOf junction rows
    pub each : EachRow (λ row. IsInRange (group_count junction) row.certificate) rows

  -- the line of a number, from 1, is refused for this, and each line before spells a certificate
  pub record IsFirstRefused (bytes : List ℕ) (refused : CertificateFault) (line : ℕ) : Type 0 where
    pub text : List ℕ
    pub number : ℕ
    pub counted : line ≡ number + 1
    pub there : slice_get (lines_of bytes) number ≡ Some text
    pub refusal : IsRefusal (group_count junction) text refused
    pub before : (k : ℕ) (earlier : List ℕ) → k < number → slice_get (lines_of bytes) k ≡ Some earlier →
        (c : CertificateView) × Spells (group_count junction) earlier c

  -- each line spells the certificate of its row
  pub record SpellRows (bytes : List ℕ) (rows : List RowView) : Type 0 where
    pub of_junction : AreRowsOf junction rows
    pub each : (k : ℕ) (row : RowView) (line : List ℕ) → slice_get rows k ≡ Some row → slice_get (lines_of bytes) k ≡ Some line →
        Spells (group_count junction) line row.certificate

  -- the first line that spells no certificate is refused for this
  abbrev pub IsFaultOfLines : List ℕ → CurveFault → Type 0
  IsFaultOfLines bytes fault.Lines = ⊥
  IsFaultOfLines bytes (fault.NotJson line) = IsFirstRefused bytes refusal.NotJson line
  IsFaultOfLines bytes (fault.Shape line) = IsFirstRefused bytes refusal.Shape line
  IsFaultOfLines bytes (fault.Range line) = IsFirstRefused bytes refusal.Range line
  IsFaultOfLines bytes fault.Memory = ⊤

  -- the verdict on the rows that the lines spell, or the first fault of the lines
  abbrev pub IsJudgement : List ℕ → Result CurveVerdict CurveFault → Type 0
  IsJudgement bytes (Ok found) = HasItsLines junction bytes × ((rows : List RowView) × SpellRows bytes rows × IsVerdictOn rows found)
  IsJudgement bytes (Err fault.Lines) = ¬ HasItsLines junction bytes
  IsJudgement bytes (Err refused) = HasItsLines junction bytes × IsFaultOfLines bytes refused

  -- the lines spell rows that prove what they claim of all plans of their cycles, and none is that of a stopped search
  pub record AllHold (bytes : List ℕ) : Type 0 where
    pub rows : List RowView
    pub spelt : SpellRows bytes rows
    pub finished : NoneStopped rows
    pub curve : IsTrueCurve junction rows
    pub hold : EachRow (RowHolds junction) rows
