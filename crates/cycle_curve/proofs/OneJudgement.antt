-- Bytes have one judgement.
use Rattle.std.proofs.Common.{ℕ, List, [], ◌≡◌, ◌≢◌, ◌<◌, ◌⊎◌, Some, Ok, Err, inl, inr, sym, refl, ◌∙◌, ap, subst, length, slice_get, get_or, arith}
use Rattle.std.specs.Prelude.{Result}
use Rattle.std.proofs.lemmas.Bool.{cases_order}
use Rattle.std.proofs.lemmas.List.{same_lists}
use Rattle.std.proofs.lemmas.Option.{same_Some, slice_get_within, slice_get-get_or, slice_get_cases}
use Rattle.junction_model.specs.Junction.{JunctionView}
use Rattle.junction_model.specs.Narrowed.{narrowed}
use Rattle.junction_model.specs.Rules.{IsJunction}
use Rattle.plan_model.specs.Fits.{group_count}
use Rattle.plan_certificate.specs.Certificate.{CertificateView}
use Rattle.plan_certificate.specs.Laws.{OneCertificateLaw, RefusalLaw, OneFaultLaw}
use Rattle.plan_certificate.specs.Reads.{IsRefusal}
use Rattle.plan_certificate.specs.declared.fault.CertificateFault.{CertificateFault}
use Rattle.plan_certificate.specs.declared.fault.CertificateFault.TheVariants as refusal
use Rattle.certificate_checker.specs.declared.rule.Rule.{Rule}
use Rattle.certificate_checker.proofs.OneRule.{one_rule}
use Rattle.cycle_curve.specs.Curve.{RowView}
use Rattle.cycle_curve.specs.Judged.{HasOwnClaim, IsInOrder, AreInOrderBelow, IsFirstAtFault, BreaksFirst, IsVerdictOn, IsFirstRefused, SpellRows, IsFaultOfLines, IsJudgement}
use Rattle.cycle_curve.specs.Laws.{OneJudgementLaw}
use Rattle.cycle_curve.specs.Lines.{lines_of, HasItsLines}
use Rattle.cycle_curve.specs.declared.verdict.CurveFault.{CurveFault}
use Rattle.cycle_curve.specs.declared.verdict.CurveFault.TheVariants as fault
use Rattle.cycle_curve.specs.declared.verdict.CurveVerdict.{CurveVerdict}
use Rattle.cycle_curve.specs.declared.verdict.CurveVerdict.TheVariants as verdict

-- ---- the verdict on rows

module _ (junction : JunctionView) (rows : List RowView) where
  unclaimed : (row : RowView) → ¬ HasOwnClaim row.certificate → ¬ IsInOrder junction row
  unclaimed row wrong ordered = wrong ordered.own_claim

  broken : (rule : Rule) (node : ℕ) (row : RowView) → BreaksFirst junction rule node row → ¬ IsInOrder junction row
  broken rule node row wrong ordered = ordered.rules rule wrong.own_cycle node wrong.breaks.breaks

  not_all : (wrong : RowView → Type 0) (cycle : ℕ) → ((row : RowView) → wrong row → ¬ IsInOrder junction row) →
      IsFirstAtFault junction rows wrong cycle → AreInOrderBelow junction (length rows) rows → ⊥
  not_all wrong cycle apart one all = apart one.row one.is_wrong (all one.number one.row (slice_get_within rows one.number one.row one.there) one.there)

  -- two first rows at fault are one row
  same_row : (wrong other : RowView → Type 0) (cycle later : ℕ) → ((row : RowView) → wrong row → ¬ IsInOrder junction row) →
      ((row : RowView) → other row → ¬ IsInOrder junction row) →
      (one : IsFirstAtFault junction rows wrong cycle) → (two : IsFirstAtFault junction rows other later) → one.row ≡ two.row
  same_row wrong other cycle later apart too one two = elim (cases_order one.number two.number) [
    | inl same ↦ same_Some one.row two.row (sym one.there ∙ subst (λ k. slice_get rows k ≡ Some two.row) (sym same) two.there)
    | inr either ↦ elim either [
      | inl below ↦ absurd (apart one.row one.is_wrong (two.first one.number one.row below one.there))
      | inr above ↦ absurd (too two.row two.is_wrong (one.first two.number two.row above two.there))
    ]
  ]

  one_cycle : (wrong other : RowView → Type 0) (cycle later : ℕ) → ((row : RowView) → wrong row → ¬ IsInOrder junction row) →
      ((row : RowView) → other row → ¬ IsInOrder junction row) →
      IsFirstAtFault junction rows wrong cycle → IsFirstAtFault junction rows other later → cycle ≡ later
  one_cycle wrong other cycle later apart too one two =
      sym one.of_cycle ∙ ap (λ (row : RowView). row.cycle) (same_row wrong other cycle later apart too one two) ∙ two.of_cycle

  claimed_and_broken : (cycle later node : ℕ) (rule : Rule) → IsFirstAtFault junction rows (λ (row : RowView). ¬ HasOwnClaim row.certificate) cycle →
      IsFirstAtFault junction rows (BreaksFirst junction rule node) later → ⊥
  claimed_and_broken cycle later node rule one two =
      let same = same_row (λ (row : RowView). ¬ HasOwnClaim row.certificate) (BreaksFirst junction rule node) cycle later unclaimed (broken rule node) one two in
      (subst (λ (row : RowView). ¬ HasOwnClaim row.certificate) same one.is_wrong) two.is_wrong.own_claim

  one_broken : (rule other : Rule) (cycle later node place : ℕ) → IsFirstAtFault junction rows (BreaksFirst junction rule node) cycle →
      IsFirstAtFault junction rows (BreaksFirst junction other place) later → verdict.Broken rule cycle node ≡ verdict.Broken other later place
  one_broken rule other cycle later node place one two =
      let same = same_row (BreaksFirst junction rule node) (BreaksFirst junction other place) cycle later (broken rule node) (broken other place) one two in
      let here = subst (BreaksFirst junction rule node) same one.is_wrong in
      let own = one_rule (narrowed junction two.row.cycle) two.row.certificate rule here.own_cycle node other two.is_wrong.own_cycle place here.breaks two.is_wrong.breaks in
      let cycles = one_cycle (BreaksFirst junction rule node) (BreaksFirst junction other place) cycle later (broken rule node) (broken other place) one two in
      ap (λ r. verdict.Broken r cycle node) own.0 ∙ ap (λ c. verdict.Broken other c node) cycles ∙ ap (verdict.Broken other later) own.1

  one_verdict : (one other : CurveVerdict) → IsVerdictOn junction rows one → IsVerdictOn junction rows other → one ≡ other
  one_verdict verdict.Proved verdict.Proved h m = refl
  one_verdict verdict.Proved verdict.Partial h m = let (k, row, at, stopped) = m.1 in absurd ((h.1 k row at).finished stopped)
  one_verdict verdict.Proved (verdict.Claim later) h m = absurd (not_all (λ (row : RowView). ¬ HasOwnClaim row.certificate) later unclaimed m h.0)
  one_verdict verdict.Proved (verdict.Broken other later place) h m = absurd (not_all (BreaksFirst junction other place) later (broken other place) m h.0)
  one_verdict verdict.Partial verdict.Proved h m = let (k, row, at, stopped) = h.1 in absurd ((m.1 k row at).finished stopped)
  one_verdict verdict.Partial verdict.Partial h m = refl
  one_verdict verdict.Partial (verdict.Claim later) h m = absurd (not_all (λ (row : RowView). ¬ HasOwnClaim row.certificate) later unclaimed m h.0)
  one_verdict verdict.Partial (verdict.Broken other later place) h m = absurd (not_all (BreaksFirst junction other place) later (broken other place) m h.0)
  one_verdict (verdict.Claim cycle) verdict.Proved h m = absurd (not_all (λ (row : RowView). ¬ HasOwnClaim row.certificate) cycle unclaimed h m.0)
  one_verdict (verdict.Claim cycle) verdict.Partial h m = absurd (not_all (λ (row : RowView). ¬ HasOwnClaim row.certificate) cycle unclaimed h m.0)
  one_verdict (verdict.Claim cycle) (verdict.Claim later) h m =
      ap verdict.Claim (one_cycle (λ (row : RowView). ¬ HasOwnClaim row.certificate) (λ (row : RowView). ¬ HasOwnClaim row.certificate) cycle later unclaimed unclaimed h m)
  one_verdict (verdict.Claim cycle) (verdict.Broken other later place) h m = absurd (claimed_and_broken cycle later place other h m)
  one_verdict (verdict.Broken rule cycle node) verdict.Proved h m = absurd (not_all (BreaksFirst junction rule node) cycle (broken rule node) h m.0)
  one_verdict (verdict.Broken rule cycle node) verdict.Partial h m = absurd (not_all (BreaksFirst junction rule node) cycle (broken rule node) h m.0)
  one_verdict (verdict.Broken rule cycle node) (verdict.Claim later) h m = absurd (claimed_and_broken later cycle node rule m h)
  one_verdict (verdict.Broken rule cycle node) (verdict.Broken other later place) h m = one_broken rule other cycle later node place h m

-- ---- the rows of lines, or their first fault

row_with : ℕ → CertificateView → RowView
row_with cycle certificate = record { cycle = cycle; certificate = certificate }

abbrev judged : CurveVerdict → Result CurveVerdict CurveFault
judged found = Ok found

abbrev refused_for : CurveFault → Result CurveVerdict CurveFault
refused_for found = Err found

-- the fault of a line
told : CertificateFault → ℕ → CurveFault
told refusal.NotJson line = fault.NotJson line
told refusal.Shape line = fault.Shape line
told refusal.Range line = fault.Range line
told refusal.Memory line = fault.Memory

module _ (junction : JunctionView) (bytes : List ℕ) where
  -- a fault other than want of memory is that of the first line that is refused
  record IsToldOf (found : CurveFault) : Type 0 where
    refused : CertificateFault
    line : ℕ
    caused : refused ≢ refusal.Memory
    first : IsFirstRefused junction bytes refused line
    is : told refused line ≡ found

  told_of : (found : CurveFault) → found ≢ fault.Memory → IsFaultOfLines junction bytes found → IsToldOf found
  unfolding told
  told_of fault.Lines other h = absurd h
  told_of (fault.NotJson line) other h = record { refused = refusal.NotJson; line = line; caused = λ e. cc; first = h; is = refl }
  told_of (fault.Shape line) other h = record { refused = refusal.Shape; line = line; caused = λ e. cc; first = h; is = refl }
  told_of (fault.Range line) other h = record { refused = refusal.Range; line = line; caused = λ e. cc; first = h; is = refl }
  told_of fault.Memory other h = absurd (other refl)

  faulty : (found : CurveFault) → found ≢ fault.Memory → IsJudgement junction bytes (Err found) →
      ((found ≡ fault.Lines) × ¬ HasItsLines junction bytes) ⊎ (HasItsLines junction bytes × IsToldOf found)
  faulty fault.Lines other h = inl (refl, h)
  faulty (fault.NotJson line) other h = inr (h.0, told_of (fault.NotJson line) other h.1)
  faulty (fault.Shape line) other h = inr (h.0, told_of (fault.Shape line) other h.1)
  faulty (fault.Range line) other h = inr (h.0, told_of (fault.Range line) other h.1)
  faulty fault.Memory other h = absurd (other refl)

  module _ (refusals : RefusalLaw) (faults : OneFaultLaw) where
    one_told : (one other : CurveFault) → IsToldOf one → IsToldOf other → one ≡ other
    one_told one other h m = elim (cases_order h.first.number m.first.number) [
      | inl same ↦ (let texts : h.first.text ≡ m.first.text =
          same_Some h.first.text m.first.text (sym h.first.there ∙ subst (λ k. slice_get (lines_of bytes) k ≡ Some m.first.text) (sym same) m.first.there) in
          let refused = faults (group_count junction) m.first.text h.refused m.refused h.caused m.caused
          (subst (λ text. IsRefusal (group_count junction) text h.refused) texts h.first.refusal) m.first.refusal in
          let line : h.line ≡ m.line = omega (arith, h.first.counted, m.first.counted, same) in
          sym h.is ∙ ap (λ r. told r h.line) refused ∙ ap (told m.refused) line ∙ m.is)
      | inr either ↦ elim either [
        | inl below ↦ (let (c, spells) = m.first.before h.first.number h.first.text below h.first.there in
            absurd (h.caused (refusals (group_count junction) h.first.text c h.refused spells h.first.refusal)))
        | inr above ↦ (let (c, spells) = h.first.before m.first.number m.first.text above m.first.there in
            absurd (m.caused (refusals (group_count junction) m.first.text c m.refused spells m.first.refusal)))
      ]
    ]

    -- where each line spells a row, none is refused
    spelt_or_told : (rows : List RowView) (found : CurveFault) → HasItsLines junction bytes → SpellRows junction bytes rows → IsToldOf found → ⊥
    spelt_or_told rows found lines spelt h =
        let below = slice_get_within (lines_of bytes) h.first.number h.first.text h.first.there in
        let within : h.first.number < length rows = omega (arith, below, lines.count, spelt.of_junction.count) in
        elim (slice_get_cases rows h.first.number).1 [
          | inl there ↦ (let (row, own, at, is) = there in
              let spells = spelt.each h.first.number row h.first.text at h.first.there in
              h.caused (refusals (group_count junction) h.first.text row.certificate h.refused spells h.first.refusal))
          | inr past ↦ absurd (omega (arith, past.0, within))
        ]

    fault_or_verdict : (found : CurveVerdict) (other : CurveFault) → other ≢ fault.Memory → IsJudgement junction bytes (Ok found) → IsJudgement junction bytes (Err other) → ⊥
    fault_or_verdict found other caused h m =
        let (rows, spelt, is) = h.1 in
        elim (faulty other caused m) [
          | inl none ↦ none.1 h.0
          | inr refused ↦ spelt_or_told rows other h.0 spelt refused.1
        ]

    one_fault : (one other : CurveFault) → one ≢ fault.Memory → other ≢ fault.Memory → IsJudgement junction bytes (Err one) → IsJudgement junction bytes (Err other) → one ≡ other
    one_fault one other caused too h m = elim (faulty one caused h) [
      | inl none ↦ elim (faulty other too m) [ inl again ↦ none.0 ∙ sym again.0 | inr refused ↦ absurd (none.1 refused.0) ]
      | inr refused ↦ elim (faulty other too m) [ inl none ↦ absurd (none.1 refused.0) | inr again ↦ one_told one other refused.1 again.1 ]
    ]

  module _ (certificates : OneCertificateLaw) (rules : IsJunction junction) (lines : HasItsLines junction bytes) where
    one_row : (k : ℕ) (a b : RowView) (rows more : List RowView) → SpellRows junction bytes rows → SpellRows junction bytes more →
        slice_get rows k ≡ Some a → slice_get more k ≡ Some b → a ≡ b
    unfolding row_with
    one_row k a b rows more spelt again at there =
        let below = slice_get_within rows k a at in
        let within : k < length (lines_of bytes) = omega (arith, below, lines.count, spelt.of_junction.count) in
        let line = slice_get-get_or (lines_of bytes) k [] within in
        let same = certificates (group_count junction) (get_or (lines_of bytes) k []) a.certificate b.certificate rules.groups.several
        (spelt.each k a (get_or (lines_of bytes) k []) at line) (again.each k b (get_or (lines_of bytes) k []) there line) in
        let cycles : a.cycle ≡ b.cycle = spelt.of_junction.cycles k a at ∙ sym (again.of_junction.cycles k b there) in
        ap (λ cycle. row_with cycle a.certificate) cycles ∙ ap (row_with b.cycle) same

    one_list : (rows more : List RowView) → SpellRows junction bytes rows → SpellRows junction bytes more → rows ≡ more
    one_list rows more spelt again =
        let counts : length rows ≡ length more = spelt.of_junction.count ∙ sym again.of_junction.count in
        same_lists rows more counts (λ k d below. one_row k (get_or rows k d) (get_or more k d) rows more spelt again
        (slice_get-get_or rows k d below) (slice_get-get_or more k d (omega (arith, below, counts))))

pub one_judgement_law : OneCertificateLaw → RefusalLaw → OneFaultLaw → OneJudgementLaw
one_judgement_law certificates refusals faults junction bytes (Ok one) (Ok other) rules caused too h m =
    let (rows, spelt, is) = h.1 in
    let (more, again, found) = m.1 in
    let same = one_list junction bytes certificates rules h.0 rows more spelt again in
    ap judged (one_verdict junction more one other (subst (λ rs. IsVerdictOn junction rs one) same is) found)
one_judgement_law certificates refusals faults junction bytes (Ok one) (Err other) rules caused too h m =
    absurd (fault_or_verdict junction bytes refusals faults one other (λ e. too (ap refused_for e)) h m)
one_judgement_law certificates refusals faults junction bytes (Err one) (Ok other) rules caused too h m =
    absurd (fault_or_verdict junction bytes refusals faults other one (λ e. caused (ap refused_for e)) m h)
one_judgement_law certificates refusals faults junction bytes (Err one) (Err other) rules caused too h m =
    ap refused_for (one_fault junction bytes refusals faults one other (λ e. caused (ap refused_for e)) (λ e. too (ap refused_for e)) h m)
