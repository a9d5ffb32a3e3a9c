-- Rows that lines spell, read one after another.
use Rattle.std.proofs.Common.{ℕ, List, [], ◌∷◌, ◌++◌, ◌≡◌, ◌+◌, ◌<◌, Some, inl, inr, sym, refl, ◌∙◌, ap, subst, length, length-append, drop, slice_get, arith}
use Rattle.std.proofs.lemmas.Bool.{cases_lt}
use Rattle.std.proofs.lemmas.Option.{none-some, same_Some}
use Rattle.sig_base.proofs.List.{slice_push}
use Rattle.junction_model.specs.Junction.{JunctionView}
use Rattle.plan_model.specs.Fits.{group_count}
use Rattle.plan_certificate.specs.Certificate.{CertificateView}
use Rattle.plan_certificate.specs.Reads.{Spells, IsRefusal}
use Rattle.plan_certificate.specs.Text.{text_of}
use Rattle.plan_certificate.specs.declared.fault.CertificateFault.{CertificateFault}
use Rattle.plan_certificate.specs.declared.fault.CertificateFault.TheVariants as refusal
use Rattle.cycle_curve.specs.Curve.{RowView}
use Rattle.cycle_curve.specs.Judged.{IsFirstRefused, IsRefusedLine, IsFaultOfLines}
use Rattle.cycle_curve.specs.Lines.{lines_of, line_feed, curve_text}
use Rattle.cycle_curve.specs.declared.verdict.CurveFault.{CurveFault}
use Rattle.cycle_curve.specs.declared.verdict.CurveFault.TheVariants as fault
use Rattle.cycle_curve.proofs.LineParts.{next_item}

module _ (junction : JunctionView) (bytes : List ℕ) where
  -- each row so far is spelt by the line of its number
  pub record AreSpelt (rows : List RowView) : Type 0 where
    pub each : (k : ℕ) (row : RowView) (line : List ℕ) → slice_get rows k ≡ Some row → slice_get (lines_of bytes) k ≡ Some line →
        Spells (group_count junction) line row.certificate
    pub earlier : (k : ℕ) (line : List ℕ) → k < length rows → slice_get (lines_of bytes) k ≡ Some line →
        (c : CertificateView) × Spells (group_count junction) line c

  pub none_spelt : AreSpelt []
  none_spelt = record { each = λ k row line there. absurd (none-some row there); earlier = λ k line below. absurd (omega (arith, below)) }

  module _ (rows : List RowView) (spelt : AreSpelt rows) (line : List ℕ) (later : List (List ℕ)) (here : drop (length rows) (lines_of bytes) ≡ line ∷ later) where
    same_line : (k : ℕ) (other : List ℕ) → k ≡ length rows → slice_get (lines_of bytes) k ≡ Some other → line ≡ other
    same_line k other last at =
        let own = next_item (lines_of bytes) (length rows) line later here in
        same_Some line other (sym own.there ∙ subst (λ i. slice_get (lines_of bytes) i ≡ Some other) last at)

    pub rest_behind : (row : RowView) → drop (length (rows ++ row ∷ [])) (lines_of bytes) ≡ later
    rest_behind row =
        let own = next_item (lines_of bytes) (length rows) line later here in
        let more : length (rows ++ row ∷ []) ≡ length rows + 1 = length-append rows (row ∷ []) in
        rw more own.behind

    pub spelt_next : (row : RowView) → Spells (group_count junction) line row.certificate → AreSpelt (rows ++ row ∷ [])
    spelt_next row spells = record {
      each = λ k other text there at. elim (slice_push rows row other k there) [
        | inl before ↦ spelt.each k other text before at
        | inr last ↦ (let same = same_line k text last.0 at in
            subst (λ (r : RowView). Spells (group_count junction) text r.certificate) last.1 (subst (λ t. Spells (group_count junction) t row.certificate) same spells))
      ];
      earlier = λ k text below at. elim (cases_lt k (length rows)) [
        | inl less ↦ spelt.earlier k text less at
        | inr late ↦ (let more : length (rows ++ row ∷ []) ≡ length rows + 1 = length-append rows (row ∷ []) in
            let last : k ≡ length rows = omega (arith, below, late, more) in
            (row.certificate, subst (λ t. Spells (group_count junction) t row.certificate) (same_line k text last at) spells))
      ];
    }

    refused_at : (number : ℕ) (refused : CertificateFault) → number ≡ length rows + 1 → IsRefusal (group_count junction) line refused → IsFirstRefused junction bytes refused number
    refused_at number refused counted refusal_is =
        let own = next_item (lines_of bytes) (length rows) line later here in
        record { text = line; number = length rows; counted = counted; there = own.there; refusal = refusal_is; before = λ k text below at. spelt.earlier k text below at }

    pub fault_at : (number : ℕ) (found : CurveFault) → number ≡ length rows + 1 → IsRefusedLine (group_count junction) line number found → IsFaultOfLines junction bytes found
    fault_at number fault.Lines counted own = absurd own
    fault_at number (fault.NotJson at) counted own = refused_at at refusal.NotJson (own.0 ∙ counted) own.1
    fault_at number (fault.Shape at) counted own = refused_at at refusal.Shape (own.0 ∙ counted) own.1
    fault_at number (fault.Range at) counted own = refused_at at refusal.Range (own.0 ∙ counted) own.1
    fault_at number fault.Memory counted own = tt

text_join : (text rest last : List ℕ) → text ++ line_feed ∷ (rest ++ last) ≡ (text ++ line_feed ∷ rest) ++ last
text_join [] rest last = refl
text_join (byte ∷ text) rest last = ap (λ bytes. byte ∷ bytes) (text_join text rest last)

-- the text of rows, one after another
pub text_push : (rows : List RowView) (row : RowView) → curve_text (rows ++ row ∷ []) ≡ curve_text rows ++ (text_of row.certificate ++ line_feed ∷ [])
text_push [] row = refl
text_push (first ∷ rows) row = rw (text_push rows row) (text_join (text_of first.certificate) (curve_text rows) (text_of row.certificate ++ line_feed ∷ []))
