-- Bytes have one answer.
use Rattle.std.proofs.Common.{◌≡◌, ℕ, List, refl, sym, subst, ◌∙◌}
use Rattle.std.proofs.lemmas.Option.{same_Some}
use Rattle.serde_json.specs.Data.{Data}
use Rattle.plan_certificate.specs.Laws.{WrittenLaw, OneCertificateLaw, RefusalLaw, OneFaultLaw}
use Rattle.plan_certificate.specs.Reads.{IsJson, IsCertificate, IsMisshapen, SpellsFault}
use Rattle.plan_certificate.specs.Text.{contents_of, certificate_data}
use Rattle.plan_certificate.specs.declared.fault.CertificateFault.TheVariants as fault
use Rattle.plan_certificate.proofs.Certificates.{one_certificate}
use Rattle.plan_certificate.proofs.ReadableText.{text_is_json}
use Rattle.plan_certificate.proofs.CertificateData.{written}

pub written_law : WrittenLaw
written_law groups c range word = record {
  value = certificate_data c;
  json = text_is_json groups c range word;
  certificate = written groups c range;
}

one_value : (bytes : List ℕ) (d e : Data) → IsJson bytes d → IsJson bytes e → d ≡ e
one_value bytes d e h k = same_Some d e (sym h.value ∙ k.value)

pub one_certificate_law : OneCertificateLaw
one_certificate_law groups bytes c d low h k =
    let same = one_value bytes k.value h.value k.json h.json in
    one_certificate groups low h.value d c (subst (λ v. IsCertificate groups v d) same k.certificate) h.certificate

pub refusal_law : RefusalLaw
refusal_law groups bytes c fault.NotJson h refused = absurd (refused h.value h.json)
refusal_law groups bytes c fault.Shape h refused =
    let same = one_value bytes h.value refused.value h.json refused.json in
    let here = subst (λ v. IsCertificate groups v c) same h.certificate in
    absurd (refused.fault (contents_of here.version c) here.contents)
refusal_law groups bytes c fault.Range h refused =
    let same = one_value bytes h.value refused.value h.json refused.json in
    absurd (refused.fault.no_certificate c (subst (λ v. IsCertificate groups v c) same h.certificate))
refusal_law groups bytes c fault.Memory h refused = refl

apart : (groups : ℕ) (bytes : List ℕ) → SpellsFault groups bytes fault.Shape → SpellsFault groups bytes fault.Range → ⊥
apart groups bytes shape range =
    let same = one_value bytes shape.value range.value shape.json range.json in
    (subst IsMisshapen same shape.fault) range.fault.contents range.fault.held

pub one_fault_law : OneFaultLaw
one_fault_law groups bytes fault.Memory other one_is other_is h k = absurd (one_is refl)
one_fault_law groups bytes fault.NotJson fault.Memory one_is other_is h k = absurd (other_is refl)
one_fault_law groups bytes fault.NotJson fault.NotJson one_is other_is h k = refl
one_fault_law groups bytes fault.NotJson fault.Shape one_is other_is h k = absurd (h k.value k.json)
one_fault_law groups bytes fault.NotJson fault.Range one_is other_is h k = absurd (h k.value k.json)
one_fault_law groups bytes fault.Shape fault.Memory one_is other_is h k = absurd (other_is refl)
one_fault_law groups bytes fault.Shape fault.NotJson one_is other_is h k = absurd (k h.value h.json)
one_fault_law groups bytes fault.Shape fault.Shape one_is other_is h k = refl
one_fault_law groups bytes fault.Shape fault.Range one_is other_is h k = absurd (apart groups bytes h k)
one_fault_law groups bytes fault.Range fault.Memory one_is other_is h k = absurd (other_is refl)
one_fault_law groups bytes fault.Range fault.NotJson one_is other_is h k = absurd (k h.value h.json)
one_fault_law groups bytes fault.Range fault.Shape one_is other_is h k = absurd (apart groups bytes k h)
one_fault_law groups bytes fault.Range fault.Range one_is other_is h k = refl
