-- Every list of bytes spells a certificate, or is refused for one fault: each test of the reader has an answer.
use Rattle.std.proofs.Common.{ℕ, List, Bool, true, false, ◌≡◌, ◌≢◌, ◌≤◌, ◌⊎◌, Option, Some, None, inl, inr, refl, ap, sym, subst, ◌∙◌, arith}
use Rattle.std.specs.Prelude.{IsUtf8}
use Rattle.std.specs.Str.{is_utf8}
use Rattle.std.proofs.lemmas.Bool.{false≢true, cases_lt, cases_eq}
use Rattle.std.proofs.lemmas.Option.{same_Some, none-some}
use Rattle.std.proofs.lemmas.Str.{IsUtf8-from_is_utf8, is_utf8-from_IsUtf8}
use Rattle.serde_json.specs.Data.{Data, Members}
use Rattle.serde_json.specs.Find.{as_object}
use Rattle.serde_json.specs.Read.{read}
use Rattle.sig_base.specs.Fraction.{Fraction, IsLowest}
use Rattle.sig_base.proofs.Lowest.{lowest_fraction, same_lowest}
use Rattle.plan_certificate.specs.Certificate.{CertificateView}
use Rattle.plan_certificate.specs.Laws.{TotalityLaw, IsOnlyRefusal}
use Rattle.plan_certificate.specs.Members.{fraction_under, certificate_beside, IsGiven}
use Rattle.plan_certificate.specs.Ranges.{IsLeast, greatest_part}
use Rattle.plan_certificate.specs.Reads.{IsJson, IsCertificate, IsMisshapen, IsOutOfRange, IsRefusal}
use Rattle.plan_certificate.specs.Shape.{is_certificate_of}
use Rattle.plan_certificate.specs.declared.fault.CertificateFault.{CertificateFault}
use Rattle.plan_certificate.specs.declared.fault.CertificateFault.TheVariants as fault
use Rattle.plan_certificate.proofs.Certificates.{given, misshapen, out_of_range, certificate_read}
use Rattle.plan_certificate.proofs.TextLaws.{one_fault_law}

-- ---- the least multiplier is in its range, or it isn't

same_parts : (num den a b : ℕ) → IsLowest a b → num ≡ a → den ≡ b → IsLowest num den
same_parts num den a b lowest same_num same_den = rw (same_num, same_den) lowest

lowest_or_not : (num den : ℕ) → IsLowest num den ⊎ ¬ IsLowest num den
lowest_or_not num den = elim (cases_lt 0 den) [
  | inl some ↦
      let (a, b, lowest, same) = lowest_fraction num den (omega (arith, some)) in
      elim (cases_eq num a) [
        | inl same_num ↦ elim (cases_eq den b) [
          | inl same_den ↦ inl (same_parts num den a b lowest same_num same_den)
          | inr other ↦ inr (λ own. other (same_lowest num den a b own lowest (sym same)).1)
        ]
        | inr other ↦ inr (λ own. other (same_lowest num den a b own lowest (sym same)).0)
      ]
  | inr none ↦ inr (λ own. absurd (omega (arith, none, own.positive)))
]

least_or_not : (f : Fraction) → IsLeast f ⊎ ¬ IsLeast f
least_or_not f = elim (cases_lt greatest_part f.num) [
  | inl above ↦ inr (λ own. absurd (omega (arith, above, own.num)))
  | inr num ↦ elim (cases_lt greatest_part f.den) [
    | inl above ↦ inr (λ own. absurd (omega (arith, above, own.den)))
    | inr den ↦ elim (lowest_or_not f.num f.den) [
      | inl lowest ↦ inl (record { num = num; den = den; lowest = lowest })
      | inr other ↦ inr (λ own. other own.lowest)
    ]
  ]
]

-- ---- what members give

module _ (groups : ℕ) (ms : Members) where
  given_beside : (f : Fraction) → fraction_under ms ≡ Some f → IsLeast f ⊎ ¬ IsLeast f → (o : Option CertificateView) × IsGiven groups ms o
  given_beside f stands (inl range) =
      (certificate_beside groups f ms, given groups ms f (certificate_beside groups f ms) (record { stands = stands; range = range }) refl)
  given_beside f stands (inr outside) =
      (None, λ c h. outside (subst IsLeast (same_Some c.least f (sym h.least.stands ∙ stands)) h.least.range))

  given_under : (found : Option Fraction) → fraction_under ms ≡ found → (o : Option CertificateView) × IsGiven groups ms o
  given_under None none = (None, λ c h. none-some c.least (sym none ∙ h.least.stands))
  given_under (Some f) stands = given_beside f stands (least_or_not f)

-- ---- what values are

module _ (groups : ℕ) (low : 2 ≤ groups) (high : groups ≤ 16) where
  -- a certificate's, or its fault
  abbrev Judged : Data → Type 0
  Judged d = ((c : CertificateView) × IsCertificate groups d c) ⊎ (IsMisshapen d ⊎ IsOutOfRange groups d)

  shaped : (d : Data) (ms : Members) → as_object d ≡ Some ms → is_certificate_of ms ≡ true → (o : Option CertificateView) × IsGiven groups ms o → Judged d
  shaped d ms found shape (None, none) = inr (inr (out_of_range groups low d ms found shape none))
  shaped d ms found shape (Some c, is) = inl (c, certificate_read groups low high d ms c found shape is)

  object_judged : (d : Data) (ms : Members) → as_object d ≡ Some ms → (shape : Bool) → is_certificate_of ms ≡ shape → Judged d
  object_judged d ms found false fails = inr (inl (misshapen d ms found fails))
  object_judged d ms found true passes = shaped d ms found passes (given_under groups ms (fraction_under ms) refl)

  judged : (d : Data) (found : Option Members) → as_object d ≡ found → Judged d
  judged d None none = inr (inl (λ contents h. none-some h.members (sym none ∙ ap as_object h.object)))
  judged d (Some ms) found = object_judged d ms found (is_certificate_of ms) refl

-- ---- what bytes are

parsed : (bytes : List ℕ) (found : Option Data) → read bytes ≡ found → IsUtf8 bytes → ((d : Data) × IsJson bytes d) ⊎ ((d : Data) → ¬ IsJson bytes d)
parsed bytes None none utf8 = inr (λ d json. none-some d (sym none ∙ json.value))
parsed bytes (Some d) found utf8 = inl (d, record { utf8 = utf8; value = found })

value_or_none : (bytes : List ℕ) (utf8 : Bool) → is_utf8 bytes ≡ utf8 → ((d : Data) × IsJson bytes d) ⊎ ((d : Data) → ¬ IsJson bytes d)
value_or_none bytes true utf8 = parsed bytes (read bytes) refl (IsUtf8-from_is_utf8 bytes utf8)
value_or_none bytes false other = inr (λ d json. false≢true (sym other ∙ is_utf8-from_IsUtf8 bytes json.utf8))

only : (groups : ℕ) (bytes : List ℕ) (own : CertificateFault) → own ≢ fault.Memory → IsRefusal groups bytes own → IsOnlyRefusal groups bytes own
only groups bytes own is_own refused = record {
  own = is_own;
  refused = refused;
  only = λ other is_other k. one_fault_law groups bytes other own is_other is_own k refused;
}

pub totality_law : TotalityLaw
totality_law groups bytes low high = elim (value_or_none bytes (is_utf8 bytes) refl) [
  | inl (d, json) ↦ elim (judged groups low high d (as_object d) refl) [
    | inl (c, is) ↦ inl (c, record { value = d; json = json; certificate = is })
    | inr (inl shape) ↦ inr (fault.Shape, only groups bytes fault.Shape (λ e. cc) (record { value = d; json = json; fault = shape }))
    | inr (inr range) ↦ inr (fault.Range, only groups bytes fault.Range (λ e. cc) (record { value = d; json = json; fault = range }))
  ]
  | inr none ↦ inr (fault.NotJson, only groups bytes fault.NotJson (λ e. cc) none)
]
