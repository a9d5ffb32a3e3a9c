use Rattle.std.proofs.Common.{◌≡◌, refl, inl, inr, ◌∙◌, subst, sym}
use Rattle.plan_model.specs.Fits.{group_count}
use Rattle.plan_certificate.specs.Certificate.{certificate_of}
use Rattle.plan_certificate.specs.Reads.{Spells}
use Rattle.plan_certificate.specs.Text.{text_of}
use Rattle.report_text.specs.Summary.{IsSummary}
use Rattle.junction_program.specs.Commands.{CertifiesSample}
use Rattle.junction_program.proofs.Endings.{memory_ends, widened}
use Rattle.junction_program.proofs.sampling.certify_sample.Goals as goal

pub returns-in_default : goal.returns-in_default
returns-in_default g c = memory_ends _ _ _ _ _ _ (inl refl) refl refl refl

pub returns-in_default-write : goal.returns-in_default-write
returns-in_default-write g c = memory_ends _ _ _ _ _ _ (inl refl) refl refl refl

pub returns-in_default-summary : goal.returns-in_default-summary
returns-in_default-summary g c = memory_ends _ _ _ _ _ _ (inl refl) refl refl refl

pub returns : goal.returns
returns g c =
    let own = certificate_of c.in-Ok.designed.certificate in
    let junction = c.args.junction.now in
    let written : c.deref.result.now ≡ text_of own = c.deref.ensures.value ∙ c.in-Ok-write.ensures.text in
    let read_back : Spells (group_count junction) (text_of own) own =
    subst (λ bytes. Spells (group_count junction) bytes own) c.in-Ok-write.ensures.text (c.in-Ok-write.ensures.spells (group_count junction) c.in-Ok.ensures.design.range) in
    let told : IsSummary c.args.number junction own c.deref-2.result.now = subst (IsSummary c.args.number junction own) (sym c.deref-2.ensures.value) c.in-Ok-summary.ensures in
    let certifies : CertifiesSample c.args.number junction c.args.certificate_name.now _ = record {
      certificate = own;
      made = record { asked = c.one.result; least_is = c.one.ensures; design = c.in-Ok.ensures.design; read_back = read_back };
      status = c.status_of_claim-status.ensures.value;
      summary = told;
      puts = rw written refl;
    } in
    widened _ _ _ _ _ _ _ (λ a e. subst (CertifiesSample c.args.number junction c.args.certificate_name.now) (sym e) certifies) (λ n l f. f)
    (λ p h. elim h [ inl e ↦ inl e | inr e ↦ inr (_, certifies, e) ]) (λ exceeds rose. absurd exceeds.2) c.put_and_end.ensures
