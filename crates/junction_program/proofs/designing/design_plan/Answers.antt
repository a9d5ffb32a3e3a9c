use Rattle.std.proofs.Common.{◌≡◌, refl, inl, inr, ◌∙◌, subst, sym}
use Rattle.sig_base.specs.Ratio.{fraction_of}
use Rattle.plan_model.specs.Fits.{group_count}
use Rattle.plan_certificate.specs.Certificate.{certificate_of}
use Rattle.plan_certificate.specs.Reads.{Spells}
use Rattle.plan_certificate.specs.Text.{text_of}
use Rattle.report_text.specs.Report.{IsReport}
use Rattle.junction_program.specs.Commands.{Designs}
use Rattle.junction_program.proofs.Accepted.{not_first}
use Rattle.junction_program.proofs.Endings.{memory_later, put_later}
use Rattle.junction_program.proofs.designing.design_plan.Goals as goal

pub returns-in_default : goal.returns-in_default
returns-in_default g c = memory_later _ _ _ _ _ _ _ c.in-Ok.ensures.unchanged (inl refl)

pub returns-in_default-write : goal.returns-in_default-write
returns-in_default-write g c = memory_later _ _ _ _ _ _ _ c.in-Ok.ensures.unchanged (inl refl)

pub returns-in_default-report : goal.returns-in_default-report
returns-in_default-report g c = memory_later _ _ _ _ _ _ _ c.in-Ok.ensures.unchanged (inl refl)

pub returns : goal.returns
returns g c =
    let own = certificate_of c.in-Ok-design.designed.certificate in
    let written : c.deref.result.now ≡ text_of own = c.deref.ensures.value ∙ c.in-Ok-write.ensures.text in
    let read_back : Spells (group_count c.in-Ok.junction) (text_of own) own =
    subst (λ bytes. Spells (group_count c.in-Ok.junction) bytes own) c.in-Ok-write.ensures.text (c.in-Ok-write.ensures.spells (group_count c.in-Ok.junction) c.in-Ok-design.ensures.design.range) in
    let reported : IsReport c.in-Ok.junction own c.deref-2.result.now = subst (IsReport c.in-Ok.junction own) (sym c.deref-2.ensures.value) c.in-Ok-report.ensures in
    let designs : Designs (g.S.Shelf.holds c.args.shelf.now) c.args.junction_name.now c.args.certificate_name.now c.args.objective (fraction_of c.args.least) c.args.budget _ = record {
      junction = c.in-Ok.junction;
      accepted = c.in-Ok.ensures.accepted;
      certificate = own;
      made = record { asked = c.args.least; least_is = refl; design = c.in-Ok-design.ensures.design; read_back = read_back };
      status = c.status_of_claim-status.ensures.value;
      report = reported;
      puts = rw written refl;
    } in
    put_later _ _ _ _ _ _ _ _ _ _ _ _ _ _ c.in-Ok.ensures.unchanged (inr designs) (inl refl) (inr (_, designs, refl)) (not_first _ _ _ c.in-Ok.ensures.accepted.fetched) c.put_and_end.ensures
