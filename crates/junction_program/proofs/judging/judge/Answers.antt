use Rattle.std.proofs.Common.{◌≡◌, refl, inl, inr, ◌∙◌}
use Rattle.plan_certificate.specs.Certificate.{certificate_of}
use Rattle.report_text.specs.Verdict.{verdict_line}
use Rattle.junction_program.specs.Commands.{status_of_verdict}
use Rattle.junction_program.specs.Steps.{only_text}
use Rattle.junction_program.proofs.Accepted.{files_ended, neither}
use Rattle.junction_program.proofs.Endings.{answered_later, memory_later}
use Rattle.junction_program.proofs.judging.judge.Goals as goal

pub returns-in-Err : goal.returns-in-Err
returns-in-Err g c = files_ended _ _ _ _ (λ a r. inl r) c.in-Err.ensures.ends

pub returns-in-Ok-verdict_text : goal.returns-in-Ok-verdict_text
returns-in-Ok-verdict_text g c =
    let own = certificate_of c.in-Ok.files.certificate in
    let line : c.deref.result.now ≡ verdict_line c.in-Ok.files.junction own.claim c.check-verdict.result = c.deref.ensures.value ∙ c.in-Ok-verdict_text.ensures in
    let told : only_text c.status_of_verdict.result c.deref.result.now ≡ only_text (status_of_verdict c.check-verdict.result) (verdict_line c.in-Ok.files.junction own.claim c.check-verdict.result) =
    rw (c.status_of_verdict.ensures.value, line) refl in
    answered_later _ _ _ _ _ _ _ _ _ _ _ c.in-Ok.ensures.unchanged
    (inr (record {
      junction = c.in-Ok.files.junction;
      accepted = c.in-Ok.ensures.accepted;
      certificate = own;
      found = c.in-Ok.ensures.found;
      own = record {
        given = c.check-verdict.result;
        is = c.check-verdict.ensures.verdict;
        proved = c.check-verdict.ensures.proved;
        partial = c.check-verdict.ensures.partial;
        holds = c.check-verdict.ensures.claim;
        part = c.check-verdict.ensures.part;
        told = told;
      };
    }))
    refl c.status_of_verdict.ensures.answered (neither _ _ _ _ _ c.in-Ok.ensures.accepted c.in-Ok.ensures.found.fetched) c.end_with.ensures

pub returns : goal.returns
returns g c = memory_later _ _ _ _ _ _ _ c.in-Ok.ensures.unchanged refl
