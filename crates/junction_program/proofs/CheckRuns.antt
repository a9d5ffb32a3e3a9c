-- What the answers of a check show.
use Rattle.std.proofs.Common.{ℕ, List, ◌≡◌, ◌≢◌, ◌⊎◌, inl, inr, refl, sym, ap, ◌∙◌, subst}
use Rattle.std.specs.Io.KnownBytes.{Appends}
use Rattle.junction_model.specs.Junction.{JunctionView}
use Rattle.junction_files.specs.Laws.{RefusalLaw, OneJunctionLaw}
use Rattle.plan_certificate.specs.Certificate.{CertificateView}
use Rattle.plan_certificate.specs.Laws as text
use Rattle.certificate_checker.specs.CertificateRules.{BreaksRule, BreaksNoRule}
use Rattle.certificate_checker.specs.Proves.{ProvesClaim}
use Rattle.certificate_checker.specs.Verdict.{IsVerdict}
use Rattle.certificate_checker.specs.declared.rule.Rule.{Rule}
use Rattle.certificate_checker.specs.declared.verdict.Verdict.{Verdict}
use Rattle.certificate_checker.specs.declared.verdict.Verdict.TheVariants.{Proved, Partial, Broken}
use Rattle.report_text.specs.Verdict.{verdict_line}
use Rattle.junction_program.specs.Runs.{Run, told}
use Rattle.junction_program.specs.Outcomes.{Answer, Outcome}
use Rattle.junction_program.specs.Commands.{Judges, FileAnswers, FetchesBoth, PutsNothing, status_of_verdict}
use Rattle.junction_program.specs.Headline.{ShowsVerdict, IsCheckRun}
use Rattle.junction_program.specs.declared.status.Status.{Status}
use Rattle.junction_program.specs.declared.status.Status.TheVariants.{Done, Stopped, Refuted, BadWords, BadJunction, BadCertificate, Memory}
use Rattle.junction_program.proofs.Accepted.{both_held}
use Rattle.junction_program.proofs.Faults.{answered_or_fault, told_always, no_fault}
use Rattle.junction_program.proofs.FileRuns.{IsOwnAnswer, Answered, answer_behind, answer_on, same, refused_by_cause}

-- the verdicts behind a status
done_behind : (given : Verdict) → status_of_verdict given ≡ Done → given ≡ Proved
done_behind Proved e = refl
done_behind Partial e = cc
done_behind (Broken rule cycle place) e = cc

stopped_behind : (given : Verdict) → status_of_verdict given ≡ Stopped → given ≡ Partial
stopped_behind Proved e = cc
stopped_behind Partial e = refl
stopped_behind (Broken rule cycle place) e = cc

refuted_behind : (given : Verdict) → status_of_verdict given ≡ Refuted → (rule : Rule) × (cycle : ℕ) × (place : ℕ) × (given ≡ Broken rule cycle place)
refuted_behind Proved e = cc
refuted_behind Partial e = cc
refuted_behind (Broken rule cycle place) e = (rule, cycle, place, refl)

-- no verdict has one of these statuses
pub not_of_verdict : (given : Verdict) → ((status_of_verdict given ≢ BadJunction) × (status_of_verdict given ≢ BadCertificate)) × (status_of_verdict given ≢ BadWords)
not_of_verdict Proved = (((λ e. cc), (λ e. cc)), (λ e. cc))
not_of_verdict Partial = (((λ e. cc), (λ e. cc)), (λ e. cc))
not_of_verdict (Broken rule cycle place) = (((λ e. cc), (λ e. cc)), (λ e. cc))

broken_refuted : (given : Verdict) (junction : JunctionView) (c : CertificateView) (rule : Rule) (cycle place : ℕ) → IsVerdict junction c given → BreaksRule junction c rule cycle place → status_of_verdict given ≡ Refuted
broken_refuted Proved junction c rule cycle place is b = absurd (is.0 rule cycle place b)
broken_refuted Partial junction c rule cycle place is b = absurd (is.0 rule cycle place b)
broken_refuted (Broken own k p) junction c rule cycle place is b = refl

-- how a check of files that are accepted may end
abbrev IsJudged : Status → Type 0
IsJudged status = (status ≡ Done) ⊎ ((status ≡ Stopped) ⊎ ((status ≡ Refuted) ⊎ (status ≡ Memory)))

judged : (given : Verdict) (status : Status) → status ≡ status_of_verdict given → IsJudged status
judged Proved status e = inl e
judged Partial status e = inr (inl e)
judged (Broken rule cycle place) status e = inr (inr (inl e))

own_status_of : (answer : Answer) (junction : JunctionView) (c : CertificateView) (j : Judges junction c answer) → answer.status ≡ status_of_verdict j.given
own_status_of answer junction c j = ap (λ (a : Answer). a.status) j.told

own_answer : (junction : JunctionView) (c : CertificateView) (answer : Answer) → Judges junction c answer → IsOwnAnswer answer
own_answer junction c answer j = record {
  accepted = λ e. (not_of_verdict j.given).0.0 (sym (own_status_of answer junction c j) ∙ e);
  found = λ e. (not_of_verdict j.given).0.1 (sym (own_status_of answer junction c j) ∙ e);
  puts = ap (λ (a : Answer). a.puts) j.told;
}

module _ (name certificate : List ℕ) (run : Run) (o : Outcome (FileAnswers Judges (told run) name certificate) (FetchesBoth (told run) name certificate) PutsNothing run) where
  abbrev Judged : Type 0
  Judged = Answered Judges own_answer name certificate run o

  own_status : (x : Judged) → run.status ≡ status_of_verdict x.1.own.given
  own_status x = x.2.status ∙ own_status_of x.0 x.1.junction x.1.certificate x.1.own

  behind : (status : Status) → run.status ≡ status → (x : Judged) → status_of_verdict x.1.own.given ≡ status
  behind status is x = sym (own_status x) ∙ is

  abbrev shows : (x : Judged) (given : Verdict) → x.1.own.given ≡ given → ShowsVerdict name certificate run given
  shows x given e = record {
    junction = x.1.junction;
    accepted = x.1.accepted;
    certificate = x.1.certificate;
    found = x.1.found;
    is = subst (IsVerdict x.1.junction x.1.certificate) e x.1.own.is;
    printed = subst (λ v. Appends run.before.sink.written run.after.sink.written (verdict_line x.1.junction x.1.certificate.claim v)) e
        (subst (λ (a : Answer). Appends run.before.sink.written run.after.sink.written a.text) x.1.own.told x.2.pushed);
  }

  pub check_run : RefusalLaw → OneJunctionLaw → text.OneCertificateLaw → text.RefusalLaw → IsCheckRun name certificate run
  check_run refusal one one_certificate certificate_refusal =
      let judged_behind = answer_behind Judges own_answer name certificate run o in
      let verdict_on = answer_on Judges own_answer name certificate run o refusal one certificate_refusal one_certificate in
      record {
        done = λ is.
            let x = judged_behind Done is tt (λ e. cc) (λ e. cc) in
            let e = done_behind x.1.own.given (behind Done is x) in
            record { verdict = shows x Proved e; proves = x.1.own.proved.0 e; holds = x.1.own.holds e };
        stopped = λ is.
            let x = judged_behind Stopped is tt (λ e. cc) (λ e. cc) in
            let e = stopped_behind x.1.own.given (behind Stopped is x) in
            let cause = x.1.own.partial.0 e in
            record { verdict = shows x Partial e; claim = cause.0; rules = cause.1; part = x.1.own.part e };
        refuted = λ is.
            let x = judged_behind Refuted is tt (λ e. cc) (λ e. cc) in
            let e = refuted_behind x.1.own.given (behind Refuted is x) in
            (e.0, e.1, e.2, shows x (Broken e.0 e.1 e.2) e.3);
        done_always = λ junction c both proves. told_always _ _ _ run o (both_held name certificate run junction c both) Done (λ answered.
            let x = verdict_on junction c both answered in
            let own : ProvesClaim x.0.1.junction x.0.1.certificate = subst (λ j. ProvesClaim j x.0.1.certificate) (sym x.1) (subst (ProvesClaim junction) (sym x.2) proves) in
            own_status x.0 ∙ ap status_of_verdict (x.0.1.own.proved.1 own));
        stopped_always = λ junction c both claimed rules. told_always _ _ _ run o (both_held name certificate run junction c both) Stopped (λ answered.
            let x = verdict_on junction c both answered in
            let own : BreaksNoRule x.0.1.junction x.0.1.certificate = subst (λ j. BreaksNoRule j x.0.1.certificate) (sym x.1) (subst (BreaksNoRule junction) (sym x.2) rules) in
            own_status x.0 ∙ ap status_of_verdict (x.0.1.own.partial.1 (ap (λ (k : CertificateView). k.claim) x.2 ∙ claimed, own)));
        refuted_always = λ junction c rule cycle place both breaks. told_always _ _ _ run o (both_held name certificate run junction c both) Refuted (λ answered.
            let x = verdict_on junction c both answered in
            let own : BreaksRule x.0.1.junction x.0.1.certificate rule cycle place =
            subst (λ j. BreaksRule j x.0.1.certificate rule cycle place) (sym x.1) (subst (λ k. BreaksRule junction k rule cycle place) (sym x.2) breaks) in
            own_status x.0 ∙ broken_refuted x.0.1.own.given x.0.1.junction x.0.1.certificate rule cycle place x.0.1.own.is own);
        refused = refused_by_cause Judges own_answer name certificate run o refusal one;
        same = same Judges own_answer name certificate run o;
        completes = λ junction c both shelf sink. elim (answered_or_fault run.status) [
          | inl answered ↦ (let x = verdict_on junction c both answered in judged x.0.1.own.given run.status (own_status x.0))
          | inr f ↦ inr (inr (inr (no_fault _ _ _ run o (both_held name certificate run junction c both) shelf sink f)))
        ];
      }
