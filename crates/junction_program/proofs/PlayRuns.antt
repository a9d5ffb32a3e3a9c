-- What the answers of a play show.
use Rattle.std.proofs.Common.{ℕ, List, [], ◌≡◌, ◌≢◌, ◌⊎◌, inl, inr, sym, ap, ◌∙◌, subst}
use Rattle.std.specs.Prelude.{None, Some, IsSomeAnd}
use Rattle.std.specs.Io.KnownBytes.{Appends}
use Rattle.junction_model.specs.Junction.{JunctionView}
use Rattle.junction_files.specs.Laws.{RefusalLaw, OneJunctionLaw}
use Rattle.plan_model.specs.Fits.{Fits}
use Rattle.plan_model.specs.FirstFault.{FaultLaw}
use Rattle.plan_model.specs.SignalPlan.{PlanView}
use Rattle.plan_certificate.specs.Certificate.{CertificateView}
use Rattle.plan_certificate.specs.Laws as text
use Rattle.aspect_player.specs.Safe.{SafetyLaw}
use Rattle.junction_program.specs.Runs.{Run, told}
use Rattle.junction_program.specs.Outcomes.{Answer, Gives, Outcome}
use Rattle.junction_program.specs.Commands.{Plays, RefusesPlan, IsOnFiles, FileAnswers, FetchesBoth, PutsNothing}
use Rattle.junction_program.specs.Headline.{ShowsPlay, IsPlayRun}
use Rattle.junction_program.specs.declared.status.Status.{Status}
use Rattle.junction_program.specs.declared.status.Status.TheVariants.{Done, Refuted, BadJunction, BadCertificate}
use Rattle.junction_program.proofs.Accepted.{both_held}
use Rattle.junction_program.proofs.Faults.{answered_or_fault, told_always, no_fault}
use Rattle.junction_program.proofs.FileRuns.{IsOwnAnswer, Answered, answer_behind, answer_on, same, refused_by_cause}

refused_status : (junction : JunctionView) (c : CertificateView) (answer : Answer) → RefusesPlan junction c answer → answer.status ≡ Refuted
refused_status junction c answer r = elim r [ inl x ↦ ap (λ (a : Answer). a.status) x.1 | inr x ↦ ap (λ (a : Answer). a.status) x.4 ]

-- a play is done, or its plan refused
pub status_of_play : (seconds : ℕ) (junction : JunctionView) (c : CertificateView) (answer : Answer) → Plays seconds junction c answer → (answer.status ≡ Done) ⊎ (answer.status ≡ Refuted)
status_of_play seconds junction c answer p = elim p [ inl x ↦ inl (ap (λ (a : Answer). a.status) x.told) | inr r ↦ inr (refused_status junction c answer r) ]

puts_of_play : (seconds : ℕ) (junction : JunctionView) (c : CertificateView) (answer : Answer) → Plays seconds junction c answer → answer.puts ≡ []
puts_of_play seconds junction c answer p = elim p [
  | inl x ↦ ap (λ (a : Answer). a.puts) x.told
  | inr r ↦ elim r [ inl x ↦ ap (λ (a : Answer). a.puts) x.1 | inr x ↦ ap (λ (a : Answer). a.puts) x.4 ]
]

not_other : (status other : Status) → (status ≡ Done) ⊎ (status ≡ Refuted) → (other ≢ Done) → (other ≢ Refuted) → status ≢ other
not_other status other either done refuted e = elim either [ inl d ↦ done (sym e ∙ d) | inr r ↦ refuted (sym e ∙ r) ]

own_answer : (seconds : ℕ) (junction : JunctionView) (c : CertificateView) (answer : Answer) → Plays seconds junction c answer → IsOwnAnswer answer
own_answer seconds junction c answer p = record {
  accepted = not_other answer.status BadJunction (status_of_play seconds junction c answer p) (λ e. cc) (λ e. cc);
  found = not_other answer.status BadCertificate (status_of_play seconds junction c answer p) (λ e. cc) (λ e. cc);
  puts = puts_of_play seconds junction c answer p;
}

module _ (name certificate : List ℕ) (seconds : ℕ) (run : Run) (o : Outcome (FileAnswers (Plays seconds) (told run) name certificate) (FetchesBoth (told run) name certificate) PutsNothing run) where
  abbrev Played : Type 0
  Played = Answered (Plays seconds) (own_answer seconds) name certificate run o

  played : SafetyLaw → (x : Played) → run.status ≡ Done → ShowsPlay name certificate seconds run
  played safety x is = elim x.1.own [
    | inl p ↦ record {
      junction = x.1.junction;
      accepted = x.1.accepted;
      certificate = x.1.certificate;
      found = x.1.found;
      plan = p.plan;
      of_certificate = p.of_certificate;
      fits = p.fits;
      printed = subst (λ (a : Answer). Appends run.before.sink.written run.after.sink.written a.text) p.told x.2.pushed;
      safe = safety x.1.junction p.plan seconds x.1.accepted.spelled.rules p.fits;
    }
    | inr r ↦ (let bad : Done ≡ Refuted = sym is ∙ x.2.status ∙ refused_status x.1.junction x.1.certificate x.0 r in cc)
  ]

  refuted : (x : Played) → run.status ≡ Refuted → (answer : Answer) × IsOnFiles RefusesPlan (told run) name certificate answer × Gives answer run
  refuted x is = elim x.1.own [
    | inl p ↦ (let bad : Refuted ≡ Done = sym is ∙ x.2.status ∙ ap (λ (a : Answer). a.status) p.told in cc)
    | inr r ↦ (x.0, record { junction = x.1.junction; accepted = x.1.accepted; certificate = x.1.certificate; found = x.1.found; own = r }, x.2)
  ]

  -- a plan that fits isn't refused
  fits_not : FaultLaw → (junction : JunctionView) (c : CertificateView) (plan : PlanView) (answer : Answer) → c.plan ≡ Some plan → Fits junction plan → RefusesPlan junction c answer → ⊥
  fits_not law junction c plan answer is fits r = elim r [
    | inl x ↦ (let bad : Some plan ≡ None = sym is ∙ x.0 in cc)
    | inr x ↦ (let same : Some plan ≡ Some x.0 = sym is ∙ x.2 in law junction x.0 x.1 (rw (same_plan plan x.0 same) at fits) x.3)
  ]
    where
      same_plan : (a b : PlanView) → Some a ≡ Some b → a ≡ b
      same_plan a b e = cc

  done_on : FaultLaw → (junction : JunctionView) (c : CertificateView) (plan : PlanView) (x : Played) → x.1.junction ≡ junction → x.1.certificate ≡ c → c.plan ≡ Some plan → Fits junction plan → run.status ≡ Done
  done_on law junction c plan x same_junction same_certificate is fits = elim x.1.own [
    | inl p ↦ x.2.status ∙ ap (λ (a : Answer). a.status) p.told
    | inr r ↦ absurd (fits_not law x.1.junction x.1.certificate plan x.0 (ap (λ (k : CertificateView). k.plan) same_certificate ∙ is) (subst (λ j. Fits j plan) (sym same_junction) fits) r)
  ]

  refuted_on : (junction : JunctionView) (c : CertificateView) (x : Played) → x.1.junction ≡ junction → x.1.certificate ≡ c → ¬ IsSomeAnd c.plan (Fits junction) → run.status ≡ Refuted
  refuted_on junction c x same_junction same_certificate none = elim x.1.own [
    | inl p ↦ absurd (none (subst (λ plan. IsSomeAnd plan (Fits junction)) (sym (sym (ap (λ (k : CertificateView). k.plan) same_certificate) ∙ p.of_certificate)) (subst (λ j. Fits j p.plan) same_junction p.fits)))
    | inr r ↦ x.2.status ∙ refused_status x.1.junction x.1.certificate x.0 r
  ]

  pub play_run : RefusalLaw → OneJunctionLaw → text.OneCertificateLaw → text.RefusalLaw → FaultLaw → SafetyLaw → IsPlayRun name certificate seconds run
  play_run refusal one one_certificate certificate_refusal faults safety =
      let behind = answer_behind (Plays seconds) (own_answer seconds) name certificate run o in
      let on = answer_on (Plays seconds) (own_answer seconds) name certificate run o refusal one certificate_refusal one_certificate in
      record {
        done = λ is. played safety (behind Done is tt (λ e. cc) (λ e. cc)) is;
        refuted = λ is. refuted (behind Refuted is tt (λ e. cc) (λ e. cc)) is;
        done_always = λ junction c plan both is fits. told_always _ _ _ run o (both_held name certificate run junction c both) Done (λ answered. let x = on junction c both answered in done_on faults junction c plan x.0 x.1 x.2 is fits);
        refuted_always = λ junction c both none. told_always _ _ _ run o (both_held name certificate run junction c both) Refuted (λ answered. let x = on junction c both answered in refuted_on junction c x.0 x.1 x.2 none);
        refused = refused_by_cause (Plays seconds) (own_answer seconds) name certificate run o refusal one;
        same = same (Plays seconds) (own_answer seconds) name certificate run o;
        completes = λ junction c both shelf sink. elim (answered_or_fault run.status) [
          | inl answered ↦ (let x = on junction c both answered in elim (status_of_play seconds x.0.1.junction x.0.1.certificate x.0.0 x.0.1.own) [ inl e ↦ inl (x.0.2.status ∙ e) | inr e ↦ inr (inl (x.0.2.status ∙ e)) ])
          | inr f ↦ inr (inr (no_fault _ _ _ run o (both_held name certificate run junction c both) shelf sink f))
        ];
      }
