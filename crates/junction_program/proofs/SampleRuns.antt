-- What the answers of a sample show.
use Rattle.std.proofs.Common.{ℕ, List, ◌∷◌, ◌≡◌, ◌≢◌, ◌≤◌, inl, inr, sym, ap, ◌∙◌, subst}
use Rattle.std.specs.Io.KnownBytes.{Appends}
use Rattle.plan_certificate.specs.Certificate.{node_count}
use Rattle.plan_certificate.specs.declared.claim.Claim.{Claim}
use Rattle.plan_certificate.specs.declared.claim.Claim.TheVariants as claim
use Rattle.certificate_checker.specs.Laws.{RulesLaw}
use Rattle.command_words.specs.Options.{default_least, default_budget}
use Rattle.sample_junctions.specs.Sample.{SampleLaw}
use Rattle.plan_design.specs.declared.objective.Objective.TheVariants as objective
use Rattle.junction_program.specs.Runs.{Run, told, put_all}
use Rattle.junction_program.specs.Outcomes.{Answer, IsAnswered, Gives, Outcome}
use Rattle.junction_program.specs.Commands.{Samples, PutsSample, status_of_claim}
use Rattle.junction_program.specs.Steps.{FetchesNothing}
use Rattle.junction_program.specs.Headline.{LeavesSample, SumsUp, ShowsSampleClaim, ShowsSampleStop, IsSampleRun}
use Rattle.junction_program.specs.declared.status.Status.{Status}
use Rattle.junction_program.specs.declared.status.Status.TheVariants.{Done, Infeasible, Stopped}
use Rattle.junction_program.proofs.DesignRuns.{done_behind, infeasible_behind, stopped_behind, design_infeasible, not_covered, searched}
use Rattle.junction_program.proofs.Faults.{answered_or_fault, AreHeld, uncounted, answered_or_outside, no_fault, answer_put}

module _ (number : ℕ) (name certificate : List ℕ) (run : Run)
    (o : Outcome (Samples number name certificate) FetchesNothing (PutsSample number name certificate) run) where
  abbrev leaves : (answer : Answer) (s : Samples number name certificate answer) → run.after.shelf.holds ≡ put_all (told run) answer.puts → LeavesSample number name certificate run
  leaves answer s put = record {
    junction = s.junction;
    bytes = s.bytes;
    file = s.file;
    certificate = s.certifies.certificate;
    made = s.certifies.made;
    put = put ∙ ap (λ (a : Answer). put_all (told run) a.puts) s.told ∙ ap (λ puts. put_all (told run) ((name, s.bytes) ∷ puts)) s.certifies.puts;
  }

  sums_up : (answer : Answer) (s : Samples number name certificate answer) → Gives answer run → SumsUp number s.junction s.certifies.certificate run
  sums_up answer s g = record {
    summary = s.certified.text;
    is_summary = s.certifies.summary;
    printed = subst (λ (a : Answer). Appends run.before.sink.written run.after.sink.written a.text) s.told g.pushed;
  }

  own_status : (answer : Answer) (s : Samples number name certificate answer) → Gives answer run → run.status ≡ status_of_claim s.certifies.certificate.claim
  own_status answer s g = g.status ∙ ap (λ (a : Answer). a.status) s.told ∙ s.certifies.status

  claim_status : (answer : Answer) (s : Samples number name certificate answer) (g : Gives answer run) (status : Status) → run.status ≡ status → status_of_claim s.certifies.certificate.claim ≡ status
  claim_status answer s g status is = sym (own_status answer s g) ∙ is

  claimed : RulesLaw → (answer : Answer) (s : Samples number name certificate answer) (g : Gives answer run) (own : Claim) → s.certifies.certificate.claim ≡ own → own ≢ claim.Stopped →
      ShowsSampleClaim number name certificate run own
  claimed law answer s g own is other =
      let whole = s.certifies.made.design.shown (λ e. other (sym is ∙ e)) in
      record {
        leaves = leaves answer s g.put;
        claim_is = is;
        within = subst (λ n. node_count s.certifies.certificate ≤ n) s.certifies.made.design.budget_is s.certifies.made.design.within;
        proves = whole.proves;
        holds = whole.holds;
        verdict = ((law s.junction s.certifies.certificate s.file.spelled.rules whole.proves).0, whole.proves);
        sums_up = sums_up answer s g;
      }

  stopped : (answer : Answer) (s : Samples number name certificate answer) (g : Gives answer run) → s.certifies.certificate.claim ≡ claim.Stopped → ShowsSampleStop number name certificate run
  stopped answer s g is =
      let stop = s.certifies.made.design.stopped is in
      record {
        leaves = leaves answer s g.put;
        stop = stop;
        part = stop.holds;
        uncovered = s.certifies.made.design.uncovered is;
        verdict = (stop.rules, stop.part);
        sums_up = sums_up answer s g;
      }

  no_fetch : AreHeld FetchesNothing run
  no_fetch = record { held = λ lacks. lacks.2; short = λ fault. fault.asked.2 }

  pub sample_run : RulesLaw → SampleLaw → IsSampleRun number name certificate run
  sample_run rules law = record {
    done = λ is. let x = o.answered (subst IsAnswered (sym is) tt) in
        claimed rules x.0 x.1 x.2 claim.Capacity (done_behind objective.Capacity x.1.certifies.certificate.claim (claim_status x.0 x.1 x.2 Done is) x.1.certifies.made.design.claimed) (λ e. cc);
    infeasible = λ is. let x = o.answered (subst IsAnswered (sym is) tt) in
        claimed rules x.0 x.1 x.2 claim.Infeasible (infeasible_behind x.1.certifies.certificate.claim (claim_status x.0 x.1 x.2 Infeasible is)) (λ e. cc);
    stopped = λ is. let x = o.answered (subst IsAnswered (sym is) tt) in
        stopped x.0 x.1 x.2 (stopped_behind x.1.certifies.certificate.claim (claim_status x.0 x.1 x.2 Stopped is));
    infeasible_always = λ junction sample none. elim (answered_or_outside _ _ _ run o no_fetch Stopped) [
      | inr f ↦ inr f
      | inl answered ↦ (
          let x = o.answered answered in
          elim (design_infeasible x.1.junction junction objective.Capacity default_least default_budget x.1.certifies.certificate x.1.certifies.made (law number x.1.junction junction x.1.file.sample sample) none) [
            | inl e ↦ inl (own_status x.0 x.1 x.2 ∙ e)
            | inr e ↦ inr (inl (inl (own_status x.0 x.1 x.2 ∙ e), uncounted _ _ _ run o no_fetch answered))
          ])
    ];
    covered = λ junction sample covers is.
        let x = o.answered (subst IsAnswered (sym is) tt) in
        not_covered x.1.junction junction objective.Capacity default_least default_budget x.1.certifies.certificate x.1.certifies.made (law number x.1.junction junction x.1.file.sample sample) covers
        (stopped_behind x.1.certifies.certificate.claim (claim_status x.0 x.1 x.2 Stopped is));
    sink_failed = λ shelf is. let cut = answer_put _ _ _ run o no_fetch shelf is in leaves cut.answer cut.meant cut.put;
    completes = λ shelf sink. elim (answered_or_fault run.status) [
      | inl answered ↦ (let x = o.answered answered in searched x.1.certifies.certificate.claim run.status (own_status x.0 x.1 x.2))
      | inr f ↦ inr (inr (inr (no_fault _ _ _ run o no_fetch shelf sink f)))
    ];
  }
