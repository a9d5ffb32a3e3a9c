-- What the answers of a design show.
use Rattle.std.proofs.Common.{ℕ, List, [], ◌∷◌, ◌≡◌, ◌≢◌, ◌<◌, ◌≤◌, ◌⊎◌, inl, inr, refl, sym, ap, ◌∙◌, subst, arith}
use Rattle.std.specs.Prelude.{Option, None, Some}
use Rattle.sig_base.specs.Fraction.{Fraction}
use Rattle.sig_base.specs.Shelf.{Holdings, Puts}
use Rattle.junction_model.specs.Covers.{cover_of}
use Rattle.junction_model.specs.Junction.{JunctionView}
use Rattle.junction_files.specs.Laws.{RefusalLaw, OneJunctionLaw}
use Rattle.plan_model.specs.Claims.{IsInfeasible}
use Rattle.plan_model.specs.SignalPlan.{PlanView}
use Rattle.plan_certificate.specs.Certificate.{CertificateView, node_count}
use Rattle.plan_certificate.specs.declared.claim.Claim.{Claim}
use Rattle.plan_certificate.specs.declared.claim.Claim.TheVariants as claim
use Rattle.certificate_checker.specs.Laws.{RulesLaw}
use Rattle.certificate_checker.specs.Proves.{ClaimHolds}
use Rattle.plan_design.specs.Design.{IsClaimFor, claim_of}
use Rattle.plan_design.specs.declared.objective.Objective.{Objective}
use Rattle.plan_design.specs.declared.objective.Objective.TheVariants as objective
use Rattle.junction_program.specs.Runs.{Run, told, put_all, ShelfRose}
use Rattle.junction_program.specs.Outcomes.{Answer, IsAnswered, Gives, FetchFault, ShelfFault, Outcome}
use Rattle.junction_program.specs.Commands.{IsAskedDesign, Designs, DesignAnswers, FetchesJunction, PutsDesign, status_of_claim}
use Rattle.junction_program.specs.Headline.{HoldsJunction, HoldsBadJunction, IsRefusedByCause, Reports, LeavesDesign, ShowsClaim, ShowsStop, IsDesignRun}
use Rattle.junction_program.specs.declared.status.Status.{Status}
use Rattle.junction_program.specs.declared.status.Status.TheVariants.{Done, Infeasible, Stopped, BadWords, BadJunction, SinkFailed, Memory}
use Rattle.junction_program.proofs.Accepted.{junction_held}
use Rattle.junction_program.proofs.Faults.{answered_or_fault, AreHeld, uncounted, caused_always, answered_or_outside, no_fault, answer_put, some_put}
use Rattle.junction_program.proofs.Held.{same_junction, not_refused, not_accepted}

put_back : (old new : Option Holdings) (name bytes : List ℕ) → new ≡ put_all old ((name, bytes) ∷ []) → Puts old new name bytes
put_back None new name bytes h = h
put_back (Some m) new name bytes h = h

-- the claims behind a status
pub done_behind : (own : Objective) (given : Claim) → status_of_claim given ≡ Done → IsClaimFor own given → given ≡ claim_of own
done_behind own claim.Infeasible e either = cc
done_behind own claim.Stopped e either = cc
done_behind own claim.Capacity e either = elim either [ inl x ↦ x | inr y ↦ elim y [ inl x ↦ cc | inr x ↦ cc ] ]
done_behind own claim.Cycle e either = elim either [ inl x ↦ x | inr y ↦ elim y [ inl x ↦ cc | inr x ↦ cc ] ]

pub infeasible_behind : (given : Claim) → status_of_claim given ≡ Infeasible → given ≡ claim.Infeasible
infeasible_behind claim.Capacity e = cc
infeasible_behind claim.Cycle e = cc
infeasible_behind claim.Infeasible e = refl
infeasible_behind claim.Stopped e = cc

pub stopped_behind : (given : Claim) → status_of_claim given ≡ Stopped → given ≡ claim.Stopped
stopped_behind claim.Capacity e = cc
stopped_behind claim.Cycle e = cc
stopped_behind claim.Infeasible e = cc
stopped_behind claim.Stopped e = refl

not_bad_junction : (given : Claim) → status_of_claim given ≡ BadJunction → ⊥
not_bad_junction claim.Capacity e = cc
not_bad_junction claim.Cycle e = cc
not_bad_junction claim.Infeasible e = cc
not_bad_junction claim.Stopped e = cc

pub claim_not_bad_words : (given : Claim) → status_of_claim given ≡ BadWords → ⊥
claim_not_bad_words claim.Capacity e = cc
claim_not_bad_words claim.Cycle e = cc
claim_not_bad_words claim.Infeasible e = cc
claim_not_bad_words claim.Stopped e = cc

done_claimed : (own : Objective) → claim_of own ≢ claim.Stopped
done_claimed objective.Capacity = λ e. cc
done_claimed objective.Cycle = λ e. cc

-- where no plan meets the least, a claim that is true is that there is none, or the search was stopped
claimed_infeasible : (junction : JunctionView) (given : Claim) (least : Fraction) (plan : Option PlanView) → IsInfeasible junction least →
    (given ≢ claim.Stopped → ClaimHolds junction given least plan) → (status_of_claim given ≡ Infeasible) ⊎ (status_of_claim given ≡ Stopped)
claimed_infeasible junction claim.Capacity least None none holds = absurd (holds (λ e. cc))
claimed_infeasible junction claim.Capacity least (Some p) none holds = absurd (none p (holds (λ e. cc)).meets)
claimed_infeasible junction claim.Cycle least None none holds = absurd (holds (λ e. cc))
claimed_infeasible junction claim.Cycle least (Some p) none holds = absurd (none p (holds (λ e. cc)).meets)
claimed_infeasible junction claim.Infeasible least plan none holds = inl refl
claimed_infeasible junction claim.Stopped least plan none holds = inr refl

-- where no plan of the junction meets the least, a design for it tells so, or was stopped
pub design_infeasible : (made junction : JunctionView) (own : Objective) (least : Fraction) (budget : ℕ) (c : CertificateView) → IsAskedDesign made own least budget c → made ≡ junction → IsInfeasible junction least →
    (status_of_claim c.claim ≡ Infeasible) ⊎ (status_of_claim c.claim ≡ Stopped)
design_infeasible made junction own least budget c d same none =
    claimed_infeasible junction c.claim least c.plan none
    (λ other. subst (λ j. ClaimHolds j c.claim least c.plan) same
    (subst (λ f. ClaimHolds made c.claim f c.plan) (d.design.least_is ∙ d.least_is) (d.design.shown other).holds))

-- a search whose budget covers the junction isn't stopped
pub not_covered : (made junction : JunctionView) (own : Objective) (least : Fraction) (budget : ℕ) (c : CertificateView) → IsAskedDesign made own least budget c → made ≡ junction →
    cover_of junction ≤ budget → c.claim ≢ claim.Stopped
not_covered made junction own least budget c d same covers is =
    let short : budget < cover_of junction = subst (λ j. budget < cover_of j) same (d.design.uncovered is) in
    omega (arith, short, covers)

-- how a search may end
abbrev pub IsSearched : Status → Type 0
IsSearched status = (status ≡ Done) ⊎ ((status ≡ Infeasible) ⊎ ((status ≡ Stopped) ⊎ (status ≡ Memory)))

pub searched : (given : Claim) (status : Status) → status ≡ status_of_claim given → IsSearched status
searched claim.Capacity status e = inl e
searched claim.Cycle status e = inl e
searched claim.Infeasible status e = inr (inl e)
searched claim.Stopped status e = inr (inr (inl e))

module _ (own : Objective) (name certificate : List ℕ) (least : Fraction) (budget : ℕ) (run : Run)
    (o : Outcome (DesignAnswers (told run) name certificate own least budget) (FetchesJunction name) (PutsDesign (told run) name certificate own least budget) run) where
  abbrev leaves : (answer : Answer) (d : Designs (told run) name certificate own least budget answer) → run.after.shelf.holds ≡ put_all (told run) answer.puts →
      LeavesDesign own name certificate least budget run d.junction
  leaves answer d put = record {
    certificate = d.certificate;
    made = d.made;
    put = put_back (told run) run.after.shelf.holds certificate _ (put ∙ ap (put_all (told run)) d.puts);
  }

  reports : (answer : Answer) (d : Designs (told run) name certificate own least budget answer) → Gives answer run → Reports d.junction d.certificate run
  reports answer d g = record { report = answer.text; is_report = d.report; printed = g.pushed }

  shown : RulesLaw → (claimed : Claim) (answer : Answer) (d : Designs (told run) name certificate own least budget answer) → Gives answer run →
      d.certificate.claim ≡ claimed → claimed ≢ claim.Stopped → ShowsClaim own name certificate least budget run claimed
  shown law claimed answer d g is other =
      let whole = d.made.design.shown (λ e. other (sym is ∙ e)) in
      record {
        junction = d.junction;
        accepted = d.accepted;
        leaves = leaves answer d g.put;
        claim_is = is;
        within = subst (λ n. node_count d.certificate ≤ n) d.made.design.budget_is d.made.design.within;
        proves = whole.proves;
        holds = whole.holds;
        verdict = ((law d.junction d.certificate d.accepted.spelled.rules whole.proves).0, whole.proves);
        reports = reports answer d g;
      }

  stopped : (answer : Answer) (d : Designs (told run) name certificate own least budget answer) → Gives answer run → d.certificate.claim ≡ claim.Stopped →
      ShowsStop own name certificate least budget run
  stopped answer d g is =
      let stop = d.made.design.stopped is in
      record {
        junction = d.junction;
        accepted = d.accepted;
        leaves = leaves answer d g.put;
        stop = stop;
        part = stop.holds;
        uncovered = d.made.design.uncovered is;
        verdict = (stop.rules, stop.part);
        reports = reports answer d g;
      }

  -- the design behind a status that isn't that of a refused junction
  design_behind : (status : Status) → run.status ≡ status → IsAnswered status → status ≢ BadJunction →
      (answer : Answer) × Designs (told run) name certificate own least budget answer × Gives answer run
  design_behind status is answered other =
      let x = o.answered (subst IsAnswered (sym is) answered) in
      elim x.1 [
        | inl r ↦ absurd (other (sym is ∙ x.2.status ∙ ap (λ (a : Answer). a.status) r.told))
        | inr d ↦ (x.0, d, x.2)
      ]

  own_status : (answer : Answer) (d : Designs (told run) name certificate own least budget answer) → Gives answer run → run.status ≡ status_of_claim d.certificate.claim
  own_status answer d g = g.status ∙ d.status

  claim_status : (status : Status) → run.status ≡ status → (answer : Answer) (d : Designs (told run) name certificate own least budget answer) → Gives answer run →
      status_of_claim d.certificate.claim ≡ status
  claim_status status is answer d g = sym (own_status answer d g) ∙ is

  -- the design behind any answer, where the junction is held and accepted
  accepted_design : RefusalLaw → (junction : JunctionView) → HoldsJunction (told run) name junction → IsAnswered run.status →
      (answer : Answer) × Designs (told run) name certificate own least budget answer × Gives answer run
  accepted_design law junction held answered =
      let x = o.answered answered in
      elim x.1 [
        | inl r ↦ absurd (not_refused law (told run) name junction x.0 held.tells held.accepted r)
        | inr d ↦ (x.0, d, x.2)
      ]

  held_files : (junction : JunctionView) → HoldsJunction (told run) name junction → AreHeld (FetchesJunction name) run
  held_files junction held = junction_held name run held.accepted.bytes held.tells held.accepted.fetched

  sink_failed : RefusalLaw → OneJunctionLaw → (junction : JunctionView) → HoldsJunction (told run) name junction → ¬ ShelfRose run → run.status ≡ SinkFailed →
      LeavesDesign own name certificate least budget run junction
  sink_failed refusal one junction held shelf is =
      let part = answer_put _ _ _ run o (held_files junction held) shelf is in
      elim part.meant [
        | inl r ↦ absurd (not_refused refusal (told run) name junction part.answer held.tells held.accepted r)
        | inr d ↦ subst (LeavesDesign own name certificate least budget run) (same_junction one (told run) name d.junction junction held.tells d.accepted held.accepted) (leaves part.answer d part.put)
      ]

  -- where the bytes spell no junction, nothing is put
  fetch_fault : HoldsBadJunction (told run) name → ShelfFault (FetchesJunction name) (PutsDesign (told run) name certificate own least budget) run → FetchFault (FetchesJunction name) run
  fetch_fault bad fault = elim fault [
    | inl f ↦ f
    | inr p ↦ absurd (elim p.meant [ inl none ↦ some_put p.made p.failed none | inr d ↦ not_accepted (told run) name bad d.1.junction d.1.accepted ])
  ]

  refused_by_cause : IsRefusedByCause name run
  refused_by_cause = record {
    bad_junction = λ is. let x = o.answered (subst IsAnswered (sym is) tt) in elim x.1 [
      | inl r ↦ (x.0, r, x.2)
      | inr d ↦ absurd (not_bad_junction d.certificate.claim (claim_status BadJunction is x.0 d x.2))
    ];
    bad_junction_always = λ bad. caused_always _ _ _ run o (junction_held name run bad.bytes bad.tells bad.fetched) BadJunction _ (fetch_fault bad) (λ answered. let x = o.answered answered in elim x.1 [
      | inl r ↦ x.2.status ∙ ap (λ (a : Answer). a.status) r.told
      | inr d ↦ absurd (not_accepted (told run) name bad d.junction d.accepted)
    ]);
  }

  pub design_run : RefusalLaw → OneJunctionLaw → RulesLaw → IsDesignRun own name certificate least budget run
  design_run refusal one rules = record {
    done = λ is. let x = design_behind Done is tt (λ e. cc) in
        let claimed = done_behind own x.1.certificate.claim (claim_status Done is x.0 x.1 x.2) x.1.made.design.claimed in
        shown rules (claim_of own) x.0 x.1 x.2 claimed (done_claimed own);
    infeasible = λ is. let x = design_behind Infeasible is tt (λ e. cc) in
        shown rules claim.Infeasible x.0 x.1 x.2 (infeasible_behind x.1.certificate.claim (claim_status Infeasible is x.0 x.1 x.2)) (λ e. cc);
    stopped = λ is. let x = design_behind Stopped is tt (λ e. cc) in
        stopped x.0 x.1 x.2 (stopped_behind x.1.certificate.claim (claim_status Stopped is x.0 x.1 x.2));
    infeasible_always = λ junction held none. elim (answered_or_outside _ _ _ run o (held_files junction held) Stopped) [
      | inr f ↦ inr f
      | inl answered ↦ (
          let x = accepted_design refusal junction held answered in
          let same : x.1.junction ≡ junction = same_junction one (told run) name x.1.junction junction held.tells x.1.accepted held.accepted in
          elim (design_infeasible x.1.junction junction own least budget x.1.certificate x.1.made same none) [
            | inl e ↦ inl (own_status x.0 x.1 x.2 ∙ e)
            | inr e ↦ inr (inl (inl (own_status x.0 x.1 x.2 ∙ e), uncounted _ _ _ run o (held_files junction held) answered))
          ])
    ];
    covered = λ junction held covers is.
        let x = design_behind Stopped is tt (λ e. cc) in
        let same : x.1.junction ≡ junction = same_junction one (told run) name x.1.junction junction held.tells x.1.accepted held.accepted in
        not_covered x.1.junction junction own least budget x.1.certificate x.1.made same covers (stopped_behind x.1.certificate.claim (claim_status Stopped is x.0 x.1 x.2));
    sink_failed = sink_failed refusal one;
    refused = refused_by_cause;
    completes = λ junction held shelf sink. elim (answered_or_fault run.status) [
      | inl answered ↦ (let x = accepted_design refusal junction held answered in searched x.1.certificate.claim run.status (own_status x.0 x.1 x.2))
      | inr f ↦ inr (inr (inr (no_fault _ _ _ run o (held_files junction held) shelf sink f)))
    ];
  }
