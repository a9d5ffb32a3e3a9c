-- What the statuses of a run show of the command that its words spell.
use Rattle.std.proofs.Common.{◌≡◌, inl, inr, refl, sym, ap, ◌∙◌, subst}
use Rattle.std.specs.Prelude.{Option, None, Some}
use Rattle.sig_base.specs.Shelf.{Holdings}
use Rattle.junction_files.specs.Laws.{RefusalLaw, OneJunctionLaw}
use Rattle.plan_certificate.specs.Laws as text
use Rattle.certificate_checker.specs.Laws.{RulesLaw}
use Rattle.command_words.specs.Words.{CommandView, Capacity, Cycle, Check, Play, Sample}
use Rattle.plan_model.specs.FirstFault.{FaultLaw}
use Rattle.aspect_player.specs.Safe.{SafetyLaw}
use Rattle.sample_junctions.specs.Sample.{SampleLaw}
use Rattle.plan_design.specs.declared.objective.Objective.TheVariants as objective
use Rattle.junction_program.specs.Runs.{Run, told}
use Rattle.junction_program.specs.Outcomes.{Answer, IsAnswered, OrPushFault}
use Rattle.junction_program.specs.Commands.{answers_of}
use Rattle.junction_program.specs.Headline.{IsCommandRun}
use Rattle.junction_program.specs.declared.status.Status.TheVariants.{Done, Refuted, BadWords, BadJunction, BadCertificate}
use Rattle.junction_program.proofs.Faults.{answered_or_fault, some_put}
use Rattle.junction_program.proofs.Spelled.{EndsAs}
use Rattle.junction_program.proofs.DesignRuns.{design_run, claim_not_bad_words}
use Rattle.junction_program.proofs.CheckRuns.{check_run, not_of_verdict}
use Rattle.junction_program.proofs.PlayRuns.{play_run, status_of_play}
use Rattle.junction_program.proofs.SampleRuns.{sample_run}

pub command_run : RefusalLaw → OneJunctionLaw → text.OneCertificateLaw → text.RefusalLaw → RulesLaw → FaultLaw → SafetyLaw → SampleLaw → (found : Option CommandView) (run : Run) → EndsAs found run → IsCommandRun found run
command_run refusal one one_certificate certificate_refusal rules faults safety samples None run o = tt
command_run refusal one one_certificate certificate_refusal rules faults safety samples (Some (Capacity junction certificate least budget)) run o =
    design_run objective.Capacity junction certificate least budget run o refusal one rules
command_run refusal one one_certificate certificate_refusal rules faults safety samples (Some (Cycle junction certificate least budget)) run o =
    design_run objective.Cycle junction certificate least budget run o refusal one rules
command_run refusal one one_certificate certificate_refusal rules faults safety samples (Some (Check junction certificate)) run o =
    check_run junction certificate run o refusal one one_certificate certificate_refusal
command_run refusal one one_certificate certificate_refusal rules faults safety samples (Some (Play junction certificate seconds)) run o =
    play_run junction certificate seconds run o refusal one one_certificate certificate_refusal faults safety
command_run refusal one one_certificate certificate_refusal rules faults safety samples (Some (Sample number junction certificate)) run o =
    sample_run number junction certificate run o rules samples

-- no command answers that words are bad
no_bad_words : (found : Option CommandView) (shelf : Option Holdings) (answer : Answer) → answers_of found shelf answer → answer.status ≡ BadWords → found ≡ None
no_bad_words None shelf answer a is = refl
no_bad_words (Some (Capacity junction certificate least budget)) shelf answer a is = absurd (elim a [
  | inl r ↦ (let bad : BadJunction ≡ BadWords = sym (ap (λ (x : Answer). x.status) r.told) ∙ is in cc)
  | inr d ↦ claim_not_bad_words d.certificate.claim (sym d.status ∙ is)
])
no_bad_words (Some (Cycle junction certificate least budget)) shelf answer a is = absurd (elim a [
  | inl r ↦ (let bad : BadJunction ≡ BadWords = sym (ap (λ (x : Answer). x.status) r.told) ∙ is in cc)
  | inr d ↦ claim_not_bad_words d.certificate.claim (sym d.status ∙ is)
])
no_bad_words (Some (Check junction certificate)) shelf answer a is = absurd (elim a [
  | inl y ↦ elim y [
    | inl r ↦ (let bad : BadJunction ≡ BadWords = sym (ap (λ (x : Answer). x.status) r.told) ∙ is in cc)
    | inr r ↦ (let bad : BadCertificate ≡ BadWords = sym (ap (λ (x : Answer). x.status) r.told) ∙ is in cc)
  ]
  | inr own ↦ (not_of_verdict own.own.given).1 (sym (ap (λ (x : Answer). x.status) own.own.told) ∙ is)
])
no_bad_words (Some (Play junction certificate seconds)) shelf answer a is = absurd (elim a [
  | inl y ↦ elim y [
    | inl r ↦ (let bad : BadJunction ≡ BadWords = sym (ap (λ (x : Answer). x.status) r.told) ∙ is in cc)
    | inr r ↦ (let bad : BadCertificate ≡ BadWords = sym (ap (λ (x : Answer). x.status) r.told) ∙ is in cc)
  ]
  | inr own ↦ elim (status_of_play seconds own.junction own.certificate answer own.own) [
    | inl e ↦ (let bad : Done ≡ BadWords = sym e ∙ is in cc)
    | inr e ↦ (let bad : Refuted ≡ BadWords = sym e ∙ is in cc)
  ]
])
no_bad_words (Some (Sample number junction certificate)) shelf answer a is =
    absurd (claim_not_bad_words a.certifies.certificate.claim (sym a.certifies.status ∙ sym (ap (λ (x : Answer). x.status) a.told) ∙ is))

pub bad_words : (found : Option CommandView) (run : Run) → EndsAs found run → run.status ≡ BadWords → found ≡ None
bad_words found run o is = let x = o.answered (subst IsAnswered (sym is) tt) in no_bad_words found (told run) x.0 x.1 (sym x.2.status ∙ is)

none_told : (run : Run) → EndsAs None run → OrPushFault BadWords run.status
none_told run o = elim (answered_or_fault run.status) [
  | inl answered ↦ (let x = o.answered answered in inl (x.2.status ∙ ap (λ (a : Answer). a.status) x.1))
  | inr f ↦ elim f [
    | inl e ↦ absurd (elim (o.shelf_failed e).0 [ inl x ↦ x.asked | inr x ↦ some_put x.made x.failed x.meant ])
    | inr g ↦ elim g [ inl e ↦ inr (inl e) | inr h ↦ elim h [ inl e ↦ inr (inr e) | inr e ↦ absurd (o.too_long e).0.asked.2 ] ]
  ]
]

pub bad_words_always : (found : Option CommandView) (run : Run) → EndsAs found run → found ≡ None → OrPushFault BadWords run.status
bad_words_always found run o is = none_told run (subst (λ f. EndsAs f run) is o)
