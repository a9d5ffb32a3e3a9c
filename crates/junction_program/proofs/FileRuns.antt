-- What the answers of a command on a junction and a certificate show, whatever it does with them.
use Rattle.std.proofs.Common.{ℕ, List, [], ◌≡◌, ◌≢◌, inl, inr, sym, ap, ◌∙◌, subst}
use Rattle.junction_model.specs.Junction.{JunctionView}
use Rattle.junction_files.specs.Laws.{RefusalLaw, OneJunctionLaw}
use Rattle.plan_model.specs.Fits.{group_count}
use Rattle.plan_certificate.specs.Certificate.{CertificateView}
use Rattle.plan_certificate.specs.Laws as text
use Rattle.plan_certificate.specs.Reads as spelling
use Rattle.plan_certificate.specs.declared.fault.CertificateFault.{CertificateFault}
use Rattle.plan_certificate.specs.declared.fault.CertificateFault.TheVariants as certificate_fault
use Rattle.junction_program.specs.Runs.{Run, told, put_all}
use Rattle.junction_program.specs.Outcomes.{Answer, IsAnswered, Gives, HasPut, FetchFault, ShelfFault, Outcome}
use Rattle.junction_program.specs.Commands.{IsOnFiles, FileAnswers, FetchesJunction, FetchesBoth, PutsNothing, certificate_limit}
use Rattle.junction_program.specs.Headline.{HoldsBoth, HoldsBadJunction, AreRefusedByCause}
use Rattle.junction_program.specs.declared.status.Status.{Status}
use Rattle.junction_program.specs.declared.status.Status.TheVariants.{BadJunction, BadCertificate}
use Rattle.junction_program.proofs.Accepted.{files_held, first_file_held}
use Rattle.junction_program.proofs.Endings.{put_nothing}
use Rattle.junction_program.proofs.Faults.{answered_or_fault, caused_always, some_put}
use Rattle.junction_program.proofs.Held.{same_bytes, same_junction, not_refused, not_accepted}

-- an answer on files has none of the statuses of refused ones, and puts nothing
pub record IsOwnAnswer (answer : Answer) : Type 0 where
  pub accepted : answer.status ≢ BadJunction
  pub found : answer.status ≢ BadCertificate
  pub puts : answer.puts ≡ []

module _ (kind : JunctionView → CertificateView → Answer → Type 0) (own_answer : (junction : JunctionView) (c : CertificateView) (answer : Answer) → kind junction c answer → IsOwnAnswer answer)
    (name certificate : List ℕ) (run : Run) (o : Outcome (FileAnswers kind (told run) name certificate) (FetchesBoth (told run) name certificate) PutsNothing run) where
  abbrev pub Answered : Type 0
  Answered = (answer : Answer) × IsOnFiles kind (told run) name certificate answer × Gives answer run

  -- the answer behind a status that isn't that of a refused file
  pub answer_behind : (status : Status) → run.status ≡ status → IsAnswered status → status ≢ BadJunction → status ≢ BadCertificate → Answered
  answer_behind status is answered junction bad =
      let x = o.answered (subst IsAnswered (sym is) answered) in
      elim x.1 [
        | inl y ↦ elim y [
          | inl r ↦ absurd (junction (sym is ∙ x.2.status ∙ ap (λ (a : Answer). a.status) r.told))
          | inr r ↦ absurd (bad (sym is ∙ x.2.status ∙ ap (λ (a : Answer). a.status) r.told))
        ]
        | inr own ↦ (x.0, own, x.2)
      ]

  own_of : (x : Answered) → IsOwnAnswer x.0
  own_of x = own_answer x.1.junction x.1.certificate x.0 x.1.own

  -- nothing is put, however the run ends
  nothing_put : (answer : Answer) → FileAnswers kind (told run) name certificate answer → answer.puts ≡ []
  nothing_put answer a = elim a [
    | inl y ↦ elim y [ inl r ↦ ap (λ (x : Answer). x.puts) r.told | inr r ↦ ap (λ (x : Answer). x.puts) r.told ]
    | inr own ↦ (own_answer own.junction own.certificate answer own.own).puts
  ]

  after_puts : (made : List (List ℕ × List ℕ)) → made ≡ [] → run.after.shelf.holds ≡ put_all (told run) made → run.after.shelf.holds ≡ told run
  after_puts made none put = put ∙ ap (put_all (told run)) none ∙ sym (put_nothing (told run))

  after_kept : HasPut PutsNothing run → run.after.shelf.holds ≡ told run
  after_kept kept = after_puts kept.made kept.meant kept.put

  -- the shelf fails only in a fetch
  fetch_fault : ShelfFault (FetchesBoth (told run) name certificate) PutsNothing run → FetchFault (FetchesBoth (told run) name certificate) run
  fetch_fault fault = elim fault [ inl f ↦ f | inr p ↦ absurd (some_put p.made p.failed p.meant) ]

  -- beside bytes that spell no junction, in the fetch of these
  first_fault : HoldsBadJunction (told run) name → ShelfFault (FetchesBoth (told run) name certificate) PutsNothing run → FetchFault (FetchesJunction name) run
  first_fault bad fault =
      let f = fetch_fault fault in
      record { name = f.name; limit = f.limit; asked = elim f.asked [ inl own ↦ own | inr other ↦ absurd (not_accepted (told run) name bad other.2.0 other.2.1) ]; cause = f.cause; same = f.same }

  pub same : run.after.shelf.holds ≡ told run
  same = elim (answered_or_fault run.status) [
    | inl answered ↦ (let x = o.answered answered in after_puts x.0.puts (nothing_put x.0 x.1) x.2.put)
    | inr f ↦ elim f [
      | inl e ↦ (fetch_fault (o.shelf_failed e).0).same
      | inr g ↦ elim g [
        | inl e ↦ elim (o.sink_failed e).1 [
          | inl p ↦ after_puts p.answer.puts (nothing_put p.answer p.meant) p.put
          | inr q ↦ elim q [ inl s ↦ (fetch_fault s.0).same | inr l ↦ l.0.same ]
        ]
        | inr h ↦ elim h [ inl e ↦ after_kept (o.memory e).0 | inr e ↦ (o.too_long e).0.same ]
      ]
    ]
  ]

  module _ (refusal : RefusalLaw) (one : OneJunctionLaw) where
    -- a certificate that is found isn't refused
    found_not : text.RefusalLaw → (junction own : JunctionView) (c : CertificateView) (refused : CertificateFault) (bytes : List ℕ) → own ≡ junction → spelling.Spells (group_count junction) bytes c →
        spelling.IsRefusal (group_count own) bytes refused → refused ≡ certificate_fault.Memory
    found_not law junction own c refused bytes same spelled r = law (group_count junction) bytes c refused spelled (subst (λ j. spelling.IsRefusal (group_count j) bytes refused) same r)

    -- the answer on files that are held and accepted
    pub answer_on : text.RefusalLaw → text.OneCertificateLaw → (junction : JunctionView) (c : CertificateView) → HoldsBoth (told run) name certificate junction c → IsAnswered run.status →
        (x : Answered) × (x.1.junction ≡ junction) × (x.1.certificate ≡ c)
    answer_on certificate_refusal one_certificate junction c both answered =
        let x = o.answered answered in
        elim x.1 [
          | inl y ↦ elim y [
            | inl r ↦ absurd (not_refused refusal (told run) name junction x.0 both.held.tells both.held.accepted r)
            | inr r ↦ (
                let same = same_junction one (told run) name r.junction junction both.held.tells r.accepted both.held.accepted in
                let bytes : r.bytes ≡ both.found.bytes = same_bytes (told run) certificate certificate_limit certificate_limit r.bytes both.found.bytes both.held.tells r.fetched both.found.fetched in
                absurd (r.not_memory (found_not certificate_refusal junction r.junction c r.fault both.found.bytes same both.found.spelled (subst (λ b. spelling.IsRefusal (group_count r.junction) b r.fault) bytes r.refused))))
          ]
          | inr own ↦ (
              let same = same_junction one (told run) name own.junction junction both.held.tells own.accepted both.held.accepted in
              let bytes : own.found.bytes ≡ both.found.bytes = same_bytes (told run) certificate certificate_limit certificate_limit own.found.bytes both.found.bytes both.held.tells own.found.fetched both.found.fetched in
              let spelled : spelling.Spells (group_count junction) both.found.bytes own.certificate = subst (λ k. spelling.Spells (group_count k) both.found.bytes own.certificate) same
              (subst (λ b. spelling.Spells (group_count own.junction) b own.certificate) bytes own.found.spelled) in
              ((x.0, own, x.2), same, one_certificate (group_count junction) both.found.bytes own.certificate c both.held.accepted.spelled.rules.groups.several spelled both.found.spelled))
        ]

    pub refused_by_cause : AreRefusedByCause name certificate run
    refused_by_cause = record {
      junction = record {
        bad_junction = λ is. let x = o.answered (subst IsAnswered (sym is) tt) in elim x.1 [
          | inl y ↦ elim y [
            | inl r ↦ (x.0, r, x.2)
            | inr r ↦ (let bad : BadJunction ≡ BadCertificate = sym is ∙ x.2.status ∙ ap (λ (a : Answer). a.status) r.told in cc)
          ]
          | inr own ↦ absurd ((own_of (x.0, own, x.2)).accepted (sym x.2.status ∙ is))
        ];
        bad_junction_always = λ bad. caused_always _ _ _ run o (first_file_held name certificate run bad) BadJunction _ (first_fault bad) (λ answered. let x = o.answered answered in elim x.1 [
          | inl y ↦ elim y [
            | inl r ↦ x.2.status ∙ ap (λ (a : Answer). a.status) r.told
            | inr r ↦ absurd (not_accepted (told run) name bad r.junction r.accepted)
          ]
          | inr own ↦ absurd (not_accepted (told run) name bad own.junction own.accepted)
        ]);
      };
      bad_certificate = λ is. let x = o.answered (subst IsAnswered (sym is) tt) in elim x.1 [
        | inl y ↦ elim y [
          | inl r ↦ (let bad : BadCertificate ≡ BadJunction = sym is ∙ x.2.status ∙ ap (λ (a : Answer). a.status) r.told in cc)
          | inr r ↦ (x.0, r, x.2)
        ]
        | inr own ↦ absurd ((own_of (x.0, own, x.2)).found (sym x.2.status ∙ is))
      ];
      bad_certificate_always = λ junction bad. caused_always _ _ _ run o (files_held name certificate run junction bad.bytes bad.held bad.fetched) BadCertificate _ fetch_fault (λ answered. let x = o.answered answered in elim x.1 [
        | inl y ↦ elim y [
          | inl r ↦ absurd (not_refused refusal (told run) name junction x.0 bad.held.tells bad.held.accepted r)
          | inr r ↦ x.2.status ∙ ap (λ (a : Answer). a.status) r.told
        ]
        | inr own ↦ (
            let same = same_junction one (told run) name own.junction junction bad.held.tells own.accepted bad.held.accepted in
            let bytes : own.found.bytes ≡ bad.bytes = same_bytes (told run) certificate certificate_limit certificate_limit own.found.bytes bad.bytes bad.held.tells own.found.fetched bad.fetched in
            absurd (bad.none own.certificate (subst (λ j. spelling.Spells (group_count j) bad.bytes own.certificate) same
            (subst (λ b. spelling.Spells (group_count own.junction) b own.certificate) bytes own.found.spelled))))
      ]);
    }
