use Rattle.std.proofs.Common.{◌≢◌, refl, inl, inr, subst, rules}
use Rattle.plan_model.specs.Fits.{group_count}
use Rattle.plan_certificate.specs.Reads.{IsRefusal}
use Rattle.plan_certificate.specs.declared.fault.CertificateFault.TheVariants.{Memory}
use Rattle.junction_program.specs.Commands.{certificate_limit}
use Rattle.junction_program.specs.Steps.{IsFetched}
use Rattle.junction_program.proofs.Accepted.{first_ends, only_second, neither}
use Rattle.junction_program.proofs.Endings.{answered_later, fetch_later, unchanged_again}
use Rattle.junction_program.proofs.files.accepted_files.Goals as goal

pub returns-in-Err-clause-ends : goal.returns-in-Err-clause-ends
returns-in-Err-clause-ends g c = first_ends c.reading_laws.ensures.refusal _ _ _ _ (λ a r. inl r) c.in-Err.ensures.ends

pub returns-in-Err-fetched-clause-ends : goal.returns-in-Err-fetched-clause-ends
returns-in-Err-fetched-clause-ends g c =
    fetch_later _ _ _ _ _ _ _ _ _ _ _ _ c.in-Ok.ensures.unchanged (inr (refl, refl, (_, c.in-Ok.ensures.accepted))) refl (only_second _ _ _ _ c.in-Ok.ensures.accepted) c.in-Err-fetched.ensures.ends

pub returns-in-Err-read-clause-ends : goal.returns-in-Err-read-clause-ends
returns-in-Err-read-clause-ends g c =
    let same = unchanged_again _ _ _ c.in-Ok.ensures.unchanged c.in-Ok-fetched.ensures.unchanged in
    let fetched : IsFetched (g.S.Shelf.holds c.args.shelf.now) c.args.certificate_name.now certificate_limit c.in-Ok-fetched.bytes.items =
    subst (λ s. IsFetched s c.args.certificate_name.now certificate_limit c.in-Ok-fetched.bytes.items) c.in-Ok.ensures.unchanged.holds c.in-Ok-fetched.ensures.bytes in
    let not_memory : c.in-Err-read.fault ≢ Memory = search rules in
    let refused : IsRefusal (group_count c.in-Ok.junction) c.in-Ok-fetched.bytes.items c.in-Err-read.fault = search rules in
    answered_later _ _ _ _ _ _ _ _ _ _ _ same
    (inr (record {
      junction = c.in-Ok.junction;
      accepted = c.in-Ok.ensures.accepted;
      bytes = c.in-Ok-fetched.bytes.items;
      fetched = fetched;
      fault = c.in-Err-read.fault;
      not_memory = not_memory;
      refused = refused;
      told = refl;
    }))
    refl tt (neither _ _ _ _ _ c.in-Ok.ensures.accepted fetched) c.refuse.ensures
