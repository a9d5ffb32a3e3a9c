use Rattle.std.proofs.Common.{[], refl, inl, inr, rules}
use Rattle.junction_program.specs.Commands.{SpellsSample}
use Rattle.junction_program.proofs.Endings.{begun_with_put, memory_ends, put_ended}
use Rattle.junction_program.proofs.sampling.design_sample.Goals as goal

pub returns-in_default : goal.returns-in_default
returns-in_default g c = memory_ends _ _ _ _ _ _ (inl refl) refl refl refl

pub returns-in_default-print : goal.returns-in_default-print
returns-in_default-print g c = memory_ends _ _ _ _ _ _ (inl refl) refl refl refl

pub returns-in-Ok-put : goal.returns-in-Ok-put
returns-in-Ok-put g c =
    let file : SpellsSample c.args.number c.in-Ok.junction c.deref.result.now = record { sample = c.in-Ok.ensures; spelled = search rules; printed = search rules } in
    begun_with_put _ _ _ _ _ _ _ _ _ _ c.in-Ok-put.ensures.put
    (λ a e. record { junction = c.in-Ok.junction; bytes = c.deref.result.now; file = file; certified = a; certifies = e; told = refl })
    (λ p h. inr (record { junction = c.in-Ok.junction; bytes = c.deref.result.now; file = file; more = p; certificate = h; told = refl })) c.certify_sample.ensures

pub returns : goal.returns
returns g c =
    let file : SpellsSample c.args.number c.in-Ok.junction c.deref.result.now = record { sample = c.in-Ok.ensures; spelled = search rules; printed = search rules } in
    put_ended _ _ _ _ _ (λ p h. elim h [
      | inl e ↦ inl e
      | inr e ↦ inr (record { junction = c.in-Ok.junction; bytes = c.deref.result.now; file = file; more = []; certificate = inl refl; told = e })
    ]) c.in-Err.ensures.ends
