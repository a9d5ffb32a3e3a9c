use Rattle.std.proofs.Common.{refl, inl, inr, ◌∙◌, [], rules}
use Rattle.sig_base.specs.FaultCount.{Rose}
use Rattle.junction_program.proofs.Endings.{failure_pushed, memory_ends, put_one, put_nothing}
use Rattle.junction_program.proofs.putting.put.Goals as goal

pub returns-in-Ok-clause-put : goal.returns-in-Ok-clause-put
returns-in-Ok-clause-put g c = record { holds = put_one _ _ _ _ c.in-Ok.ensures.ok; faults = search rules; refusals = search rules; sink = refl }

pub returns-in-Err-Failed-clause-ends : goal.returns-in-Err-Failed-clause-ends
returns-in-Err-Failed-clause-ends g c =
    let rose : Rose (g.S.Shelf.faults c.args.shelf.now) (g.S.Shelf.faults c.put.new.self) = search rules in
    let put = c.in-Err-Failed.ensures.err ∙ put_nothing _ in
    failure_pushed _ _ _ _ _ _ _ _ (inr (record { made = []; failed = _; meant = inr refl; rose = rose; put = put })) (record { made = []; meant = inl refl; put = put }) c.put.ensures.refusals (λ e. rose) c.refuse.ensures

pub returns-in-Err-Memory-clause-ends : goal.returns-in-Err-Memory-clause-ends
returns-in-Err-Memory-clause-ends g c = memory_ends _ _ _ _ _ _ (inl refl) c.in-Err-Memory.ensures.err (search rules) c.put.ensures.refusals
