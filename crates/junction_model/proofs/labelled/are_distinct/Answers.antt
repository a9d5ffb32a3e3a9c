use Rattle.std.proofs.Common.{refl}
use Rattle.std.proofs.lemmas.Bool.{false≢true}
use Rattle.std.proofs.lemmas.List.{take_all}
use Rattle.junction_model.proofs.Distinct.{distinct_more, no_earlier}
use Rattle.junction_model.proofs.labelled.are_distinct.Goals as goal

pub returns-then-has_label : goal.returns-then-has_label
returns-then-has_label g c = (
  λ no. absurd (false≢true no),
  λ all. absurd (no_earlier g.T.Labelled.label_of _ _ _ _ c.loop-j-test.true c.index-items-j.is c.label.ensures all (c.if-has_label.ensures.0 refl)),
)

pub loop-j-preserved : goal.loop-j-preserved
loop-j-preserved g c = distinct_more g.T.Labelled.label_of _ _ _ _ c.loop-j-test.true c.index-items-j.is c.label.ensures c.loop-j.invariant
    (λ found. false≢true (c.if-has_label.ensures.1 found))

pub returns : goal.returns
returns g c = (λ yes. rw (take_all c.loop-j.j c.args.items.now c.loop-j-test.false) at c.loop-j.invariant, λ all. refl)
