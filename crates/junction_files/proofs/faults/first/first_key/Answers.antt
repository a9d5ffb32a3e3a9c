use Rattle.std.proofs.Common.{refl}
use Rattle.std.proofs.lemmas.Bool.{false≢true}
use Rattle.junction_files.proofs.FirstFault.{first_key, no_key_more}
use Rattle.junction_files.proofs.faults.first.first_key.Goals as goal

pub returns-then-is_wrong : goal.returns-then-is_wrong
returns-then-is_wrong c = rw c.keys-keys.ensures
    (first_key _ _ c.loop-key-test.true c.loop-key.invariant (rw c.keys-keys.ensures at (c.if-is_wrong.ensures.0 refl)))

pub loop-key-preserved : goal.loop-key-preserved
loop-key-preserved c = no_key_more _ _ c.loop-key-test.true c.loop-key.invariant
    (λ wrong. false≢true (c.if-is_wrong.ensures.1 (rw c.keys-keys.ensures wrong)))
