use Rattle.std.proofs.lemmas.Nat.{bit_set_by_shift}
use Rattle.std.proofs.lemmas.Bool.{eq-eqb, eqb-true}
use Rattle.sig_base.proofs.lane_set.LaneSet.contains.Goals as goal

pub returns : goal.returns
returns c =
    let bit = bit_set_by_shift c.args.self.now.bits c.args.lane in
    (λ one. bit.0 (eqb-true _ _ one), λ chosen. eq-eqb _ _ (bit.1 chosen))
