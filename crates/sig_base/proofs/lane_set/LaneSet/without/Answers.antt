use Rattle.std.proofs.Common.{ℕ, ◌≢◌, ◌<◌, ◌↔◌, subst, sym}
use Rattle.std.specs.Prelude.{bit_and}
use Rattle.std.specs.Int.{bit_not, w32}
use Rattle.std.proofs.lemmas.Nat.{one_shl}
use Rattle.sig_base.specs.LaneSet.{IsIn}
use Rattle.sig_base.proofs.Without.{was_in, other_than, still_in}
use Rattle.sig_base.proofs.lane_set.LaneSet.without.Goals as goal

pub returns-clause-members : goal.returns-clause-members
returns-clause-members c =
    let lanes = c.args.self.now in
    let lane = c.args.lane in
    subst (λ bit. (k : ℕ) → k < 32 → IsIn (record { bits = bit_and lanes.bits (bit_not w32 bit) }) k ↔ (IsIn lanes k × (k ≢ lane))) (sym (one_shl lane 32 c.requires)) (λ k small. (
      λ is. (was_in lanes lane k is, other_than lanes lane k c.requires is),
      λ both. still_in lanes lane k c.requires small both.0 both.1,
    ))
