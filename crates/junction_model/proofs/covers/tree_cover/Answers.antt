use Rattle.std.proofs.Common.{◌≤◌, ◌^◌, ◌+◌, length, ap, arith}
use Rattle.std.proofs.Math.Pow.{pow_mono}
use Rattle.junction_model.proofs.covers.tree_cover.Goals as goal

pub pow-requires : goal.pow-requires
pow-requires c =
    let few = c.links.ensures.links.linkable.few in
    let same = ap length c.links.ensures.value in
    let bound : 2 ^ (c.free_pair_count.result + length c.links.result.now + 1) ≤ 2 ^ 118 = pow_mono {j = 118} (omega (arith, c.free_pair_count.ensures.few)) in
    omega (arith, bound)

pub returns-clause-small : goal.returns-clause-small
returns-clause-small c =
    let few = c.links.ensures.links.linkable.few in
    let same = ap length c.links.ensures.value in
    let bound : 2 ^ (c.free_pair_count.result + length c.links.result.now + 1) ≤ 2 ^ 118 = pow_mono {j = 118} (omega (arith, c.free_pair_count.ensures.few)) in
    omega (arith, bound, c.pow.ensures)
