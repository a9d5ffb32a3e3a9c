use Rattle.std.proofs.Common.{◌≡◌, subst, arith}
use Rattle.conflict_matrix.specs.Conflicts.{matrix_of}
use Rattle.cycle_orders.specs.DueItems.{AreFreePairsBelow}
use Rattle.cycle_orders.proofs.DueList.{few_pairs, pair_pushed, pair_skipped, rising_pair, row_done}
use Rattle.cycle_orders.proofs.items.Items.push_pairs.Goals as goal
use Rattle.cycle_orders.proofs.items.Items.push_pairs.Goals.{in-Some, in_default}

pub push-requires : goal.push-requires
push-requires c =
    let few = c.pair_laws.ensures.few (matrix_of c.args.conflicts.now) c.args.conflicts.now.table in
    omega (arith, few, few_pairs (matrix_of c.args.conflicts.now) c.loop-lower.self c.loop-lower.lower c.args.group c.loop-lower.invariant.pairs)

pub loop-lower-preserved : goal.loop-lower-preserved
loop-lower-preserved c =
    let m = matrix_of c.args.conflicts.now in
    let pair = rising_pair c.loop-lower.lower c.args.group c.loop-lower-test.true in
    record {
      pairs = elim c.match-pair_number.branch [
        | in-Some w ↦
            let at = rw w.in-Some.is at c.pair_number.ensures.pair in
            rw (w.self-is, w.push.ensures) (pair_pushed m c.loop-lower.self c.loop-lower.lower c.args.group c.loop-lower.invariant.pairs c.pair_laws.ensures.rising _ (rw pair at at) c.loop-lower.invariant.some)
        | in_default w ↦
            rw w.self-is (pair_skipped m c.loop-lower.self c.loop-lower.lower c.args.group c.loop-lower.invariant.pairs c.pair_laws.ensures.pair (rw w.in_default.is at c.pair_number.ensures.pair))
      ];
      some = omega arith;
      within = omega (arith, c.loop-lower-test.true);
    }

pub returns : goal.returns
returns c =
    let m = matrix_of c.args.conflicts.now in
    let last : c.loop-lower.lower ≡ c.args.group = omega (arith, c.loop-lower-test.false, c.loop-lower.invariant.within) in
    row_done c.pair_laws.ensures.pair m c.loop-lower.self c.args.group (subst (λ x. AreFreePairsBelow m (x, c.args.group) c.loop-lower.self) last c.loop-lower.invariant.pairs)
