use Rattle.std.proofs.Common.{◌≡◌, sym, ◌∙◌, arith, rules, ◌+ℤ◌, to_z, of_z, w64}
use Rattle.std.proofs.lemmas.Int.{ints}
use Rattle.conflict_matrix.specs.Conflicts.{matrix_of}
use Rattle.constraint_cycles.specs.Order.{marks_of}
use Rattle.constraint_cycles.proofs.EdgeTable.{alone_law}
use Rattle.constraint_cycles.proofs.Sums.{summed_first, summed_step, summed_last}
use Rattle.constraint_cycles.proofs.closing.walk_sum.Goals as goal

pub loop-place-init : goal.loop-place-init
loop-place-init c = record {
  within = search rules;
  summed = summed_first _ _ _ (rw c.groups-groups.ensures.value c.groups-groups.ensures.walk) c.from-first.ensures;
}

pub loop-place-preserved : goal.loop-place-preserved
loop-place-preserved c =
    let sum : to_z w64 (of_z w64 (to_z w64 c.loop-place.sum-bits +ℤ to_z w64 (of_z w64 c.in_ok-step.step))) ≡ to_z w64 c.loop-place.sum-bits +ℤ c.in_ok-step.step =
    omega (arith, ints, c.in_ok-step.ensures.range.least, c.in_ok-step.ensures.range.greatest) in
    record {
      within = search rules;
      summed = rw sum (summed_step _ _ _ _ _ _ _ _ (omega arith) c.from-to.ensures (sym c.in_ok-step.ensures.value) c.in_ok-step.ensures.range c.loop-place.invariant.summed);
    }

pub returns-clause-value : goal.returns-clause-value
returns-clause-value c =
    let sum : to_z w64 (of_z w64 (to_z w64 c.loop-place.sum-bits +ℤ to_z w64 (of_z w64 c.in_ok-last.last))) ≡ to_z w64 c.loop-place.sum-bits +ℤ c.in_ok-last.last =
    omega (arith, ints, c.in_ok-last.ensures.range.least, c.in_ok-last.ensures.range.greatest) in
    rw (sum, ← c.groups-groups.ensures.value) (sym (summed_last _ _ _ _ _ _ _ c.loop-place-test.false (sym c.in_ok-last.ensures.value) c.loop-place.invariant.summed))

pub returns-clause-alone : goal.returns-clause-alone
returns-clause-alone c = λ one. returns-clause-value c ∙ alone_law c.pair_laws.ensures.pair c.pair_laws.ensures.number
    (matrix_of c.args.conflicts.now) (marks_of c.args.order.now) c.args.needs.now c.args.cycle c.args.walk.now c.args.conflicts.now.table one
