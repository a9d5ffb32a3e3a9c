use Rattle.std.proofs.Common.{◌≡◌, ◌∙◌, arith, inl, inr, refl, pos, get_or, length-set, to_z, of_z}
use Rattle.std.proofs.lemmas.Int.{ints}
use mir.Syntax.{w16}
use Rattle.difference_system.specs.Spokes.{IsRootSum}
use Rattle.difference_system.proofs.Rows.{cells_next, small_kept, weight_small}
use Rattle.difference_system.proofs.Spokes.{way_sum}
use Rattle.difference_system.proofs.sums.root.root_row.Goals as goal

pub loop-to-preserved : goal.loop-to-preserved
loop-to-preserved c =
    let w = c.requires.weights.home c.args.from c.requires.from in
    let v = c.requires.weights.out c.loop-to.to c.loop-to-test.true in
    let home = small_kept (get_or c.args.spokes.now.home c.args.from (pos 0)) (weight_small _ w) in
    let out = small_kept (get_or c.args.spokes.now.out c.loop-to.to (pos 0)) (weight_small _ v) in
    let sum = way_sum c.args.spokes.now c.args.from c.loop-to.to _ c.way.result refl (rw (home, out) at c.way.ensures) in
    let new : to_z w16 (of_z w16 c.way.result) ≡ c.way.result = elim sum [
      | inl own ↦ omega (arith, ints, own.1)
      | inr apart ↦ omega (arith, ints, apart.1, w.least, w.greatest, v.least, v.greatest)
    ] in
    record {
      before = rw new (cells_next (IsRootSum c.args.spokes.now c.args.from) c.loop-to.row c.loop-to.to c.way.result
          (omega (arith, c.loop-to.invariant.full, c.requires.few, c.loop-to-test.true)) sum c.loop-to.invariant.before);
      full = length-set c.loop-to.row c.loop-to.to _ ∙ c.loop-to.invariant.full;
    }
