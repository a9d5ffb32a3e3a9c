use Rattle.std.proofs.Common.{◌≡◌, ◌<◌, ◌∙◌, arith, inl, inr, pos, ◌+ℤ◌, get_or, length-set, to_z, of_z}
use Rattle.std.proofs.lemmas.Int.{ints}
use mir.Syntax.{w16}
use Rattle.difference_system.specs.Sums.{cell_of, IsGreatest}
use Rattle.difference_system.proofs.Rows.{cells_next, small_kept, sum_wraps}
use Rattle.difference_system.proofs.sums.matrix.greatest_row.Goals as goal

pub loop-to-preserved : goal.loop-to-preserved
loop-to-preserved c =
    let by_forth = small_kept c.args.by_forth c.requires.by_forth in
    let by_back = small_kept c.args.by_back c.requires.by_back in
    record {
      before = rw (by_forth, by_back) (cells_next
          (λ k cell. k < c.args.groups → IsGreatest (cell_of c.args.row.now k) (c.args.by_forth +ℤ cell_of c.args.forth.now k) (c.args.by_back +ℤ cell_of c.args.back.now k) cell)
          c.loop-to.joined c.loop-to.to (to_z w16 (of_z w16 c.greatest.result)) (omega (arith, c.loop-to.invariant.full, c.loop-to-test.true)) here (rw (by_forth, by_back) at c.loop-to.invariant.before));
      full = length-set c.loop-to.joined c.loop-to.to _ ∙ c.loop-to.invariant.full;
    }
  where
    here : c.loop-to.to < c.args.groups →
        IsGreatest (cell_of c.args.row.now c.loop-to.to) (c.args.by_forth +ℤ cell_of c.args.forth.now c.loop-to.to) (c.args.by_back +ℤ cell_of c.args.back.now c.loop-to.to) (to_z w16 (of_z w16 c.greatest.result))
    here below =
        let own = c.requires.row c.loop-to.to below in
        let forth = c.requires.forth c.loop-to.to below in
        let back = c.requires.back c.loop-to.to below in
        let same = small_kept (get_or c.args.row.now c.loop-to.to (pos 0)) own in
        let there = sum_wraps c.args.by_forth (get_or c.args.forth.now c.loop-to.to (pos 0)) c.requires.by_forth forth in
        let again = sum_wraps c.args.by_back (get_or c.args.back.now c.loop-to.to (pos 0)) c.requires.by_back back in
        let is = rw (same, there, again) at c.greatest.ensures in
        let new : to_z w16 (of_z w16 c.greatest.result) ≡ c.greatest.result = elim is.one [
          | inl e ↦ omega (arith, ints, e, own.least, own.greatest)
          | inr way ↦ elim way [
            | inl e ↦ omega (arith, ints, e, c.requires.by_forth.least, c.requires.by_forth.greatest, forth.least, forth.greatest)
            | inr e ↦ omega (arith, ints, e, c.requires.by_back.least, c.requires.by_back.greatest, back.least, back.greatest)
          ]
        ] in
        rw new is
