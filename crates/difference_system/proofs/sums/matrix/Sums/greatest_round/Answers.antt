use Rattle.std.proofs.Common.{◌≡◌, inl, inr, arith, to_z, of_z}
use Rattle.std.proofs.lemmas.Int.{ints}
use mir.Syntax.{w16}
use Rattle.difference_system.specs.Sums.{sum_of}
use Rattle.difference_system.proofs.IsModest.{modest_small}
use Rattle.difference_system.proofs.Rows.{sum_kept, weight_small}
use Rattle.difference_system.proofs.sums.matrix.Sums.greatest_round.Goals as goal

pub returns : goal.returns
returns c =
    let down = c.requires.sums c.args.edges.to c.args.edges.from c.requires.edges.to c.requires.edges.from in
    let up = c.requires.sums c.args.edges.from c.args.edges.to c.requires.edges.from c.requires.edges.to in
    let both = sum_kept c.args.edges.forth c.args.edges.back (weight_small _ c.requires.edges.forth) (weight_small _ c.requires.edges.back) in
    let forth = sum_kept c.args.edges.forth (sum_of c.args.self.now c.args.edges.to c.args.edges.from) (weight_small _ c.requires.edges.forth) (modest_small _ down) in
    let back = sum_kept c.args.edges.back (sum_of c.args.self.now c.args.edges.from c.args.edges.to) (weight_small _ c.requires.edges.back) (modest_small _ up) in
    let is = rw (both, forth, back) at c.greatest.ensures in
    let kept : to_z w16 (of_z w16 c.greatest.result) ≡ c.greatest.result = elim is.one [
      | inl e ↦ omega (arith, ints, e, c.requires.edges.forth.least, c.requires.edges.forth.greatest, c.requires.edges.back.least, c.requires.edges.back.greatest)
      | inr way ↦ elim way [
        | inl e ↦ omega (arith, ints, e, c.requires.edges.forth.least, c.requires.edges.forth.greatest, down.least, down.greatest)
        | inr e ↦ omega (arith, ints, e, c.requires.edges.back.least, c.requires.edges.back.greatest, up.least, up.greatest)
      ]
    ] in
    rw kept is
