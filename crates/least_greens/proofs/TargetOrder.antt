-- The order of targets, by cross products.
use Rattle.sig_base.specs.Fraction.{IsAtMost}
use Rattle.sig_base.proofs.Fraction.{at_most, at_most_trans, below_trans, below_at_most}
use Rattle.sig_base.specs.Ratio.{fraction_of}
use Rattle.sig_base.specs.declared.ratio.Ratio.{Ratio}
use Rattle.sig_base.specs.declared.target.Target.TheVariants.{Reach, Beat}
use Rattle.least_greens.specs.Laws.{TransitiveLaw, LesserTargetLaw}

pub lesser_target_law : LesserTargetLaw
lesser_target_law (Reach m) (Reach n) own order some served =
    at_most_trans (fraction_of m) (fraction_of n) own n.lowest.positive order served
lesser_target_law (Reach m) (Beat n) own order some served =
    at_most_trans (fraction_of m) (fraction_of n) own n.lowest.positive order (at_most (fraction_of n) own served)
lesser_target_law (Beat m) (Beat n) own order some served =
    below_trans (fraction_of m) (fraction_of n) own m.lowest.positive order served
lesser_target_law (Beat m) (Reach n) own order some served =
    below_at_most (fraction_of m) (fraction_of n) own some order served

through : (m n p : Ratio) → IsAtMost (fraction_of m) (fraction_of n) → IsAtMost (fraction_of n) (fraction_of p) → IsAtMost (fraction_of m) (fraction_of p)
through m n p = at_most_trans (fraction_of m) (fraction_of n) (fraction_of p) n.lowest.positive

pub transitive_law : TransitiveLaw
transitive_law (Reach m) (Reach n) (Reach p) first second = through m n p first second
transitive_law (Reach m) (Reach n) (Beat p) first second = through m n p first second
transitive_law (Reach m) (Beat n) (Reach p) first second = through m n p first (at_most (fraction_of n) (fraction_of p) second)
transitive_law (Reach m) (Beat n) (Beat p) first second = through m n p first second
transitive_law (Beat m) (Reach n) (Reach p) first second = lesser_target_law (Beat m) (Reach n) (fraction_of p) first p.lowest.positive second
transitive_law (Beat m) (Reach n) (Beat p) first second = through m n p (at_most (fraction_of m) (fraction_of n) first) second
transitive_law (Beat m) (Beat n) (Reach p) first second = lesser_target_law (Beat m) (Beat n) (fraction_of p) first p.lowest.positive second
transitive_law (Beat m) (Beat n) (Beat p) first second = through m n p first second
