-- The order of targets: what serves the greater one serves the lesser one too.
use Rattle.sig_base.specs.Fraction.{IsAtMost, IsBelow}
use Rattle.sig_base.specs.Ratio.{fraction_of}
use Rattle.sig_base.specs.declared.target.Target.{Target}
use Rattle.sig_base.specs.declared.target.Target.TheVariants.{Reach, Beat}

-- to reach a multiple asks less than to beat it, and that less than to reach a greater one
abbrev pub IsNotAbove : Target → Target → Type 0
IsNotAbove (Reach m) (Reach n) = IsAtMost (fraction_of m) (fraction_of n)
IsNotAbove (Reach m) (Beat n) = IsAtMost (fraction_of m) (fraction_of n)
IsNotAbove (Beat m) (Beat n) = IsAtMost (fraction_of m) (fraction_of n)
IsNotAbove (Beat m) (Reach n) = IsBelow (fraction_of m) (fraction_of n)
