-- What contracts see of a ratio: its fraction.
use Rattle.sig_base.specs.Fraction.{Fraction, over}
use Rattle.sig_base.specs.declared.ratio.Ratio.{Ratio}

abbrev pub fraction_of : Ratio → Fraction
fraction_of r = over r.num r.den
