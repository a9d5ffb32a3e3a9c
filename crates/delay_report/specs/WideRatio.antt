-- What contracts see of a wide ratio: its fraction.
use Rattle.sig_base.specs.Fraction.{Fraction, over}
use Rattle.delay_report.specs.declared.wide_ratio.WideRatio.{WideRatio}

abbrev pub wide_fraction_of : WideRatio → Fraction
wide_fraction_of r = over r.num r.den
