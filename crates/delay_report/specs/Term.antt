-- What contracts see of a term of a delay: its fraction.
use Rattle.sig_base.specs.Fraction.{Fraction, over}
use Rattle.delay_report.specs.declared.term.Term.{Term}

abbrev pub fraction_of_term : Term → Fraction
fraction_of_term t = over t.num t.den
