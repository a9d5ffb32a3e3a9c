-- What contracts see of the options of a search.
use Rattle.sig_base.specs.Ratio.{fraction_of}
use Rattle.command_words.specs.Options.{OptionsView}
use Rattle.command_words.specs.declared.options.Options.{Options}

abbrev pub options_view : Options → OptionsView
options_view o = record { least = fraction_of o.least; budget = o.budget }
