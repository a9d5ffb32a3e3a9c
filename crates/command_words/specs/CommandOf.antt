-- What contracts see of a command.
use Rattle.sig_base.specs.Ratio.{fraction_of}
use Rattle.command_words.specs.Words.{CommandView}
use Rattle.command_words.specs.Words as view
use Rattle.command_words.specs.declared.command.Command.{Command}
use Rattle.command_words.specs.declared.command.Command.TheVariants.{Capacity, Cycle, Check, Play, Sample}

abbrev pub command_view : Command → CommandView
command_view (Capacity junction certificate least budget) = view.Capacity junction.now certificate.now (fraction_of least) budget
command_view (Cycle junction certificate least budget) = view.Cycle junction.now certificate.now (fraction_of least) budget
command_view (Check junction certificate) = view.Check junction.now certificate.now
command_view (Play junction certificate seconds) = view.Play junction.now certificate.now seconds
command_view (Sample number junction certificate) = view.Sample number junction.now certificate.now
