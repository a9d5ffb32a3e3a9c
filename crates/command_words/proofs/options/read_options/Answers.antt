use Rattle.std.proofs.Common.{arith}
use Rattle.command_words.proofs.NoForm.{no_options}
use Rattle.command_words.proofs.options.read_options.Goals as goal

pub returns-in_default-clause-value : goal.returns-in_default-clause-value
returns-in_default-clause-value c = no_options c.args.words.now (omega arith) (omega arith) (omega arith)

pub returns-in_default-2-clause-value : goal.returns-in_default-2-clause-value
returns-in_default-2-clause-value c = no_options c.args.words.now (omega arith) (omega arith) (omega arith)

pub returns-in_default-3-clause-value : goal.returns-in_default-3-clause-value
returns-in_default-3-clause-value c = no_options c.args.words.now (omega arith) (omega arith) (omega arith)
