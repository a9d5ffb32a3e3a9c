use Rattle.command_words.proofs.Slash.{no_slash}
use Rattle.std.proofs.Common.{lit<}
use Rattle.command_words.proofs.multiple.read_multiple.Goals as goal

pub returns-in_default-clause-value : goal.returns-in_default-clause-value
returns-in_default-clause-value c = no_slash c.args.word.now (c.in_default.ensures.byte (lit< tt) (λ w o h. h))
