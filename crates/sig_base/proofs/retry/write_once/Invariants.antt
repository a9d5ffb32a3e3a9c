use Rattle.std.specs.Io.KnownBytes.{Keeps}
use Rattle.sig_base.proofs.retry.write_once.Given as goal

abbrev pub invariant-loop-try : goal.invariant-loop-try
invariant-loop-try g l = Keeps (g.O.Write.contents l.fn.output) (g.O.Write.contents l.output)
