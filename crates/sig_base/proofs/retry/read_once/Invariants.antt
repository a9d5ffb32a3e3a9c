use Rattle.std.proofs.Common.{◌≡◌, length}
use Rattle.std.specs.Io.KnownBytes.{Keeps}
use Rattle.sig_base.proofs.retry.read_once.Given as goal

abbrev pub invariant-loop-try : goal.invariant-loop-try
invariant-loop-try g l = record {
  same_length : length l.buffer ≡ length l.fn.buffer;
  kept : Keeps (g.I.Read.remaining l.fn.input) (g.I.Read.remaining l.input);
}
