use Rattle.std.proofs.Common.{◌≡◌, ◌+◌, ◌≤◌, length}
use Rattle.std.specs.Io.KnownBytes.{Consumes}
use Rattle.sig_base.proofs.read_limited.read_limited.Given as goal

abbrev pub invariant-turns : goal.invariant-turns
invariant-turns g l = record {
  same_most : l.most ≡ l.limit + 1;
  short : length l.bytes.items ≤ l.limit;
  longer : l._turn ≤ length l.bytes.items;
  consumed : Consumes (g.I.Read.remaining l.fn.input) (g.I.Read.remaining l.input) l.bytes.items;
}
