use Rattle.std.proofs.Common.{arith, length-append, length-take}
use Rattle.std.proofs.KnownBytes.{Consumes-trans}
use Rattle.sig_base.proofs.read_limited.read_limited.Goals as goal

pub returns-then-len-count-clause-most : goal.returns-then-len-count-clause-most
returns-then-len-count-clause-most g c = (
  _,
  Consumes-trans _ _ _ _ _ c.turns.invariant.consumed c.in-Ok.ensures.bytes.0,
  simp (length-append, length-take) (omega arith),
)

pub returns-then-is_err-clause-most : goal.returns-then-is_err-clause-most
returns-then-is_err-clause-most g c = (
  _,
  Consumes-trans _ _ _ _ _ c.turns.invariant.consumed c.in-Ok.ensures.bytes.0,
  simp (length-append, length-take) (omega (arith, length-take c.min-room.result c.turns.buffer)),
)
