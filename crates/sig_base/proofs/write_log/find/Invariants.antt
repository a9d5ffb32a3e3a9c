use Rattle.std.proofs.Common.{◌≡◌, map}
use Rattle.std.specs.Ordering.{nat_cmp}
use Rattle.std.specs.Cmp.Lexicographic.{slice_cmp}
use Rattle.std.specs.FinMap.{find}
use Rattle.std.specs.VecDeque.Iter.{deque_iter_rest}
use Rattle.sig_base.specs.Shelf.{held}
use Rattle.sig_base.specs.WriteLog.{replayed, entry_of}
use Rattle.sig_base.proofs.write_log.find.Given as goal

abbrev pub invariant-loop-held_name : goal.invariant-loop-held_name
invariant-loop-held_name l =
    held (replayed l.log.items) l.name ≡ find (slice_cmp nat_cmp) l.name (map entry_of (deque_iter_rest l.held_name-iterator))
