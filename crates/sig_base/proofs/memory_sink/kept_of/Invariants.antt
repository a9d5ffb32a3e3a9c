use Rattle.std.proofs.Common.{◌≡◌}
use Rattle.std.specs.VecDeque.Iter.{deque_iter_rest}
use Rattle.sig_base.specs.MemorySink.{kept_of}
use Rattle.sig_base.proofs.memory_sink.kept_of.Given as goal

abbrev pub invariant-loop-failing_number : goal.invariant-loop-failing_number
invariant-loop-failing_number l =
    kept_of l.failing.items l.number ≡ kept_of (deque_iter_rest l.failing_number-iterator) l.number
