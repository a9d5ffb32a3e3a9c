use Rattle.aspect_player.proofs.Written.{HasWritten}
use Rattle.plan_change.specs.Changer.{junction_in, first_in}
use Rattle.plan_change.specs.Planned.{requests_planned, changed_text}
use Rattle.plan_change.proofs.Playing.{IsPlaying}
use Rattle.plan_change.proofs.writing.write_changes.Given as goal

abbrev pub invariant-loop-second : goal.invariant-loop-second
invariant-loop-second g l = record {
  changer : IsPlaying l.fn.changer l.changes l._second l.made l.changer;
  written : HasWritten (g.K.Sink.written l.fn.sink) (g.K.Sink.written l.sink)
      (changed_text (junction_in l.fn.changer) (first_in l.fn.changer) (requests_planned l.changes) l._second) (g.K.Sink.faults l.fn.sink) (g.K.Sink.faults l.sink);
}
