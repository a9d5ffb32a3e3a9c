use Rattle.aspect_player.specs.Lines.{played_text}
use Rattle.aspect_player.specs.Player.{junction_in, plan_in}
use Rattle.aspect_player.proofs.Written.{HasWritten}
use Rattle.aspect_player.proofs.Playing.{IsPlaying}
use Rattle.aspect_player.proofs.rows.write_rows.Given as goal

abbrev pub invariant-loop-second : goal.invariant-loop-second
invariant-loop-second g l = record {
  player : IsPlaying l.fn.player l._second l.player;
  written : HasWritten (g.K.Sink.written l.fn.sink) (g.K.Sink.written l.sink)
      (played_text (junction_in l.fn.player) (plan_in l.fn.player) l._second) (g.K.Sink.faults l.fn.sink) (g.K.Sink.faults l.sink);
}
