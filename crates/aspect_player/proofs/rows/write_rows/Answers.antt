use Rattle.std.proofs.Common.{ℕ, List, Ok, Err, ◌≡◌, ◌+◌, refl, ap, ◌∙◌, subst}
use Rattle.junction_model.specs.Junction.{JunctionView}
use Rattle.aspect_player.specs.Aspect.{aspect_at}
use Rattle.aspect_player.specs.Lines.{header_line, own_line}
use Rattle.aspect_player.specs.Player.{junction_in, plan_in, second_of}
use Rattle.aspect_player.specs.Written.{Writes}
use Rattle.aspect_player.specs.declared.player.Player.{Player}
use Rattle.aspect_player.proofs.Playing.{IsPlaying}
use Rattle.aspect_player.proofs.Written.{begun, one_more, failed_header, failed_row, ends_in_header, ends_before_row, ends_in_row}
use Rattle.aspect_player.proofs.rows.write_rows.Goals as goal

-- the line that a player pushes
line_of : (first player : Player) (k : ℕ) → IsPlaying first k player →
    own_line (junction_in player) (plan_in player) (second_of player) ≡ own_line (junction_in first) (plan_in first) k
line_of first player k is =
    ap (λ j. own_line j (plan_in player) (second_of player)) is.junction ∙ ap (λ p. own_line (junction_in first) p (second_of player)) is.plan
    ∙ ap (λ n. own_line (junction_in first) (plan_in first) n) is.second

pub returns-in-Err-clause-written : goal.returns-in-Err-clause-written
returns-in-Err-clause-written g c =
    let player = c.args.player.now in
    let same : c.junction.result.now ≡ junction_in player = c.junction.ensures ∙ c.plan.ensures.junction in
    let P : JunctionView → Type 0 = λ j. Writes {T = Unit {0}} (g.K.Sink.written c.args.sink.now) (g.K.Sink.written c.push_header.new.sink) (header_line j)
    (g.K.Sink.faults c.args.sink.now) (g.K.Sink.faults c.push_header.new.sink) (Err c.in-Err.fault) in
    failed_header (junction_in player) (aspect_at (plan_in player)) c.args.seconds _ _ _ _ c.in-Err.fault (subst P same c.in-Err.ensures)

pub loop-second-init : goal.loop-second-init
loop-second-init g c =
    let player = c.args.player.now in
    let same : c.junction.result.now ≡ junction_in player = c.junction.ensures ∙ c.plan.ensures.junction in
    let P : JunctionView → Type 0 = λ j. Writes {T = Unit {0}} (g.K.Sink.written c.args.sink.now) (g.K.Sink.written c.push_header.new.sink) (header_line j)
    (g.K.Sink.faults c.args.sink.now) (g.K.Sink.faults c.push_header.new.sink) (Ok tt) in
    record {
      player = record { second = c.requires.start; junction = refl; plan = refl };
      written = begun (junction_in player) (aspect_at (plan_in player)) _ _ _ _ (subst P same c.in-Ok.ensures);
    }

pub returns-in-Err-push_second-clause-written : goal.returns-in-Err-push_second-clause-written
returns-in-Err-push_second-clause-written g c =
    let player = c.args.player.now in
    let k = c.loop-second._second in
    let line = line_of player c.loop-second.player k c.loop-second.invariant.player in
    let P : List ℕ → Type 0 = λ l. Writes {T = Unit {0}} (g.K.Sink.written c.loop-second.sink) (g.K.Sink.written c.push_second.new.sink) l
    (g.K.Sink.faults c.loop-second.sink) (g.K.Sink.faults c.push_second.new.sink) (Err c.in-Err-push_second.fault) in
    failed_row (junction_in player) (aspect_at (plan_in player)) k c.args.seconds _ _ _ _ _ _ c.in-Err-push_second.fault c.loop-second-test.true
    c.loop-second.invariant.written (subst P line c.in-Err-push_second.ensures.written)

pub loop-second-preserved : goal.loop-second-preserved
loop-second-preserved g c =
    let player = c.args.player.now in
    let k = c.loop-second._second in
    let is = c.loop-second.invariant.player in
    let line = line_of player c.loop-second.player k is in
    let P : List ℕ → Type 0 = λ l. Writes {T = Unit {0}} (g.K.Sink.written c.loop-second.sink) (g.K.Sink.written c.push_second.new.sink) l
    (g.K.Sink.faults c.loop-second.sink) (g.K.Sink.faults c.push_second.new.sink) (Ok tt) in
    let step = c.in-Ok-push_second.ensures in
    record {
      player = record { second = step.on ∙ ap (λ n. n + 1) is.second; junction = step.junction ∙ is.junction; plan = step.plan ∙ is.plan };
      written = one_more (junction_in player) (aspect_at (plan_in player)) k _ _ _ _ _ _ c.loop-second.invariant.written (subst P line step.written);
    }

pub returns-in-Err-clause-own_row : goal.returns-in-Err-clause-own_row
returns-in-Err-clause-own_row g c =
    let player = c.args.player.now in
    let same : c.junction.result.now ≡ junction_in player = c.junction.ensures ∙ c.plan.ensures.junction in
    ends_in_header (junction_in player) c.junction.result.now (aspect_at (plan_in player)) _ _ _ _ _ c.in-Err.fault same c.requires.start c.in-Err.ensures

pub returns-in-Err-push_second-clause-own_row : goal.returns-in-Err-push_second-clause-own_row
returns-in-Err-push_second-clause-own_row g c =
    let player = c.args.player.now in
    let k = c.loop-second._second in
    let is = c.loop-second.invariant.player in
    let stays : second_of c.push_second.new.player ≡ k = c.in-Err-push_second.ensures.stays ∙ is.second in
    ends_in_row (junction_in player) (aspect_at (plan_in player)) k _ stays _ _ _ _ _ _ _ (line_of player c.loop-second.player k is)
    c.loop-second.invariant.written c.in-Err-push_second.fault c.in-Err-push_second.ensures.written

pub returns-clause-own_row : goal.returns-clause-own_row
returns-clause-own_row g c =
    let player = c.args.player.now in
    ends_before_row (junction_in player) (aspect_at (plan_in player)) c.loop-second._second _ c.loop-second.invariant.player.second _ _ _ _ c.loop-second.invariant.written
