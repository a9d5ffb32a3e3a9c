use Rattle.std.proofs.Common.{ℕ, List, Ok, Err, ◌≡◌, ◌<◌, ◌+◌, take, refl, sym, ap, ◌∙◌, subst, arith}
use Rattle.std.specs.Prelude.{All}
use Rattle.std.proofs.lemmas.List.Elements.{All-weaker}
use Rattle.junction_model.specs.Junction.{JunctionView}
use Rattle.junction_model.specs.Rules.{IsJunction}
use Rattle.plan_model.specs.Fits.{Fits}
use Rattle.plan_model.specs.SignalPlan.{PlanView}
use Rattle.aspect_player.specs.Lines.{header_line, row_line, display_line}
use Rattle.aspect_player.specs.Timetable.{Display}
use Rattle.aspect_player.specs.Written.{Writes}
use Rattle.aspect_player.proofs.Written.{begun, one_more, failed_header, failed_row, stopped_after, ends_in_header, ends_before_row, ends_in_row, ends_behind_row}
use Rattle.plan_change.specs.declared.change_list.PlannedChange.{PlannedChange}
use Rattle.plan_change.specs.declared.changer.Changer.{Changer}
use Rattle.plan_change.specs.Changer.{junction_in, first_in, requests_in, second_in, line_in}
use Rattle.plan_change.specs.Changes.{schedule_display, change_display}
use Rattle.plan_change.specs.Planned.{requests_planned, AreRising, ArePlannedFor, IsDueFrom, AreMade}
use Rattle.plan_change.specs.Schedule.{RequestView, schedule_of}
use Rattle.plan_change.proofs.Due.{row_due, all_made}
use Rattle.plan_change.proofs.Playing.{IsPlaying}
use Rattle.plan_change.proofs.writing.write_changes.Goals as goal

-- the line of a schedule
abbrev told_line : JunctionView → PlanView → List RequestView → ℕ → List ℕ
told_line junction first requests t = display_line junction (schedule_display first (schedule_of junction first requests)) t

-- the line that a changer pushes
line_of : (first changer : Changer) (changes : List PlannedChange) (k made : ℕ) → IsJunction (junction_in first) →
    Fits (junction_in first) (first_in first) → ArePlannedFor (junction_in first) changes → AreRising changes →
    IsPlaying first changes k made changer →
    line_in changer ≡ display_line (junction_in first) (change_display (junction_in first) (first_in first) (requests_planned changes)) k
line_of first changer changes k made rules fits fit rising is =
    ap (λ j. told_line j (first_in changer) (requests_in changer) (second_in changer)) is.junction
    ∙ ap (λ p. told_line (junction_in first) p (requests_in changer) (second_in changer)) is.plan
    ∙ ap (λ rs. told_line (junction_in first) (first_in first) rs (second_in changer)) is.requests
    ∙ ap (λ t. told_line (junction_in first) (first_in first) (requests_planned (take made changes)) t) is.second
    ∙ ap (row_line k) (row_due (junction_in first) (first_in first) changes made k rules fits fit rising is.due)

pub returns-in-Err-clause-written : goal.returns-in-Err-clause-written
returns-in-Err-clause-written g c =
    let changer = c.args.changer.now in
    let display : Display = change_display (junction_in changer) (first_in changer) (requests_planned c.args.changes.now) in
    let P : JunctionView → Type 0 = λ j. Writes {T = Unit {0}} (g.K.Sink.written c.args.sink.now) (g.K.Sink.written c.push_header.new.sink) (header_line j)
    (g.K.Sink.faults c.args.sink.now) (g.K.Sink.faults c.push_header.new.sink) (Err c.in-Err.fault) in
    failed_header (junction_in changer) display c.args.seconds _ _ _ _ c.in-Err.fault (subst P c.junction-2.ensures c.in-Err.ensures)

pub loop-second-init : goal.loop-second-init
loop-second-init g c =
    let changer = c.args.changer.now in
    let display : Display = change_display (junction_in changer) (first_in changer) (requests_planned c.args.changes.now) in
    let P : JunctionView → Type 0 = λ j. Writes {T = Unit {0}} (g.K.Sink.written c.args.sink.now) (g.K.Sink.written c.push_header.new.sink) (header_line j)
    (g.K.Sink.faults c.args.sink.now) (g.K.Sink.faults c.push_header.new.sink) (Ok tt) in
    record {
      changer = record {
        second = c.requires.start;
        junction = refl;
        plan = refl;
        requests = c.requires.new;
        due = record { few = omega arith; past = λ k change h is. absurd (omega arith); coming = λ k change h is. omega arith };
      };
      written = begun (junction_in changer) display _ _ _ _ (subst P c.junction-2.ensures c.in-Ok.ensures);
    }

pub returns-in-Err-push_second-clause-written : goal.returns-in-Err-push_second-clause-written
returns-in-Err-push_second-clause-written g c =
    let changer = c.args.changer.now in
    let display : Display = change_display (junction_in changer) (first_in changer) (requests_planned c.args.changes.now) in
    let rules : IsJunction (junction_in changer) = subst IsJunction c.junction.ensures c.rules.ensures in
    let rising : AreRising c.args.changes.now = c.items-planned.ensures.rising in
    let k = c.loop-second._second in
    let line = line_of changer c.loop-second.changer c.args.changes.now k c.loop-second.made rules changer.agrees.fits c.requires.fit rising c.loop-second.invariant.changer in
    let P : List ℕ → Type 0 = λ l. Writes {T = Unit {0}} (g.K.Sink.written c.loop-second.sink) (g.K.Sink.written c.push_second.new.sink) l
    (g.K.Sink.faults c.loop-second.sink) (g.K.Sink.faults c.push_second.new.sink) (Err c.in-Err-push_second.fault) in
    failed_row (junction_in changer) display k c.args.seconds _ _ _ _ _ _ c.in-Err-push_second.fault c.loop-second-test.true
    c.loop-second.invariant.written (subst P line c.in-Err-push_second.ensures)

pub returns-in-Err-make_due-clause-written : goal.returns-in-Err-make_due-clause-written
returns-in-Err-make_due-clause-written g c =
    let changer = c.args.changer.now in
    let display : Display = change_display (junction_in changer) (first_in changer) (requests_planned c.args.changes.now) in
    let rules : IsJunction (junction_in changer) = subst IsJunction c.junction.ensures c.rules.ensures in
    let rising : AreRising c.args.changes.now = c.items-planned.ensures.rising in
    let k = c.loop-second._second in
    let line = line_of changer c.loop-second.changer c.args.changes.now k c.loop-second.made rules changer.agrees.fits c.requires.fit rising c.loop-second.invariant.changer in
    let P : List ℕ → Type 0 = λ l. Writes {T = Unit {0}} (g.K.Sink.written c.loop-second.sink) (g.K.Sink.written c.push_second.new.sink) l
    (g.K.Sink.faults c.loop-second.sink) (g.K.Sink.faults c.push_second.new.sink) (Ok tt) in
    stopped_after (junction_in changer) display (k + 1) c.args.seconds _ _ _ _ (omega (arith, c.loop-second-test.true))
    (one_more (junction_in changer) display k _ _ _ _ _ _ c.loop-second.invariant.written (subst P line c.in-Ok-push_second.ensures))

pub loop-second-preserved : goal.loop-second-preserved
loop-second-preserved g c =
    let changer = c.args.changer.now in
    let changes : List PlannedChange = c.args.changes.now in
    let display : Display = change_display (junction_in changer) (first_in changer) (requests_planned changes) in
    let rules : IsJunction (junction_in changer) = subst IsJunction c.junction.ensures c.rules.ensures in
    let rising : AreRising changes = c.items-planned.ensures.rising in
    let k = c.loop-second._second in
    let is = c.loop-second.invariant.changer in
    let count = c.in-Ok-make_due.count in
    let line = line_of changer c.loop-second.changer changes k c.loop-second.made rules changer.agrees.fits c.requires.fit rising is in
    let P : List ℕ → Type 0 = λ l. Writes {T = Unit {0}} (g.K.Sink.written c.loop-second.sink) (g.K.Sink.written c.push_second.new.sink) l
    (g.K.Sink.faults c.loop-second.sink) (g.K.Sink.faults c.push_second.new.sink) (Ok tt) in
    let due : IsDueFrom changes count (second_in c.loop-second.changer + 1) =
    subst (λ l. IsDueFrom l count (second_in c.loop-second.changer + 1)) c.items-planned.ensures.value c.in-Ok-make_due.ensures.due in
    record {
      changer = record {
        second = c.tick.ensures.second ∙ ap (λ n. n + 1) (c.make_due.ensures.second ∙ is.second);
        junction = c.tick.ensures.junction ∙ c.make_due.ensures.junction ∙ is.junction;
        plan = c.tick.ensures.first ∙ c.make_due.ensures.first ∙ is.plan;
        requests = c.tick.ensures.requests ∙ c.in-Ok-make_due.ensures.made ∙ ap (λ l. requests_planned (take count l)) c.items-planned.ensures.value;
        due = subst (λ n. IsDueFrom changes count (n + 1)) is.second due;
      };
      written = one_more (junction_in changer) display k _ _ _ _ _ _ c.loop-second.invariant.written (subst P line c.in-Ok-push_second.ensures);
    }

pub returns-clause-requests : goal.returns-clause-requests
returns-clause-requests g c =
    let changes : List PlannedChange = c.args.changes.now in
    let k = c.loop-second._second in
    let is = c.loop-second.invariant.changer in
    let within : All (λ (change : PlannedChange). change.at < k) changes =
    All-weaker (λ (change : PlannedChange). change.at < c.args.seconds) (λ (change : PlannedChange). change.at < k) (λ change h. omega (arith, c.loop-second-test.false)) changes c.requires.within in
    is.requests ∙ ap requests_planned (all_made changes c.loop-second.made k within is.due)

playing_made : (first changer : Changer) (changes : List PlannedChange) (seconds made : ℕ) → IsPlaying first changes seconds made changer →
    AreMade changes (requests_in changer) (second_in changer)
playing_made first changer changes seconds made is =
    record { number = made; due = subst (IsDueFrom changes made) (sym is.second) is.due; made = is.requests }

pub returns-in-Err-clause-made : goal.returns-in-Err-clause-made
returns-in-Err-clause-made g c = record {
  number = 0;
  due = record { few = omega arith; past = λ k change h is. absurd (omega arith); coming = λ k change h is. omega (arith, c.requires.start) };
  made = c.requires.new;
}

pub returns-in-Err-push_second-clause-made : goal.returns-in-Err-push_second-clause-made
returns-in-Err-push_second-clause-made g c =
    playing_made c.args.changer.now c.loop-second.changer c.args.changes.now c.loop-second._second c.loop-second.made c.loop-second.invariant.changer

pub returns-in-Err-make_due-clause-made : goal.returns-in-Err-make_due-clause-made
returns-in-Err-make_due-clause-made g c =
    let is = c.loop-second.invariant.changer in
    record {
      number = c.loop-second.made;
      due = subst (IsDueFrom c.args.changes.now c.loop-second.made) (sym (c.make_due.ensures.second ∙ is.second)) is.due;
      made = c.in-Err-make_due.ensures.kept ∙ is.requests;
    }

pub returns-clause-made : goal.returns-clause-made
returns-clause-made g c =
    playing_made c.args.changer.now c.loop-second.changer c.args.changes.now c.loop-second._second c.loop-second.made c.loop-second.invariant.changer

pub returns-in-Err-clause-own_row : goal.returns-in-Err-clause-own_row
returns-in-Err-clause-own_row g c =
    let changer = c.args.changer.now in
    let display : Display = change_display (junction_in changer) (first_in changer) (requests_planned c.args.changes.now) in
    ends_in_header (junction_in changer) c.junction-2.result.now display _ _ _ _ _ c.in-Err.fault c.junction-2.ensures c.requires.start c.in-Err.ensures

pub returns-in-Err-push_second-clause-own_row : goal.returns-in-Err-push_second-clause-own_row
returns-in-Err-push_second-clause-own_row g c =
    let changer = c.args.changer.now in
    let display : Display = change_display (junction_in changer) (first_in changer) (requests_planned c.args.changes.now) in
    let rules : IsJunction (junction_in changer) = subst IsJunction c.junction.ensures c.rules.ensures in
    let k = c.loop-second._second in
    let is = c.loop-second.invariant.changer in
    let line = line_of changer c.loop-second.changer c.args.changes.now k c.loop-second.made rules changer.agrees.fits c.requires.fit c.items-planned.ensures.rising is in
    ends_in_row (junction_in changer) display k _ is.second _ _ _ _ _ _ _ line c.loop-second.invariant.written c.in-Err-push_second.fault c.in-Err-push_second.ensures

pub returns-in-Err-make_due-clause-own_row : goal.returns-in-Err-make_due-clause-own_row
returns-in-Err-make_due-clause-own_row g c =
    let changer = c.args.changer.now in
    let display : Display = change_display (junction_in changer) (first_in changer) (requests_planned c.args.changes.now) in
    let rules : IsJunction (junction_in changer) = subst IsJunction c.junction.ensures c.rules.ensures in
    let k = c.loop-second._second in
    let is = c.loop-second.invariant.changer in
    let line = line_of changer c.loop-second.changer c.args.changes.now k c.loop-second.made rules changer.agrees.fits c.requires.fit c.items-planned.ensures.rising is in
    let stays : second_in c.make_due.new.changer ≡ k = c.make_due.ensures.second ∙ is.second in
    ends_behind_row (junction_in changer) display k _ stays _ _ _ _ _ _ _ line c.loop-second.invariant.written c.in-Ok-push_second.ensures

pub returns-clause-own_row : goal.returns-clause-own_row
returns-clause-own_row g c =
    let changer = c.args.changer.now in
    let display : Display = change_display (junction_in changer) (first_in changer) (requests_planned c.args.changes.now) in
    ends_before_row (junction_in changer) display c.loop-second._second _ c.loop-second.invariant.changer.second _ _ _ _ c.loop-second.invariant.written
