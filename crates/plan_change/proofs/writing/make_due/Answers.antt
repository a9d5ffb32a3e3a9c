use Rattle.std.proofs.Common.{◌≡◌, ◌<◌, Some, slice_get, length, arith, ap, sym, ◌∙◌, refl}
use Rattle.std.proofs.lemmas.Option.{slice_get_within, slice_get_read, get_or_from_slice_get}
use Rattle.plan_change.specs.Changer.{second_in}
use Rattle.plan_change.specs.declared.change_list.PlannedChange.{PlannedChange}
use Rattle.plan_change.proofs.Due.{due_more, due_same, same_change}
use Rattle.plan_change.proofs.writing.make_due.Goals.{else-made-changes-via-then-made-changes+else-from-second, else-made-changes-via-else-made-changes}
use Rattle.plan_change.proofs.writing.make_due.Goals as goal

pub returns-in_ok-change-clause-due : goal.returns-in_ok-change-clause-due
returns-in_ok-change-clause-due c =
    let own = c.index-changes-made.result in
    let there : slice_get c.args.changes.now c.args.made ≡ Some own = slice_get_read _ _ c.args.made own refl c.if-made-changes.true c.index-changes-made.is in
    let at : c.from.result ≡ own.at =
    c.from.ensures ∙ ap (λ (x : PlannedChange). x.at) (get_or_from_slice_get c.args.changes.now c.args.made own own there) in
    let second : c.second.result ≡ second_in c.args.changer.now = c.second.ensures in
    due_more c.args.changes.now c.args.made (second_in c.args.changer.now) own c.requires.rising c.requires.due there
    (omega (arith, at, second, c.if-from-second.true))

pub returns-else-made-changes-clause-due : goal.returns-else-made-changes-clause-due
returns-else-made-changes-clause-due c =
    due_same c.args.changes.now c.args.made (second_in c.args.changer.now) c.requires.rising c.requires.due (λ own is now. elim c.else-made-changes.branch [
      | else-made-changes-via-then-made-changes+else-from-second w ↦
          let found = w.index-changes-made.result in
          let there : slice_get c.args.changes.now c.args.made ≡ Some found = slice_get_read _ _ c.args.made found refl w.if-made-changes.true w.index-changes-made.is in
          let same : own.at ≡ found.at = same_change c.args.changes.now c.args.made own found is there in
          let at : w.from.result ≡ found.at =
          w.from.ensures ∙ ap (λ (x : PlannedChange). x.at) (get_or_from_slice_get c.args.changes.now c.args.made found found there) in
          let second : w.second.result ≡ second_in c.args.changer.now = w.second.ensures in
          w.if-from-second.false (at ∙ sym same ∙ now ∙ sym second)
      | else-made-changes-via-else-made-changes w ↦
          let inside : c.args.made < length c.args.changes.now = slice_get_within c.args.changes.now c.args.made own is in
          absurd (omega (arith, inside, w.if-made-changes.false))
    ])
