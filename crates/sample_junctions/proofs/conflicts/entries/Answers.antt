use Rattle.std.proofs.Common.{◌≡◌, ◌∙◌, ◌++◌, [], sym, refl, append-nil}
use Rattle.std.specs.List.{cons_option}
use Rattle.std.proofs.lemmas.Option.{slice_get-get_or}
use Rattle.sample_junctions.specs.Conflicts.{all_pairs}
use Rattle.sample_junctions.proofs.Rising.{all_pairs_rise, rising_at}
use Rattle.sample_junctions.proofs.Drawn.{drawn_more}
use Rattle.sample_junctions.proofs.conflicts.entries.Goals as goal
use Rattle.sample_junctions.proofs.conflicts.entries.Goals.{in-Some+in_ok-push, in_default}

pub conflict-requires : goal.conflict-requires
conflict-requires c =
    let pairs = c.deref-pair-items.ensures.value ∙ c.in_ok-all_pairs.ensures in
    (rising_at c.args.groups 0 c.deref-pair-items.result.now (rw pairs (all_pairs_rise c.args.groups c.requires)) c.loop-pair.pair-index _
    (slice_get-get_or c.deref-pair-items.result.now c.loop-pair.pair-index (0, 0) c.loop-pair-test.true)).1

pub loop-pair-preserved : goal.loop-pair-preserved
loop-pair-preserved c =
    let pairs = c.deref-pair-items.ensures.value ∙ c.in_ok-all_pairs.ensures in
    let grown : c.match-conflict.entries.items ≡ c.loop-pair.entries.items ++ cons_option c.conflict.result [] = elim c.match-conflict.branch [
      | in-Some+in_ok-push w ↦ rw (w.entries-is, w.in_ok-push.ensures.items, w.in-Some.is) refl
      | in_default w ↦ rw (w.entries-is, w.in_default.is) (sym (append-nil c.loop-pair.entries.items))
    ] in
    rw (grown, c.conflict.ensures.conflict, c.conflict.ensures.state, pairs)
    (drawn_more c.loop-pair.draws.state (all_pairs c.args.groups) c.loop-pair.pair-index _ c.loop-pair.entries.items _
    (rw pairs at c.loop-pair-test.true) refl c.loop-pair.invariant)
