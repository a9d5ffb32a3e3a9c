use Rattle.std.proofs.Common.{inl, inr, refl, ap, arith, ◌∙◌, ◌<◌, length, length-set}
use Rattle.std.proofs.Math.Seq.{map-set_same}
use Rattle.std.proofs.lemmas.Bool.{cases_eq}
use Rattle.std.proofs.lemmas.List.{get_or-set_same, get_or-set_other}
use Rattle.conflict_matrix.specs.Conflicts.{matrix_of}
use Rattle.difference_system.specs.Level.{decision_of}
use Rattle.difference_system.proofs.Levels.{kept_root, next_level, levels_some}
use Rattle.difference_system.proofs.level.renew.Goals as goal

pub loop-place-init : goal.loop-place-init
loop-place-init c = record {
  long = length-set c.args.levels.now 0 c.root.result;
  decisions = kept_root (matrix_of c.args.conflicts.now) c.args.levels.now c.args.levels.now c.root.result refl c.requires.decisions c.root.result c.root.ensures.decision;
  each = λ k d below. elim (cases_eq k 0) [
    | inl first ↦ rw (first, get_or-set_same c.args.levels.now 0 c.root.result d (levels_some (matrix_of c.args.conflicts.now) c.args.levels.now c.requires.decisions)) c.root.ensures.level
    | inr other ↦ absurd (omega (arith, other))
  ];
}

pub again-requires-clause-next : goal.again-requires-clause-next
again-requires-clause-next c =
    let long = length-set c.args.levels.now 0 c.root.result in
    next_level (matrix_of c.args.conflicts.now) c.args.levels.now c.loop-place.levels c.index-levels-place.result c.loop-place.invariant.decisions c.requires.decisions
    c.index-levels-place-in-loop-place.result c.loop-place.place c.loop-place.auto.place (omega arith) c.index-levels-place-in-loop-place.is c.index-levels-place.is

pub loop-place-preserved : goal.loop-place-preserved
loop-place-preserved c =
    let long = length-set c.args.levels.now 0 c.root.result in
    let within : c.loop-place.place < length c.loop-place.levels = omega (arith, c.loop-place.invariant.long, c.loop-place-test.true) in
    record {
      long = length-set c.loop-place.levels c.loop-place.place c.again.result ∙ c.loop-place.invariant.long;
      decisions = map-set_same decision_of c.loop-place.levels c.loop-place.place c.again.result c.index-levels-place.result (c.again.ensures.decision ∙ ap decision_of c.index-levels-place.is)
          ∙ c.loop-place.invariant.decisions;
      each = λ k d below. elim (cases_eq k c.loop-place.place) [
        | inl here ↦ rw (here, get_or-set_same c.loop-place.levels c.loop-place.place c.again.result d within) c.again.ensures.level
        | inr other ↦ rw (get_or-set_other c.loop-place.levels c.loop-place.place k c.again.result d other) (c.loop-place.invariant.each k d (omega (arith, other)))
      ];
    }

pub returns-clause-each : goal.returns-clause-each
returns-clause-each c = λ k d below.
    let long = length-set c.args.levels.now 0 c.root.result in
    c.loop-place.invariant.each k d (omega arith)
