use Rattle.std.proofs.Common.{◌≤◌, ◌<◌, ◌∙◌, arith, length-set}
use Rattle.difference_system.specs.System.{groups_of, edges_of}
use Rattle.difference_system.proofs.IsSystem.{regular_of}
use Rattle.difference_system.proofs.Rows.{small_kept, weight_small}
use Rattle.difference_system.proofs.Spokes.{some_if, spokes_next}
use Rattle.difference_system.proofs.sums.root.gather.Goals as goal

pub seconds-requires-clause-there : goal.seconds-requires-clause-there
seconds-requires-clause-there c =
    let below : c.loop-group.group < groups_of c.args.system.now = omega (arith, c.loop-group-test.true, c.groups-group-end.ensures) in
    some_if _ _ ((regular_of c.args.system.now).outward c.loop-group.group c.loop-group.auto.group below)

pub seconds-requires-in-loop-group-clause-there : goal.seconds-requires-in-loop-group-clause-there
seconds-requires-in-loop-group-clause-there c =
    let below : c.loop-group.group < groups_of c.args.system.now = omega (arith, c.loop-group-test.true, c.groups-group-end.ensures) in
    some_if _ _ ((regular_of c.args.system.now).homeward c.loop-group.group c.loop-group.auto.group below)

pub loop-group-preserved : goal.loop-group-preserved
loop-group-preserved c =
    let few : groups_of c.args.system.now ≤ 16 = (regular_of c.args.system.now).few in
    let below : c.loop-group.group < 16 = omega (arith, few, c.loop-group-test.true, c.groups-group-end.ensures) in
    let out = small_kept c.seconds.result (weight_small _ c.seconds.ensures.weight) in
    let home = small_kept c.seconds-in-loop-group.result (weight_small _ c.seconds-in-loop-group.ensures.weight) in
    record {
      spokes = rw (out, home) (spokes_next (edges_of c.args.system.now) c.loop-group.group c.loop-group.spokes c.seconds.result c.seconds-in-loop-group.result
          c.loop-group.auto.group (omega (arith, c.loop-group.invariant.out_full, below)) (omega (arith, c.loop-group.invariant.home_full, below))
          c.seconds.ensures.value c.seconds-in-loop-group.ensures.value c.seconds.ensures.weight c.seconds-in-loop-group.ensures.weight c.loop-group.invariant.spokes);
      out_full = length-set c.loop-group.spokes.out c.loop-group.group _ ∙ c.loop-group.invariant.out_full;
      home_full = length-set c.loop-group.spokes.home c.loop-group.group _ ∙ c.loop-group.invariant.home_full;
    }
