use Rattle.std.proofs.Common.{◌∙◌, arith, length-set}
use Rattle.std.proofs.lemmas.Int.{ints}
use Rattle.difference_system.specs.Sums.{sum_of, IsWithEdges}
use Rattle.difference_system.proofs.IsModest.{modest_small}
use Rattle.difference_system.proofs.Rows.{rows_next, sum_fits, sum_kept, weight_small}
use Rattle.difference_system.proofs.sums.matrix.Sums.with_edges.Goals as goal

pub overflow_add-by_forth : goal.overflow_add-by_forth
overflow_add-by_forth c =
    let own = c.requires.sums c.loop-group.group c.args.edges.from c.loop-group-test.true c.requires.edges.from in
    sum_fits (sum_of c.args.self.now c.loop-group.group c.args.edges.from) c.args.edges.forth (modest_small _ own) (weight_small _ c.requires.edges.forth)

pub overflow_add-by_back : goal.overflow_add-by_back
overflow_add-by_back c =
    let own = c.requires.sums c.loop-group.group c.args.edges.to c.loop-group-test.true c.requires.edges.to in
    sum_fits (sum_of c.args.self.now c.loop-group.group c.args.edges.to) c.args.edges.back (modest_small _ own) (weight_small _ c.requires.edges.back)

pub greatest_row-requires-clause-by_forth : goal.greatest_row-requires-clause-by_forth
greatest_row-requires-clause-by_forth c =
    let own = c.requires.sums c.loop-group.group c.args.edges.from c.loop-group-test.true c.requires.edges.from in
    let weight = c.requires.edges.forth in
    rw (sum_kept (sum_of c.args.self.now c.loop-group.group c.args.edges.from) c.args.edges.forth (modest_small _ own) (weight_small _ weight)) (record {
      least = omega (arith, ints, own.least, own.greatest, weight.least, weight.greatest);
      greatest = omega (arith, ints, own.least, own.greatest, weight.least, weight.greatest);
    })

pub greatest_row-requires-clause-by_back : goal.greatest_row-requires-clause-by_back
greatest_row-requires-clause-by_back c =
    let own = c.requires.sums c.loop-group.group c.args.edges.to c.loop-group-test.true c.requires.edges.to in
    let weight = c.requires.edges.back in
    rw (sum_kept (sum_of c.args.self.now c.loop-group.group c.args.edges.to) c.args.edges.back (modest_small _ own) (weight_small _ weight)) (record {
      least = omega (arith, ints, own.least, own.greatest, weight.least, weight.greatest);
      greatest = omega (arith, ints, own.least, own.greatest, weight.least, weight.greatest);
    })

pub loop-group-preserved : goal.loop-group-preserved
loop-group-preserved c =
    let from = c.requires.sums c.loop-group.group c.args.edges.from c.loop-group-test.true c.requires.edges.from in
    let to = c.requires.sums c.loop-group.group c.args.edges.to c.loop-group-test.true c.requires.edges.to in
    let forth = sum_kept (sum_of c.args.self.now c.loop-group.group c.args.edges.from) c.args.edges.forth (modest_small _ from) (weight_small _ c.requires.edges.forth) in
    let back = sum_kept (sum_of c.args.self.now c.loop-group.group c.args.edges.to) c.args.edges.back (modest_small _ to) (weight_small _ c.requires.edges.back) in
    record {
      before = rows_next (IsWithEdges (sum_of c.args.self.now) c.args.edges) c.loop-group.rows c.args.groups c.loop-group.group c.greatest_row.result
          (omega (arith, c.loop-group.invariant.full, c.requires.few, c.loop-group-test.true)) (λ y in_y. rw (forth, back) at (c.greatest_row.ensures y in_y)) c.loop-group.invariant.before;
      full = length-set c.loop-group.rows c.loop-group.group c.greatest_row.result ∙ c.loop-group.invariant.full;
    }

pub returns : goal.returns
returns c = record {
  no_cycle = c.requires.no_cycle;
  each = λ u v in_u in_v. c.loop-group.invariant.before u v (omega (arith, c.loop-group-test.false)) in_v;
}
