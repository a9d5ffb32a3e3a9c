use Rattle.std.proofs.Common.{◌≡◌, ◌+◌, [], ◌∷◌, Some, length, length-append, slice_get, refl, ap, ◌∙◌, arith}
use Rattle.std.proofs.lemmas.List.Sums.{sum_by-take-le}
use Rattle.std.proofs.lemmas.Option.{slice_get_read}
use Rattle.constraint_cycles.specs.Tree.{visited_count}
use Rattle.least_greens.specs.ForTarget.{target_beside}
use Rattle.least_greens.specs.NeedRule.{rule_junction, rule_lanes}
use Rattle.plan_model.specs.FittedPlan.{fitted_plan_of}
use Rattle.capacity_search.proofs.TrimmedTrees.{greatest_of, older_closes, trimmed_next, counted_next}
use Rattle.capacity_search.proofs.trimming.trim_beside.Goals as goal

pub trim-requires-clause-closes : goal.trim-requires-clause-closes
trim-requires-clause-closes g c =
    let junction = rule_junction c.args.rule.now in
    let p = fitted_plan_of c.args.plan.now in
    let number = c.loop-number.number in
    let cycle = c.least_cycle-least_cycle.result + number in
    let at : slice_get c.args.forest.now number ≡ Some c.index-trees-number.result =
    rw c.items-trees.ensures at (slice_get_read c.items-trees.result.now _ number c.index-trees-number.result refl c.loop-number-test.true c.index-trees-number.is) in
    let own_cycle : cycle ≡ junction.least_cycle + number = ap (λ n. n + number) (c.least_cycle-least_cycle.ensures.value ∙ ap (λ j. j.least_cycle) c.junction-2.ensures) in
    let plan_cycle = c.cycle-plan_cycle.ensures ∙ ap (λ q. q.cycle) c.plan.ensures.value in
    older_closes junction c.requires.closed.0 p c.args.multiplier c.args.forest.now c.requires.closed.1 number c.index-trees-number.result at (rule_lanes c.args.rule.now) c.requires.lanes
    c.target-target.result cycle own_cycle (c.target-target.ensures ∙ ap (λ k. target_beside k c.args.multiplier cycle) plan_cycle)

pub loop-number-preserved : goal.loop-number-preserved
loop-number-preserved g c =
    let junction = rule_junction c.args.rule.now in
    let p = fitted_plan_of c.args.plan.now in
    let number = c.loop-number.number in
    let cycle = c.least_cycle-least_cycle.result + number in
    let at : slice_get c.args.forest.now number ≡ Some c.index-trees-number.result =
    rw c.items-trees.ensures at (slice_get_read c.items-trees.result.now _ number c.index-trees-number.result refl c.loop-number-test.true c.index-trees-number.is) in
    let own_cycle : cycle ≡ junction.least_cycle + number = ap (λ n. n + number) (c.least_cycle-least_cycle.ensures.value ∙ ap (λ j. j.least_cycle) c.junction-2.ensures) in
    let plan_cycle = c.cycle-plan_cycle.ensures ∙ ap (λ q. q.cycle) c.plan.ensures.value in
    record {
      long = ap length c.in_ok-push.ensures.ok ∙ length-append c.loop-number.trimmed (c.in_ok-tree.tree ∷ []) ∙ ap (λ n. n + 1) c.loop-number.invariant.long;
      no_more = counted_next c.args.forest.now c.loop-number.trimmed c.push.new.self number c.index-trees-number.result c.in_ok-tree.tree at c.loop-number.invariant.no_more c.in_ok-push.ensures.ok
          c.in_ok-tree.ensures.no_more;
      each = λ least beside.
          trimmed_next junction least p c.args.multiplier c.args.forest.now beside number c.index-trees-number.result at (rule_lanes c.args.rule.now) c.requires.lanes
          c.target-target.result cycle own_cycle (c.target-target.ensures ∙ ap (λ k. target_beside k c.args.multiplier cycle) plan_cycle)
          c.loop-number.trimmed c.push.new.self c.in_ok-tree.tree c.loop-number.invariant.long (c.loop-number.invariant.each least beside) c.in_ok-push.ensures.ok
          c.in_ok-tree.ensures.closes c.in_ok-tree.ensures.lean c.in_ok-tree.ensures.still_lean;
    }

pub returns-clause-no_more : goal.returns-clause-no_more
returns-clause-no_more g c = omega (arith, c.loop-number.invariant.no_more, sum_by-take-le visited_count c.args.forest.now c.loop-number.number)

pub returns-clause-greatest : goal.returns-clause-greatest
returns-clause-greatest g c = λ least beside.
    let all : length c.loop-number.trimmed ≡ length c.args.forest.now =
    omega (arith, c.loop-number.invariant.long, c.loop-number-test.false, c.loop-number.auto.number-end, ap length c.items-trees.ensures) in
    greatest_of (rule_junction c.args.rule.now) least (fitted_plan_of c.args.plan.now) c.args.multiplier c.args.forest.now c.loop-number.trimmed beside all (c.loop-number.invariant.each least beside)
