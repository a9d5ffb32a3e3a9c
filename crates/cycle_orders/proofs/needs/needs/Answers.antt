use Rattle.std.proofs.Common.{◌<◌, sym, subst, ap, ◌∙◌, arith, length}
use Rattle.sig_base.specs.Times.{IsGreenNeed}
use Rattle.least_greens.specs.NeedRule.{rule_junction, rule_lanes}
use Rattle.cycle_orders.proofs.needs.needs.Goals as goal

pub returns-clause-range : goal.returns-clause-range
returns-clause-range g c = λ k below.
    let junction = rule_junction c.args.rule.now in
    let rules = rw c.junction-junction.ensures at c.rules.ensures in
    let law = c.needs_law.ensures junction (rule_lanes c.args.rule.now) c.args.target c.args.cycle in
    let groups = ap length c.groups-group-end.ensures.value ∙ ap (λ j. length j.groups) c.junction-junction.ensures in
    let inside : k < length junction.groups = omega (arith, below, rules.conflicts.same_groups) in
    let asked = c.loop-group.invariant.each k (omega (arith, inside, groups, c.loop-group-test.false)) in
    subst IsGreenNeed (law.1 k inside ∙ sym asked) (law.2 rules k below)
