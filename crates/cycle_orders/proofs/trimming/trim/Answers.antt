use Rattle.std.proofs.Common.{◌≤◌, ◌∷◌, [], length, ap, ◌∙◌, arith, slice_index}
use Rattle.constraint_cycles.specs.Marks.{root_marks}
use Rattle.least_greens.specs.NeedRule.{rule_junction, rule_lanes}
use Rattle.cycle_orders.specs.Search.{search_of}
use Rattle.cycle_orders.specs.Standing.{HasNeedsOf}
use Rattle.cycle_orders.specs.declared.answer.Mode.TheVariants.{First}
use Rattle.cycle_orders.proofs.TrimSteps.{trimming_begun, trimming_step, trimming_stands, trimming_whole}
use Rattle.cycle_orders.proofs.Trimmed.{trimmed_closes, trimmed_no_more, trimmed_splits, trimmed_lean, trimmed_still_lean}
use Rattle.cycle_orders.proofs.trimming.trim.Goals as goal

pub loop-next-init : goal.loop-next-init
loop-next-init g c =
    let s = search_of (rule_junction c.args.rule.now) (rule_lanes c.args.rule.now) c.args.target c.args.cycle First in
    let conflicts = c.in_ok-place.ensures.conflicts ∙ c.conflicts.ensures.value ∙ ap (λ j. j.conflicts) c.junction-junction.ensures in
    let asks : HasNeedsOf s s.target c.in_ok-place.place = record {
      conflicts = conflicts;
      lasts = c.in_ok-place.ensures.cycle;
      needs = λ g below. ap (λ xs. slice_index xs g) c.in_ok-place.ensures.needs ∙ c.needs-needs.ensures.value g below;
    } in
    rw c.new-trimmed.ensures (trimming_begun s c.items-nodes.result.now c.in_ok-place.place asks
    (c.in_ok-place.ensures.coming ∙ ap (λ m. root_marks m ∷ []) (c.conflicts.ensures.value ∙ ap (λ j. j.conflicts) c.junction-junction.ensures))
    (rw c.items-nodes.ensures c.requires.closes))

pub loop-next-preserved : goal.loop-next-preserved
loop-next-preserved g c =
    let s = search_of (rule_junction c.args.rule.now) (rule_lanes c.args.rule.now) c.args.target c.args.cycle First in
    trimming_step s c.growth_law.ensures.needs c.agreeing_law.ensures c.exclusion_law.ensures c.items-nodes.result.now c.loop-next.trimmed c.trim_node.new.trimmed c.loop-next.place c.trim_node.new.place
    c.loop-next.next c.in_ok-next.next c.loop-next-test.true c.loop-next.invariant c.in_ok-next.ensures

pub returns-clause-closes : goal.returns-clause-closes
returns-clause-closes g c =
    let s = search_of (rule_junction c.args.rule.now) (rule_lanes c.args.rule.now) c.args.target c.args.cycle First in
    let nodes = c.items-nodes.result.now in
    let over : length nodes ≤ c.loop-next.next = omega (arith, c.loop-next-test.false) in
    trimmed_closes s nodes c.loop-next.trimmed (rw c.items-nodes.ensures c.requires.closes) (trimming_stands s nodes c.loop-next.trimmed c.loop-next.place c.loop-next.next over c.loop-next.invariant)
    (trimming_whole s nodes c.loop-next.trimmed c.loop-next.place c.loop-next.next over c.loop-next.invariant)

pub returns-clause-lean : goal.returns-clause-lean
returns-clause-lean g c =
    let s = search_of (rule_junction c.args.rule.now) (rule_lanes c.args.rule.now) c.args.target c.args.cycle First in
    let nodes = c.items-nodes.result.now in
    let over : length nodes ≤ c.loop-next.next = omega (arith, c.loop-next-test.false) in
    trimmed_lean s nodes c.loop-next.trimmed (rw c.items-nodes.ensures c.requires.closes) (trimming_stands s nodes c.loop-next.trimmed c.loop-next.place c.loop-next.next over c.loop-next.invariant)
    (trimming_whole s nodes c.loop-next.trimmed c.loop-next.place c.loop-next.next over c.loop-next.invariant)
    c.rising_law.ensures.walk c.passed_plan_law.ensures c.target_law.ensures.total c.requires.cycle.shortest

pub returns-clause-still_lean : goal.returns-clause-still_lean
returns-clause-still_lean g c = λ other lean.
    let s = search_of (rule_junction c.args.rule.now) (rule_lanes c.args.rule.now) c.args.target c.args.cycle First in
    let nodes = c.items-nodes.result.now in
    let over : length nodes ≤ c.loop-next.next = omega (arith, c.loop-next-test.false) in
    trimmed_still_lean s nodes c.loop-next.trimmed (rw c.items-nodes.ensures c.requires.closes) (trimming_stands s nodes c.loop-next.trimmed c.loop-next.place c.loop-next.next over c.loop-next.invariant)
    (trimming_whole s nodes c.loop-next.trimmed c.loop-next.place c.loop-next.next over c.loop-next.invariant)
    c.rising_law.ensures.walk c.passed_plan_law.ensures c.target_law.ensures.total c.requires.cycle.shortest other (rw c.items-nodes.ensures lean)

pub returns-clause-no_more : goal.returns-clause-no_more
returns-clause-no_more g c =
    let s = search_of (rule_junction c.args.rule.now) (rule_lanes c.args.rule.now) c.args.target c.args.cycle First in
    let nodes = c.items-nodes.result.now in
    let over : length nodes ≤ c.loop-next.next = omega (arith, c.loop-next-test.false) in
    rw (← c.items-nodes.ensures) (trimmed_no_more s.junction s.lanes s.target s.cycle c.loop-next.trimmed (root_marks s.junction.conflicts ∷ []) nodes
    (trimming_stands s nodes c.loop-next.trimmed c.loop-next.place c.loop-next.next over c.loop-next.invariant))

pub returns-clause-splits : goal.returns-clause-splits
returns-clause-splits g c =
    let s = search_of (rule_junction c.args.rule.now) (rule_lanes c.args.rule.now) c.args.target c.args.cycle First in
    let nodes = c.items-nodes.result.now in
    let over : length nodes ≤ c.loop-next.next = omega (arith, c.loop-next-test.false) in
    rw (← c.items-nodes.ensures) (trimmed_splits s nodes c.loop-next.trimmed (rw c.items-nodes.ensures c.requires.closes)
    (trimming_stands s nodes c.loop-next.trimmed c.loop-next.place c.loop-next.next over c.loop-next.invariant)
    (trimming_whole s nodes c.loop-next.trimmed c.loop-next.place c.loop-next.next over c.loop-next.invariant))
