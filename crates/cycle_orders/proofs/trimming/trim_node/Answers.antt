use Rattle.std.proofs.Common.{Some, refl, ap, ◌∙◌}
use Rattle.std.proofs.lemmas.Option.{slice_get-get_or}
use Rattle.constraint_cycles.specs.declared.node.Node.TheVariants.{Split}
use Rattle.cycle_orders.proofs.TrimSteps.{step_walk}
use Rattle.cycle_orders.proofs.trimming.trim_node.Goals as goal

pub returns-in-Walk : goal.returns-in-Walk
returns-in-Walk c =
    let here = slice_get-get_or c.args.nodes.now c.args.at _ c.requires.within ∙ ap (λ n. Some n) c.in-Split.is in
    step_walk c.args.place.now c.args.nodes.now c.args.at c.requires.reading (Split c.in-Split.item) here c.go_on.new.self c.args.trimmed.now c.push-in-Walk.new.self
    c.in-Split.item refl c.solve.new.self c.in-Walk.ensures.moved c.go_on.ensures c.in-Walk.walk c.in-Walk.ensures.walk c.in_ok-push-in-Walk.ensures.ok
    c.behind_tree.result c.behind_tree.ensures.behind c.behind_tree.ensures.within
