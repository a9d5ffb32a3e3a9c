use Rattle.std.proofs.Common.{◌≡◌, ◌-◌, ap, ◌∙◌, subst}
use Rattle.least_greens.specs.NeedRule.{rule_lanes}
use Rattle.cycle_orders.specs.Answer.{IsSearchAnswer}
use Rattle.cycle_orders.specs.Search.{search_of}
use Rattle.cycle_orders.proofs.Advances.{within_one}
use Rattle.cycle_orders.proofs.order_search.searched.Goals as goal

pub returns-clause-answer : goal.returns-clause-answer
returns-clause-answer g c =
    let begun = c.in_ok-session.ensures in
    let after = c.advance.new.self in
    let n = c.args.budget.now in
    let within = within_one n c.in_ok-session.session after c.advance.result c.in_ok-advance.field-0 c.in_ok-advance.was (ap (λ v. v.visited) begun) c.advance.ensures in
    let same : after.search ≡ search_of c.args.junction.now c.args.lanes c.args.target c.args.cycle c.args.mode =
    c.advance.ensures.search ∙ ap (λ v. v.search) begun
    ∙ ap (λ j. search_of j (rule_lanes c.new-rule.result) c.args.target c.args.cycle c.args.mode) c.new-rule.ensures.junction
    ∙ ap (λ l. search_of c.args.junction.now l c.args.target c.args.cycle c.args.mode) c.new-rule.ensures.lanes in
    rw c.visited.ensures (subst (λ s. IsSearchAnswer s n (n - after.visited) c.finish.result) same (c.finish.ensures.answer n within))
