use Rattle.std.proofs.Common.{◌∙◌, arith, rules}
use Rattle.cycle_orders.proofs.Advances.{keeps_on}
use Rattle.cycle_orders.proofs.session.Session.advance.Goals as goal

pub loop-node-preserved : goal.loop-node-preserved
loop-node-preserved g c = record {
  search = c.in_ok-step.ensures.search ∙ c.loop-node.invariant.search;
  count = omega (arith, c.in_ok-step.ensures.ok, c.loop-node.invariant.count);
  past = keeps_on c.args.self.now c.loop-node.self c.step.new.self (omega (arith, c.loop-node.invariant.count)) c.loop-node.invariant.past c.in_ok-step.ensures.past;
  still = λ none. absurd (omega (arith, none));
  over = search rules;
}
