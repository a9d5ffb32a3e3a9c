use Rattle.std.proofs.Common.{◌≡◌, ap, ◌∙◌, sym, subst}
use Rattle.std.proofs.lemmas.Bool.{false≢true}
use Rattle.plan_model.specs.Fits.{Fits}
use Rattle.plan_model.specs.Plan.{plan_of}
use Rattle.cycle_orders.specs.Search.{IsPlanFor}
use Rattle.cycle_orders.proofs.FoundPlans.{found_plan}
use Rattle.cycle_orders.proofs.question.Search.plan_of.Goals as goal

pub unreachable-requires : goal.unreachable-requires
unreachable-requires g c =
    let s = c.args.self.now in
    let same : c.junction-junction.result.now ≡ s.junction = c.junction-junction.ensures ∙ ap (λ v. v.junction) c.self.view_is in
    let searchable = rw c.self.view_is at c.self.invariant in
    let found = found_plan c.needs_law.ensures s c.args.target (rw same at c.rules.ensures) searchable c.requires.starts.0 c.args.starts.now c.requires.starts.1 c.pair_laws.ensures.sum c.root_law.ensures c.agreeing_law.ensures c.need_law.ensures.is
    c.need_law.ensures.rising c.plan_need_law.ensures c.full_order_fits_law.ensures c.requires.risen in
    false≢true (c.in-Err.ensures.exactly.1 (subst (λ j. Fits j (plan_of c.shown_plan-plan.result)) (sym same) (subst (Fits s.junction) (sym c.shown_plan-plan.ensures) found.meets.fits)))

pub returns-clause-plan : goal.returns-clause-plan
returns-clause-plan g c = λ marks starts.
    let s = c.args.self.now in
    let same : c.junction-junction.result.now ≡ s.junction = c.junction-junction.ensures ∙ ap (λ v. v.junction) c.self.view_is in
    let searchable = rw c.self.view_is at c.self.invariant in
    let found = found_plan c.needs_law.ensures s c.args.target (rw same at c.rules.ensures) searchable marks c.args.starts.now starts c.pair_laws.ensures.sum c.root_law.ensures c.agreeing_law.ensures c.need_law.ensures.is
    c.need_law.ensures.rising c.plan_need_law.ensures c.full_order_fits_law.ensures c.requires.risen in
    subst (IsPlanFor s c.args.target marks) (sym (c.in-Ok.ensures.answer.1 ∙ c.shown_plan-plan.ensures)) found
