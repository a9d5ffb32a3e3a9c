use Rattle.std.proofs.Common.{◌≡◌, ◌≤◌, Some, [], refl, sym, subst, ap, ◌∙◌, arith, slice_index_or}
use Rattle.sig_base.specs.Ratio.{fraction_of}
use Rattle.sig_base.specs.declared.target.Target.TheVariants.{Beat}
use Rattle.junction_model.specs.Rules.{IsJunction}
use Rattle.plan_model.specs.FittedPlan.{fitted_plan_of}
use Rattle.plan_model.specs.Multiplier.{IsLeastMultiplier}
use Rattle.cycle_orders.specs.Place.{order_at}
use Rattle.cycle_orders.specs.Search.{IsAtOwnRatio}
use Rattle.cycle_orders.proofs.FoundIn.{at_own_ratio}
use Rattle.cycle_orders.proofs.Places.{moved_closes}
use Rattle.cycle_orders.proofs.Rising.{starts_of_full, left_less, raised_coming, raised_place, raised_starts}
use Rattle.cycle_orders.proofs.raising.raise_until_closed.Goals as goal

pub plan_of-plan-requires-clause-risen : goal.plan_of-plan-requires-clause-risen
plan_of-plan-requires-clause-risen g c = c.target_law.ensures.transitive c.args.search.now.target c.args.target c.loop-ratio.running c.requires.risen c.loop-ratio.invariant.risen

pub plan_of-plan-requires-clause-starts : goal.plan_of-plan-requires-clause-starts
plan_of-plan-requires-clause-starts g c = (order_at c.loop-ratio.place, starts_of_full c.agreeing_law.ensures c.args.search.now c.loop-ratio.running c.loop-ratio.place c.loop-ratio.starts c.loop-ratio.invariant.place c.loop-ratio.invariant.full)

pub solve-requires : goal.solve-requires
solve-requires g c = rw (c.raise.ensures, c.loop-ratio.invariant.coming) c.requires.some

pub loop-ratio-smaller : goal.loop-ratio-smaller
loop-ratio-smaller g c =
    let s = c.args.search.now in
    let junction = c.junction.ensures ∙ ap (λ v. v.junction) c.search.view_is in
    let rules : IsJunction s.junction = rw junction at c.rules.ensures in
    let lanes : c.lanes.result ≡ s.lanes = c.lanes.ensures ∙ ap (λ v. v.lanes) c.search.view_is in
    let least : IsLeastMultiplier s.junction (fitted_plan_of c.plan_of-plan.result) s.lanes (fraction_of c.in-Some.ratio) = rw (c.plan_of-plan.ensures.junction, lanes) at c.in-Some.ensures.least in
    let marks = order_at c.loop-ratio.place in
    let full = starts_of_full c.agreeing_law.ensures c.args.search.now c.loop-ratio.running c.loop-ratio.place c.loop-ratio.starts c.loop-ratio.invariant.place c.loop-ratio.invariant.full in
    let plan = c.plan_of-plan.ensures.plan marks full in
    let some : 1 ≤ (fitted_plan_of c.plan_of-plan.result).cycle = omega (arith, plan.meets.fits.cycle.least, rules.cycles.some) in
    let risen = c.beaten_law.ensures.met s.junction (fitted_plan_of c.plan_of-plan.result) s.lanes c.in-Some.ratio c.loop-ratio.running some least plan.meets in
    left_less c.needs_law.ensures c.need_law.ensures.is c.plan_need_law.ensures c.need_law.ensures.rising c.beaten_law.ensures.own s c.loop-ratio.running marks (fitted_plan_of c.plan_of-plan.result) c.in-Some.ratio rules plan risen least

pub loop-ratio-preserved : goal.loop-ratio-preserved
loop-ratio-preserved g c =
    let s = c.args.search.now in
    let i = c.loop-ratio.invariant in
    let junction = c.junction.ensures ∙ ap (λ v. v.junction) c.search.view_is in
    let rules : IsJunction s.junction = rw junction at c.rules.ensures in
    let lanes : c.lanes.result ≡ s.lanes = c.lanes.ensures ∙ ap (λ v. v.lanes) c.search.view_is in
    let least : IsLeastMultiplier s.junction (fitted_plan_of c.plan_of-plan.result) s.lanes (fraction_of c.in-Some.ratio) = rw (c.plan_of-plan.ensures.junction, lanes) at c.in-Some.ensures.least in
    let marks = order_at c.loop-ratio.place in
    let full = starts_of_full c.agreeing_law.ensures c.args.search.now c.loop-ratio.running c.loop-ratio.place c.loop-ratio.starts c.loop-ratio.invariant.place c.loop-ratio.invariant.full in
    let plan = c.plan_of-plan.ensures.plan marks full in
    let some : 1 ≤ (fitted_plan_of c.plan_of-plan.result).cycle = omega (arith, plan.meets.fits.cycle.least, rules.cycles.some) in
    let risen = c.beaten_law.ensures.met s.junction (fitted_plan_of c.plan_of-plan.result) s.lanes c.in-Some.ratio c.loop-ratio.running some least plan.meets in
    record {
      risen = c.target_law.ensures.transitive c.args.target c.loop-ratio.running (Beat c.in-Some.ratio) i.risen risen;
      running = record { before = Some (fitted_plan_of c.plan_of-plan.result); earlier = (c.loop-ratio.running, marks, plan); running = (c.in-Some.ratio, least, refl) };
      place = raised_place s c.loop-ratio.running (Beat c.in-Some.ratio) c.loop-ratio.place c.raise.new.self c.solve.new.self c.needs.result i.place c.raise.ensures c.solve.ensures.moved c.needs.ensures.value;
      coming = raised_coming s c.loop-ratio.running (Beat c.in-Some.ratio) c.loop-ratio.place c.raise.new.self c.solve.new.self c.needs.result i.place c.raise.ensures c.solve.ensures.moved ∙ i.coming;
      entered = c.in-Starts.ensures.entered;
      full = raised_starts s c.loop-ratio.running (Beat c.in-Some.ratio) c.loop-ratio.place c.raise.new.self c.solve.new.self c.needs.result i.place c.raise.ensures c.solve.ensures.moved
          c.loop-ratio.starts c.in-Starts.later i.full c.in-Starts.ensures.least c.in-Starts.ensures.within;
    }

pub returns-in-Walk : goal.returns-in-Walk
returns-in-Walk g c =
    let s = c.args.search.now in
    let i = c.loop-ratio.invariant in
    let junction = c.junction.ensures ∙ ap (λ v. v.junction) c.search.view_is in
    let rules : IsJunction s.junction = rw junction at c.rules.ensures in
    let lanes : c.lanes.result ≡ s.lanes = c.lanes.ensures ∙ ap (λ v. v.lanes) c.search.view_is in
    let least : IsLeastMultiplier s.junction (fitted_plan_of c.plan_of-plan.result) s.lanes (fraction_of c.in-Some.ratio) = rw (c.plan_of-plan.ensures.junction, lanes) at c.in-Some.ensures.least in
    let marks = order_at c.loop-ratio.place in
    let full = starts_of_full c.agreeing_law.ensures c.args.search.now c.loop-ratio.running c.loop-ratio.place c.loop-ratio.starts c.loop-ratio.invariant.place c.loop-ratio.invariant.full in
    let plan = c.plan_of-plan.ensures.plan marks full in
    let some : 1 ≤ (fitted_plan_of c.plan_of-plan.result).cycle = omega (arith, plan.meets.fits.cycle.least, rules.cycles.some) in
    let risen = c.beaten_law.ensures.met s.junction (fitted_plan_of c.plan_of-plan.result) s.lanes c.in-Some.ratio c.loop-ratio.running some least plan.meets in
    let order : order_at c.solve.new.self ≡ marks = ap (λ l. slice_index_or l 0 [])
    (raised_coming s c.loop-ratio.running (Beat c.in-Some.ratio) c.loop-ratio.place c.raise.new.self c.solve.new.self c.needs.result i.place c.raise.ensures c.solve.ensures.moved) in
    record {
      risen = c.target_law.ensures.transitive c.args.target c.loop-ratio.running (Beat c.in-Some.ratio) i.risen risen;
      plan = record {
        mode = c.requires.best;
        junction = c.plan_of-plan.ensures.junction;
        before = i.running.before;
        earlier = i.running.earlier;
        for_target = c.loop-ratio.running;
        running = i.running.running;
        marks = marks;
        plan = plan;
      };
      own = subst (λ own. IsAtOwnRatio s.junction s.lanes own (fitted_plan_of c.plan_of-plan.result)) (sym order)
          (at_own_ratio c.needs_law.ensures c.plan_need_law.ensures c.need_law.ensures.rising s c.loop-ratio.running marks (fitted_plan_of c.plan_of-plan.result) c.in-Some.ratio rules plan least);
      running = (c.in-Some.ratio, least, refl);
      place = raised_place s c.loop-ratio.running (Beat c.in-Some.ratio) c.loop-ratio.place c.raise.new.self c.solve.new.self c.needs.result i.place c.raise.ensures c.solve.ensures.moved c.needs.ensures.value;
      coming = raised_coming s c.loop-ratio.running (Beat c.in-Some.ratio) c.loop-ratio.place c.raise.new.self c.solve.new.self c.needs.result i.place c.raise.ensures c.solve.ensures.moved ∙ i.coming;
      closes = subst (λ P. P c.in-Walk.walk) (sym (moved_closes c.raise.new.self c.solve.new.self c.solve.ensures.moved)) c.in-Walk.ensures.walk;
    }
