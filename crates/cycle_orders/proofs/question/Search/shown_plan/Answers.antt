use Rattle.std.proofs.Common.{◌≡◌, ap, ◌∙◌, length, take}
use Rattle.plan_model.specs.Fits.{group_count}
use Rattle.plan_model.specs.SignalPlan.{plan_with}
use Rattle.cycle_orders.proofs.FoundPlans.{greens_are}
use Rattle.cycle_orders.proofs.question.Search.shown_plan.Goals as goal

pub returns : goal.returns
returns g c =
    let s = c.args.self.now in
    let same : c.junction.result.now ≡ s.junction = c.junction.ensures ∙ ap (λ v. v.junction) c.self.view_is in
    let again : c.junction-2.result.now ≡ s.junction = c.junction-2.ensures ∙ ap (λ v. v.junction) c.self.view_is in
    let groups : length c.groups-groups.result.now ≡ group_count s.junction = ap length c.groups-groups.ensures.value ∙ ap (λ j. length j.groups) again in
    let lasts : c.self.inside.cycle ≡ s.cycle = ap (λ v. v.cycle) c.self.view_is in
    let greens = greens_are c.needs_law.ensures s c.args.target (rw same at c.rules.ensures) c.needs-needs.result c.needs-needs.ensures.long c.needs-needs.ensures.value in
    c.in-Some.ensures.value
    ∙ ap (λ cycle. plan_with cycle (take (length c.groups-groups.result.now) c.args.starts.now) (take (length c.groups-groups.result.now) c.needs-needs.result)) lasts
    ∙ ap (λ n. plan_with s.cycle (take n c.args.starts.now) (take n c.needs-needs.result)) groups
    ∙ ap (λ greens. plan_with s.cycle (take (group_count s.junction) c.args.starts.now) greens) greens
