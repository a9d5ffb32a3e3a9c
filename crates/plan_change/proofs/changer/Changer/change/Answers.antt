use Rattle.std.proofs.Common.{◌≡◌, ◌+◌, ◌++◌, ◌∷◌, [], refl, arith, ap, ◌∙◌, subst}
use Rattle.plan_model.specs.Fits.{Fits}
use Rattle.plan_model.specs.Plan.{plan_of}
use Rattle.plan_model.specs.FittedPlan.{fitted_plan_of}
use Rattle.plan_model.specs.SignalPlan.{PlanView}
use Rattle.plan_change.specs.Heads.{HasRecords, restarted_record}
use Rattle.plan_change.specs.Changer.{requests_in}
use Rattle.plan_change.specs.Requests.{requests_of, request_at}
use Rattle.plan_change.proofs.Agreeing.{standing_fits, short, changed_agrees, agrees_as, requests_more}
use Rattle.plan_change.proofs.changer.Changer.change.Goals as goal

pub kept_heads-kept-requires : goal.kept_heads-kept-requires
kept_heads-kept-requires c =
    let self = c.args.self.now in
    record { fits = standing_fits self.junction.now (plan_of self.first) (requests_in self) self.second (plan_of self.plan) self.settled self.heads c.rules.ensures self.agrees }

pub seconds_to_begin-wait-requires : goal.seconds_to_begin-wait-requires
seconds_to_begin-wait-requires c =
    let self = c.args.self.now in
    short self.junction.now (plan_of self.first) (requests_in self) self.second (plan_of self.plan) self.settled self.heads c.rules.ensures self.agrees
    c.kept_heads-kept.result c.kept_heads-kept.ensures

pub overflow_add-wait : goal.overflow_add-wait
overflow_add-wait c =
    let p : PlanView = fitted_plan_of c.args.plan.now in
    let fits : Fits c.args.self.now.junction.now p = subst (λ j. Fits j p) c.requires.junction c.plan.ensures.fits in
    let cycle : c.cycle.result ≡ p.cycle = c.cycle.ensures ∙ ap (λ (q : PlanView). q.cycle) c.plan-4.ensures.value in
    omega (arith, c.seconds_to_begin-wait.ensures.most, cycle, fits.cycle.greatest, c.rules.ensures.cycles.longest)

pub invariant_of-self-2 : goal.invariant_of-self-2
invariant_of-self-2 c =
    let self = c.args.self.now in
    let junction = self.junction.now in
    let first : PlanView = plan_of self.first in
    let requests = requests_in self in
    let p : PlanView = fitted_plan_of c.args.plan.now in
    let kept = c.kept_heads-kept.result in
    let wait = c.seconds_to_begin-wait.result in
    let next = c.restarted_heads-heads.result in
    let settled = self.second + c.from.result in
    let fits : Fits junction p = subst (λ j. Fits j p) c.requires.junction c.plan.ensures.fits in
    let cycle : c.cycle.result ≡ p.cycle = c.cycle.ensures ∙ ap (λ (q : PlanView). q.cycle) c.plan-4.ensures.value in
    let are : HasRecords junction (restarted_record p wait kept) next =
    subst (λ q. HasRecords junction (restarted_record q wait kept) next) c.plan-2.ensures.value c.restarted_heads-heads.ensures in
    let settles : settled ≡ self.second + (wait + p.cycle) = omega (arith, c.from.ensures, cycle) in
    let more : requests_of c.push.new.self.items ≡ requests ++ request_at self.second p ∷ [] =
    ap requests_of c.in_ok-push.ensures.items ∙ requests_more self.requests.items (record { at = self.second; plan = c.plan.result.now })
    ∙ ap (λ q. requests ++ request_at self.second q ∷ []) c.plan.ensures.value in
    record {
      agrees = agrees_as junction junction first first (requests_of c.push.new.self.items) (requests ++ request_at self.second p ∷ []) (plan_of c.plan-3.result.now) p self.second settled next
          refl refl more c.plan-3.ensures.value
          (changed_agrees junction first requests self.second (plan_of self.plan) self.settled self.heads c.rules.ensures self.agrees kept c.kept_heads-kept.ensures
          p wait settled next fits c.seconds_to_begin-wait.ensures.value settles are);
    }
