-- What the answer of the next search makes of what is joined.
use Rattle.std.proofs.Common.{ℕ, List, [], ◌∷◌, ◌++◌, ◌≡◌, ◌+◌, ◌<◌, ◌↔◌, Option, None, Some, ap, subst, sym, refl, ◌∙◌, arith}
use Rattle.std.specs.Prelude.{IfSome, ⊤}
use Rattle.std.specs.Option.{option_or}
use Rattle.std.proofs.lemmas.List.Sums.{sum_by_push}
use Rattle.sig_base.specs.Ratio.{fraction_of}
use Rattle.sig_base.specs.declared.lane_set.LaneSet.{LaneSet}
use Rattle.sig_base.specs.declared.ratio.Ratio.{Ratio}
use Rattle.sig_base.specs.declared.target.Target.{Target}
use Rattle.constraint_cycles.specs.Tree.{visited_count}
use Rattle.constraint_cycles.specs.declared.node.Node.{Node}
use Rattle.junction_model.specs.Covers.{cover_of}
use Rattle.junction_model.specs.Junction.{JunctionView}
use Rattle.plan_model.specs.AllLanes.{all_lanes}
use Rattle.plan_model.specs.Claims.{IsPlanMultiplier, IsCycleOptimal, IsInfeasible}
use Rattle.plan_model.specs.FittedPlan.{junction_of, fitted_plan_of}
use Rattle.plan_model.specs.SignalPlan.{PlanView}
use Rattle.plan_model.specs.declared.fitted_plan.FittedPlan.{FittedPlan}
use Rattle.cycle_orders.specs.Answer.{IsSearchAnswer, IsCarried, plan_in}
use Rattle.cycle_orders.specs.Forest.{IsShortest, IsStoppedAt, visited_in}
use Rattle.cycle_orders.specs.Joined.{IsJoined, next_target, next_search}
use Rattle.cycle_orders.specs.JoinedLaws.{IsNext, NoPlanLaw, BetterPlanLaw, StoppedLaw, ShortestLaw, later_plan}
use Rattle.cycle_orders.specs.JunctionAnswer.{IsPlanOf}
use Rattle.cycle_orders.specs.Search.{SearchView, search_of}
use Rattle.cycle_orders.specs.declared.answer.CycleAnswer.TheVariants as answer
use Rattle.cycle_orders.specs.declared.answer.Mode.{Mode}
use Rattle.cycle_orders.specs.declared.answer.Mode.TheVariants.{First, Best}

pub same_search : (own junction : JunctionView) (lanes : LaneSet) (target : Target) (plan : Option PlanView) (multiple : Ratio) (cycle : ℕ) (mode : Mode) →
    own ≡ junction → lanes ≡ all_lanes → target ≡ next_target plan multiple → search_of own lanes target cycle mode ≡ next_search junction plan multiple cycle mode
same_search own junction lanes target plan multiple cycle mode same_junction same_lanes same_target = rw (same_junction, same_lanes, same_target) refl

-- what is joined after the next cycle, with what is left of the budget
pub record IsJoinedNext (junction : JunctionView) (least : Ratio) (budget left : ℕ) (plan : Option PlanView) (multiple : Ratio) (cycle : ℕ) (forest : List (List Node)) : Type 0 where
  pub joined : IsJoined junction least plan multiple (cycle + 1) forest
  pub counted : visited_in forest + left ≡ budget

module _ (junction : JunctionView) (least : Ratio) (plan : Option PlanView) (multiple : Ratio) (cycle : ℕ) (forest : List (List Node)) (mode : Mode)
    (s : SearchView) (is : s ≡ next_search junction plan multiple cycle mode) (next : IsNext junction least plan multiple cycle forest)
    (budget before left : ℕ) (counted : visited_in forest + before ≡ budget) (nodes : List Node) (later : List (List Node)) (pushed : later ≡ forest ++ nodes ∷ []) where
  still_counted : visited_count nodes + left ≡ before → visited_in later + left ≡ budget
  still_counted visited = rw (pushed, sum_by_push visited_count forest nodes) (omega (arith, counted, visited))

  pub closed_none : NoPlanLaw → IsSearchAnswer s before left (answer.Closed nodes None) → IsJoinedNext junction least budget left plan multiple cycle later
  closed_none law own =
      let ended = subst (λ v. IsSearchAnswer v before left (answer.Closed nodes None)) is own in record {
        joined = rw pushed (law junction least plan multiple cycle forest mode nodes next ended.0);
        counted = still_counted ended.1;
      }

  pub closed_some : BetterPlanLaw → (f : FittedPlan) (ratio : Ratio) → IsPlanMultiplier (junction_of f) (fitted_plan_of f) (fraction_of ratio) →
      IsSearchAnswer s before left (answer.Closed nodes (Some f)) →
      IsPlanOf junction least f × IsJoinedNext junction least budget left (Some (fitted_plan_of f)) ratio cycle later
  closed_some law f ratio multiplier own =
      let ended = subst (λ v. IsSearchAnswer v before left (answer.Closed nodes (Some f))) is own in
      let here = subst (λ j. IsPlanMultiplier j (fitted_plan_of f) (fraction_of ratio)) ended.0.carried.junction multiplier in
      let both = law junction least plan multiple cycle forest mode nodes f ratio next ended.0 here in
      (both.0, record { joined = rw pushed both.1; counted = still_counted ended.1 })

  pub stopped_any : StoppedLaw → (found : Option FittedPlan) → IsSearchAnswer s before left (answer.Stopped nodes found) →
      IsStoppedAt junction least budget (later_plan plan (plan_in found)) later × (budget < cover_of junction) × IfSome found (IsPlanOf junction least)
  stopped_any law found own =
      let stop = subst (λ v. IsSearchAnswer v before left (answer.Stopped nodes found)) is own in
      rw pushed (law junction least plan multiple cycle forest mode nodes found budget next stop.0 (omega (arith, counted, stop.1)))

-- where a plan meets the least, the junction isn't infeasible
pub not_infeasible : (junction : JunctionView) (least : Ratio) (f : FittedPlan) → IsPlanOf junction least f → ⊥ ↔ (IsInfeasible junction (fraction_of least) × ¬ ⊥)
not_infeasible junction least f plan = (λ none. absurd none, λ h. h.0 (fitted_plan_of f) plan.asked.meets)

-- the later plan, or the earlier one where there is none
later_or : (found best : Option FittedPlan) → plan_in (option_or found best) ≡ later_plan (plan_in best) (plan_in found)
later_or None best = refl
later_or (Some f) best = refl

pub either_or : (P : FittedPlan → Type 0) (found best : Option FittedPlan) → IfSome found P → IfSome best P → IfSome (option_or found best) P
either_or P None best own earlier = earlier
either_or P (Some f) best own earlier = own

pub stopped_or : (junction : JunctionView) (least : Ratio) (budget : ℕ) (forest : List (List Node)) (found best : Option FittedPlan) →
    IsStoppedAt junction least budget (later_plan (plan_in best) (plan_in found)) forest → IsStoppedAt junction least budget (plan_in (option_or found best)) forest
stopped_or junction least budget forest found best stop = rw (later_or found best) stop

-- the best plan after the last cycle
pub at_last : (junction : JunctionView) (least multiple : Ratio) (best : Option FittedPlan) (f : FittedPlan) (cycle last : ℕ) (forest : List (List Node)) →
    best ≡ Some f → cycle ≡ last → IsJoined junction least (plan_in best) multiple cycle forest → IsJoined junction least (Some (fitted_plan_of f)) multiple last forest
at_last junction least multiple best f cycle last forest found over joined =
    subst (λ b. IsJoined junction least (plan_in b) multiple last forest) found (subst (λ c. IsJoined junction least (plan_in best) multiple c forest) over joined)

first_best : First ≡ Best → ⊥
first_best e = cc

-- a search in mode First carries no plan
pub none_carried : (s : SearchView) (found : Option FittedPlan) → s.mode ≡ First → IsCarried s found → found ≡ None
none_carried s None first carried = refl
none_carried s (Some f) first carried = absurd (first_best (sym first ∙ carried.mode))

-- a search in mode First
module _ (junction : JunctionView) (least multiple : Ratio) (cycle : ℕ) (forest : List (List Node)) (s : SearchView) (is : s ≡ next_search junction None multiple cycle First)
    (next : IsNext junction least None multiple cycle forest) (before left : ℕ) where
  without_plan : (found : Option FittedPlan) → IsCarried s found → found ≡ None
  without_plan found = none_carried s found (ap (λ (v : SearchView). v.mode) is)

  -- its first plan is one of the shortest cycle
  pub found_first : ShortestLaw → (f : FittedPlan) → IsSearchAnswer s before left (answer.Found f) →
      IsPlanOf junction least f × IsCycleOptimal junction (fraction_of least) (fitted_plan_of f) × IsShortest junction least (fitted_plan_of f) forest
  found_first law f own =
      let found = subst (λ v. IsSearchAnswer v before left (answer.Found f)) is own in
      law junction least multiple cycle forest First found.0 f next found.1

  module _ (budget : ℕ) (counted : visited_in forest + before ≡ budget) (nodes : List Node) (later : List (List Node)) (pushed : later ≡ forest ++ nodes ∷ []) (found : Option FittedPlan) where
    pub closed_first : NoPlanLaw → IsSearchAnswer s before left (answer.Closed nodes found) → IsJoinedNext junction least budget left None multiple cycle later
    closed_first law own = closed_none junction least None multiple cycle forest First s is next budget before left counted nodes later pushed law
        (subst (λ f. IsSearchAnswer s before left (answer.Closed nodes f)) (without_plan found own.0.carried) own)

    pub stopped_first : StoppedLaw → IsSearchAnswer s before left (answer.Stopped nodes found) →
        IsStoppedAt junction least budget None later × (budget < cover_of junction) × ⊤
    stopped_first law own = stopped_any junction least None multiple cycle forest First s is next budget before left counted nodes later pushed law None
        (subst (λ f. IsSearchAnswer s before left (answer.Stopped nodes f)) (without_plan found own.0.carried) own)
