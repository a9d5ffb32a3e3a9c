-- The plan of a full order's least starts, with the needs as greens.
use Rattle.std.proofs.Common.{ℕ, List, ◌≡◌, ◌<◌, ◌≤◌, inl, inr, refl, sym, ◌∙◌, arith, slice_index, length, length-take, take}
use Rattle.std.proofs.Math.ListN.{get_or-eq_default}
use Rattle.std.proofs.lemmas.Bool.{cases_lt}
use Rattle.std.proofs.lemmas.List.{get_or-take}
use Rattle.std.proofs.lemmas.List.FromFn.{fill_by_all}
use Rattle.std.proofs.lemmas.List.Elements.{All-take}
use Rattle.std.proofs.lemmas.Option.{slice_get_within}
use Rattle.conflict_matrix.specs.PairLaws.{PairSumLaw}
use Rattle.constraint_cycles.specs.OrderLaws.{RootLaw}
use Rattle.constraint_cycles.specs.Starts.{MeetsOrder}
use Rattle.constraint_cycles.specs.StartsLaws.{AgreeOnGroups, AgreeingLaw}
use Rattle.constraint_cycles.specs.declared.mark.Mark.{Mark}
use Rattle.sig_base.specs.declared.target.Target.{Target}
use Rattle.junction_model.specs.Rules.{IsJunction}
use Rattle.least_greens.specs.ClosingLaws.{NeedsLaw}
use Rattle.least_greens.specs.ForTarget.{needs_of}
use Rattle.least_greens.specs.Laws.{NeedLaw, PlanNeedLaw, RisingNeedLaw}
use Rattle.least_greens.specs.NeedOf.{need_of}
use Rattle.least_greens.specs.Targets.{IsNotAbove}
use Rattle.plan_model.specs.Fits.{Fits, group_count}
use Rattle.plan_model.specs.FullOrder.{IsShaped, FullOrderFitsLaw}
use Rattle.plan_model.specs.SignalPlan.{PlanView, plan_with, green_of}
use Rattle.cycle_orders.specs.Search.{SearchView, IsSearchable, IsPlanOfOrder, IsPlanFor}
use Rattle.cycle_orders.specs.Standing.{AreStartsOfFullOrder}
use Rattle.cycle_orders.proofs.DueList.{root_long}

-- what is left of a list is no greater
take_less : (n : ℕ) (xs : List ℕ) (g : ℕ) → slice_index (take n xs) g ≤ slice_index xs g
take_less n xs g = elim (cases_lt g n) [
  | inl below ↦ omega (arith, get_or-take n xs g 0 below)
  | inr past ↦ let none : slice_index (take n xs) g ≡ 0 = get_or-eq_default (take n xs) 0 (omega (arith, length-take n xs)) in omega (arith, none)
]

module _ (needs_law : NeedsLaw) (s : SearchView) (target : Target) where
  abbrev n : ℕ
  n = group_count s.junction

  abbrev own_needs : List ℕ
  own_needs = needs_of s.junction s.lanes target s.cycle

  -- greens that were asked are the needs
  pub greens_are : IsJunction s.junction → (needs : List ℕ) → length needs ≡ 16 → AgreeOnGroups s.junction.conflicts needs own_needs → take n needs ≡ own_needs
  greens_are rules needs long agree =
      let law = needs_law s.junction s.lanes target s.cycle in
      let few = rules.groups.few in
      fill_by_all (need_of s.junction s.lanes target s.cycle) (take n needs) n 0 (length-take n needs ∙ omega arith)
      (λ k below. get_or-take n needs k 0 below ∙ agree k (omega (arith, rules.conflicts.same_groups)) ∙ law.1 k below)

  module _ (rules : IsJunction s.junction) (searchable : IsSearchable s) (marks : List Mark) (starts : List ℕ) (h : AreStartsOfFullOrder s target marks starts) where
    abbrev plan : PlanView
    plan = plan_with s.cycle (take n starts) own_needs

    met : AgreeingLaw → MeetsOrder s.junction.conflicts marks own_needs s.cycle (take n starts)
    met agreeing =
        agreeing s.junction.conflicts marks own_needs own_needs s.cycle starts (take n starts) (λ g below. refl)
        (λ g below. sym (get_or-take n starts g 0 (omega (arith, rules.conflicts.same_groups)))) h.least.solution.meets

    shaped : NeedLaw → IsShaped s.junction plan
    shaped need_law =
        let law = needs_law s.junction s.lanes target s.cycle in
        let few = rules.groups.few in
        record {
          groups = record { starts = length-take n starts ∙ omega (arith, h.within.each); greens = law.0 };
          cycle = record { least = searchable.least; greatest = searchable.greatest };
          starts = All-take (λ start. start < s.cycle) n starts h.within.below;
          greens = λ i group at.
              let below : i < n = slice_get_within s.junction.groups i group at in
              let is = law.1 i below in
              let served = h.least.solution.meets.served i (omega (arith, rules.conflicts.same_groups)) in
              let enough = (need_law s.junction s.lanes target s.cycle i).enough (omega arith) in
              (omega (arith, is, enough.minimum group at), omega (arith, is, enough.maximum group at));
        }

    fits : PairSumLaw → RootLaw → AgreeingLaw → NeedLaw → FullOrderFitsLaw → Fits s.junction plan
    fits sum root agreeing need_law full =
        full s.junction plan marks rules (shaped need_law) (h.below_root.as_many ∙ root_long root sum s.junction.conflicts) h.decided (met agreeing)

    needs_met : (i : ℕ) → i < n → need_of s.junction s.lanes target s.cycle i ≤ green_of plan i
    needs_met i below = omega (arith, (needs_law s.junction s.lanes target s.cycle).1 i below)

    of_order : AgreeingLaw → IsPlanOfOrder s target marks plan
    of_order agreeing = record {
      below_root = h.below_root;
      decided = h.decided;
      lasts = refl;
      greens = refl;
      starts = record {
        solution = record { first = get_or-take n starts 0 0 (omega (arith, rules.conflicts.same_groups, rules.conflicts.table.few.0)) ∙ h.least.solution.first; meets = met agreeing };
        least = λ other meets g. let less = h.least.least other meets g in omega (arith, take_less n starts g);
      };
    }

    pub found_plan : PairSumLaw → RootLaw → AgreeingLaw → NeedLaw → RisingNeedLaw → PlanNeedLaw → FullOrderFitsLaw → IsNotAbove s.target target → IsPlanFor s target marks plan
    found_plan sum root agreeing need_law rising plan_need full risen =
        let ok = fits sum root agreeing need_law full in
        let some : 1 ≤ s.cycle = omega (arith, searchable.least, rules.cycles.some) in
        record {
          of_order = of_order agreeing;
          first = get_or-take n starts 0 0 (omega (arith, rules.conflicts.same_groups, rules.conflicts.table.few.0)) ∙ h.least.solution.first;
          risen = risen;
          meets = (plan_need s.junction plan s.lanes target rules).1 (ok, needs_met);
          meets_asked = (plan_need s.junction plan s.lanes s.target rules).1 (ok, λ i below. let more = rising s.junction s.lanes s.target target s.cycle i some risen in omega (arith, needs_met i below));
        }
