-- Targets that are raised to beating a plan.
use Rattle.std.proofs.Common.{◌≡◌, ℕ, zero, suc, ◌-◌, ◌<◌, ◌≤◌, inl, inr, List, [], refl, sym, subst, ap, ◌∙◌, arith, slice_index, slice_index_or}
use Rattle.std.proofs.lemmas.Bool.{cases_lt, cases_eq}
use Rattle.sig_base.specs.Ratio.{fraction_of}
use Rattle.sig_base.specs.declared.ratio.Ratio.{Ratio}
use Rattle.sig_base.specs.declared.target.Target.{Target}
use Rattle.sig_base.specs.declared.target.Target.TheVariants.{Beat}
use Rattle.conflict_matrix.specs.Matrix.{Matrix}
use Rattle.constraint_cycles.specs.Edge.{unserved_need}
use Rattle.constraint_cycles.specs.Starts.{MeetsOrder}
use Rattle.constraint_cycles.specs.StartsLaws.{AgreeOnGroups, AgreeingLaw}
use Rattle.constraint_cycles.specs.declared.mark.Mark.{Mark}
use Rattle.difference_system.specs.Solution.{AreLeastStarts, AreStartsWithin}
use Rattle.junction_model.specs.Rules.{IsJunction}
use Rattle.least_greens.specs.ClosingLaws.{NeedsLaw}
use Rattle.least_greens.specs.ForTarget.{needs_of}
use Rattle.least_greens.specs.Laws.{NeedLaw, PlanNeedLaw, RisingNeedLaw}
use Rattle.least_greens.specs.MultiplierLaws.{NotBeatenLaw}
use Rattle.least_greens.specs.NeedOf.{need_of}
use Rattle.least_greens.specs.Targets.{IsNotAbove}
use Rattle.plan_model.specs.Fits.{group_count}
use Rattle.plan_model.specs.Multiplier.{IsLeastMultiplier}
use Rattle.plan_model.specs.SignalPlan.{PlanView, green_of}
use Rattle.cycle_orders.specs.DueItems.{AreDueItems}
use Rattle.cycle_orders.specs.Place.{PlaceView, IsMoved, AreStartsHere, order_at, MeetsHere, with_needs}
use Rattle.cycle_orders.specs.Raised.{total, needs_left}
use Rattle.cycle_orders.specs.Search.{SearchView, IsPlanFor}
use Rattle.cycle_orders.specs.Standing.{IsPlaceFor, AreStartsOfFullOrder}
use Rattle.cycle_orders.proofs.Places.{moved_meets}

-- needs that agree for the groups have the same least starts
least_agreeing : AgreeingLaw → (m : Matrix) (marks : List Mark) (needs other : List ℕ) (cycle : ℕ) (starts : List ℕ) → AgreeOnGroups m needs other →
    AreLeastStarts (MeetsOrder m marks needs cycle) starts → AreLeastStarts (MeetsOrder m marks other cycle) starts
least_agreeing agreeing m marks needs other cycle starts same h = record {
  solution = record { first = h.solution.first; meets = agreeing m marks needs other cycle starts starts same (λ g below. refl) h.solution.meets };
  least = λ others meets. h.least others (record { first = meets.first; meets = agreeing m marks other needs cycle others others (λ g below. sym (same g below)) (λ g below. refl) meets.meets });
}

-- least starts of the order at hand are those of a full order
pub starts_of_full : AgreeingLaw → (s : SearchView) (target : Target) (p : PlaceView) (starts : List ℕ) → IsPlaceFor s target p → AreStartsHere p starts → AreStartsOfFullOrder s target (order_at p) starts
starts_of_full agreeing s target p starts place h = record {
  below_root = rw place.asks.conflicts at h.below_root;
  decided = h.decided;
  least = least_agreeing agreeing s.junction.conflicts (order_at p) p.needs (needs_of s.junction s.lanes target s.cycle) s.cycle starts place.asks.needs (rw (place.asks.conflicts, place.asks.lasts) at h.least);
  within = rw (place.asks.conflicts, place.asks.lasts) at h.within;
}

total_less : (f g : ℕ → ℕ) (n : ℕ) → ((k : ℕ) → k < n → g k ≤ f k) → total g n ≤ total f n
total_less f g zero h = omega arith
total_less f g (suc n) h =
    let before = total_less f g n (λ k below. h k (omega arith)) in
    let own = h n (omega arith) in
    omega arith

total_equal : (f g : ℕ → ℕ) (n : ℕ) → ((k : ℕ) → k < n → g k ≤ f k) → total f n ≤ total g n → (k : ℕ) → k < n → f k ≡ g k
total_equal f g zero h same k below = absurd (omega arith)
total_equal f g (suc n) h same k below =
    let before = total_less f g n (λ i under. h i (omega arith)) in
    let own = h n (omega arith) in
    elim (cases_eq k n) [
      | inl e ↦ rw e (omega arith)
      | inr other ↦ total_equal f g n (λ i under. h i (omega arith)) (omega arith) k (omega (arith, other))
    ]

-- some need rises to beat a plan whose greens are the needs
pub left_less : NeedsLaw → NeedLaw → PlanNeedLaw → RisingNeedLaw → NotBeatenLaw → (s : SearchView) (target : Target) (marks : List Mark) (p : PlanView) (r : Ratio) → IsJunction s.junction →
    IsPlanFor s target marks p → IsNotAbove target (Beat r) → IsLeastMultiplier s.junction p s.lanes (fraction_of r) → needs_left s (Beat r) < needs_left s target
left_less needs_law need_law plan_need rising not_beaten s target marks p r rules plan risen least =
    let n : ℕ = group_count s.junction in
    let f : ℕ → ℕ = λ g. unserved_need - need_of s.junction s.lanes target s.cycle g in
    let h : ℕ → ℕ = λ g. unserved_need - need_of s.junction s.lanes (Beat r) s.cycle g in
    let lasts : p.cycle ≡ s.cycle = plan.of_order.lasts in
    let some : 1 ≤ s.cycle = omega (arith, lasts, plan.meets.fits.cycle.least, rules.cycles.some) in
    let less : (k : ℕ) → k < n → h k ≤ f k = λ k below. let up = rising s.junction s.lanes target (Beat r) s.cycle k some risen in omega arith in
    elim (cases_lt (total h n) (total f n)) [
      | inl fewer ↦ fewer
      | inr same ↦ absurd (not_beaten s.junction p s.lanes r least
          ((plan_need s.junction p s.lanes (Beat r) rules).1 (
            plan.meets.fits,
            λ i below.
                let equal : f i ≡ h i = total_equal f h n less same i below in
                let old = need_law s.junction s.lanes target s.cycle i in
                let new = need_law s.junction s.lanes (Beat r) s.cycle i in
                let green : green_of p i ≡ need_of s.junction s.lanes target s.cycle i = ap (λ xs. slice_index xs i) plan.of_order.greens ∙ (needs_law s.junction s.lanes target s.cycle).1 i below in
                let here : need_of s.junction s.lanes (Beat r) s.cycle i ≤ green_of p i = omega (arith, equal, old.most, new.most, green) in
                subst (λ cycle. need_of s.junction s.lanes (Beat r) cycle i ≤ green_of p i) (sym lasts) here,
          )))
    ]

-- the place with the needs of another target, after it was solved
module _ (s : SearchView) (t u : Target) (old raised new : PlaceView) (needs : List ℕ) (place : IsPlaceFor s t old) (is : raised ≡ with_needs old needs) (moved : IsMoved raised new raised.coming) where
  pub raised_coming : new.coming ≡ old.coming
  raised_coming = moved.coming ∙ ap (λ v. v.coming) is

  pub raised_place : AgreeOnGroups s.junction.conflicts needs (needs_of s.junction s.lanes u s.cycle) → IsPlaceFor s u new
  raised_place agree = record {
    asks = record {
      conflicts = moved.conflicts ∙ ap (λ v. v.conflicts) is ∙ place.asks.conflicts;
      lasts = moved.cycle ∙ ap (λ v. v.cycle) is ∙ place.asks.lasts;
      needs = λ g below. ap (λ xs. slice_index xs g) (moved.needs ∙ ap (λ v. v.needs) is) ∙ agree g below;
    };
    due = subst (AreDueItems s.junction.conflicts) (sym (moved.items ∙ ap (λ v. v.items) is)) place.due;
  }

  pub raised_starts : (starts later : List ℕ) → AreStartsHere old starts → AreLeastStarts (MeetsHere raised) later → AreStartsWithin raised.conflicts.groups raised.cycle later → AreStartsHere new later
  raised_starts starts later h least within =
      let conflicts : new.conflicts ≡ old.conflicts = moved.conflicts ∙ ap (λ v. v.conflicts) is in
      let order : order_at new ≡ order_at old = ap (λ l. slice_index_or l 0 []) raised_coming in
      record {
        below_root = rw (conflicts, order) h.below_root;
        decided = rw order h.decided;
        least = subst (λ P. AreLeastStarts P later) (sym (moved_meets raised new moved)) least;
        within = rw (moved.conflicts, moved.cycle) within;
      }
