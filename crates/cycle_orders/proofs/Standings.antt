-- How a session stands after a visit.
use Rattle.std.proofs.Common.{◌≡◌, ℕ, ◌+◌, ◌<◌, ◌≤◌, ◌↔◌, inl, List, [], ◌∷◌, ◌++◌, Option, None, Some, length, take, refl, sym, subst, ap, ◌∙◌, arith, drop, length-append, slice_index, slice_index_or}
use Rattle.std.specs.Prelude.{IfSome}
use Rattle.std.proofs.lemmas.List.{take_more_set, take-append-le}
use Rattle.std.proofs.lemmas.Option.{none-some}
use Rattle.sig_base.specs.declared.target.Target.{Target}
use Rattle.constraint_cycles.specs.Marks.{root_marks}
use Rattle.constraint_cycles.specs.StartsLaws.{AgreeingLaw}
use Rattle.constraint_cycles.specs.Tree.{visited_count}
use Rattle.constraint_cycles.specs.WalkLaws.{ExclusionLaw, GreaterNeedsLaw}
use Rattle.constraint_cycles.specs.declared.mark.Mark.{Mark}
use Rattle.constraint_cycles.specs.declared.node.Node.{Node}
use Rattle.constraint_cycles.specs.declared.node.Node.TheVariants.{Split, Closed, Unvisited}
use Rattle.constraint_cycles.proofs.Visits.{visits_more}
use Rattle.constraint_cycles.proofs.NodeCounts.{visited_count_law}
use Rattle.least_greens.specs.ClosingLaws.{RisingWalkLaw, PassedPlanLaw}
use Rattle.least_greens.specs.ForTarget.{needs_of, ClosesFor}
use Rattle.least_greens.specs.Laws.{TransitiveLaw}
use Rattle.least_greens.specs.Targets.{IsNotAbove}
use Rattle.plan_model.specs.FittedPlan.{junction_of, fitted_plan_of}
use Rattle.plan_model.specs.declared.fitted_plan.FittedPlan.{FittedPlan}
use Rattle.cycle_orders.specs.Answer.{plan_in, IsFoundIn, IsCarried}
use Rattle.cycle_orders.specs.DueItems.{AreDueItems}
use Rattle.cycle_orders.specs.Lean.{IsUnclosed}
use Rattle.cycle_orders.specs.Place.{PlaceView, IsMoved, order_at, coming_later, MeetsHere, ClosesHere}
use Rattle.cycle_orders.specs.Search.{SearchView, IsRunning, IsPlanFor, IsEarlierPlan}
use Rattle.cycle_orders.specs.SearchedNodes.{AreSearched}
use Rattle.cycle_orders.specs.Standing.{IsTreeSoFar, HasNeedsOf, IsPlaceFor, IsOnTheWay, HasFirstPlan, IsStandingIn}
use Rattle.cycle_orders.specs.Raised.{IsRaised}
use Rattle.cycle_orders.specs.Visited.{IsClosing, IsSplitting, IsVisit}
use Rattle.cycle_orders.specs.declared.raising.Raised.{Raised}
use Rattle.cycle_orders.specs.declared.visit.Visited.{Visited}
use Rattle.cycle_orders.specs.declared.visit.Visited.TheVariants.{Closed as ClosedBy, Split as SplitAt, Full}
use Rattle.cycle_orders.specs.declared.answer.Mode.{Mode}
use Rattle.cycle_orders.specs.declared.answer.Mode.TheVariants as mode
use Rattle.cycle_orders.proofs.FoundIn.{found_more}
use Rattle.cycle_orders.proofs.SearchTrees.{tree_length, tree_visited, tree_closed, tree_split}

pub first_and_rest : (coming : List (List Mark)) → 1 ≤ length coming → coming ≡ slice_index_or coming 0 [] ∷ drop 1 coming
first_and_rest [] some = absurd (omega arith)
first_and_rest (marks ∷ rest) some = refl

-- the nodes that were visited before, and the one that is visited now
taken_closed : (old new : PlaceView) (tree grown : List Node) (k : ℕ) → k < length tree → (visit : IsClosing old new tree grown k) → take (k + 1) grown ≡ take k tree ++ Closed visit.walk ∷ []
taken_closed old new tree grown k below visit = ap (take (k + 1)) visit.set ∙ take_more_set tree k (Closed visit.walk) below

taken_split : (old new : PlaceView) (tree grown : List Node) (k : ℕ) → k < length tree → (visit : IsSplitting old new tree grown k) → take (k + 1) grown ≡ take k tree ++ Split visit.item ∷ []
taken_split old new tree grown k below visit =
    let longer = tree ++ Unvisited ∷ Unvisited ∷ [] in
    ap (take (k + 1)) visit.set ∙ take_more_set longer k (Split visit.item) (omega (arith, below, length-append tree (Unvisited ∷ Unvisited ∷ [])))
    ∙ ap (λ l. l ++ Split visit.item ∷ []) (take-append-le k tree (Unvisited ∷ Unvisited ∷ []) (omega (arith, below)))

module _ (s : SearchView) where
  pub needs_moved : (t : Target) (old new : PlaceView) (orders : List (List Mark)) → HasNeedsOf s t old → IsMoved old new orders → HasNeedsOf s t new
  needs_moved t old new orders h moved = record {
    conflicts = moved.conflicts ∙ h.conflicts;
    lasts = moved.cycle ∙ h.lasts;
    needs = λ g below. ap (λ xs. slice_index xs g) moved.needs ∙ h.needs g below;
  }

  pub place_moved : (t : Target) (old new : PlaceView) (orders : List (List Mark)) → IsPlaceFor s t old → IsMoved old new orders → IsPlaceFor s t new
  place_moved t old new orders h moved = record {
    asks = needs_moved t old new orders h.asks moved;
    due = subst (AreDueItems s.junction.conflicts) (sym moved.items) h.due;
  }

  -- a walk that closes the order at hand does so for the target
  pub closes_for : GreaterNeedsLaw → (t : Target) (p : PlaceView) (walk : List ℕ) → HasNeedsOf s t p → ClosesHere p walk → ClosesFor s.junction s.lanes t s.cycle (order_at p) walk
  closes_for greater t p walk h closes =
      greater s.junction.conflicts (order_at p) p.needs (needs_of s.junction s.lanes t s.cycle) s.cycle walk (λ g below. let same = h.needs g below in omega arith)
      (rw (h.conflicts, h.lasts) at closes)

  -- where starts meet it none does
  pub unclosed_for : AgreeingLaw → ExclusionLaw → (t : Target) (p : PlaceView) (starts : List ℕ) → HasNeedsOf s t p → MeetsHere p starts → IsUnclosed s.junction s.lanes t s.cycle (order_at p)
  unclosed_for agreeing exclusion t p starts h meets walk =
      exclusion s.junction.conflicts (order_at p) (needs_of s.junction s.lanes t s.cycle) s.cycle starts walk
      (agreeing s.junction.conflicts (order_at p) p.needs (needs_of s.junction s.lanes t s.cycle) s.cycle starts starts h.needs (λ g below. refl)
      (rw (h.conflicts, h.lasts) at meets))

  module _ (rising : RisingWalkLaw) (some : 1 ≤ s.cycle) (old new : PlaceView) (tree grown : List Node) (k : ℕ) (there : 1 ≤ length old.coming) where
    -- a walk closed the order, for a target that may have risen
    pub way_closed : TransitiveLaw → GreaterNeedsLaw → (t u : Target) → IsTreeSoFar s t tree k old.coming → IsNotAbove t u → IsPlaceFor s u old → IsClosing old new tree grown k →
        IsPlaceFor s u new × IsTreeSoFar s u grown (k + 1) new.coming
    way_closed transitive greater t u h risen place visit =
        let first : IsTreeSoFar s t tree k (order_at old ∷ coming_later old) = subst (IsTreeSoFar s t tree k) (first_and_rest old.coming there) h in (
          place_moved u old new (coming_later old) place visit.moved,
          rw (visit.set, visit.moved.coming)
              (tree_closed s rising some t tree k (order_at old) (coming_later old) first transitive u visit.walk risen (closes_for greater u old visit.walk place.asks visit.closes)),
        )

    pub way_split : PassedPlanLaw → AgreeingLaw → ExclusionLaw → (t : Target) → IsTreeSoFar s t tree k old.coming → IsPlaceFor s t old → IsSplitting old new tree grown k →
        IsPlaceFor s t new × IsTreeSoFar s t grown (k + 1) new.coming
    way_split passed agreeing exclusion t h place visit =
        let first : IsTreeSoFar s t tree k (order_at old ∷ coming_later old) = subst (IsTreeSoFar s t tree k) (first_and_rest old.coming there) h in (
          place_moved t old new _ place visit.moved,
          rw (visit.set, visit.moved.coming)
              (tree_split s rising some t tree k (order_at old) (coming_later old) first passed visit.item (rw place.asks.conflicts at visit.due)
              (unclosed_for agreeing exclusion t old visit.starts place.asks visit.meets)),
        )

  -- in mode First a session without a plan is on the way, and in mode Best each one
  pub on_the_way : (m : Mode) (t : Target) (p : PlaceView) (tree : List Node) (k : ℕ) (plan : Option FittedPlan) → IsStandingIn s m t p tree k plan → k < length tree → IsOnTheWay s t p tree k plan
  on_the_way mode.First t p tree k None h within = h
  on_the_way mode.First t p tree k (Some f) h within = absurd (omega (arith, h.counted))
  on_the_way mode.Best t p tree k plan h within = h

  pub none_yet : (m : Mode) (t : Target) (p : PlaceView) (tree : List Node) (k : ℕ) (plan : Option FittedPlan) → IsStandingIn s m t p tree k plan → k < length tree → m ≡ mode.First → plan ≡ None
  none_yet mode.First t p tree k None h within is = refl
  none_yet mode.First t p tree k (Some f) h within is = absurd (omega (arith, h.counted))
  none_yet mode.Best t p tree k plan h within is = cc

  pub goes_on : (m : Mode) (t : Target) (p : PlaceView) (tree : List Node) (k : ℕ) (plan : Option FittedPlan) → IsOnTheWay s t p tree k plan → (m ≡ mode.First → plan ≡ None) → IsStandingIn s m t p tree k plan
  goes_on mode.First t p tree k None h none = h
  goes_on mode.First t p tree k (Some f) h none = absurd (none-some f (sym (none refl)))
  goes_on mode.Best t p tree k plan h none = h

  -- a node is left to visit exactly where an unvisited one stands in the tree
  pub left : (m : Mode) (t : Target) (p : PlaceView) (tree : List Node) (k : ℕ) (plan : Option FittedPlan) → IsStandingIn s m t p tree k plan → (k < length tree) ↔ (visited_count tree < length tree)
  left mode.First t p tree k None h = let same = tree_visited s t tree k p.coming h.tree_is in (λ below. omega arith, λ below. omega arith)
  left mode.First t p tree k (Some f) h = let all = visited_count_law tree h.plan.searched.visited in (λ below. absurd (omega (arith, h.counted)), λ below. absurd (omega arith))
  left mode.Best t p tree k plan h = let same = tree_visited s t tree k p.coming h.tree_is in (λ below. omega arith, λ below. omega arith)

  -- a carried plan is one of the search
  pub carried_plan : (plan : Option FittedPlan) → IsCarried s plan → IsEarlierPlan s (plan_in plan)
  carried_plan None h = tt
  carried_plan (Some f) h = (h.for_target, h.marks, h.plan)

  pub some_coming : (t : Target) (p : PlaceView) (tree : List Node) (k : ℕ) (plan : Option FittedPlan) → IsOnTheWay s t p tree k plan → k < length tree → 1 ≤ length p.coming
  some_coming t p tree k plan h below = omega (arith, tree_length s t tree k p.coming h.tree_is)

  module _ (rising : RisingWalkLaw) (transitive : TransitiveLaw) (some : 1 ≤ s.cycle) (m : Mode) (t : Target) (old : PlaceView) (tree : List Node) (k : ℕ) (plan : Option FittedPlan)
      (h : IsStandingIn s m t old tree k plan) (below : k < length tree) where
    way : IsOnTheWay s t old tree k plan
    way = on_the_way m t old tree k plan h below

    there : 1 ≤ length old.coming
    there = some_coming t old tree k plan way below

    -- what was found stays
    still_found : (grown : List Node) (node : Node) → take (k + 1) grown ≡ take k tree ++ node ∷ [] → IfSome (plan_in plan) (IsFoundIn s.junction s.lanes (take (k + 1) grown))
    still_found grown node is = rw is (found_more s.junction s.lanes (take k tree) (node ∷ []) (plan_in plan) way.found)

    -- the node is Closed or Split
    pub stands_on : PassedPlanLaw → GreaterNeedsLaw → AgreeingLaw → ExclusionLaw → IsNotAbove t t → (new : PlaceView) (grown : List Node) (v : Visited) → ((starts : List ℕ) → v ≡ Full starts → ⊥) →
        IsVisit old new tree grown k v → IsStandingIn s m t new grown (k + 1) plan
    stands_on passed greater agreeing exclusion itself new grown ClosedBy other visit =
        let next = way_closed rising some old new tree grown k there transitive greater t t way.tree_is itself way.place visit in
        goes_on m t new grown (k + 1) plan (record { place = next.0; tree_is = next.1; running = way.running; carried = way.carried; found = still_found grown (Closed visit.walk) (taken_closed old new tree grown k below visit) }) (none_yet m t old tree k plan h below)
    stands_on passed greater agreeing exclusion itself new grown SplitAt other visit =
        let next = way_split rising some old new tree grown k there passed agreeing exclusion t way.tree_is way.place visit in
        goes_on m t new grown (k + 1) plan (record { place = next.0; tree_is = next.1; running = way.running; carried = way.carried; found = still_found grown (Split visit.item) (taken_split old new tree grown k below visit) }) (none_yet m t old tree k plan h below)
    stands_on passed greater agreeing exclusion itself new grown (Full starts) other visit = absurd (other starts refl)

    -- its plan ends the search
    pub stands_first : m ≡ mode.First → s.mode ≡ mode.First → (f : FittedPlan) (new : PlaceView) → junction_of f ≡ s.junction → IsPlanFor s t (order_at old) (fitted_plan_of f) →
        IsStandingIn s m t new (take k tree) (k + 1) (Some f)
    stands_first first own f new junction plan_for =
        let asked : t ≡ s.target = subst (λ x. IsRunning s (plan_in x) t) (none_yet m t old tree k plan h below first) way.running in
        let next : IsTreeSoFar s t tree k (order_at old ∷ coming_later old) = subst (IsTreeSoFar s t tree k) (first_and_rest old.coming there) way.tree_is in
        rw first (record {
          plan = record {
            mode = own;
            junction = junction;
            marks = order_at old;
            later = coming_later old;
            searched = subst (λ x. AreSearched s x (take k tree) (order_at old ∷ coming_later old)) asked next.searched;
            plan = subst (λ x. IsPlanFor s x (order_at old) (fitted_plan_of f)) asked plan_for;
          };
          counted = omega (arith, way.tree_is.counted);
        })

    -- it is raised and closed
    pub stands_best : GreaterNeedsLaw → m ≡ mode.Best → (middle raised new : PlaceView) (grown : List Node) (r : Raised) → middle.coming ≡ old.coming → IsRaised s t middle raised r → IsClosing raised new tree grown k →
        IsStandingIn s m r.target new grown (k + 1) (Some r.plan)
    stands_best greater best middle raised new grown r same is visit =
        let coming : raised.coming ≡ old.coming = is.coming ∙ same in
        let tree_there : IsTreeSoFar s t tree k raised.coming = subst (IsTreeSoFar s t tree k) (sym coming) way.tree_is in
        let next = way_closed rising some raised new tree grown k (omega (arith, ap length coming, there)) transitive greater t r.target tree_there is.risen is.place visit in
        let first : IsTreeSoFar s t tree k (order_at raised ∷ coming_later raised) =
        subst (IsTreeSoFar s t tree k) (first_and_rest raised.coming (omega (arith, ap length coming, there))) tree_there in
        rw best (record {
          place = next.0;
          tree_is = next.1;
          running = is.running;
          carried = is.plan;
          found = record {
            marks = order_at raised;
            walk = visit.walk;
            closed = rw (
              taken_closed raised new tree grown k below visit,
              visits_more (take k tree) (root_marks s.junction.conflicts ∷ []) (coming_later raised) (order_at raised) (Closed visit.walk) [] first.searched.leads,
            ) (inl refl);
            best = is.own;
          };
        })

  pub first_plan : (m : Mode) (t : Target) (p : PlaceView) (tree : List Node) (k : ℕ) (f : FittedPlan) → m ≡ mode.First → IsStandingIn s m t p tree k (Some f) → HasFirstPlan s tree k f
  first_plan mode.First t p tree k f is h = h
  first_plan mode.Best t p tree k f is h = cc

  pub way_none : (m : Mode) (t : Target) (p : PlaceView) (tree : List Node) (k : ℕ) → IsStandingIn s m t p tree k None → IsOnTheWay s t p tree k None
  way_none mode.First t p tree k h = h
  way_none mode.Best t p tree k h = h

  pub way_best : (m : Mode) (t : Target) (p : PlaceView) (tree : List Node) (k : ℕ) (plan : Option FittedPlan) → m ≡ mode.Best → IsStandingIn s m t p tree k plan → IsOnTheWay s t p tree k plan
  way_best mode.First t p tree k plan is h = cc
  way_best mode.Best t p tree k plan is h = h
