-- One more node of a search: it is Closed, or Split at its due item.
use Rattle.std.proofs.Common.{◌≡◌, ℕ, ◌≤◌, inl, inr, List, [], ◌∷◌, ◌++◌, refl, sym, subst, set}
use Rattle.std.proofs.lemmas.List.Elements.{All-append, All-cons, All-nil}
use Rattle.sig_base.specs.Ratio.{fraction_of}
use Rattle.sig_base.specs.declared.ratio.Ratio.{Ratio}
use Rattle.sig_base.specs.declared.target.Target.{Target}
use Rattle.sig_base.specs.declared.target.Target.TheVariants.{Beat}
use Rattle.constraint_cycles.specs.Marks.{root_marks}
use Rattle.constraint_cycles.specs.Tree.{IsSound, IsVisited}
use Rattle.constraint_cycles.specs.Visit.{Visit, visits, EachVisit}
use Rattle.constraint_cycles.specs.declared.mark.Mark.{Mark}
use Rattle.constraint_cycles.specs.declared.mark.Mark.TheVariants.{First, Second}
use Rattle.constraint_cycles.specs.declared.node.Node.{Node}
use Rattle.constraint_cycles.specs.declared.node.Node.TheVariants.{Split, Closed, Unvisited}
use Rattle.constraint_cycles.proofs.Visits.{leads_more, visits_more}
use Rattle.least_greens.specs.ClosingLaws.{RisingWalkLaw, PassedPlanLaw}
use Rattle.least_greens.specs.ForTarget.{needs_of, ClosesFor}
use Rattle.least_greens.specs.Laws.{TransitiveLaw}
use Rattle.least_greens.specs.Targets.{IsNotAbove}
use Rattle.plan_model.specs.Multiplier.{IsLeastMultiplier}
use Rattle.plan_model.specs.OwnOrder.{BeginsWithGroup0}
use Rattle.plan_model.specs.SignalPlan.{PlanView}
use Rattle.cycle_orders.specs.Due.{IsDue}
use Rattle.cycle_orders.specs.Lean.{IsUnclosed, MeetsClosed, MeetsSomeClosed, IsNeeded}
use Rattle.cycle_orders.specs.Search.{SearchView}
use Rattle.cycle_orders.specs.SearchedNodes.{AreSearched}

module _ (rising : RisingWalkLaw) (s : SearchView) (some : 1 ≤ s.cycle) where
  abbrev sound_for : Target → List Mark → Node → Type 0
  sound_for target = IsSound s.junction.conflicts (needs_of s.junction s.lanes target s.cycle) s.cycle

  sound_risen : (t u : Target) → IsNotAbove t u → (marks : List Mark) (node : Node) → sound_for t marks node → sound_for u marks node
  sound_risen t u h marks (Split item) g = g
  sound_risen t u h marks (Closed walk) g = rising s.junction s.lanes t u s.cycle marks walk some h g
  sound_risen t u h marks Unvisited g = tt

  each_risen : (t u : Target) → IsNotAbove t u → (before : List Visit) → EachVisit (sound_for t) before → EachVisit (sound_for u) before
  each_risen t u h [] g = tt
  each_risen t u h (visit ∷ before) g = (sound_risen t u h visit.0 visit.1 g.0, each_risen t u h before g.1)

  module _ (passed_law : PassedPlanLaw) (t : Target) (p : PlanView) (r : Ratio) (begins : BeginsWithGroup0 s.junction p) (lasts : p.cycle ≡ s.cycle)
      (least : IsLeastMultiplier s.junction p s.lanes (fraction_of r)) where
    closed_beaten : (marks : List Mark) (node : Node) → sound_for t marks node → MeetsClosed s.junction p marks node → IsNotAbove (Beat r) t
    closed_beaten marks (Split item) g h = absurd h
    closed_beaten marks (Closed walk) g h =
        (passed_law s.junction p s.lanes t marks walk begins h (subst (λ cycle. ClosesFor s.junction s.lanes t cycle marks walk) (sym lasts) g)).1 r least
    closed_beaten marks Unvisited g h = absurd h

    -- to beat a plan that was passed isn't above the running target
    passed_beaten : (before : List Visit) → EachVisit (sound_for t) before → MeetsSomeClosed s.junction p before → IsNotAbove (Beat r) t
    passed_beaten [] g h = absurd h
    passed_beaten (visit ∷ before) g (inl here) = closed_beaten visit.0 visit.1 g.0 here
    passed_beaten (visit ∷ before) g (inr later) = passed_beaten before g.1 later

  -- an order that no walk closes for the running target is needed
  pub needed : PassedPlanLaw → (t : Target) (before : List Visit) (marks : List Mark) → IsNotAbove s.target t → EachVisit (sound_for t) before →
      IsUnclosed s.junction s.lanes t s.cycle marks → IsNeeded s.junction s.lanes s.target s.cycle before marks
  needed passed_law t before marks h g unclosed = record {
    unclosed = λ walk c. unclosed walk (rising s.junction s.lanes s.target t s.cycle marks walk some h c);
    passed = λ p r passed least walk c.
        unclosed walk (rising s.junction s.lanes (Beat r) t s.cycle marks walk some (passed_beaten passed_law t p r passed.begins passed.lasts least before g passed.met) c);
  }

  module _ (t : Target) (nodes : List Node) (marks : List Mark) (rest : List (List Mark)) (h : AreSearched s t nodes (marks ∷ rest)) where
    abbrev root : List Mark
    root = root_marks s.junction.conflicts

    pub searched_closed : TransitiveLaw → (u : Target) (walk : List ℕ) → IsNotAbove t u → ClosesFor s.junction s.lanes u s.cycle marks walk → AreSearched s u (nodes ++ Closed walk ∷ []) rest
    searched_closed transitive u walk risen c =
        let e = visits_more nodes (root ∷ []) rest marks (Closed walk) [] h.leads in
        record {
          leads = leads_more nodes (root ∷ []) rest marks (Closed walk) h.leads;
          visited = All-append IsVisited nodes (Closed walk ∷ []) h.visited (All-cons IsVisited (Closed walk) [] refl (All-nil IsVisited));
          sound = rw e (c, each_risen t u risen (visits (root ∷ []) nodes []) h.sound);
          due = rw e (tt, h.due);
          lean = rw e (tt, h.lean);
          risen = transitive s.target t u h.risen risen;
        }

    pub searched_split : PassedPlanLaw → (item : ℕ) → IsDue s.junction.conflicts marks item → IsUnclosed s.junction s.lanes t s.cycle marks →
        AreSearched s t (nodes ++ Split item ∷ []) (set marks item First ∷ set marks item Second ∷ rest)
    searched_split passed_law item due unclosed =
        let e = visits_more nodes (root ∷ []) rest marks (Split item) [] h.leads in
        record {
          leads = leads_more nodes (root ∷ []) rest marks (Split item) h.leads;
          visited = All-append IsVisited nodes (Split item ∷ []) h.visited (All-cons IsVisited (Split item) [] refl (All-nil IsVisited));
          sound = rw e (due.is_open, h.sound);
          due = rw e (due, h.due);
          lean = rw e (needed passed_law t (visits (root ∷ []) nodes []) marks h.risen h.sound unclosed, h.lean);
          risen = h.risen;
        }
