-- The tree of a search at any time: the nodes that were visited, and an unvisited one for each order to come.
use Rattle.std.proofs.Common.{◌≡◌, ℕ, zero, suc, ◌+◌, ◌<◌, ◌≤◌, List, [], ◌∷◌, ◌++◌, length, take, replicate, refl, sym, subst, ap, ◌∙◌, cond, arith, append-nil, append_assoc, length-append, set}
use Rattle.std.proofs.Math.Seq.{take-append_seam}
use Rattle.std.proofs.lemmas.List.{length-replicate}
use Rattle.std.proofs.lemmas.List.Folds.{sum_by-replicate}
use Rattle.std.proofs.lemmas.List.Sums.{sum_by-append, sum_by-cons}
use Rattle.sig_base.specs.declared.target.Target.{Target}
use Rattle.constraint_cycles.specs.Marks.{root_marks}
use Rattle.constraint_cycles.specs.Tree.{Leads, DecidesOpen, IsSound, is_visited, visited_count}
use Rattle.constraint_cycles.specs.TreeShape.{most_nodes}
use Rattle.constraint_cycles.specs.Visit.{Visit, visits, EachVisit}
use Rattle.constraint_cycles.specs.declared.mark.Mark.{Mark}
use Rattle.constraint_cycles.specs.declared.mark.Mark.TheVariants.{First, Second}
use Rattle.constraint_cycles.specs.declared.node.Node.{Node}
use Rattle.constraint_cycles.specs.declared.node.Node.TheVariants.{Split, Closed, Unvisited}
use Rattle.constraint_cycles.proofs.NodeCounts.{most_one, node_bound, visited_count_law, root_count_law}
use Rattle.constraint_cycles.proofs.Visits.{leads_more, visits_more, visit_law}
use Rattle.least_greens.specs.ClosingLaws.{RisingWalkLaw, PassedPlanLaw}
use Rattle.least_greens.specs.ForTarget.{needs_of, ClosesFor}
use Rattle.least_greens.specs.Laws.{TransitiveLaw}
use Rattle.least_greens.specs.Targets.{IsNotAbove}
use Rattle.cycle_orders.specs.Answer.{IsClosedTree, IsStoppedTree}
use Rattle.cycle_orders.specs.Due.{IsDue, SplitsDue}
use Rattle.cycle_orders.specs.Lean.{IsUnclosed, AreNeeded}
use Rattle.cycle_orders.specs.Search.{SearchView}
use Rattle.cycle_orders.specs.SearchedNodes.{AreSearched}
use Rattle.cycle_orders.specs.Standing.{IsTreeSoFar}
use Rattle.cycle_orders.proofs.Searched.{searched_closed, searched_split}

set_seam : (ns : List Node) (x y : Node) (us : List Node) → set (ns ++ x ∷ us) (length ns) y ≡ (ns ++ y ∷ []) ++ us
set_seam [] x y us = refl
set_seam (n ∷ ns) x y us = ap (λ r. n ∷ r) (set_seam ns x y us)

two_more : (n : ℕ) → replicate n Unvisited ++ Unvisited ∷ Unvisited ∷ [] ≡ replicate (suc (suc n)) Unvisited
two_more zero = refl
two_more (suc n) = ap (λ r. Unvisited ∷ r) (two_more n)

-- the first unvisited node is visited
set_visited : (tree ns : List Node) (k n : ℕ) (x : Node) → tree ≡ ns ++ Unvisited ∷ replicate n Unvisited → length ns ≡ k →
    (set tree k x ≡ (ns ++ x ∷ []) ++ replicate n Unvisited) × (take (k + 1) (set tree k x) ≡ ns ++ x ∷ [])
set_visited tree ns k n x e l =
    let whole : set tree k x ≡ (ns ++ x ∷ []) ++ replicate n Unvisited = rw (e, ← l) (set_seam ns Unvisited x _) in
    let long : length (ns ++ x ∷ []) ≡ k + 1 = length-append ns (x ∷ []) ∙ ap (λ y. y + 1) l in
    (whole, rw (whole, ← long) (take-append_seam (ns ++ x ∷ []) (replicate n Unvisited)))

unvisited_count : (ns : List Node) (n : ℕ) → visited_count (ns ++ replicate n Unvisited) ≡ visited_count ns
unvisited_count ns n =
    sum_by-append (λ (x : Node). cond (is_visited x) 1 0) ns (replicate n Unvisited)
    ∙ omega (arith, sum_by-replicate (λ (x : Node). cond (is_visited x) 1 0) n Unvisited)

module _ (s : SearchView) where
  abbrev root : List Mark
  root = root_marks s.junction.conflicts

  -- a tree over the nodes
  over_nodes : (t : Target) (tree ns : List Node) (k : ℕ) (coming : List (List Mark)) → take k tree ≡ ns → tree ≡ ns ++ replicate (length coming) Unvisited → length ns ≡ k →
      AreSearched s t ns coming → IsTreeSoFar s t tree k coming
  over_nodes t tree ns k coming is whole long h = record { searched = rw is h; whole = rw is whole; counted = rw is long }

  module _ (t : Target) (tree : List Node) (k : ℕ) (coming : List (List Mark)) (h : IsTreeSoFar s t tree k coming) where
    pub tree_length : length tree ≡ k + length coming
    tree_length =
        let same = ap length h.whole ∙ length-append (take k tree) (replicate (length coming) Unvisited) in
        omega (arith, same, h.counted, length-replicate (length coming) Unvisited)

    pub tree_visited : visited_count tree ≡ k
    tree_visited = ap visited_count h.whole ∙ unvisited_count (take k tree) (length coming) ∙ visited_count_law (take k tree) h.searched.visited ∙ h.counted

  module _ (rising : RisingWalkLaw) (some : 1 ≤ s.cycle) (t : Target) (tree : List Node) (k : ℕ) (marks : List Mark) (rest : List (List Mark)) (h : IsTreeSoFar s t tree k (marks ∷ rest)) where
    pub tree_closed : TransitiveLaw → (u : Target) (walk : List ℕ) → IsNotAbove t u → ClosesFor s.junction s.lanes u s.cycle marks walk → IsTreeSoFar s u (set tree k (Closed walk)) (k + 1) rest
    tree_closed transitive u walk risen c =
        let v = set_visited tree (take k tree) k (length rest) (Closed walk) h.whole h.counted in
        over_nodes u (set tree k (Closed walk)) (take k tree ++ Closed walk ∷ []) (k + 1) rest v.1 v.0
        (length-append (take k tree) (Closed walk ∷ []) ∙ ap (λ y. y + 1) h.counted)
        (searched_closed rising s some t (take k tree) marks rest h.searched transitive u walk risen c)

    pub tree_split : PassedPlanLaw → (item : ℕ) → IsDue s.junction.conflicts marks item → IsUnclosed s.junction s.lanes t s.cycle marks →
        IsTreeSoFar s t (set (tree ++ Unvisited ∷ Unvisited ∷ []) k (Split item)) (k + 1) (set marks item First ∷ set marks item Second ∷ rest)
    tree_split passed item due unclosed =
        let longer : tree ++ Unvisited ∷ Unvisited ∷ [] ≡ take k tree ++ Unvisited ∷ replicate (suc (suc (length rest))) Unvisited =
        ap (λ y. y ++ Unvisited ∷ Unvisited ∷ []) h.whole ∙ append_assoc (take k tree) (Unvisited ∷ replicate (length rest) Unvisited) (Unvisited ∷ Unvisited ∷ [])
        ∙ ap (λ y. take k tree ++ Unvisited ∷ y) (two_more (length rest)) in
        let v = set_visited (tree ++ Unvisited ∷ Unvisited ∷ []) (take k tree) k (suc (suc (length rest))) (Split item) longer h.counted in
        over_nodes t (set (tree ++ Unvisited ∷ Unvisited ∷ []) k (Split item)) (take k tree ++ Split item ∷ []) (k + 1) (set marks item First ∷ set marks item Second ∷ rest) v.1 v.0
        (length-append (take k tree) (Split item ∷ []) ∙ ap (λ y. y + 1) h.counted)
        (searched_split rising s some t (take k tree) marks rest h.searched passed item due unclosed)

  -- where no order is to come the tree is the nodes that were visited
  pub whole_tree : (t : Target) (tree : List Node) (k : ℕ) → IsTreeSoFar s t tree k [] → take k tree ≡ tree
  whole_tree t tree k h = sym (h.whole ∙ append-nil (take k tree))

  pub closed_tree : (t : Target) (tree : List Node) (k : ℕ) → IsTreeSoFar s t tree k [] → IsClosedTree s t tree
  closed_tree t tree k h =
      let is = whole_tree t tree k h in
      let searched : AreSearched s t tree [] = subst (λ ns. AreSearched s t ns []) is h.searched in
      record {
        closes = record {
          whole = searched.leads;
          visited = searched.visited;
          sound = (visit_law (IsSound s.junction.conflicts (needs_of s.junction s.lanes t s.cycle) s.cycle) (root ∷ []) [] tree searched.leads).1 searched.sound;
        };
        due = (visit_law (SplitsDue s.junction.conflicts) (root ∷ []) [] tree searched.leads).1 searched.due;
        lean = searched.lean;
      }

  decides_open : (marks : List Mark) (node : Node) → SplitsDue s.junction.conflicts marks node → DecidesOpen marks node
  decides_open marks (Split item) h = h.is_open
  decides_open marks (Closed walk) h = tt
  decides_open marks Unvisited h = tt

  each_open : (before : List Visit) → EachVisit (SplitsDue s.junction.conflicts) before → EachVisit DecidesOpen before
  each_open [] h = tt
  each_open (visit ∷ before) h = (decides_open visit.0 visit.1 h.0, each_open before h.1)

  -- an order to come leaves less than the most nodes
  pub few_visited : (t : Target) (nodes : List Node) (marks : List Mark) (rest : List (List Mark)) → AreSearched s t nodes (marks ∷ rest) → length nodes < most_nodes root
  few_visited t nodes marks rest h =
      let decided = (visit_law DecidesOpen (root ∷ []) (marks ∷ rest) nodes h.leads).1 (each_open (visits (root ∷ []) nodes []) h.due) in
      let bound = node_bound nodes (root ∷ []) (marks ∷ rest) h.leads decided in
      omega (arith, bound, sum_by-cons most_nodes root [], sum_by-cons most_nodes marks rest, most_one marks)

  -- the nodes of a tree, whole but for unvisited ones
  record IsFilled (t : Target) (nodes : List Node) : Type 0 where
    whole : Leads (root ∷ []) nodes []
    sound : EachVisit (IsSound s.junction.conflicts (needs_of s.junction s.lanes t s.cycle) s.cycle) (visits (root ∷ []) nodes [])
    due : EachVisit (SplitsDue s.junction.conflicts) (visits (root ∷ []) nodes [])
    lean : AreNeeded s.junction s.lanes s.target s.cycle (visits (root ∷ []) nodes [])

  filled : (t : Target) (coming : List (List Mark)) (nodes : List Node) → Leads (root ∷ []) nodes coming →
      EachVisit (IsSound s.junction.conflicts (needs_of s.junction s.lanes t s.cycle) s.cycle) (visits (root ∷ []) nodes []) →
      EachVisit (SplitsDue s.junction.conflicts) (visits (root ∷ []) nodes []) → AreNeeded s.junction s.lanes s.target s.cycle (visits (root ∷ []) nodes []) →
      IsFilled t (nodes ++ replicate (length coming) Unvisited)
  filled t [] nodes leads sound due lean = rw (append-nil nodes) (record { whole = leads; sound = sound; due = due; lean = lean })
  filled t (marks ∷ rest) nodes leads sound due lean =
      let e = visits_more nodes (root ∷ []) rest marks Unvisited [] leads in
      rw (← append_assoc nodes (Unvisited ∷ []) (replicate (length rest) Unvisited))
      (filled t rest (nodes ++ Unvisited ∷ []) (leads_more nodes (root ∷ []) rest marks Unvisited leads) (rw e (tt, sound)) (rw e (tt, due)) (rw e (tt, lean)))

  pub stopped_tree : (t : Target) (tree : List Node) (k : ℕ) (marks : List Mark) (rest : List (List Mark)) → IsTreeSoFar s t tree k (marks ∷ rest) → IsStoppedTree s t tree
  stopped_tree t tree k marks rest h =
      let full : IsFilled t tree = rw h.whole (filled t (marks ∷ rest) (take k tree) h.searched.leads h.searched.sound h.searched.due h.searched.lean) in
      record {
        whole = full.whole;
        ends = record { visited = take k tree; more = length rest; joined = h.whole; each = h.searched.visited };
        sound = (visit_law (IsSound s.junction.conflicts (needs_of s.junction s.lanes t s.cycle) s.cycle) (root ∷ []) [] tree full.whole).1 full.sound;
        due = (visit_law (SplitsDue s.junction.conflicts) (root ∷ []) [] tree full.whole).1 full.due;
        lean = full.lean;
        few = omega (arith, tree_visited t tree k (marks ∷ rest) h, h.counted, few_visited t (take k tree) marks rest h.searched, root_count_law s.junction.conflicts);
      }
