-- What trimming leaves closes the cycle, and is lean.
use Rattle.std.proofs.Common.{◌≡◌, ℕ, ◌+◌, ◌≤◌, cond, arith, inl, inr, List, [], ◌∷◌, ◌++◌, refl, sym, ap, ◌∙◌, append-nil, append_assoc}
use Rattle.std.specs.Prelude.{⊤, All}
use Rattle.std.proofs.lemmas.List.Elements.{All-cons, All-nil}
use Rattle.std.proofs.lemmas.List.Sums.{sum_by-append, sum_by-cons}
use Rattle.sig_base.specs.declared.lane_set.LaneSet.{LaneSet}
use Rattle.sig_base.specs.declared.target.Target.{Target}
use Rattle.constraint_cycles.specs.Marks.{root_marks}
use Rattle.constraint_cycles.specs.Tree.{Leads, AllNodes, IsSound, IsVisited, is_visited, visited_count, orders_below}
use Rattle.constraint_cycles.specs.Visit.{Visit, visits, EachVisit}
use Rattle.constraint_cycles.specs.declared.mark.Mark.{Mark}
use Rattle.constraint_cycles.specs.declared.node.Node.{Node}
use Rattle.constraint_cycles.specs.declared.node.Node.TheVariants.{Split, Closed, Unvisited}
use Rattle.constraint_cycles.proofs.Subtrees.{tree_shape_law}
use Rattle.constraint_cycles.proofs.Visits.{visit_law}
use Rattle.junction_model.specs.Junction.{JunctionView}
use Rattle.least_greens.specs.ClosingLaws.{RisingWalkLaw, PassedPlanLaw}
use Rattle.least_greens.specs.ForTarget.{needs_of, ClosesFor, ClosesCycleFor}
use Rattle.least_greens.specs.Laws.{TotalLaw}
use Rattle.cycle_orders.specs.Lean.{IsUnclosed, AreNeeded, IsLeanFor}
use Rattle.cycle_orders.specs.Search.{SearchView}
use Rattle.cycle_orders.specs.Trimmed.{StandsFor, StandFor, IsTrimmed, IsAmong, IsSplitOf}
use Rattle.cycle_orders.proofs.Searched.{needed}
use Rattle.cycle_orders.proofs.TargetOrders.{not_above_itself}

-- the nodes behind those of the first orders
leads_behind : (first rest : List Node) (xs ys : List (List Mark)) → Leads xs first [] → Leads (xs ++ ys) (first ++ rest) [] → Leads ys rest []
leads_behind [] rest [] ys own all = all
leads_behind [] rest (marks ∷ xs) ys own all = cc
leads_behind (node ∷ first) rest [] ys own all = absurd own
leads_behind (node ∷ first) rest (marks ∷ xs) ys own all =
    leads_behind first rest (orders_below marks node ++ xs) ys own (rw (← append_assoc (orders_below marks node) xs ys) at all)

all_behind : (P : List Mark → Node → Type 0) (first rest : List Node) (xs ys : List (List Mark)) → Leads xs first [] → AllNodes P (xs ++ ys) (first ++ rest) → AllNodes P ys rest
all_behind P [] rest [] ys own all = all
all_behind P [] rest (marks ∷ xs) ys own all = cc
all_behind P (node ∷ first) rest [] ys own all = absurd own
all_behind P (node ∷ first) rest (marks ∷ xs) ys own all =
    all_behind P first rest (orders_below marks node ++ xs) ys own (rw (← append_assoc (orders_below marks node) xs ys) at all.1)

-- a property of the Splits alone
abbrev pub OfSplits : (List Mark → Type 0) → List Mark → Node → Type 0
OfSplits P marks (Split item) = P marks
OfSplits P marks (Closed walk) = ⊤
OfSplits P marks Unvisited = ⊤

module _ (junction : JunctionView) (lanes : LaneSet) (target : Target) (cycle : ℕ) where
  -- behind the part for which a node stands
  module _ (marks : List Mark) (coming : List (List Mark)) (rest : List Node) where
    pub leads_rest : (node : Node) (part : List Node) → StandsFor junction lanes target cycle marks node part → Leads (marks ∷ coming) (part ++ rest) [] →
        Leads (orders_below marks node ++ coming) rest []
    leads_rest (Split item) part stands all = rw stands.0 at all
    leads_rest (Closed walk) part (inl is) all = rw is at all
    leads_rest (Closed walk) part (inr closed) all = leads_behind part rest (marks ∷ []) coming ((tree_shape_law marks part).1 (inr closed.0)) all
    leads_rest Unvisited part stands all = absurd stands

    pub all_rest : (P : List Mark → Node → Type 0) (node : Node) (part : List Node) → StandsFor junction lanes target cycle marks node part → AllNodes P (marks ∷ coming) (part ++ rest) →
        AllNodes P (orders_below marks node ++ coming) rest
    all_rest P (Split item) part stands all = (rw stands.0 at all).1
    all_rest P (Closed walk) part (inl is) all = (rw is at all).1
    all_rest P (Closed walk) part (inr closed) all = all_behind P part rest (marks ∷ []) coming ((tree_shape_law marks part).1 (inr closed.0)) all
    all_rest P Unvisited part stands all = absurd stands

  -- one more node, and the part for which it stands
  pub stand_more : (nodes : List Node) (coming later : List (List Mark)) (seen part : List Node) (marks : List Mark) (node : Node) → Leads coming nodes (marks ∷ later) →
      StandFor junction lanes target cycle coming nodes seen → StandsFor junction lanes target cycle marks node part →
      StandFor junction lanes target cycle coming (nodes ++ node ∷ []) (seen ++ part)
  stand_more [] [] later seen part marks node leads stand own = cc
  stand_more [] (first ∷ coming) later seen part marks node leads stand own =
      let same : first ≡ marks = cc in
      rw (stand, same) (part, [], sym (append-nil part), own, refl)
  stand_more (n ∷ nodes) [] later seen part marks node leads stand own = absurd leads
  stand_more (n ∷ nodes) (first ∷ coming) later seen part marks node leads stand own = (
    stand.0,
    stand.1 ++ part,
    ap (λ l. l ++ part) stand.2 ∙ append_assoc stand.0 stand.1 part,
    stand.3,
    stand_more nodes (orders_below first n ++ coming) later stand.1 part marks node leads stand.4 own,
  )

  module _ (P Q : List Mark → Node → Type 0)
      (split : (marks : List Mark) (item : ℕ) → IsUnclosed junction lanes target cycle marks → P marks (Split item) → Q marks (Split item))
      (kept : (marks : List Mark) (walk : List ℕ) → P marks (Closed walk) → Q marks (Closed walk))
      (closed : (marks : List Mark) (walk : List ℕ) → ClosesFor junction lanes target cycle marks walk → Q marks (Closed walk)) where
    node_stands : (marks : List Mark) (coming : List (List Mark)) (node : Node) (part rest : List Node) → StandsFor junction lanes target cycle marks node part →
        AllNodes P (marks ∷ coming) (part ++ rest) → Q marks node
    node_stands marks coming (Split item) part rest stands all = split marks item stands.1 (rw stands.0 at all).0
    node_stands marks coming (Closed walk) part rest (inl is) all = kept marks walk (rw is at all).0
    node_stands marks coming (Closed walk) part rest (inr own) all = closed marks walk own.1
    node_stands marks coming Unvisited part rest stands all = absurd stands

    -- what holds of the older nodes, and so of those that stand for them
    all_stand : (nodes : List Node) (coming : List (List Mark)) (older : List Node) → StandFor junction lanes target cycle coming nodes older → AllNodes P coming older → AllNodes Q coming nodes
    all_stand [] coming older stand all = tt
    all_stand (node ∷ nodes) [] older stand all = absurd stand
    all_stand (node ∷ nodes) (marks ∷ coming) older stand all =
        let parts : AllNodes P (marks ∷ coming) (stand.0 ++ stand.1) = rw stand.2 at all in (
          node_stands marks coming node stand.0 stand.1 stand.3 parts,
          all_stand nodes (orders_below marks node ++ coming) stand.1 stand.4 (all_rest marks coming stand.1 P node stand.0 stand.3 parts),
        )

  visited_stands : (marks : List Mark) (node : Node) (part : List Node) → StandsFor junction lanes target cycle marks node part → IsVisited node
  visited_stands marks (Split item) part stands = refl
  visited_stands marks (Closed walk) part stands = refl
  visited_stands marks Unvisited part stands = absurd stands

  all_visited : (nodes : List Node) (coming : List (List Mark)) (older : List Node) → StandFor junction lanes target cycle coming nodes older → All IsVisited nodes
  all_visited [] coming older stand = All-nil IsVisited
  all_visited (node ∷ nodes) [] older stand = absurd stand
  all_visited (node ∷ nodes) (marks ∷ coming) older stand =
      All-cons IsVisited node nodes (visited_stands marks node stand.0 stand.3) (all_visited nodes (orders_below marks node ++ coming) stand.1 stand.4)

abbrev counts : Node → ℕ
counts node = cond (is_visited node) 1 0

counted_both : (first second : List Node) → visited_count (first ++ second) ≡ visited_count first + visited_count second
counted_both = sum_by-append counts

counted_first : (node : Node) (nodes : List Node) → visited_count (node ∷ nodes) ≡ counts node + visited_count nodes
counted_first = sum_by-cons counts

counts_one : (node : Node) → counts node ≤ 1
counts_one (Split item) = omega arith
counts_one (Closed walk) = omega arith
counts_one Unvisited = omega arith

-- a node counts at most as much as the part for which it stands
module _ (junction : JunctionView) (lanes : LaneSet) (target : Target) (cycle : ℕ) where
  counted_part : (marks : List Mark) (node : Node) (part : List Node) → StandsFor junction lanes target cycle marks node part → 1 ≤ visited_count part
  counted_part marks (Split item) part stands = rw (stands.0, counted_first (Split item) []) (omega arith)
  counted_part marks (Closed walk) part (inl is) = rw (is, counted_first (Closed walk) []) (omega arith)
  counted_part marks (Closed walk) part (inr own) = rw (own.0.joined, counted_first (Split own.0.item) (own.0.first ++ own.0.second)) (omega arith)
  counted_part marks Unvisited part stands = absurd stands

  pub trimmed_no_more : (nodes : List Node) (coming : List (List Mark)) (older : List Node) → StandFor junction lanes target cycle coming nodes older → visited_count nodes ≤ visited_count older
  trimmed_no_more [] coming older stand = omega arith
  trimmed_no_more (node ∷ nodes) [] older stand = absurd stand
  trimmed_no_more (node ∷ nodes) (marks ∷ coming) older stand =
      let some = counted_part marks node stand.0 stand.3 in
      let more = trimmed_no_more nodes (orders_below marks node ++ coming) stand.1 stand.4 in
      rw (stand.2, counted_both stand.0 stand.1, counted_first node nodes) (omega (arith, counts_one node, some, more))

-- each node is among the visits
pub among_later : (nodes : List Node) (coming : List (List Mark)) (before : List Visit) (marks : List Mark) (node : Node) → IsAmong marks node before → IsAmong marks node (visits coming nodes before)
among_later [] coming before marks node among = among
among_later (n ∷ nodes) [] before marks node among = among
among_later (n ∷ nodes) (first ∷ coming) before marks node among = among_later nodes (orders_below first n ++ coming) ((first, n) ∷ before) marks node (inr among)

all_among : (nodes : List Node) (coming : List (List Mark)) (before : List Visit) → Leads coming nodes [] →
    AllNodes (λ marks node. IsAmong marks node (visits coming nodes before)) coming nodes
all_among [] coming before leads = tt
all_among (node ∷ nodes) [] before leads = absurd leads
all_among (node ∷ nodes) (marks ∷ coming) before leads = (
  among_later nodes (orders_below marks node ++ coming) ((marks, node) ∷ before) marks node (inl refl),
  all_among nodes (orders_below marks node ++ coming) ((marks, node) ∷ before) leads,
)

module _ (junction : JunctionView) (lanes : LaneSet) (cycle : ℕ) where
  -- what is lean splits no closed order
  unclosed_each : (target : Target) (before : List Visit) → AreNeeded junction lanes target cycle before → EachVisit (OfSplits (IsUnclosed junction lanes target cycle)) before
  unclosed_each target [] needed_all = tt
  unclosed_each target ((marks, Split item) ∷ before) needed_all = (needed_all.0.unclosed, unclosed_each target before needed_all.1)
  unclosed_each target ((marks, Closed walk) ∷ before) needed_all = (tt, unclosed_each target before needed_all.1)
  unclosed_each target ((marks, Unvisited) ∷ before) needed_all = (tt, unclosed_each target before needed_all.1)

  -- what is lean for a target is so for each other one for which it splits no closed order
  other_needed : (target other : Target) (before : List Visit) → AreNeeded junction lanes target cycle before →
      EachVisit (OfSplits (IsUnclosed junction lanes other cycle)) before → AreNeeded junction lanes other cycle before
  other_needed target other [] needed_all unclosed = tt
  other_needed target other ((marks, Split item) ∷ before) needed_all unclosed =
      (record { unclosed = unclosed.0; passed = needed_all.0.passed }, other_needed target other before needed_all.1 unclosed.1)
  other_needed target other ((marks, Closed walk) ∷ before) needed_all unclosed = (tt, other_needed target other before needed_all.1 unclosed.1)
  other_needed target other ((marks, Unvisited) ∷ before) needed_all unclosed = (tt, other_needed target other before needed_all.1 unclosed.1)

module _ (rising : RisingWalkLaw) (passed : PassedPlanLaw) (total : TotalLaw) (s : SearchView) (some : 1 ≤ s.cycle) where
  -- a tree that closes, and splits no closed order, is lean
  own_needed : (before : List Visit) → EachVisit (IsSound s.junction.conflicts (needs_of s.junction s.lanes s.target s.cycle) s.cycle) before →
      EachVisit (OfSplits (IsUnclosed s.junction s.lanes s.target s.cycle)) before → AreNeeded s.junction s.lanes s.target s.cycle before
  own_needed [] sound unclosed = tt
  own_needed ((marks, Split item) ∷ before) sound unclosed =
      (needed rising s some passed s.target before marks (not_above_itself total s.target) sound.1 unclosed.0, own_needed before sound.1 unclosed.1)
  own_needed ((marks, Closed walk) ∷ before) sound unclosed = (tt, own_needed before sound.1 unclosed.1)
  own_needed ((marks, Unvisited) ∷ before) sound unclosed = (tt, own_needed before sound.1 unclosed.1)

-- a tree that closes the cycle, and what trimming leaves of it
module _ (s : SearchView) (older nodes : List Node) (closes : ClosesCycleFor s.junction s.lanes s.target s.cycle older)
    (trimmed : IsTrimmed s.junction s.lanes s.target s.cycle older nodes) (whole : Leads (root_marks s.junction.conflicts ∷ []) nodes []) where
  abbrev root : List Mark
  root = root_marks s.junction.conflicts

  abbrev sound_here : List Mark → Node → Type 0
  sound_here = IsSound s.junction.conflicts (needs_of s.junction s.lanes s.target s.cycle) s.cycle

  trimmed_sound : AllNodes sound_here (root ∷ []) nodes
  trimmed_sound = all_stand s.junction s.lanes s.target s.cycle sound_here sound_here (λ marks item unclosed h. h) (λ marks walk h. h) (λ marks walk h. h) nodes (root ∷ []) older trimmed closes.sound

  pub trimmed_closes : ClosesCycleFor s.junction s.lanes s.target s.cycle nodes
  trimmed_closes = record { whole = whole; visited = all_visited s.junction s.lanes s.target s.cycle nodes (root ∷ []) older trimmed; sound = trimmed_sound }

  -- what holds of the older Splits holds of those that stay
  of_splits : (P : List Mark → Type 0) → AllNodes (OfSplits P) (root ∷ []) older → AllNodes (OfSplits P) (root ∷ []) nodes
  of_splits P = all_stand s.junction s.lanes s.target s.cycle (OfSplits P) (OfSplits P) (λ marks item unclosed h. h) (λ marks walk h. tt) (λ marks walk h. tt) nodes (root ∷ []) older trimmed

  trimmed_unclosed : AllNodes (OfSplits (IsUnclosed s.junction s.lanes s.target s.cycle)) (root ∷ []) nodes
  trimmed_unclosed = all_stand s.junction s.lanes s.target s.cycle sound_here (OfSplits (IsUnclosed s.junction s.lanes s.target s.cycle))
      (λ marks item unclosed h. unclosed) (λ marks walk h. tt) (λ marks walk h. tt) nodes (root ∷ []) older trimmed closes.sound

  pub trimmed_splits : AllNodes (IsSplitOf s.junction.conflicts older) (root ∷ []) nodes
  trimmed_splits = all_stand s.junction s.lanes s.target s.cycle (λ marks node. IsAmong marks node (visits (root ∷ []) older [])) (IsSplitOf s.junction.conflicts older)
      (λ marks item unclosed h. h) (λ marks walk h. tt) (λ marks walk h. tt) nodes (root ∷ []) older trimmed (all_among older (root ∷ []) [] closes.whole)

  module _ (rising : RisingWalkLaw) (passed : PassedPlanLaw) (total : TotalLaw) (some : 1 ≤ s.cycle) where
    pub trimmed_lean : IsLeanFor s.junction s.lanes s.target s.cycle nodes
    trimmed_lean = own_needed rising passed total s some (visits (root ∷ []) nodes [])
        ((visit_law sound_here (root ∷ []) [] nodes whole).0 trimmed_sound)
        ((visit_law (OfSplits (IsUnclosed s.junction s.lanes s.target s.cycle)) (root ∷ []) [] nodes whole).0 trimmed_unclosed)

    pub trimmed_still_lean : (other : Target) → IsLeanFor s.junction s.lanes other s.cycle older → IsLeanFor s.junction s.lanes other s.cycle nodes
    trimmed_still_lean other lean =
        let unclosed = IsUnclosed s.junction s.lanes other s.cycle in
        let before = (visit_law (OfSplits unclosed) (root ∷ []) [] older closes.whole).1 (unclosed_each s.junction s.lanes s.cycle other (visits (root ∷ []) older []) lean) in
        other_needed s.junction s.lanes s.cycle s.target other (visits (root ∷ []) nodes []) trimmed_lean
        ((visit_law (OfSplits unclosed) (root ∷ []) [] nodes whole).0 (of_splits unclosed before))
