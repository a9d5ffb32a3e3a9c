-- One step of trimming, and what is trimmed in the end.
use Rattle.std.proofs.Common.{◌≡◌, ℕ, suc, ◌+◌, ◌-◌, ◌<◌, ◌≤◌, inl, inr, List, [], ◌∷◌, ◌++◌, length, take, drop, refl, sym, subst, ap, ◌∙◌, arith, length-append, length-drop, length-take-le, take-append-drop, append_assoc, add-one, drop-cons, ap₂, Some, slice_get, slice_index, drop_of_length-le, take_all, slice_set}
use Rattle.std.proofs.Math.Seq.{take_at}
use Rattle.std.proofs.lemmas.Option.{slice_get_within, get_or_from_slice_get}
use Rattle.constraint_cycles.specs.Marks.{root_marks}
use Rattle.constraint_cycles.specs.StartsLaws.{AgreeingLaw}
use Rattle.constraint_cycles.specs.Tree.{Leads, DecidesOpen, IsSound, orders_below}
use Rattle.constraint_cycles.specs.TreeShape.{IsSplitTree}
use Rattle.constraint_cycles.specs.WalkLaws.{ExclusionLaw, GreaterNeedsLaw}
use Rattle.constraint_cycles.specs.declared.mark.Mark.{Mark}
use Rattle.constraint_cycles.specs.declared.mark.Mark.TheVariants.{First, Second}
use Rattle.constraint_cycles.specs.declared.node.Node.{Node}
use Rattle.constraint_cycles.specs.declared.node.Node.TheVariants.{Split, Closed, Unvisited}
use Rattle.constraint_cycles.proofs.Subtrees.{parted}
use Rattle.constraint_cycles.proofs.Trees.{all_nodes}
use Rattle.constraint_cycles.proofs.Visits.{leads_more}
use Rattle.least_greens.specs.ForTarget.{needs_of, ClosesCycleFor}
use Rattle.cycle_orders.specs.Place.{PlaceView, IsMoved, order_at, coming_later, ClosesHere}
use Rattle.cycle_orders.specs.Search.{SearchView}
use Rattle.cycle_orders.specs.Standing.{HasNeedsOf}
use Rattle.cycle_orders.specs.Trimmed.{StandsFor, StandFor, IsTrimmed}
use Rattle.cycle_orders.specs.Trimming.{IsReading, StandsHere, IsTrimStep, IsTrimming, behind_trees}
use Rattle.cycle_orders.proofs.Standings.{first_and_rest, closes_for, unclosed_for}
use Rattle.cycle_orders.proofs.Trimmed.{leads_rest, all_rest, stand_more}
use Rattle.cycle_orders.proofs.VisitedCounts.{decides_open}

-- so many trees, and what stands behind them
behind_joined : (first second : List Node) (xs : List (List Mark)) → Leads xs first [] → behind_trees (length xs) (first ++ second) ≡ second
behind_joined [] second [] leads = refl
behind_joined [] second (marks ∷ xs) leads = cc
behind_joined (node ∷ first) second [] leads = absurd leads
behind_joined (Split item ∷ first) second (marks ∷ xs) leads = behind_joined first second _ leads
behind_joined (Closed walk ∷ first) second (marks ∷ xs) leads = behind_joined first second xs leads
behind_joined (Unvisited ∷ first) second (marks ∷ xs) leads = behind_joined first second xs leads

-- the tree of a Split, and the nodes behind it
pub record IsSplitPart (marks : List Mark) (nodes : List Node) : Type 0 where
  pub part : List Node
  pub tree : IsSplitTree marks part
  pub parts : nodes ≡ part ++ behind_trees 1 nodes
  pub some : 1 ≤ length part

pub split_part : (marks : List Mark) (coming : List (List Mark)) (item : ℕ) (nodes rest : List Node) → nodes ≡ Split item ∷ rest → Leads (marks ∷ coming) nodes [] → IsSplitPart marks nodes
split_part marks coming item nodes rest is leads =
    let below = parted rest (orders_below marks (Split item)) coming (rw is at leads) in
    let ways = parted below.first (slice_set marks item First ∷ []) (slice_set marks item Second ∷ []) below.leads_first in
    rw is (record {
      part = Split item ∷ below.first;
      tree = record {
        item = item;
        first = ways.first;
        second = ways.second;
        joined = ap (λ l. Split item ∷ l) ways.parts;
        first_tree = ways.leads_first;
        second_tree = ways.leads_second;
      };
      parts = ap (λ l. Split item ∷ l) (below.parts ∙ ap (λ l. below.first ++ l) (sym (ap (behind_trees 2) below.parts ∙ behind_joined below.first below.second (orders_below marks (Split item)) below.leads_first)));
      some = omega arith;
    })

-- an order is to come where nodes are to be read
pub coming_some : (coming : List (List Mark)) (nodes : List Node) → Leads coming nodes [] → 1 ≤ length nodes → 1 ≤ length coming
coming_some [] [] leads some = absurd (omega arith)
coming_some [] (node ∷ nodes) leads some = absurd leads
coming_some (marks ∷ coming) nodes leads some = omega arith

-- the first node that is read
pub read_one : (nodes : List Node) (at : ℕ) (node : Node) → slice_get nodes at ≡ Some node → drop at nodes ≡ node ∷ drop (at + 1) nodes
read_one nodes at node here =
    rw add-one (drop-cons nodes at node (slice_get_within nodes at node here) ∙ ap (λ n. n ∷ drop (suc at) nodes) (get_or_from_slice_get nodes at node node here))

-- behind it so many trees are left
module _ (count : ℕ) (nodes : List Node) (at : ℕ) (node : Node) (some : 0 < count) (here : slice_get nodes at ≡ Some node) where
  last : count ≡ suc (count - 1)
  last = omega (arith, some)

  pub behind_split : (item : ℕ) → node ≡ Split item → behind_trees (count + 1) (drop (at + 1) nodes) ≡ behind_trees count (drop at nodes)
  behind_split item is =
      let more : count + 1 ≡ suc (suc (count - 1)) = omega (arith, some) in
      ap (λ n. behind_trees n (drop (at + 1) nodes)) more
      ∙ sym (ap₂ behind_trees last (read_one nodes at node here ∙ ap (λ n. n ∷ drop (at + 1) nodes) is))

  pub behind_leaf : ((item : ℕ) → node ≡ Split item → ⊥) → behind_trees (count - 1) (drop (at + 1) nodes) ≡ behind_trees count (drop at nodes)
  behind_leaf leaf = leaf_first node leaf ∙ sym (ap₂ behind_trees last (read_one nodes at node here))
    where
      leaf_first : (n : Node) → ((item : ℕ) → n ≡ Split item → ⊥) → behind_trees (count - 1) (drop (at + 1) nodes) ≡ behind_trees (suc (count - 1)) (n ∷ drop (at + 1) nodes)
      leaf_first (Split item) leaf = absurd (leaf item refl)
      leaf_first (Closed walk) leaf = refl
      leaf_first Unvisited leaf = refl

-- how far the reading comes
counted_part : (nodes part : List Node) (at next : ℕ) → at ≤ length nodes → next ≤ length nodes → drop at nodes ≡ part ++ drop next nodes → next ≡ at + length part
counted_part nodes part at next within later read =
    let same = ap length read ∙ length-append part (drop next nodes) in
    omega (arith, same, length-drop at nodes, length-drop next nodes, within, later)

taken : (nodes part : List Node) (at next : ℕ) → at ≤ length nodes → drop at nodes ≡ part ++ drop next nodes → next ≡ at + length part → take next nodes ≡ take at nodes ++ part
taken nodes part at next within read counted =
    let all : nodes ≡ (take at nodes ++ part) ++ drop next nodes =
    sym (take-append-drop at nodes) ∙ ap (λ l. take at nodes ++ l) read ∙ sym (append_assoc (take at nodes) part (drop next nodes)) in
    let long : length (take at nodes ++ part) ≡ next = length-append (take at nodes) part ∙ omega (arith, length-take-le at nodes within, counted) in
    ap (take next) all ∙ take_at (take at nodes ++ part) (drop next nodes) next long

-- a Split that a walk closes
module _ (old : PlaceView) (nodes : List Node) (at : ℕ) (reading : IsReading old nodes at) (node : Node) (here : slice_get nodes at ≡ Some node) where
  below : at < length nodes
  below = slice_get_within nodes at node here

  pub reading_some : 1 ≤ length old.coming
  reading_some = coming_some old.coming (drop at nodes) reading.whole (omega (arith, length-drop at nodes, below))

  coming : old.coming ≡ order_at old ∷ coming_later old
  coming = first_and_rest old.coming reading_some

  leads_here : Leads (order_at old ∷ coming_later old) (drop at nodes) []
  leads_here = subst (λ orders. Leads orders (drop at nodes) []) coming reading.whole

  module _ (new : PlaceView) (trimmed grown : List Node) where
    module _ (item : ℕ) (is : node ≡ Split item) (middle : PlaceView) (solved : IsMoved old middle old.coming) where
      same_later : coming_later middle ≡ coming_later old
      same_later = ap (λ orders. drop 1 orders) solved.coming

      pub step_walk : IsMoved middle new (coming_later middle) → (walk : List ℕ) → ClosesHere old walk → grown ≡ trimmed ++ Closed walk ∷ [] → (next : ℕ) →
          drop next nodes ≡ behind_trees 1 (drop at nodes) → next ≤ length nodes → IsTrimStep old new nodes at next trimmed grown
      step_walk moved walk closes written next behind within =
          let own = split_part (order_at old) (coming_later old) item (drop at nodes) (drop (at + 1) nodes)
          (read_one nodes at node here ∙ ap (λ n. n ∷ drop (at + 1) nodes) is) leads_here in
          let read : drop at nodes ≡ own.part ++ drop next nodes = own.parts ∙ ap (λ l. own.part ++ l) (sym behind) in
          record {
            node = Closed walk;
            part = own.part;
            read = read;
            counted = counted_part nodes own.part at next (omega (arith, below)) within read;
            some = own.some;
            stands = inr (own.tree, closes);
            moved = record {
              conflicts = moved.conflicts ∙ solved.conflicts;
              needs = moved.needs ∙ solved.needs;
              cycle = moved.cycle ∙ solved.cycle;
              coming = moved.coming ∙ same_later;
              items = refl;
            };
            written = written;
          }

module _ (s : SearchView) (greater : GreaterNeedsLaw) (agreeing : AgreeingLaw) (exclusion : ExclusionLaw) where
  stands_for : (p : PlaceView) (node : Node) (part : List Node) → HasNeedsOf s s.target p → StandsHere p node part → StandsFor s.junction s.lanes s.target s.cycle (order_at p) node part
  stands_for p (Split item) part asks stands = (stands.0, unclosed_for s agreeing exclusion s.target p stands.1.0 asks stands.1.1)
  stands_for p (Closed walk) part asks (inl is) = inl is
  stands_for p (Closed walk) part asks (inr closed) = inr (closed.0, closes_for s greater s.target p walk asks closed.1)
  stands_for p Unvisited part asks stands = absurd stands

  pub trimming_step : (nodes trimmed grown : List Node) (old new : PlaceView) (at next : ℕ) → at < length nodes → IsTrimming s nodes old at trimmed →
      IsTrimStep old new nodes at next trimmed grown → IsTrimming s nodes new next grown
  trimming_step nodes trimmed grown old new at next below h step =
      let root = root_marks s.junction.conflicts in
      let there = coming_some old.coming (drop at nodes) h.reading.whole (omega (arith, length-drop at nodes, below)) in
      let coming = first_and_rest old.coming there in
      let own = stands_for old step.node step.part h.asks step.stands in
      let whole = rw step.read at (rw coming at h.reading.whole) in
      let decides = rw step.read at (rw coming at h.reading.decides) in
      let leads : Leads (root ∷ []) trimmed (order_at old ∷ coming_later old) = subst (Leads (root ∷ []) trimmed) coming h.leads in
      record {
        asks = record {
          conflicts = step.moved.conflicts ∙ h.asks.conflicts;
          lasts = step.moved.cycle ∙ h.asks.lasts;
          needs = λ g under. ap (λ xs. slice_index xs g) step.moved.needs ∙ h.asks.needs g under;
        };
        within = omega (arith, ap length step.read, length-append step.part (drop next nodes), length-drop at nodes, step.counted, below);
        reading = rw step.moved.coming (record {
          whole = leads_rest s.junction s.lanes s.target s.cycle (order_at old) (coming_later old) (drop next nodes) step.node step.part own whole;
          visited = h.reading.visited;
          decides = all_rest s.junction s.lanes s.target s.cycle (order_at old) (coming_later old) (drop next nodes) DecidesOpen step.node step.part own decides;
        });
        stand = rw (step.written, taken nodes step.part at next (omega (arith, below)) step.read step.counted)
            (stand_more s.junction s.lanes s.target s.cycle trimmed (root ∷ []) (coming_later old) (take at nodes) step.part (order_at old) step.node leads h.stand own);
        leads = rw (step.written, step.moved.coming) (leads_more trimmed (root ∷ []) (coming_later old) (order_at old) step.node leads);
      }

-- before the first node
pub trimming_begun : (s : SearchView) (nodes : List Node) (p : PlaceView) → HasNeedsOf s s.target p → p.coming ≡ root_marks s.junction.conflicts ∷ [] →
    ClosesCycleFor s.junction s.lanes s.target s.cycle nodes → IsTrimming s nodes p 0 []
trimming_begun s nodes p asks coming closes = record {
  asks = asks;
  within = omega arith;
  reading = rw coming (record {
    whole = closes.whole;
    visited = closes.visited;
    decides = all_nodes (IsSound s.junction.conflicts (needs_of s.junction s.lanes s.target s.cycle) s.cycle) DecidesOpen
        (decides_open s.junction.conflicts (needs_of s.junction s.lanes s.target s.cycle) s.cycle) (root_marks s.junction.conflicts ∷ []) nodes closes.sound;
  });
  stand = refl;
  leads = sym coming;
}

no_node : (orders : List (List Mark)) → Leads orders [] [] → orders ≡ []
no_node orders leads = leads

-- behind the last one
module _ (s : SearchView) (nodes trimmed : List Node) (p : PlaceView) (at : ℕ) (over : length nodes ≤ at) (h : IsTrimming s nodes p at trimmed) where
  pub trimming_stands : IsTrimmed s.junction s.lanes s.target s.cycle nodes trimmed
  trimming_stands = subst (StandFor s.junction s.lanes s.target s.cycle (root_marks s.junction.conflicts ∷ []) trimmed) (take_all at nodes over) h.stand

  pub trimming_whole : Leads (root_marks s.junction.conflicts ∷ []) trimmed []
  trimming_whole =
      let none : drop at nodes ≡ [] = drop_of_length-le nodes over in
      let over_all : Leads p.coming [] [] = rw none at h.reading.whole in
      subst (Leads (root_marks s.junction.conflicts ∷ []) trimmed) (no_node p.coming over_all) h.leads
