-- The place of a search, from its parts.
use Rattle.std.proofs.Common.{◌≡◌, ◌≢◌, ℕ, ◌+◌, ◌-◌, ◌<◌, ◌≤◌, List, [], ◌∷◌, ◌++◌, Option, None, Some, length, length-append, length-take-le, get_or-take, refl, sym, subst, ap, ◌∙◌, arith, drop, set, slice_get, slice_index, slice_index_or}
use Rattle.std.proofs.Math.ListN.{get_or-append}
use Rattle.std.proofs.Math.Seq.{get_or_at}
use Rattle.std.proofs.lemmas.List.Sums.{count_by-le-length}
use Rattle.std.specs.Prelude.{MatchOption, IfSome, take}
use Rattle.std.proofs.lemmas.Option.{slice_get_within, slice_get-get_or, same_Some}
use Rattle.conflict_matrix.specs.Matrix.{Matrix}
use Rattle.conflict_matrix.specs.Pairs.{fixed_pairs}
use Rattle.constraint_cycles.specs.Closing.{Closes}
use Rattle.constraint_cycles.specs.Marks.{OrderView, IsOrderFor, IsDecided, root_marks}
use Rattle.constraint_cycles.specs.Starts.{MeetsOrder}
use Rattle.constraint_cycles.specs.Tree.{orders_below}
use Rattle.constraint_cycles.specs.TreeShape.{is_open}
use Rattle.constraint_cycles.specs.declared.mark.Mark.{Mark}
use Rattle.constraint_cycles.specs.declared.mark.Mark.TheVariants.{Open, First}
use Rattle.constraint_cycles.specs.declared.node.Node.TheVariants.{Split}
use Rattle.constraint_cycles.proofs.NodeCounts.{decided_count}
use Rattle.difference_system.specs.Closure.{ClosureView, top_of, MeetsTop, ClosesTop, decided}
use Rattle.difference_system.specs.Solution.{IsSolvable, IsClosingCircuit, IfWalk}
use Rattle.difference_system.specs.declared.solved.Solved.{Solved}
use Rattle.difference_system.specs.declared.solved.Solved.TheVariants.{Starts, Walk}
use Rattle.cycle_orders.specs.Due.{IsDue, IsOpenItem}
use Rattle.cycle_orders.specs.DueItems.{AreDueItems}
use Rattle.cycle_orders.specs.Place.{PlaceView, IsPlace, IsMoved, order_at, MeetsHere, ClosesHere, coming_at, closure_orders_at, place_of}
use Rattle.cycle_orders.specs.Way.{orders_along, orders_above, orders_waiting}
use Rattle.cycle_orders.specs.declared.place.Standing.{Standing}
use Rattle.cycle_orders.specs.declared.place.Standing.TheVariants.{Above, At, Past}
use Rattle.cycle_orders.proofs.Marking.{set_here, set_same, set_again}
use Rattle.cycle_orders.proofs.Ways.{next_due, all_decided, last_decided, way_down, above_down, waiting_down, along_first, above_first, along_above, along_length, below_root, way_agrees, along_agrees, waiting_agrees, open_left}

-- an order is to come: it is the one at hand
pub at_hand : (items : List ℕ) (standing : Standing) (marks : List Mark) (depth : ℕ) → 1 ≤ length (coming_at items standing marks depth) →
    coming_at items standing marks depth ≡ marks ∷ orders_waiting items marks depth
at_hand items Above marks depth some = refl
at_hand items At marks depth some = refl
at_hand items Past marks depth some = absurd (omega arith)

-- where the closure isn't at the order at hand it stands above
pub stands_above : (items : List ℕ) (standing : Standing) (marks : List Mark) (depth : ℕ) → standing ≢ At →
    closure_orders_at items standing marks depth ≡ orders_above items marks depth
stands_above items Above marks depth other = refl
stands_above items At marks depth other = absurd (other refl)
stands_above items Past marks depth other = refl

module _ (old new : PlaceView) (moved : IsMoved old new old.coming) where
  pub moved_meets : MeetsHere new ≡ MeetsHere old
  moved_meets = rw (moved.conflicts, moved.needs, moved.cycle, moved.coming) refl

  pub moved_closes : ClosesHere new ≡ ClosesHere old
  moved_closes = rw (moved.conflicts, moved.needs, moved.cycle, moved.coming) refl

pub walk_closes : (closing : List ℕ → Type 0) (result : Solved) → IfWalk result (IsClosingCircuit closing) → IfWalk result closing
walk_closes closing (Starts starts) h = h
walk_closes closing (Walk walk) h = h.closes

module _ (c : ClosureView) (items : List ℕ) (o : OrderView) (depth : ℕ) (standing : Standing) (h : IsPlace c items o depth standing) where
  -- of the due items the next one is the due one; where there is none, each item is decided
  pub due_or_decided : AreDueItems c.conflicts items → (next : Option ℕ) → slice_get items depth ≡ next → MatchOption next (IsDecided o.marks) (IsDue c.conflicts o.marks)
  due_or_decided due None at = all_decided c.conflicts items due o.marks depth h.way at
  due_or_decided due (Some item) at = next_due c.conflicts items due o.marks depth h.way item at

  -- the closure stands at the order at hand
  module _ (entered : standing ≡ At) where
    pub top_at : top_of c ≡ o.marks
    top_at = ap (λ l. slice_index_or l 0 []) (h.orders ∙ ap (λ s. closure_orders_at items s o.marks depth) entered) ∙ along_first items o.marks depth

    pub here_at : order_at (place_of c items o.marks depth standing) ≡ o.marks
    here_at = ap (λ s. slice_index_or (coming_at items s o.marks depth) 0 []) entered

    pub meets_top : MeetsTop c ≡ MeetsHere (place_of c items o.marks depth standing)
    meets_top = ap (λ marks. λ starts. MeetsOrder c.conflicts marks c.needs c.cycle starts) (top_at ∙ sym here_at)

    pub closes_top : ClosesTop c ≡ ClosesHere (place_of c items o.marks depth standing)
    closes_top = ap (λ marks. λ walk. Closes c.conflicts marks c.needs c.cycle walk) (top_at ∙ sym here_at)

  -- at the root order it stands there
  pub top_root : depth ≡ 0 → top_of c ≡ o.marks
  top_root none = ap (λ l. slice_index_or l 0 []) (h.orders ∙ ap (closure_orders_at items standing o.marks) none ∙ alone standing)
    where
      alone : (s : Standing) → closure_orders_at items s o.marks 0 ≡ o.marks ∷ []
      alone Above = refl
      alone At = refl
      alone Past = refl

  -- a closure of the same question whose last order is the one at hand
  module _ (d : ClosureView) (conflicts : d.conflicts ≡ c.conflicts) (needs : d.needs ≡ c.needs) (cycle : d.cycle ≡ c.cycle) (top : top_of d ≡ o.marks)
      (some : 1 ≤ length (coming_at items standing o.marks depth)) where
    first_is : order_at (place_of c items o.marks depth standing) ≡ o.marks
    first_is = ap (λ l. slice_index_or l 0 []) (at_hand items standing o.marks depth some)

    pub closed_here : (walk : List ℕ) → ClosesTop d walk → ClosesHere (place_of c items o.marks depth standing) walk
    closed_here walk closes = rw first_is (rw (conflicts, needs, cycle, top) at closes)

    pub solvable_here : IsSolvable (MeetsTop d) → IsSolvable (MeetsHere (place_of c items o.marks depth standing))
    solvable_here solvable = (solvable.0, record { first = solvable.1.first; meets = rw first_is (rw (conflicts, needs, cycle, top) at solvable.1.meets) })

  -- it stands above, and the order isn't the root order
  module _ (other : standing ≢ At) (some : 1 ≤ depth) (item : ℕ) (at : slice_get items (depth - 1) ≡ Some item) where
    above_orders : c.orders ≡ orders_above items o.marks depth
    above_orders = h.orders ∙ stands_above items standing o.marks depth other

    top_above : top_of c ≡ set o.marks item Open
    top_above = ap (λ l. slice_index_or l 0 []) above_orders ∙ above_first items o.marks depth item some at

    pub item_open : slice_get (top_of c) item ≡ Some Open
    item_open =
        let d = last_decided c.conflicts items o.marks depth item some at h.way in
        ap (λ marks. slice_get marks item) top_above ∙ set_here o.marks item d.mark Open d.marked

    pub item_within : item < length o.marks
    item_within = let d = last_decided c.conflicts items o.marks depth item some at h.way in slice_get_within o.marks item d.mark d.marked

    pub item_decided : (mark : Mark) → slice_get o.marks item ≡ Some mark → mark ≢ Open
    item_decided mark is open_mark =
        let d = last_decided c.conflicts items o.marks depth item some at h.way in
        d.decides (same_Some d.mark Open (sym d.marked ∙ is ∙ ap (λ x. Some x) open_mark))

    set_top : (mark : Mark) → slice_get o.marks item ≡ Some mark → set (top_of c) item mark ≡ o.marks
    set_top mark is = ap (λ marks. set marks item mark) top_above ∙ set_again o.marks item Open mark ∙ set_same o.marks item mark is

    pub inserted : (mark : Mark) → slice_get o.marks item ≡ Some mark → (decided c item mark).orders ≡ orders_along items o.marks depth
    inserted mark is = ap (λ marks. marks ∷ c.orders) (set_top mark is) ∙ ap (λ l. o.marks ∷ l) above_orders ∙ sym (along_above items o.marks depth some)

    -- what is said of the order with the item decided is said of the one at hand
    pub top_decided : (mark : Mark) → slice_get o.marks item ≡ Some mark → top_of (decided c item mark) ≡ o.marks
    top_decided mark is = set_top mark is

  -- the next item, an open one, is decided, and the closure stays
  module _ (entered : standing ≡ At) (item : ℕ) (at : slice_get items depth ≡ Some item)
      (free : IfSome (slice_get items depth) (IsOpenItem (order_at (place_of c items o.marks depth standing)))) where
    pub next_open : slice_get o.marks item ≡ Some Open
    next_open = subst (λ marks. IsOpenItem marks item) (here_at entered) (subst (λ x. IfSome x (IsOpenItem (order_at (place_of c items o.marks depth standing)))) at free)

    pub descended : (next : OrderView) → IsOrderFor c.conflicts next → next.marks ≡ set o.marks item First → fixed_pairs c.conflicts ≤ item →
        IsPlace c items next (depth + 1) Above
    descended next made marks unfixed = record {
      made = made;
      within = omega (arith, slice_get_within items depth item at);
      way = rw marks (way_down c.conflicts items o.marks depth item First at next_open (λ e. cc) unfixed h.way);
      orders = rw marks (h.orders ∙ ap (λ s. closure_orders_at items s o.marks depth) entered ∙ sym (above_down c.conflicts items o.marks depth item First at next_open));
    }

    pub descended_coming : (marks : List Mark) → marks ≡ set o.marks item First →
        coming_at items Above marks (depth + 1)
        ≡ orders_below (order_at (place_of c items o.marks depth standing)) (Split item) ++ drop 1 (coming_at items standing o.marks depth)
    descended_coming marks is = rw (entered, is) (ap (λ l. set o.marks item First ∷ l) (waiting_down c.conflicts items o.marks depth item at next_open))

-- the due item is open
pub due_free : (m : Matrix) (marks : List Mark) (next : Option ℕ) → MatchOption next (IsDecided marks) (IsDue m marks) → IfSome next (IsOpenItem marks)
due_free m marks None due = tt
due_free m marks (Some item) due = due.is_open

-- other items from the order at hand on
module _ (c : ClosureView) (items : List ℕ) (o : OrderView) (depth : ℕ) (h : IsPlace c items o depth At) (item : ℕ) where
  abbrev pub led : List ℕ
  led = take depth items ++ item ∷ []

  led_long : length (take depth items) ≡ depth
  led_long = length-take-le depth items h.within

  led_same : (k : ℕ) → k < depth → slice_index led k ≡ slice_index items k
  led_same k below = get_or-append (take depth items) (item ∷ []) 0 k (omega (arith, led_long, below)) ∙ get_or-take depth items k 0 below

  pub led_next : slice_get led depth ≡ Some item
  led_next =
      let long : length led ≡ depth + 1 = length-append (take depth items) (item ∷ []) ∙ ap (λ n. n + 1) led_long in
      slice_get-get_or led depth 0 (omega (arith, long)) ∙ ap (λ x. Some x) (get_or_at (take depth items) item [] 0 depth led_long)

  pub led_place : IsPlace c led o depth At
  led_place = record {
    made = h.made;
    within = omega (arith, length-append (take depth items) (item ∷ []), led_long);
    way = way_agrees items led c.conflicts o.marks depth led_same h.way;
    orders = h.orders ∙ sym (along_agrees items led o.marks depth led_same);
  }

  pub led_coming : coming_at led At o.marks depth ≡ coming_at items At o.marks depth
  led_coming = ap (λ l. o.marks ∷ l) (waiting_agrees items led o.marks depth led_same)

  -- the way down leaves room for one more decision
  pub led_room : length o.marks ≤ 132 → slice_get o.marks item ≡ Some Open → depth < 132
  led_room few free =
      let left = open_left c.conflicts items o.marks depth h.way in
      let one = decided_count o.marks item First free refl in
      let all = count_by-le-length is_open (root_marks c.conflicts) in
      let same = (below_root c.conflicts items o.marks depth h.way).as_many in
      omega (arith, left, one, all, same, few)

pub entered_long : (c : ClosureView) (items : List ℕ) (o : OrderView) (depth : ℕ) (standing : Standing) → IsPlace c items o depth standing → standing ≡ At → 1 ≤ depth → 2 ≤ length c.orders
entered_long c items o depth standing h entered some =
    let same = ap length (h.orders ∙ ap (λ s. closure_orders_at items s o.marks depth) entered) in
    omega (arith, same, along_length items o.marks depth)
