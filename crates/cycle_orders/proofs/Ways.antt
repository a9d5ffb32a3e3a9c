-- The way down to an order, as it grows and is taken back.
use Rattle.std.proofs.Common.{◌≡◌, ◌≢◌, ℕ, zero, suc, ◌+◌, ◌-◌, ◌<◌, ◌≤◌, List, [], ◌∷◌, false, inl, inr, count_by, length, length-set, Some, None, refl, sym, subst, ap, ◌∙◌, arith, add-one, drop, set, slice_get, slice_index, slice_index_or}
use Rattle.std.proofs.lemmas.Bool.{cases_lt, cases_eq}
use Rattle.std.proofs.lemmas.List.Elements.{All-from_get_or}
use Rattle.std.proofs.lemmas.Option.{none-some, slice_get_within, slice_get-get_or, get_or_from_slice_get, same_Some}
use Rattle.conflict_matrix.specs.Matrix.{Matrix}
use Rattle.conflict_matrix.specs.Pairs.{fixed_pairs}
use Rattle.constraint_cycles.specs.Marks.{root_marks, IsDecided, Refines}
use Rattle.constraint_cycles.specs.declared.mark.Mark.{Mark}
use Rattle.constraint_cycles.specs.declared.mark.Mark.TheVariants.{Open, First, Second}
use Rattle.constraint_cycles.specs.TreeShape.{is_open}
use Rattle.constraint_cycles.proofs.NodeCounts.{decided_count}
use Rattle.cycle_orders.specs.Due.{IsDue, ComesBefore, IsOpenItem}
use Rattle.cycle_orders.specs.DueItems.{AreDueItems}
use Rattle.cycle_orders.specs.Way.{is_first, IsDecidedItem, IsWay, order_above, orders_along, orders_above, orders_waiting}
use Rattle.cycle_orders.proofs.DueOrder.{apart, one_way}
use Rattle.cycle_orders.proofs.Marking.{set_back, set_again, set_here, set_same, set_there}

module _ (m : Matrix) (items : List ℕ) where
  -- an item that is open isn't decided on the way, and the root order leaves it open
  open_apart : (marks : List Mark) (depth : ℕ) (item : ℕ) → IsWay items m marks depth → IsOpenItem marks item → (k : ℕ) → k < depth → slice_index items k ≢ item
  open_apart marks zero item way is_open k below same = absurd (omega arith)
  open_apart marks (suc depth) item way is_open k below same =
      let other : slice_index items depth ≢ item = λ e. way.0.decides (same_Some way.0.mark Open (sym way.0.marked ∙ ap (slice_get marks) e ∙ is_open)) in
      elim (cases_eq k depth) [
        | inl last ↦ other (ap (slice_index items) (sym last) ∙ same)
        | inr before ↦ open_apart (order_above items marks depth) depth item way.1 (set_there marks (slice_index items depth) item Open other ∙ is_open) k (omega (arith, before)) same
      ]

  open_at_root : (marks : List Mark) (depth : ℕ) (item : ℕ) → IsWay items m marks depth → IsOpenItem marks item → IsOpenItem (root_marks m) item
  open_at_root marks zero item way is_open = rw way at is_open
  open_at_root marks (suc depth) item way is_open =
      let other : slice_index items depth ≢ item = λ e. way.0.decides (same_Some way.0.mark Open (sym way.0.marked ∙ ap (slice_get marks) e ∙ is_open)) in
      open_at_root (order_above items marks depth) depth item way.1 (set_there marks (slice_index items depth) item Open other ∙ is_open)

  -- an item of the root order that isn't decided on the way is open
  still_open : (marks : List Mark) (depth : ℕ) (item : ℕ) → IsWay items m marks depth → IsOpenItem (root_marks m) item → ((k : ℕ) → k < depth → slice_index items k ≢ item) → IsOpenItem marks item
  still_open marks zero item way is_open other = rw way is_open
  still_open marks (suc depth) item way is_open other =
      sym (set_there marks (slice_index items depth) item Open (other depth (omega arith)))
      ∙ still_open (order_above items marks depth) depth item way.1 is_open (λ k below. other k (omega arith))

  module _ (h : AreDueItems m items) (marks : List Mark) (depth : ℕ) (way : IsWay items m marks depth) where
    -- the next item is the due one
    pub next_due : (item : ℕ) → slice_get items depth ≡ Some item → IsDue m marks item
    next_due item at =
        let within : depth < length items = slice_get_within items depth item at in
        let is : slice_index items depth ≡ item = get_or_from_slice_get items depth item 0 at in
        record {
          is_open = still_open marks depth item way (subst (IsOpenItem (root_marks m)) is (h.each depth within))
              (λ k below same. apart m items h.rising k depth below within (same ∙ sym is));
          first = λ other is_open before.
              let place = h.all other (open_at_root marks depth other way is_open) in
              let past : depth ≤ place.0 = elim (cases_lt place.0 depth) [ inl below ↦ absurd (open_apart marks depth other way is_open place.0 below place.2) | inr past ↦ past ] in
              elim (cases_lt depth place.0) [
                | inl later ↦ one_way m other item before (subst (λ x. ComesBefore m x other) is (subst (ComesBefore m (slice_index items depth)) place.2 (h.rising depth place.0 later place.1)))
                | inr no_later ↦
                    let same : depth ≡ place.0 = omega arith in
                    let itself : item ≡ other = sym is ∙ ap (slice_index items) same ∙ place.2 in
                    let twice = subst (ComesBefore m other) itself before in
                    one_way m other other twice twice
              ];
        }

    -- behind the last item each one is decided
    pub all_decided : slice_get items depth ≡ None → IsDecided marks
    all_decided none = All-from_get_or (λ mark. mark ≢ Open) marks Open (λ k below is.
        let is_open : IsOpenItem marks k = slice_get-get_or marks k Open below ∙ ap (λ x. Some x) is in
        let place = h.all k (open_at_root marks depth k way is_open) in
        let past : depth ≤ place.0 = elim (cases_lt place.0 depth) [ inl under ↦ absurd (open_apart marks depth k way is_open place.0 under place.2) | inr past ↦ past ] in
        absurd (none-some (slice_index items depth) (sym none ∙ slice_get-get_or items depth 0 (omega (arith, place.1)))))

  pub below_root : (marks : List Mark) (depth : ℕ) → IsWay items m marks depth → Refines (root_marks m) marks
  below_root marks zero way = rw way (record { as_many = refl; kept = λ k mark at other. at })
  below_root marks (suc depth) way =
      let above = below_root (order_above items marks depth) depth way.1 in
      record {
        as_many = sym (length-set marks (slice_index items depth) Open) ∙ above.as_many;
        kept = λ k mark at other.
            let there = above.kept k mark at other in
            elim (cases_eq (slice_index items depth) k) [
              | inl same ↦
                  let here : slice_get (order_above items marks depth) k ≡ Some Open =
                  ap (slice_get (order_above items marks depth)) (sym same) ∙ set_here marks (slice_index items depth) way.0.mark Open way.0.marked in
                  absurd (other (same_Some mark Open (sym there ∙ here)))
              | inr apart_here ↦ sym (set_there marks (slice_index items depth) k Open apart_here) ∙ there
            ];
      }

  -- one decision more
  module _ (marks : List Mark) (depth : ℕ) (item : ℕ) (mark : Mark) (at : slice_get items depth ≡ Some item) (is_open : IsOpenItem marks item) where
    is : slice_index items depth ≡ item
    is = get_or_from_slice_get items depth item 0 at

    pub way_down : mark ≢ Open → fixed_pairs m ≤ item → IsWay items m marks depth → IsWay items m (set marks item mark) (depth + 1)
    way_down decides unfixed way = rw (add-one, is) (
      record { unfixed = unfixed; mark = mark; marked = set_here marks item Open mark is_open; decides = decides },
      rw (set_back marks item mark is_open) way,
    )

    pub above_down : orders_above items (set marks item mark) (depth + 1) ≡ orders_along items marks depth
    above_down = rw (add-one, is, set_back marks item mark is_open) refl

  pub waiting_down : (marks : List Mark) (depth item : ℕ) → slice_get items depth ≡ Some item → IsOpenItem marks item →
      orders_waiting items (set marks item First) (depth + 1) ≡ set marks item Second ∷ orders_waiting items marks depth
  waiting_down marks depth item at is_open =
      let is : slice_index items depth ≡ item = get_or_from_slice_get items depth item 0 at in
      let first : slice_index_or (set marks item First) item Open ≡ First = get_or_from_slice_get (set marks item First) item First Open (set_here marks item Open First is_open) in
      rw (add-one, is, first, set_again marks item First Second, set_back marks item First is_open) refl

  -- the last decision is turned
  module _ (marks : List Mark) (depth item : ℕ) (at : slice_get items depth ≡ Some item) (way : IsWay items m marks (suc depth)) where
    last : slice_index items depth ≡ item
    last = get_or_from_slice_get items depth item 0 at

    pub decided_last : IsDecidedItem m marks item
    decided_last = subst (IsDecidedItem m marks) last way.0

    pub way_turned : IsWay items m (set marks item Second) (suc depth)
    way_turned =
        let d = decided_last in
        rw last (
          record { unfixed = d.unfixed; mark = Second; marked = set_here marks item d.mark Second d.marked; decides = λ e. cc },
          rw (set_again marks item Second Open) (rw last at way.1),
        )

    pub above_turned : orders_above items (set marks item Second) (suc depth) ≡ orders_above items marks (suc depth)
    above_turned = rw (last, set_again marks item Second Open) refl

    pub waiting_turned : slice_get marks item ≡ Some First → orders_waiting items marks (suc depth) ≡ set marks item Second ∷ orders_waiting items (set marks item Second) (suc depth)
    waiting_turned first =
        let d = decided_last in
        let one : slice_index_or marks item Open ≡ First = get_or_from_slice_get marks item First Open first in
        let two : slice_index_or (set marks item Second) item Open ≡ Second = get_or_from_slice_get (set marks item Second) item Second Open (set_here marks item d.mark Second d.marked) in
        rw (last, one, two, set_again marks item Second Open) refl

    pub way_back : IsWay items m (set marks item Open) depth
    way_back = rw last at way.1

    pub waiting_back : slice_get marks item ≢ Some First → orders_waiting items marks (suc depth) ≡ orders_waiting items (set marks item Open) depth
    waiting_back other =
        let d = decided_last in
        rw (last, get_or_from_slice_get marks item d.mark Open d.marked, not_first d.mark d.decides (λ first. other (d.marked ∙ ap (λ x. Some x) first))) refl
      where
        not_first : (mark : Mark) → mark ≢ Open → mark ≢ First → is_first mark ≡ false
        not_first Open decides other = refl
        not_first First decides other = absurd (other refl)
        not_first Second decides other = refl

    pub above_back : orders_above items marks (suc depth) ≡ orders_along items (set marks item Open) depth
    above_back = rw last refl

-- the same at a depth of at least 1
module _ (m : Matrix) (items : List ℕ) (marks : List Mark) (depth item : ℕ) (some : 1 ≤ depth) (at : slice_get items (depth - 1) ≡ Some item) (way : IsWay items m marks depth) where
  deep : depth ≡ suc (depth - 1)
  deep = omega arith

  deep_way : IsWay items m marks (suc (depth - 1))
  deep_way = subst (IsWay items m marks) deep way

  pub last_decided : IsDecidedItem m marks item
  last_decided = decided_last m items marks (depth - 1) item at deep_way

  pub turned_way : IsWay items m (set marks item Second) depth
  turned_way = subst (IsWay items m (set marks item Second)) (sym deep) (way_turned m items marks (depth - 1) item at deep_way)

  pub turned_above : orders_above items (set marks item Second) depth ≡ orders_above items marks depth
  turned_above =
      ap (orders_above items (set marks item Second)) deep ∙ above_turned m items marks (depth - 1) item at deep_way ∙ ap (orders_above items marks) (sym deep)

  pub turned_waiting : slice_get marks item ≡ Some First → orders_waiting items marks depth ≡ set marks item Second ∷ orders_waiting items (set marks item Second) depth
  turned_waiting first =
      ap (orders_waiting items marks) deep ∙ waiting_turned m items marks (depth - 1) item at deep_way first
      ∙ ap (λ d. set marks item Second ∷ orders_waiting items (set marks item Second) d) (sym deep)

  pub back_way : IsWay items m (set marks item Open) (depth - 1)
  back_way = way_back m items marks (depth - 1) item at deep_way

  pub back_waiting : slice_get marks item ≢ Some First → orders_waiting items marks depth ≡ orders_waiting items (set marks item Open) (depth - 1)
  back_waiting other = ap (orders_waiting items marks) deep ∙ waiting_back m items marks (depth - 1) item at deep_way other

  pub back_above : orders_above items marks depth ≡ orders_along items (set marks item Open) (depth - 1)
  back_above = ap (orders_above items marks) deep ∙ above_back m items marks (depth - 1) item at deep_way

pub along_length : (items : List ℕ) (marks : List Mark) (depth : ℕ) → length (orders_along items marks depth) ≡ depth + 1
along_length items marks zero = refl
along_length items marks (suc depth) = let rest = along_length items (order_above items marks depth) depth in omega arith

pub along_first : (items : List ℕ) (marks : List Mark) (depth : ℕ) → slice_index_or (orders_along items marks depth) 0 [] ≡ marks
along_first items marks zero = refl
along_first items marks (suc depth) = refl

-- the order above one that isn't the root order
pub along_later : (items : List ℕ) (marks : List Mark) (depth : ℕ) → 1 ≤ depth → drop 1 (orders_along items marks depth) ≡ orders_above items marks depth
along_later items marks zero some = absurd (omega arith)
along_later items marks (suc depth) some = refl

pub along_root : (items : List ℕ) (marks : List Mark) (depth : ℕ) → depth ≡ 0 → orders_along items marks depth ≡ orders_above items marks depth
along_root items marks depth none = rw none refl

pub above_first : (items : List ℕ) (marks : List Mark) (depth item : ℕ) → 1 ≤ depth → slice_get items (depth - 1) ≡ Some item →
    slice_index_or (orders_above items marks depth) 0 [] ≡ set marks item Open
above_first items marks depth item some at =
    let deep : depth ≡ suc (depth - 1) = omega arith in
    ap (λ d. slice_index_or (orders_above items marks d) 0 []) deep
    ∙ along_first items (order_above items marks (depth - 1)) (depth - 1)
    ∙ ap (λ x. set marks x Open) (get_or_from_slice_get items (depth - 1) item 0 at)

pub along_above : (items : List ℕ) (marks : List Mark) (depth : ℕ) → 1 ≤ depth → orders_along items marks depth ≡ marks ∷ orders_above items marks depth
along_above items marks zero some = absurd (omega arith)
along_above items marks (suc depth) some = refl

-- items that agree on the way have the same one
module _ (items other : List ℕ) where
  abbrev pub AgreeBelow : ℕ → Type 0
  AgreeBelow depth = (k : ℕ) → k < depth → slice_index other k ≡ slice_index items k

  agree_before : (depth : ℕ) → AgreeBelow (suc depth) → AgreeBelow depth
  agree_before depth same k below = same k (omega (arith, below))

  pub way_agrees : (m : Matrix) (marks : List Mark) (depth : ℕ) → AgreeBelow depth → IsWay items m marks depth → IsWay other m marks depth
  way_agrees m marks zero same way = way
  way_agrees m marks (suc depth) same way =
      rw (same depth (omega arith)) (way.0, way_agrees m (order_above items marks depth) depth (agree_before depth same) way.1)

  pub along_agrees : (marks : List Mark) (depth : ℕ) → AgreeBelow depth → orders_along other marks depth ≡ orders_along items marks depth
  along_agrees marks zero same = refl
  along_agrees marks (suc depth) same =
      rw (same depth (omega arith)) (ap (λ l. marks ∷ l) (along_agrees (order_above items marks depth) depth (agree_before depth same)))

  pub waiting_agrees : (marks : List Mark) (depth : ℕ) → AgreeBelow depth → orders_waiting other marks depth ≡ orders_waiting items marks depth
  waiting_agrees marks zero same = refl
  waiting_agrees marks (suc depth) same =
      rw (same depth (omega arith), waiting_agrees (order_above items marks depth) depth (agree_before depth same)) refl

closed_mark : (mark : Mark) → mark ≢ Open → is_open mark ≡ false
closed_mark Open decides = absurd (decides refl)
closed_mark First decides = refl
closed_mark Second decides = refl

-- each decision on the way leaves one open item less
pub open_left : (m : Matrix) (items : List ℕ) (marks : List Mark) (depth : ℕ) → IsWay items m marks depth →
    count_by is_open marks + depth ≡ count_by is_open (root_marks m)
open_left m items marks zero way = rw way (omega arith)
open_left m items marks (suc depth) way =
    let item = slice_index items depth in
    let d = way.0 in
    let back : set (set marks item Open) item d.mark ≡ marks = set_again marks item Open d.mark ∙ set_same marks item d.mark d.marked in
    let one = decided_count (set marks item Open) item d.mark (set_here marks item d.mark Open d.marked) (closed_mark d.mark d.decides) in
    let same = ap (count_by is_open) back in
    let before = open_left m items (set marks item Open) depth way.1 in
    omega (arith, one, same, before)
