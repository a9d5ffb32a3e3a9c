-- The walk over a tree's nodes, with the orders to come.
use Rattle.std.proofs.Common.{ℕ, List, [], ◌∷◌, ◌++◌, length, length-set, ◌≡◌, ◌⊎◌, inl, inr, ◌+◌, ◌<◌, ◌≤◌, refl, ◌∙◌, Bool, true, false, not, ◌||◌, count_by, cond, arith}
use Rattle.std.specs.Prelude.{Option, None, Some, All, MatchOption, is_some, slice_get}
use Rattle.std.specs.Option.{option_map_or}
use Rattle.std.proofs.lemmas.List.Elements.{All-nil, All-cons, All-head, All-tail}
use Rattle.std.proofs.lemmas.List.Sums.{sum_by-cons}
use Rattle.std.proofs.lemmas.Option.{slice_get_within}
use Rattle.constraint_cycles.specs.Marks.{OrderView, IsOrderFor, root_marks}
use Rattle.constraint_cycles.specs.Tree.{DecidesOpen, is_visited, orders_below}
use Rattle.constraint_cycles.specs.TreeShape.{is_open}
use Rattle.constraint_cycles.specs.declared.mark.Mark.{Mark}
use Rattle.constraint_cycles.specs.declared.mark.Mark.TheVariants.{Open, First, Second}
use Rattle.constraint_cycles.specs.declared.node.Node.{Node}
use Rattle.constraint_cycles.specs.declared.node.Node.TheVariants as node
use Rattle.constraint_cycles.proofs.NodeCounts.{decided_count}
use Rattle.certificate_checker.specs.Basis.{BasisView}
use Rattle.certificate_checker.specs.Below.{marks_of_each, order_with, views_below, HaveRoom}
use Rattle.certificate_checker.specs.NodeFault.{node_fault}
use Rattle.certificate_checker.specs.TreeRules.{NoneBreaks, IsFirstBroken}
use Rattle.certificate_checker.specs.declared.rule.Rule.TheVariants.{Unvisited}
use Rattle.certificate_checker.proofs.TreeRules.{IsJudged, judged_first, judged_next, judged_finished, judged_all}

pub record IsWalking (basis : BasisView) (nodes : List Node) (place : ℕ) (coming : List OrderView) (seen : Bool) : Type 0 where
  pub reached : place ≤ length nodes
  pub judged : IsJudged basis nodes place (marks_of_each coming) seen
  pub orders : All (IsOrderFor basis.conflicts) coming
  pub room : HaveRoom coming

few_of_one : (b : Bool) (n m : ℕ) → n ≤ m → cond b 1 0 + n ≤ m + 1
few_of_one true n m h = omega arith
few_of_one false n m h = omega arith

few_open : (marks : List Mark) → count_by is_open marks ≤ length marks
few_open [] = omega arith
few_open (mark ∷ marks) =
    let count = sum_by-cons (λ (x : Mark). cond (is_open x) 1 0) mark marks in
    let later = few_of_one (is_open mark) (count_by is_open marks) (length marks) (few_open marks) in
    omega arith

pub walking_first : (basis : BasisView) (nodes : List Node) (root : OrderView) → IsOrderFor basis.conflicts root → root.marks ≡ root_marks basis.conflicts →
    length root.marks ≤ 132 → IsWalking basis nodes 0 (root ∷ []) false
walking_first basis nodes root made is few = record {
  reached = omega arith;
  judged = rw is (judged_first basis nodes);
  orders = All-cons (IsOrderFor basis.conflicts) root [] made (All-nil (IsOrderFor basis.conflicts));
  room = (let h = few_open root.marks in omega arith, tt);
}

split_open : (marks : List Mark) (item : ℕ) (o : Option Mark) → slice_get marks item ≡ o → (option_map_or is_open o false ≡ false → ⊥) → slice_get marks item ≡ Some Open
split_open marks item None e some = absurd (some refl)
split_open marks item (Some Open) e some = e
split_open marks item (Some First) e some = absurd (some refl)
split_open marks item (Some Second) e some = absurd (some refl)

-- what a node that breaks no rule says of its Split
pub decides_open : (basis : BasisView) (seen : Bool) (marks : List Mark) (own : Node) → node_fault basis seen marks own ≡ None → DecidesOpen marks own
decides_open basis seen marks (node.Split item) h = split_open marks item _ refl (λ e. cc (rw e at h))
decides_open basis seen marks (node.Closed walk) h = tt
decides_open basis seen marks node.Unvisited h = tt

decided_order : (basis : BasisView) (o : OrderView) (item : ℕ) (mark : Mark) → IsOrderFor basis.conflicts o → IsOrderFor basis.conflicts (order_with o item mark)
decided_order basis o item mark made = record { marks = length-set o.marks item mark ∙ made.marks; fixed = made.fixed }

walked_on : (basis : BasisView) (nodes : List Node) (place : ℕ) (seen : Bool) (o : OrderView) (later : List OrderView) (own : Node) → DecidesOpen o.marks own → place < length nodes →
    IsJudged basis nodes (place + 1) (orders_below o.marks own ++ marks_of_each later) seen → All (IsOrderFor basis.conflicts) (o ∷ later) → HaveRoom (o ∷ later) →
    IsWalking basis nodes (place + 1) (views_below o own ++ later) seen
walked_on basis nodes place seen o later (node.Split item) there within judged orders room =
    let made = All-head (IsOrderFor basis.conflicts) o later orders in
    let first = decided_count o.marks item First there refl in
    let second = decided_count o.marks item Second there refl in
    record {
      reached = omega arith;
      judged = judged;
      orders = All-cons (IsOrderFor basis.conflicts) (order_with o item First) (order_with o item Second ∷ later) (decided_order basis o item First made)
          (All-cons (IsOrderFor basis.conflicts) (order_with o item Second) later (decided_order basis o item Second made)
          (All-tail (IsOrderFor basis.conflicts) o later orders));
      room = (omega (arith, first, room.0), (omega (arith, second, room.0), room.1));
    }
walked_on basis nodes place seen o later (node.Closed walk) there within judged orders room = record {
  reached = omega arith;
  judged = judged;
  orders = All-tail (IsOrderFor basis.conflicts) o later orders;
  room = room.1;
}
walked_on basis nodes place seen o later node.Unvisited there within judged orders room = record {
  reached = omega arith;
  judged = judged;
  orders = All-tail (IsOrderFor basis.conflicts) o later orders;
  room = room.1;
}

module _ (basis : BasisView) (nodes : List Node) (place : ℕ) (seen : Bool) (coming later : List OrderView) (o : OrderView) (is : coming ≡ o ∷ later)
    (h : IsWalking basis nodes place coming seen) where
  pub walking_order : IsOrderFor basis.conflicts o
  walking_order = All-head (IsOrderFor basis.conflicts) o later (rw is at h.orders)

  pub walking_judged : IsJudged basis nodes place (o.marks ∷ marks_of_each later) seen
  walking_judged = rw is at h.judged

  pub walking_room : length later ≤ 132
  walking_room = let room = rw is at h.room in omega (arith, room.0)

  pub walking_next : (own : Node) (next : List OrderView) → slice_get nodes place ≡ Some own → node_fault basis seen o.marks own ≡ None → next ≡ views_below o own ++ later →
      IsWalking basis nodes (place + 1) next (seen || not (is_visited own))
  walking_next own next at none e = rw e (walked_on basis nodes place _ o later own (decides_open basis seen o.marks own none) (slice_get_within nodes place own at)
      (judged_next basis nodes place seen o.marks (marks_of_each later) walking_judged own at none) (rw is at h.orders) (rw is at h.room))

pub none_left : {X : Type 0} (o : Option X) (A : Type 0) (B : X → Type 0) → is_some o ≡ false → MatchOption o A B → A
none_left None A B e h = h
none_left (Some x) A B e h = cc

pub walking_finished : (basis : BasisView) (nodes : List Node) (place : ℕ) (seen : Bool) (coming : List OrderView) → coming ≡ [] → basis.unfinished ≡ true → seen ≡ false →
    length nodes ≤ place → IsWalking basis nodes place coming seen → IsFirstBroken basis nodes Unvisited (length nodes)
walking_finished basis nodes place seen coming is stopped none past h =
    let end : place ≡ length nodes = omega (arith, h.reached) in
    let judged : IsJudged basis nodes place [] false = rw (is, none) at h.judged in
    rw end at (judged_finished basis nodes place end stopped judged)

pub walking_all : (basis : BasisView) (nodes : List Node) (place : ℕ) (seen : Bool) (coming : List OrderView) → coming ≡ [] →
    ((basis.unfinished ≡ true) × (seen ≡ true)) ⊎ (basis.unfinished ≡ false) → length nodes ≤ place → IsWalking basis nodes place coming seen → NoneBreaks basis nodes
walking_all basis nodes place seen coming is either past h =
    judged_all basis nodes place seen (omega (arith, h.reached)) (λ stopped. elim either [ inl w ↦ w.1 | inr w ↦ cc ]) (rw is at h.judged)
