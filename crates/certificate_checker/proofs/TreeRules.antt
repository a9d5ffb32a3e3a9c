-- A tree judged node by node.
use Rattle.std.proofs.Common.{ℕ, List, [], ◌∷◌, ◌++◌, length, take, get_or, ◌≡◌, ◌≢◌, ◌+◌, ◌<◌, ◌≤◌, inl, inr, refl, sym, ap, ◌∙◌, Bool, true, false, not, ◌||◌, arith, subst}
use Rattle.std.specs.Prelude.{None, Some, All, slice_get}
use Rattle.std.proofs.lemmas.Bool.{cases_lt}
use Rattle.std.proofs.lemmas.List.{take_more, take_all}
use Rattle.std.proofs.lemmas.List.Elements.{All-from_get_or}
use Rattle.std.proofs.lemmas.Option.{slice_get_within, slice_get-get_or, get_or_from_slice_get}
use Rattle.constraint_cycles.specs.Marks.{root_marks}
use Rattle.constraint_cycles.specs.Tree.{Leads, IsWholeTree, IsVisited, is_visited, orders_below}
use Rattle.constraint_cycles.specs.declared.mark.Mark.{Mark}
use Rattle.constraint_cycles.specs.declared.mark.Mark.TheVariants.{Open}
use Rattle.constraint_cycles.specs.declared.node.Node.{Node}
use Rattle.constraint_cycles.specs.declared.node.Node.TheVariants as node
use Rattle.constraint_cycles.proofs.Visits.{leads_more}
use Rattle.certificate_checker.specs.Basis.{BasisView}
use Rattle.certificate_checker.specs.NodeFault.{node_fault}
use Rattle.certificate_checker.specs.Rules.{rule_number}
use Rattle.certificate_checker.specs.TreeRules.{HasOrder, IsAt, LacksAnEdge, IsFinished, BreaksAt, NoneBreaks, IsFirstBroken}
use Rattle.certificate_checker.specs.declared.rule.Rule.{Rule}
use Rattle.certificate_checker.specs.declared.rule.Rule.TheVariants.{Plan, Fit, Least, Cycles, Tree, Pair, Unvisited, Edge, Sum, Budget}
use Rattle.certificate_checker.proofs.NodeRules.{OwnBreaks, HasNoMoreThan0, node_first, of_split, of_closed, of_unvisited}

-- one list of orders is left
pub one_rest : (coming : List (List Mark)) (nodes : List Node) (a b : List (List Mark)) → Leads coming nodes a → Leads coming nodes b → a ≡ b
one_rest coming [] a b p q = sym p ∙ q
one_rest [] (own ∷ nodes) a b p q = absurd p
one_rest (marks ∷ coming) (own ∷ nodes) a b p q = one_rest _ nodes a b p q

take_own : (nodes : List Node) (place : ℕ) (own : Node) → slice_get nodes place ≡ Some own → take (place + 1) nodes ≡ take place nodes ++ own ∷ []
take_own nodes place own at = take_more nodes place own (slice_get_within nodes place own at) ∙ ap (λ o. take place nodes ++ o ∷ []) (get_or_from_slice_get nodes place own own at)

-- what the nodes before a place say
pub record IsJudged (basis : BasisView) (nodes : List Node) (place : ℕ) (coming : List (List Mark)) (seen : Bool) : Type 0 where
  pub leads : Leads (root_marks basis.conflicts ∷ []) (take place nodes) coming
  pub earlier : (rule : Rule) (before : ℕ) → before < place → ¬ BreaksAt basis nodes rule before
  pub seen_one : seen ≡ true → (before : ℕ) × (before < place) × (slice_get nodes before ≡ Some node.Unvisited)
  pub seen_none : seen ≡ false → (before : ℕ) → before < place → slice_get nodes before ≢ Some node.Unvisited

pub judged_first : (basis : BasisView) (nodes : List Node) → IsJudged basis nodes 0 (root_marks basis.conflicts ∷ []) false
judged_first basis nodes = record {
  leads = refl;
  earlier = λ rule before h. absurd (omega arith);
  seen_one = λ e. cc;
  seen_none = λ e before h. absurd (omega arith);
}

-- no rule of a tree has a smaller number than the first one
from_tree : (basis : BasisView) (nodes : List Node) (place : ℕ) (rule : Rule) → BreaksAt basis nodes rule place → 5 ≤ rule_number rule
from_tree basis nodes place Plan h = absurd h
from_tree basis nodes place (Fit fault) h = absurd h
from_tree basis nodes place Least h = absurd h
from_tree basis nodes place Cycles h = absurd h
from_tree basis nodes place Tree h = omega arith
from_tree basis nodes place Pair h = omega arith
from_tree basis nodes place Unvisited h = omega arith
from_tree basis nodes place Edge h = omega arith
from_tree basis nodes place Sum h = omega arith
from_tree basis nodes place Budget h = absurd h

pub judged_too_many : (basis : BasisView) (nodes : List Node) (place : ℕ) (seen : Bool) → place < length nodes → IsJudged basis nodes place [] seen →
    IsFirstBroken basis nodes Tree place
judged_too_many basis nodes place seen within h = record {
  broken = inr (within, h.leads);
  earlier = h.earlier;
  smaller = from_tree basis nodes place;
}

-- a rule that is broken at the node's place is broken by the node itself, and the other way round
same_own : (nodes : List Node) (place : ℕ) (own other : Node) → slice_get nodes place ≡ Some own → slice_get nodes place ≡ Some other → other ≡ own
same_own nodes place own other at is = cc

visited_breaks : (basis : BasisView) (seen : Bool) (marks : List Mark) (own : Node) → IsVisited own → seen ≡ true → OwnBreaks basis seen marks own Unvisited
visited_breaks basis seen marks (node.Split item) visited e = e
visited_breaks basis seen marks (node.Closed walk) visited e = e
visited_breaks basis seen marks node.Unvisited visited e = cc

seen_more : (basis : BasisView) (nodes : List Node) (place : ℕ) (seen : Bool) (own : Node) → slice_get nodes place ≡ Some own →
    (seen ≡ true → (before : ℕ) × (before < place) × (slice_get nodes before ≡ Some node.Unvisited)) →
    (seen || not (is_visited own)) ≡ true → (before : ℕ) × (before < place + 1) × (slice_get nodes before ≡ Some node.Unvisited)
seen_more basis nodes place true own at one e = let before = one refl in (before.0, omega (arith, before.1), before.2)
seen_more basis nodes place false (node.Split item) at one e = cc
seen_more basis nodes place false (node.Closed walk) at one e = cc
seen_more basis nodes place false node.Unvisited at one e = (place, omega arith, at)

seen_less : (basis : BasisView) (nodes : List Node) (place : ℕ) (seen : Bool) (own : Node) → slice_get nodes place ≡ Some own →
    (seen ≡ false → (before : ℕ) → before < place → slice_get nodes before ≢ Some node.Unvisited) →
    (seen || not (is_visited own)) ≡ false → (before : ℕ) → before < place + 1 → slice_get nodes before ≢ Some node.Unvisited
seen_less basis nodes place true own at none e before early there = cc
seen_less basis nodes place false own at none e before early there = elim (cases_lt before place) [
  | inl w ↦ none refl before w there
  | inr w ↦ (let same : before ≡ place = omega arith in let is : own ≡ node.Unvisited = sym (same_own nodes place own node.Unvisited at (rw same at there)) in cc (rw is at e))
]

module _ (basis : BasisView) (nodes : List Node) (place : ℕ) (seen : Bool) (marks : List Mark) (later : List (List Mark)) (h : IsJudged basis nodes place (marks ∷ later) seen) where
  same_order : (other : List Mark) → HasOrder basis nodes place other → other ≡ marks
  same_order other o = let same = one_rest (root_marks basis.conflicts ∷ []) (take place nodes) _ _ o.leads h.leads in cc

  not_whole : Leads (root_marks basis.conflicts ∷ []) (take place nodes) [] → ⊥
  not_whole leads = let same = one_rest (root_marks basis.conflicts ∷ []) (take place nodes) _ _ leads h.leads in cc

  seen_by : (b : Bool) → seen ≡ b → (before : ℕ) → before < place → slice_get nodes before ≡ Some node.Unvisited → seen ≡ true
  seen_by true e before early there = e
  seen_by false e before early there = absurd (h.seen_none e before early there)

  own_of : (own : Node) → slice_get nodes place ≡ Some own → (rule : Rule) → BreaksAt basis nodes rule place → OwnBreaks basis seen marks own rule
  own_of own at Tree (inl b) = absurd (omega (arith, b.0, slice_get_within nodes place own at))
  own_of own at Tree (inr b) = absurd (not_whole b.1)
  own_of own at Pair b = subst (λ o. OwnBreaks basis seen marks o Pair) (same_own nodes place own _ at b.at_split.there)
      (subst (λ ms. slice_get ms b.item ≢ Some Open) (same_order b.marks b.at_split.order) b.not_open)
  own_of own at Unvisited (inl b) = subst (λ o. OwnBreaks basis seen marks o Unvisited) (same_own nodes place own _ at b.0) b.1
  own_of own at Unvisited (inr (inl b)) = visited_breaks basis seen marks own (subst IsVisited (same_own nodes place own _ at b.there) b.visited) (seen_by _ refl b.before b.earlier b.unvisited)
  own_of own at Unvisited (inr (inr b)) = absurd (omega (arith, b.past, slice_get_within nodes place own at))
  own_of own at Edge b = subst (λ o. OwnBreaks basis seen marks o Edge) (same_own nodes place own _ at b.at_closed.there)
      (subst (λ ms. LacksAnEdge basis ms b.walk) (same_order b.marks b.at_closed.order) b.lacks)
  own_of own at Sum b = subst (λ o. OwnBreaks basis seen marks o Sum) (same_own nodes place own _ at b.at_closed.there)
      (subst (λ ms. HasNoMoreThan0 basis ms b.walk) (same_order b.marks b.at_closed.order) b.low)
  own_of own at Plan b = absurd b
  own_of own at (Fit fault) b = absurd b
  own_of own at Least b = absurd b
  own_of own at Cycles b = absurd b
  own_of own at Budget b = absurd b

  here : (own : Node) → slice_get nodes place ≡ Some own → IsAt basis nodes place marks own
  here own at = record { there = at; order = record { later = later; leads = h.leads } }

  follows : (own : Node) → IsVisited own → slice_get nodes place ≡ Some own → seen ≡ true → BreaksAt basis nodes Unvisited place
  follows own visited at e = let one = h.seen_one e in inr (inl (record { own = own; there = at; visited = visited; before = one.0; earlier = one.1; unvisited = one.2 }))

  broken_by : (own : Node) → slice_get nodes place ≡ Some own → (rule : Rule) → OwnBreaks basis seen marks own rule → BreaksAt basis nodes rule place
  broken_by (node.Split item) at = of_split basis seen marks item (λ rule. BreaksAt basis nodes rule place)
      (λ shut. record { item = item; marks = marks; at_split = here _ at; not_open = shut }) (follows _ refl at)
  broken_by (node.Closed walk) at = of_closed basis seen marks walk (λ rule. BreaksAt basis nodes rule place)
      (follows _ refl at) (λ lacks. record { walk = walk; marks = marks; at_closed = here _ at; lacks = lacks })
      (λ low. record { walk = walk; marks = marks; at_closed = here _ at; low = low })
  broken_by node.Unvisited at = of_unvisited basis seen marks (λ rule. BreaksAt basis nodes rule place) (λ e. inl (at, e))

  pub judged_fault : (own : Node) (rule : Rule) → slice_get nodes place ≡ Some own → node_fault basis seen marks own ≡ Some rule → IsFirstBroken basis nodes rule place
  judged_fault own rule at is =
      let first = rw is at (node_first basis marks seen own) in
      record {
        broken = broken_by own at rule first.breaks;
        earlier = h.earlier;
        smaller = λ other b. first.smaller other (own_of own at other b);
      }

  none_here : (own : Node) → slice_get nodes place ≡ Some own → node_fault basis seen marks own ≡ None → (rule : Rule) → ¬ BreaksAt basis nodes rule place
  none_here own at is rule b = (rw is at (node_first basis marks seen own)) rule (own_of own at rule b)

  none_so_far : (own : Node) → slice_get nodes place ≡ Some own → node_fault basis seen marks own ≡ None → (rule : Rule) (before : ℕ) → before < place + 1 → ¬ BreaksAt basis nodes rule before
  none_so_far own at is rule before early b = elim (cases_lt before place) [
    | inl w ↦ h.earlier rule before w b
    | inr w ↦ none_here own at is rule (subst (λ k. BreaksAt basis nodes rule k) (let same : before ≡ place = omega arith in same) b)
  ]

  pub judged_next : (own : Node) → slice_get nodes place ≡ Some own → node_fault basis seen marks own ≡ None →
      IsJudged basis nodes (place + 1) (orders_below marks own ++ later) (seen || not (is_visited own))
  judged_next own at is = record {
    leads = rw (take_own nodes place own at) (leads_more (take place nodes) (root_marks basis.conflicts ∷ []) later marks own h.leads);
    earlier = none_so_far own at is;
    seen_one = seen_more basis nodes place seen own at h.seen_one;
    seen_none = seen_less basis nodes place seen own at h.seen_none;
  }

-- past the last node
late : (basis : BasisView) (nodes : List Node) (place : ℕ) (P : Rule → Type 0) → length nodes ≤ place →
    ((marks : List Mark) → place ≡ length nodes → HasOrder basis nodes place marks → P Tree) → (IsFinished basis nodes place → P Unvisited) →
    (rule : Rule) → BreaksAt basis nodes rule place → P rule
late basis nodes place P past missing finished Tree (inl b) = missing b.1.0 b.0 b.1.1
late basis nodes place P past missing finished Tree (inr b) = absurd (omega (arith, b.0))
late basis nodes place P past missing finished Pair b = absurd (omega (arith, slice_get_within nodes place _ b.at_split.there))
late basis nodes place P past missing finished Unvisited (inl b) = absurd (omega (arith, slice_get_within nodes place _ b.0))
late basis nodes place P past missing finished Unvisited (inr (inl b)) = absurd (omega (arith, slice_get_within nodes place _ b.there))
late basis nodes place P past missing finished Unvisited (inr (inr b)) = finished b
late basis nodes place P past missing finished Edge b = absurd (omega (arith, slice_get_within nodes place _ b.at_closed.there))
late basis nodes place P past missing finished Sum b = absurd (omega (arith, slice_get_within nodes place _ b.at_closed.there))
late basis nodes place P past missing finished Plan b = absurd b
late basis nodes place P past missing finished (Fit fault) b = absurd b
late basis nodes place P past missing finished Least b = absurd b
late basis nodes place P past missing finished Cycles b = absurd b
late basis nodes place P past missing finished Budget b = absurd b

pub judged_missing : (basis : BasisView) (nodes : List Node) (place : ℕ) (seen : Bool) (marks : List Mark) (later : List (List Mark)) → place ≡ length nodes →
    IsJudged basis nodes place (marks ∷ later) seen → IsFirstBroken basis nodes Tree place
judged_missing basis nodes place seen marks later end h = record {
  broken = inl (end, (marks, record { later = later; leads = h.leads }));
  earlier = h.earlier;
  smaller = from_tree basis nodes place;
}

-- with no order to come, the nodes are a whole tree
judged_whole : (basis : BasisView) (nodes : List Node) (place : ℕ) (seen : Bool) → place ≡ length nodes → IsJudged basis nodes place [] seen → IsWholeTree basis.conflicts nodes
judged_whole basis nodes place seen end h = let all : take place nodes ≡ nodes = take_all place nodes (omega arith) in rw all at h.leads

nothing_missing : (basis : BasisView) (nodes : List Node) (place : ℕ) (seen : Bool) → IsJudged basis nodes place [] seen → (marks : List Mark) → HasOrder basis nodes place marks → ⊥
nothing_missing basis nodes place seen h marks o = let same = one_rest (root_marks basis.conflicts ∷ []) (take place nodes) _ _ o.leads h.leads in cc

visited_each : (own : Node) → own ≢ node.Unvisited → IsVisited own
visited_each (node.Split item) visited = refl
visited_each (node.Closed walk) visited = refl
visited_each node.Unvisited visited = absurd (visited refl)

pub all_visited : (nodes : List Node) → ((k : ℕ) → k < length nodes → slice_get nodes k ≢ Some node.Unvisited) → All IsVisited nodes
all_visited nodes visited = All-from_get_or IsVisited nodes node.Unvisited (λ k within.
    visited_each (get_or nodes k node.Unvisited) (λ is. visited k within (slice_get-get_or nodes k node.Unvisited within ∙ ap Some is)))

-- an Unvisited node isn't one of nodes that are all visited
pub never_unvisited : (nodes : List Node) (k : ℕ) → All IsVisited nodes → slice_get nodes k ≢ Some node.Unvisited
never_unvisited nodes k visited there =
    let here : IsVisited (get_or nodes k node.Unvisited) = visited k node.Unvisited (slice_get_within nodes k _ there) in
    let is : get_or nodes k node.Unvisited ≡ node.Unvisited = get_or_from_slice_get nodes k node.Unvisited node.Unvisited there in
    cc

pub judged_finished : (basis : BasisView) (nodes : List Node) (place : ℕ) → place ≡ length nodes → basis.unfinished ≡ true → IsJudged basis nodes place [] false →
    IsFirstBroken basis nodes Unvisited place
judged_finished basis nodes place end stopped h = record {
  broken = inr (inr (record {
    stopped = stopped;
    past = end;
    whole = judged_whole basis nodes place false end h;
    visited = all_visited nodes (λ k within. h.seen_none refl k (omega arith));
  }));
  earlier = h.earlier;
  smaller = late basis nodes place (λ other. 7 ≤ rule_number other) (omega arith) (λ marks past o. absurd (nothing_missing basis nodes place false h marks o)) (λ b. omega arith);
}

-- nothing is broken: the list is a whole tree, and where it may hold Unvisited nodes it holds one
pub judged_all : (basis : BasisView) (nodes : List Node) (place : ℕ) (seen : Bool) → place ≡ length nodes → (basis.unfinished ≡ true → seen ≡ true) →
    IsJudged basis nodes place [] seen → NoneBreaks basis nodes
judged_all basis nodes place seen end some h rule at b = elim (cases_lt at place) [
  | inl w ↦ h.earlier rule at w b
  | inr w ↦ late basis nodes at (λ other. ⊥) (omega arith)
      (λ marks past o. nothing_missing basis nodes place seen h marks (subst (λ k. HasOrder basis nodes k marks) (let same : at ≡ place = omega arith in same) o))
      (λ b. let one = h.seen_one (some b.stopped) in never_unvisited nodes one.0 b.visited one.2) rule b
]
