-- How many nodes a whole tree can have.
use Rattle.std.proofs.Common.{ℕ, suc, List, [], ◌∷◌, ◌≡◌, ◌+◌, ◌-◌, ◌*◌, ◌^◌, ◌≤◌, Bool, true, false, cond, not, if◌then◌else◌, refl, sym, ap, ◌∙◌, Some, length, map, replicate, set, get_or, slice_get, count_by, sum_by, add-one, arith}
use Rattle.std.proofs.Math.Nat.{pow-succ'}
use Rattle.std.proofs.lemmas.Nat.{pow_pos}
use Rattle.std.proofs.lemmas.List.Folds.{sum_by-replicate}
use Rattle.std.proofs.lemmas.List.Elements.{All-head, All-tail}
use Rattle.std.proofs.lemmas.List.Sums.{sum_by-append, sum_by-cons, sum_by-set}
use Rattle.std.proofs.lemmas.Option.{slice_get_within, get_or_from_slice_get}
use Rattle.conflict_matrix.specs.Matrix.{Matrix}
use Rattle.conflict_matrix.specs.Pairs.{pairs_of, has_group_0, free_pairs}
use Rattle.constraint_cycles.specs.Marks.{root_mark, root_marks}
use Rattle.constraint_cycles.specs.Tree.{Leads, AllNodes, DecidesOpen, is_visited, IsVisited}
use Rattle.constraint_cycles.specs.TreeShape.{is_open, most_nodes, NodeCountLaw, VisitedCountLaw, RootCountLaw}
use Rattle.constraint_cycles.specs.declared.mark.Mark.{Mark}
use Rattle.constraint_cycles.specs.declared.mark.Mark.TheVariants.{Open, First, Second}
use Rattle.constraint_cycles.specs.declared.node.Node.{Node}
use Rattle.constraint_cycles.specs.declared.node.Node.TheVariants.{Split, Closed, Unvisited}

-- deciding an open item leaves one open item less
pub decided_count : (marks : List Mark) (item : ℕ) (mark : Mark) → slice_get marks item ≡ Some Open → is_open mark ≡ false → count_by is_open (set marks item mark) + 1 ≡ count_by is_open marks
decided_count marks item mark was_open closed =
    let within = slice_get_within marks item Open was_open in
    let here : get_or marks item Open ≡ Open = get_or_from_slice_get marks item Open Open was_open in
    let counts = sum_by-set (λ (x : Mark). cond (is_open x) 1 0) marks item mark Open within in
    let both : count_by is_open (set marks item mark) + 1 ≡ count_by is_open marks + 0 = rw closed at (rw here at counts) in
    omega arith

two_halves : (k l : ℕ) → k + 1 ≡ l → (2 ^ (k + 1) - 1) + (2 ^ (k + 1) - 1) + 1 ≡ 2 ^ (l + 1) - 1
two_halves k l e =
    let next : suc l ≡ l + 1 = omega arith in
    let twice : 2 ^ (l + 1) ≡ 2 * 2 ^ (k + 1) = rw (← next) (pow-succ' 2 l ∙ ap (λ x. 2 * 2 ^ x) (sym e)) in
    let some : 1 ≤ 2 ^ (k + 1) = pow_pos (k + 1) in
    omega arith

at_least_one : (k : ℕ) → 1 ≤ 2 ^ (k + 1) - 1
at_least_one k =
    let some : 1 ≤ 2 ^ k = pow_pos k in
    let twice : 2 ^ (k + 1) ≡ 2 * 2 ^ k = rw add-one (pow-succ' 2 k) in
    omega arith

pub most_one : (marks : List Mark) → 1 ≤ most_nodes marks
most_one marks = at_least_one (count_by is_open marks)

pub most_split : (marks : List Mark) (item : ℕ) → slice_get marks item ≡ Some Open → most_nodes (set marks item First) + most_nodes (set marks item Second) + 1 ≡ most_nodes marks
most_split marks item was_open =
    let first = decided_count marks item First was_open refl in
    let second = decided_count marks item Second was_open refl in
    let same : count_by is_open (set marks item First) ≡ count_by is_open (set marks item Second) = omega arith in
    rw (← same) (two_halves _ _ first)

module _ (most : List Mark → ℕ) (one : (marks : List Mark) → 1 ≤ most marks)
    (split : (marks : List Mark) (item : ℕ) → slice_get marks item ≡ Some Open → most (set marks item First) + most (set marks item Second) + 1 ≡ most marks) where
  nodes_within : (nodes : List Node) (coming rest : List (List Mark)) → Leads coming nodes rest → AllNodes DecidesOpen coming nodes → length nodes + sum_by most rest ≤ sum_by most coming
  nodes_within [] coming rest leads h = let same = ap (sum_by most) leads in omega arith
  nodes_within (node ∷ nodes) [] rest leads h = absurd leads
  nodes_within (Split item ∷ nodes) (marks ∷ coming) rest leads h =
      let later = nodes_within nodes (set marks item First ∷ (set marks item Second ∷ coming)) rest leads h.1 in
      let first = sum_by-cons most (set marks item First) (set marks item Second ∷ coming) in
      let second = sum_by-cons most (set marks item Second) coming in
      let whole = sum_by-cons most marks coming in
      let halves = split marks item h.0 in
      omega arith
  nodes_within (Closed walk ∷ nodes) (marks ∷ coming) rest leads h =
      let later = nodes_within nodes coming rest leads h.1 in
      let whole = sum_by-cons most marks coming in
      let some = one marks in
      omega arith
  nodes_within (Unvisited ∷ nodes) (marks ∷ coming) rest leads h =
      let later = nodes_within nodes coming rest leads h.1 in
      let whole = sum_by-cons most marks coming in
      let some = one marks in
      omega arith

-- the nodes so far, and the most that can come
pub node_bound : (nodes : List Node) (coming rest : List (List Mark)) → Leads coming nodes rest → AllNodes DecidesOpen coming nodes → length nodes + sum_by most_nodes rest ≤ sum_by most_nodes coming
node_bound = nodes_within most_nodes most_one most_split

alone : (n most : ℕ) → n + 0 ≤ most + 0 → n ≤ most
alone n most h = omega arith

pub node_count_law : NodeCountLaw
node_count_law marks nodes leads h = alone (length nodes) (most_nodes marks) (rw sum_by-cons at (node_bound nodes (marks ∷ []) [] leads h))

pub visited_count_law : VisitedCountLaw
visited_count_law [] h = refl
visited_count_law (node ∷ nodes) h =
    let here : is_visited node ≡ true = All-head IsVisited node nodes h in
    sum_by-cons (λ (n : Node). cond (is_visited n) 1 0) node nodes
    ∙ rw (here, visited_count_law nodes (All-tail IsVisited node nodes h)) (omega arith)

root_open : (with_first : Bool) → is_open (if with_first then First else Open) ≡ not with_first
root_open true = refl
root_open false = refl

open_pairs : (pairs : List (ℕ × ℕ)) → count_by is_open (map root_mark pairs) ≡ count_by (λ pair. not (has_group_0 pair)) pairs
open_pairs [] = refl
open_pairs (pair ∷ pairs) =
    sum_by-cons (λ (x : Mark). cond (is_open x) 1 0) (root_mark pair) (map root_mark pairs)
    ∙ rw (root_open (has_group_0 pair), open_pairs pairs) (sym (sum_by-cons (λ (p : ℕ × ℕ). cond (not (has_group_0 p)) 1 0) pair pairs))

open_links : (n : ℕ) → count_by is_open (replicate n Open) ≡ n
open_links n = sum_by-replicate (λ (x : Mark). cond (is_open x) 1 0) n Open ∙ omega arith

open_items : (m : Matrix) → count_by is_open (root_marks m) ≡ free_pairs m + length m.links
open_items m =
    sum_by-append (λ (x : Mark). cond (is_open x) 1 0) (map root_mark (pairs_of m)) (replicate (length m.links) Open)
    ∙ rw (open_pairs (pairs_of m), open_links (length m.links)) refl

pub root_count_law : RootCountLaw
root_count_law m = ap (λ n. 2 ^ (n + 1) - 1) (open_items m)
