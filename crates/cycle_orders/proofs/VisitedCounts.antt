-- The visited nodes of trees, counted against the nodes that their cycles' trees can have.
use Rattle.std.proofs.Common.{ℕ, List, [], ◌∷◌, ◌≡◌, ◌+◌, ◌*◌, ◌<◌, ◌≤◌, arith}
use Rattle.std.proofs.lemmas.List.Sums.{count_by-le-length}
use Rattle.std.proofs.Math.Nat.{mul-le-mul_right}
use Rattle.conflict_matrix.specs.Matrix.{Matrix}
use Rattle.conflict_matrix.specs.Pairs.{tree_cover_of}
use Rattle.constraint_cycles.specs.Marks.{root_marks}
use Rattle.constraint_cycles.specs.Tree.{AllNodes, DecidesOpen, IsSound, IsWholeTree, visited_count, is_visited}
use Rattle.constraint_cycles.specs.declared.mark.Mark.{Mark}
use Rattle.constraint_cycles.specs.declared.node.Node.{Node}
use Rattle.constraint_cycles.specs.declared.node.Node.TheVariants.{Split, Closed, Unvisited}
use Rattle.constraint_cycles.proofs.NodeCounts.{node_count_law, root_count_law}
use Rattle.constraint_cycles.proofs.Trees.{all_nodes}

module _ (m : Matrix) (needs : List ℕ) (cycle : ℕ) where
  pub decides_open : (marks : List Mark) (node : Node) → IsSound m needs cycle marks node → DecidesOpen marks node
  decides_open marks (Split item) sound = sound
  decides_open marks (Closed walk) sound = tt
  decides_open marks Unvisited sound = tt

  -- a tree has no more visited nodes than a tree can have nodes
  pub few_visited : (nodes : List Node) → IsWholeTree m nodes → AllNodes (IsSound m needs cycle) (root_marks m ∷ []) nodes →
      visited_count nodes ≤ tree_cover_of m
  few_visited nodes whole sound =
      let root = root_marks m in
      let open_splits = all_nodes (IsSound m needs cycle) DecidesOpen decides_open (root ∷ []) nodes sound in
      omega (arith, count_by-le-length is_visited nodes, node_count_law root nodes whole open_splits, root_count_law m)

-- the nodes of n trees and of one more, which may be as many as the cover each
pub few_more : (n k seen more cover : ℕ) → k ≡ n + 1 → seen ≤ n * cover → more ≤ cover → seen + more ≤ k * cover
few_more n k seen more cover is few own =
    let risen : (n + 1) * cover ≤ k * cover = mul-le-mul_right cover (omega (arith, is)) in
    omega (arith, risen, few, own)

-- where the last one isn't full, all are fewer than the trees of all cycles can have
pub below_cover : (n cycles seen more cover : ℕ) → n + 1 ≤ cycles → seen ≤ n * cover → more < cover → seen + more < cycles * cover
below_cover n cycles seen more cover within few own =
    let risen : (n + 1) * cover ≤ cycles * cover = mul-le-mul_right cover within in
    omega (arith, risen, few, own)
