-- Forests: lists of trees.
use Rattle.std.specs.Prelude.{ℕ, List}
use Rattle.std.specs.List.{sum_by}
use Rattle.constraint_cycles.specs.Tree.{visited_count}
use Rattle.constraint_cycles.specs.declared.node.Node.{Node}

-- the number of Split and Closed nodes in all trees
abbrev pub visited_in : List (List Node) → ℕ
visited_in forest = sum_by visited_count forest
