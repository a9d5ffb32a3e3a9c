-- What is true of all trees that close a cycle.
use Rattle.std.specs.Prelude.{ℕ, List}
use Rattle.conflict_matrix.specs.Matrix.{Matrix}
use Rattle.constraint_cycles.specs.Marks.{Refines, IsDecided, root_marks}
use Rattle.constraint_cycles.specs.Closing.{Closes}
use Rattle.constraint_cycles.specs.WalkLaws.{NeedNoLess}
use Rattle.constraint_cycles.specs.Tree.{ClosesCycle}
use Rattle.constraint_cycles.specs.declared.mark.Mark.{Mark}
use Rattle.constraint_cycles.specs.declared.node.Node.{Node}

-- a tree that closes a cycle has a walk that closes every full order below the root, one that decides each item
abbrev pub FullOrderLaw : Type 0
FullOrderLaw = (m : Matrix) (needs : List ℕ) (cycle : ℕ) (nodes : List Node) (full : List Mark) → ClosesCycle m needs cycle nodes →
    Refines (root_marks m) full → IsDecided full → (walk : List ℕ) × Closes m full needs cycle walk

-- it closes the cycle for greater needs too
abbrev pub TreeNeedsLaw : Type 0
TreeNeedsLaw = (m : Matrix) (needs more : List ℕ) (cycle : ℕ) (nodes : List Node) → NeedNoLess m needs more →
    ClosesCycle m needs cycle nodes → ClosesCycle m more cycle nodes
