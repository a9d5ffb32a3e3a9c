-- What contracts see of a closure.
use Rattle.std.specs.Prelude.{ℕ, List, [], ◌∷◌, drop, slice_index_or, slice_set}
use Rattle.conflict_matrix.specs.Matrix.{Matrix}
use Rattle.constraint_cycles.specs.Marks.{root_marks}
use Rattle.constraint_cycles.specs.Starts.{MeetsOrder}
use Rattle.constraint_cycles.specs.Closing.{Closes}
use Rattle.constraint_cycles.specs.declared.mark.Mark.{Mark}

-- the conflicts, the green that each group needs, the cycle, and the orders from the last decision back to the root
-- order
pub record ClosureView : Type 0 where
  pub conflicts : Matrix
  pub needs : List ℕ
  pub cycle : ℕ
  pub orders : List (List Mark)

-- the order of the last decision
abbrev pub top_of : ClosureView → List Mark
top_of c = slice_index_or c.orders 0 []

-- the starts meet it
abbrev pub MeetsTop : ClosureView → List ℕ → Type 0
MeetsTop c starts = MeetsOrder c.conflicts (top_of c) c.needs c.cycle starts

-- the walk closes it
abbrev pub ClosesTop : ClosureView → List ℕ → Type 0
ClosesTop c walk = Closes c.conflicts (top_of c) c.needs c.cycle walk

-- at the root order
abbrev pub begun : Matrix → List ℕ → ℕ → ClosureView
begun m needs cycle = record { conflicts = m; needs = needs; cycle = cycle; orders = root_marks m ∷ [] }

-- after one more decision
abbrev pub decided : ClosureView → ℕ → Mark → ClosureView
decided c item mark = record { conflicts = c.conflicts; needs = c.needs; cycle = c.cycle; orders = slice_set (top_of c) item mark ∷ c.orders }

-- without the last decision
abbrev pub undone : ClosureView → ClosureView
undone c = record { conflicts = c.conflicts; needs = c.needs; cycle = c.cycle; orders = drop 1 c.orders }

-- with other needs
abbrev pub raised : ClosureView → List ℕ → ClosureView
raised c needs = record { conflicts = c.conflicts; needs = needs; cycle = c.cycle; orders = c.orders }
