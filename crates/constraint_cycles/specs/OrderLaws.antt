-- What is true of all orders.
use Rattle.std.specs.Prelude.{ℕ, ◌++◌, ◌-◌, Some, ◌≡◌, ◌<◌, ◌≤◌, ◌↔◌, replicate, slice_get}
use Rattle.conflict_matrix.specs.Matrix.{Matrix}
use Rattle.conflict_matrix.specs.Pairs.{pairs_of, fixed_pairs}
use Rattle.constraint_cycles.specs.Marks.{OrderView, KeepsFixed, item_count, root_marks}
use Rattle.constraint_cycles.specs.declared.mark.Mark.TheVariants.{Open, First}

-- the root order has the fixed pairs first, which are those with group 0, and all others open
abbrev pub RootLaw : Type 0
RootLaw = (m : Matrix) →
    (root_marks m ≡ replicate (fixed_pairs m) First ++ replicate (item_count m - fixed_pairs m) Open)
    × ((k : ℕ) (pair : ℕ × ℕ) → slice_get (pairs_of m) k ≡ Some pair → (pair.0 ≡ 0) ↔ (k < fixed_pairs m))

-- an open item isn't fixed
abbrev pub OpenItemLaw : Type 0
OpenItemLaw = (o : OrderView) (item : ℕ) → KeepsFixed o → slice_get o.marks item ≡ Some Open → o.fixed ≤ item
