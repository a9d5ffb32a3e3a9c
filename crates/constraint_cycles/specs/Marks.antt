-- Which group of each conflicting pair starts first in the cycle, and which link passes the cycle's end. The items of a
-- table are its conflicting pairs by their numbers, and then its links.
use Rattle.std.specs.Prelude.{ℕ, List, length, ◌+◌, ◌++◌, Some, ◌≡◌, ◌≢◌, ◌≤◌, All, map, take, replicate, slice_get, if◌then◌else◌}
use Rattle.conflict_matrix.specs.Matrix.{Matrix}
use Rattle.conflict_matrix.specs.Pairs.{pairs_of, has_group_0, fixed_pairs}
use Rattle.constraint_cycles.specs.declared.mark.Mark.{Mark}
use Rattle.constraint_cycles.specs.declared.mark.Mark.TheVariants.{Open, First}

abbrev pub item_count : Matrix → ℕ
item_count m = length (pairs_of m) + length m.links

-- the marks of the items, and how many of the first ones are fixed
pub record OrderView : Type 0 where
  pub marks : List Mark
  pub fixed : ℕ

-- the fixed marks are First
pub record KeepsFixed (o : OrderView) : Type 0 where
  pub within : o.fixed ≤ length o.marks
  pub first : take o.fixed o.marks ≡ replicate o.fixed First

-- the order is made for these conflicts: one mark for each item, those of the pairs with group 0 fixed
pub record IsOrderFor (m : Matrix) (o : OrderView) : Type 0 where
  pub marks : length o.marks ≡ item_count m
  pub fixed : o.fixed ≡ fixed_pairs m

abbrev pub root_mark : ℕ × ℕ → Mark
root_mark pair = if has_group_0 pair then First else Open

-- group 0 is first of all its pairs, and every other pair and every link is open
abbrev pub root_marks : Matrix → List Mark
root_marks m = map root_mark (pairs_of m) ++ replicate (length m.links) Open

-- the second order refines the first: it has as many marks, and each mark of the first that isn't Open stands in it too
pub record Refines (marks finer : List Mark) : Type 0 where
  pub as_many : length finer ≡ length marks
  pub kept : (k : ℕ) (mark : Mark) → slice_get marks k ≡ Some mark → mark ≢ Open → slice_get finer k ≡ Some mark

-- the order decides each item: no mark is Open
abbrev pub IsDecided : List Mark → Type 0
IsDecided marks = All (λ mark. mark ≢ Open) marks
