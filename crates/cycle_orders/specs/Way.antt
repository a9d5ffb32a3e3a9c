-- The way down from the root order to the order at hand, which decides so many of the due items, and the orders beside it
-- that are still to come.
use Rattle.std.specs.Prelude.{ℕ, zero, suc, List, [], ◌∷◌, Bool, true, false, Some, ◌≡◌, ◌≢◌, ◌≤◌, if◌then◌else◌, slice_get, slice_index, slice_index_or, slice_set}
use Rattle.conflict_matrix.specs.Matrix.{Matrix}
use Rattle.conflict_matrix.specs.Pairs.{fixed_pairs}
use Rattle.constraint_cycles.specs.Marks.{root_marks}
use Rattle.constraint_cycles.specs.declared.mark.Mark.{Mark}
use Rattle.constraint_cycles.specs.declared.mark.Mark.TheVariants.{Open, First, Second}

abbrev pub is_first : Mark → Bool
is_first Open = false
is_first First = true
is_first Second = false

-- the item isn't fixed, and the order decides it
pub record IsDecidedItem (m : Matrix) (marks : List Mark) (item : ℕ) : Type 0 where
  pub unfixed : fixed_pairs m ≤ item
  pub mark : Mark
  pub marked : slice_get marks item ≡ Some mark
  pub decides : mark ≢ Open

module _ (items : List ℕ) where
  -- the order without its last decision
  abbrev pub order_above : List Mark → ℕ → List Mark
  order_above marks k = slice_set marks (slice_index items k) Open

  -- without the last of its decisions, and the one before, and so on, the order is the root order
  abbrev pub IsWay : Matrix → List Mark → ℕ → Type 0
  IsWay m marks zero = marks ≡ root_marks m
  IsWay m marks (suc k) = IsDecidedItem m marks (slice_index items k) × IsWay m (order_above marks k) k

  -- the orders on the way, the one at hand first
  abbrev pub orders_along : List Mark → ℕ → List (List Mark)
  orders_along marks zero = marks ∷ []
  orders_along marks (suc k) = marks ∷ orders_along (order_above marks k) k

  -- those above the one at hand; the root order stands above itself
  abbrev pub orders_above : List Mark → ℕ → List (List Mark)
  orders_above marks zero = marks ∷ []
  orders_above marks (suc k) = orders_along (order_above marks k) k

  -- behind each decision that is First the order waits that has it Second
  abbrev pub orders_waiting : List Mark → ℕ → List (List Mark)
  orders_waiting marks zero = []
  orders_waiting marks (suc k) =
      (if is_first (slice_index_or marks (slice_index items k) Open)
      then slice_set marks (slice_index items k) Second ∷ orders_waiting (order_above marks k) k
      else orders_waiting (order_above marks k) k)
