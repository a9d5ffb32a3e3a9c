-- The item of an order that a search decides next.
use Rattle.std.specs.Prelude.{ℕ, List, length, Some, ◌≡◌, ◌<◌, ◌≤◌, ◌⊎◌, ⊤, slice_get}
use Rattle.conflict_matrix.specs.Matrix.{Matrix}
use Rattle.conflict_matrix.specs.Pairs.{pairs_of}
use Rattle.constraint_cycles.specs.declared.mark.Mark.{Mark}
use Rattle.constraint_cycles.specs.declared.mark.Mark.TheVariants.{Open}
use Rattle.constraint_cycles.specs.declared.node.Node.{Node}
use Rattle.constraint_cycles.specs.declared.node.Node.TheVariants.{Split, Closed, Unvisited}

-- the pair has a lower second group than the other, or the same one and a lower first group
abbrev pub IsEarlierPair : ℕ × ℕ → ℕ × ℕ → Type 0
IsEarlierPair pair other = (pair.1 < other.1) ⊎ ((pair.1 ≡ other.1) × (pair.0 < other.0))

-- both items are pairs, and the first is the earlier one
pub record IsPairBefore (m : Matrix) (item other : ℕ) : Type 0 where
  pub pair : ℕ × ℕ
  pub other_pair : ℕ × ℕ
  pub at : slice_get (pairs_of m) item ≡ Some pair
  pub other_at : slice_get (pairs_of m) other ≡ Some other_pair
  pub earlier : IsEarlierPair pair other_pair

-- the second item is a link, and the first a pair or a link of a lower number
abbrev pub IsBeforeLink : Matrix → ℕ → ℕ → Type 0
IsBeforeLink m item other = (length (pairs_of m) ≤ other) × (item < other)

-- the order in which items are decided: the pairs by their second group and then the first one, and behind them the links
abbrev pub ComesBefore : Matrix → ℕ → ℕ → Type 0
ComesBefore m item other = IsPairBefore m item other ⊎ IsBeforeLink m item other

abbrev pub IsOpenItem : List Mark → ℕ → Type 0
IsOpenItem marks item = slice_get marks item ≡ Some Open

-- the first of the open items in that order
pub record IsDue (m : Matrix) (marks : List Mark) (item : ℕ) : Type 0 where
  pub is_open : IsOpenItem marks item
  pub first : (other : ℕ) → IsOpenItem marks other → ¬ ComesBefore m other item

-- a Split decides the due item of its own order
abbrev pub SplitsDue : Matrix → List Mark → Node → Type 0
SplitsDue m marks (Split item) = IsDue m marks item
SplitsDue m marks (Closed walk) = ⊤
SplitsDue m marks Unvisited = ⊤
