-- The list of all items that a search decides, in the order in which it does.
use Rattle.std.specs.Prelude.{ℕ, List, length, Some, ◌≡◌, ◌+◌, ◌<◌, ◌≤◌, slice_get, slice_index}
use Rattle.conflict_matrix.specs.Matrix.{Matrix}
use Rattle.conflict_matrix.specs.Pairs.{pairs_of}
use Rattle.constraint_cycles.specs.Marks.{root_marks}
use Rattle.cycle_orders.specs.Due.{IsEarlierPair, ComesBefore, IsOpenItem}

abbrev pub IsListed : List ℕ → ℕ → Type 0
IsListed items item = (k : ℕ) × (k < length items) × (slice_index items k ≡ item)

-- each item comes before those behind it
abbrev pub AreInDueOrder : Matrix → List ℕ → Type 0
AreInDueOrder m items = (k l : ℕ) → k < l → l < length items → ComesBefore m (slice_index items k) (slice_index items l)

-- the items that the root order leaves open, in due order
pub record AreDueItems (m : Matrix) (items : List ℕ) : Type 0 where
  pub rising : AreInDueOrder m items
  pub each : (k : ℕ) → k < length items → IsOpenItem (root_marks m) (slice_index items k)
  pub all : (item : ℕ) → IsOpenItem (root_marks m) item → IsListed items item

-- a pair without group 0 that is earlier than a bound
pub record IsFreePairBelow (m : Matrix) (bound : ℕ × ℕ) (item : ℕ) : Type 0 where
  pub pair : ℕ × ℕ
  pub at : slice_get (pairs_of m) item ≡ Some pair
  pub free : 1 ≤ pair.0
  pub earlier : IsEarlierPair pair bound

-- these pairs, in due order
pub record AreFreePairsBelow (m : Matrix) (bound : ℕ × ℕ) (items : List ℕ) : Type 0 where
  pub rising : AreInDueOrder m items
  pub each : (k : ℕ) → k < length items → IsFreePairBelow m bound (slice_index items k)
  pub all : (item : ℕ) → IsFreePairBelow m bound item → IsListed items item

-- an open item of the root order that is a pair, or one of the first n links
pub record IsOpenBelowLink (m : Matrix) (n item : ℕ) : Type 0 where
  pub is_open : IsOpenItem (root_marks m) item
  pub below : item < length (pairs_of m) + n

-- these items, in due order
pub record AreOpenBelowLink (m : Matrix) (n : ℕ) (items : List ℕ) : Type 0 where
  pub rising : AreInDueOrder m items
  pub each : (k : ℕ) → k < length items → IsOpenBelowLink m n (slice_index items k)
  pub all : (item : ℕ) → IsOpenBelowLink m n item → IsListed items item
