-- The greatest sums of weights along edges from each group to each other: the matrix of a difference system.
use Rattle.std.specs.Prelude.{ℕ, List, [], ℤ, pos, neg_ℤ, Option, Some, MatchOption, length, ◌≡◌, ◌<◌, ◌≤◌, ◌⊎◌, ◌+◌, ◌*◌, ◌+ℤ◌, ◌-ℤ◌, ◌≤ℤ◌, ◌<ℤ◌, slice_index, slice_index_or}
use Rattle.constraint_cycles.specs.Edge.{Edges, IsWeight, longest_cycle, greatest_weight}
use Rattle.constraint_cycles.specs.Starts.{MeetsEdges}
use Rattle.difference_system.specs.declared.sums.matrix.Sums.{Sums}
use Rattle.difference_system.specs.declared.sums.matrix.TwoEdges.{TwoEdges}

-- that one group is to start at least so many seconds after another
abbrev pub Asks : Type 1
Asks = ℕ → ℕ → ℤ → Type 0

abbrev pub asks_of : Edges → Asks
asks_of edge u v w = edge u v ≡ Some w

abbrev pub MeetsAll : Asks → List ℕ → Type 0
MeetsAll asks starts = (u v : ℕ) (w : ℤ) → asks u v w → w ≤ℤ (pos (slice_index starts v) -ℤ pos (slice_index starts u))

-- sums among the groups: none from a group to itself, those by way of a third group included, none below what is
-- asked, and none above what starts that meet all that is asked leave
pub record AreSums (groups : ℕ) (asks : Asks) (sum : ℕ → ℕ → ℤ) : Type 0 where
  pub none : (u : ℕ) → u < groups → sum u u ≡ pos 0
  pub joined : (u v w : ℕ) → u < groups → v < groups → w < groups → (sum u v +ℤ sum v w) ≤ℤ sum u w
  pub asked : (u v : ℕ) (w : ℤ) → asks u v w → w ≤ℤ sum u v
  pub least : (starts : List ℕ) → MeetsAll asks starts → (u v : ℕ) → u < groups → v < groups → sum u v ≤ℤ (pos (slice_index starts v) -ℤ pos (slice_index starts u))

abbrev pub cell_of : List ℤ → ℕ → ℤ
cell_of row v = slice_index_or row v (pos 0)

abbrev pub sum_of : Sums → ℕ → ℕ → ℤ
sum_of s u v = cell_of (slice_index_or s.rows u []) v

-- the sums of these edges, or none since no starts meet them
abbrev pub IsSummed : ℕ → Edges → Option Sums → Type 0
IsSummed groups edge found = MatchOption found ((starts : List ℕ) → ¬ MeetsEdges edge starts) (λ s. AreSums groups (asks_of edge) (sum_of s))

-- a sum within a cycle: shorter than the longest one, in either sense
pub record IsModest (w : ℤ) : Type 0 where
  pub least : (pos 1 -ℤ pos longest_cycle) ≤ℤ w
  pub greatest : w ≤ℤ (pos longest_cycle -ℤ pos 1)

abbrev pub AreModest : ℕ → (ℕ → ℕ → ℤ) → Type 0
AreModest groups sum = (u v : ℕ) → u < groups → v < groups → IsModest (sum u v)

-- in seconds: two such sums and the weight of an edge come to less
abbrev pub longest_way : ℕ
longest_way = 2 * longest_cycle + greatest_weight

pub record IsSmall (w : ℤ) : Type 0 where
  pub least : neg_ℤ (pos longest_way) ≤ℤ w
  pub greatest : w ≤ℤ pos longest_way

-- the greatest of three
pub record IsGreatest (a b c greatest : ℤ) : Type 0 where
  pub first : a ≤ℤ greatest
  pub second : b ≤ℤ greatest
  pub third : c ≤ℤ greatest
  pub one : (greatest ≡ a) ⊎ ((greatest ≡ b) ⊎ (greatest ≡ c))

-- two edges between groups of so many
pub record AreEdgesAmong (groups : ℕ) (e : TwoEdges) : Type 0 where
  pub from : e.from < groups
  pub to : e.to < groups
  pub forth : IsWeight e.forth
  pub back : IsWeight e.back

-- what is asked with two more edges
abbrev pub with_edges : Asks → TwoEdges → Asks
with_edges asks e u v w =
    asks u v w ⊎ (((u ≡ e.from) × (v ≡ e.to) × (w ≡ e.forth)) ⊎ ((u ≡ e.to) × (v ≡ e.from) × (w ≡ e.back)))

-- the greatest sum round a cycle of the two edges, or of one of them and the sum the other way
abbrev pub IsGreatestRound : (ℕ → ℕ → ℤ) → TwoEdges → ℤ → Type 0
IsGreatestRound sum e = IsGreatest (e.forth +ℤ e.back) (e.forth +ℤ sum e.to e.from) (e.back +ℤ sum e.from e.to)

-- one of these cycles is positive
abbrev pub MakesCycle : (ℕ → ℕ → ℤ) → TwoEdges → Type 0
MakesCycle sum e = (round : ℤ) × IsGreatestRound sum e round × (pos 0 <ℤ round)

abbrev pub MakesNoCycle : (ℕ → ℕ → ℤ) → TwoEdges → Type 0
MakesNoCycle sum e = (round : ℤ) × IsGreatestRound sum e round × (round ≤ℤ pos 0)

-- the greatest of a sum and of those by way of one of the two edges
abbrev pub IsWithEdges : (ℕ → ℕ → ℤ) → TwoEdges → ℕ → ℕ → ℤ → Type 0
IsWithEdges old e u v new =
    IsGreatest (old u v) ((old u e.from +ℤ e.forth) +ℤ old e.to v) ((old u e.to +ℤ e.back) +ℤ old e.from v) new

-- the two edges make no positive cycle, and these are the sums with them
pub record AreWithEdges (groups : ℕ) (old : ℕ → ℕ → ℤ) (e : TwoEdges) (new : ℕ → ℕ → ℤ) : Type 0 where
  pub no_cycle : MakesNoCycle old e
  pub each : (u v : ℕ) → u < groups → v < groups → IsWithEdges old e u v (new u v)

-- a sum from group 0 as a start
pub record IsStart (w : ℤ) : Type 0 where
  pub least : pos 0 ≤ℤ w
  pub greatest : w ≤ℤ (pos longest_cycle -ℤ pos 1)

-- one start for each of 16 groups: those of a row of sums, and 0 where there is no such group
pub record AreRowStarts (groups : ℕ) (row : ℕ → ℤ) (starts : List ℕ) : Type 0 where
  pub full : length starts ≡ 16
  pub each : (g : ℕ) → g < groups → pos (slice_index starts g) ≡ row g
  pub unused : (g : ℕ) → groups ≤ g → slice_index starts g ≡ 0
