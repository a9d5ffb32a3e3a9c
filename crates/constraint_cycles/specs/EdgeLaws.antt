-- The edges of an order, by what asks for them.
use Rattle.std.specs.Prelude.{ℕ, List, ℤ, length, None, Some, ◌≡◌, ◌+◌, ◌-◌, ◌<◌, ◌≤◌, ◌≤ℤ◌, ◌⊎◌, ◌↔◌, IsSomeAnd, nat_lt, slice_get, slice_set, slice_index}
use Rattle.conflict_matrix.specs.Matrix.{Matrix, IsMatrix, AreConflicting, intergreen_of}
use Rattle.conflict_matrix.specs.Pairs.{pairs_of, lower_first}
use Rattle.conflict_matrix.specs.declared.link.Link.{Link}
use Rattle.constraint_cycles.specs.Edge.{pair_weight, origin_weight, linked_weight, edge_weight}
use Rattle.constraint_cycles.specs.declared.mark.Mark.{Mark}
use Rattle.constraint_cycles.specs.declared.mark.Mark.TheVariants.{Open}

-- the item is the pair of the two groups, and asks for this weight from u to v where it has this mark
pub record PairAsks (m : Matrix) (item : ℕ) (mark : Mark) (needs : List ℕ) (cycle u v : ℕ) (w : ℤ) : Type 0 where
  pub intergreen : ℕ
  pub pair : slice_get (pairs_of m) item ≡ Some (lower_first u v)
  pub between : intergreen_of m u v ≡ Some intergreen
  pub weight : pair_weight mark (nat_lt u v) (slice_index needs u + intergreen) cycle ≡ Some w

-- the item is a link, and asks for this weight
pub record LinkAsks (m : Matrix) (item : ℕ) (mark : Mark) (cycle u v : ℕ) (w : ℤ) : Type 0 where
  pub number : ℕ
  pub link : Link
  pub behind_pairs : item ≡ length (pairs_of m) + number
  pub there : slice_get m.links number ≡ Some link
  pub weight : linked_weight mark link cycle u v ≡ Some w

abbrev pub ItemAsks : Matrix → ℕ → Mark → List ℕ → ℕ → ℕ → ℕ → ℤ → Type 0
ItemAsks m item mark needs cycle u v w = PairAsks m item mark needs cycle u v w ⊎ LinkAsks m item mark cycle u v w

-- some item asks for this weight by its mark
pub record MarkAsks (m : Matrix) (marks : List Mark) (needs : List ℕ) (cycle u v : ℕ) (w : ℤ) : Type 0 where
  pub item : ℕ
  pub mark : Mark
  pub marked : slice_get marks item ≡ Some mark
  pub asks : ItemAsks m item mark needs cycle u v w

-- the two groups don't conflict, and one of them is group 0
pub record OriginAsks (m : Matrix) (cycle u v : ℕ) (w : ℤ) : Type 0 where
  pub apart : ¬ AreConflicting m u v
  pub weight : origin_weight cycle u v ≡ Some w

abbrev pub IsAsked : Matrix → List Mark → List ℕ → ℕ → ℕ → ℕ → ℤ → Type 0
IsAsked m marks needs cycle u v w = MarkAsks m marks needs cycle u v w ⊎ OriginAsks m cycle u v w

-- an edge is between two groups of the table, and something asks for its weight
abbrev pub AskedLaw : Type 0
AskedLaw = (m : Matrix) (marks : List Mark) (needs : List ℕ) (cycle u v : ℕ) (w : ℤ) → IsMatrix m → edge_weight m marks needs cycle u v ≡ Some w →
    (u < m.groups) × (v < m.groups) × IsAsked m marks needs cycle u v w

-- no edge leads from a group to itself
abbrev pub ApartLaw : Type 0
ApartLaw = (m : Matrix) (marks : List Mark) (needs : List ℕ) (cycle u : ℕ) → IsMatrix m → edge_weight m marks needs cycle u u ≡ None

-- where something asks for a weight there is an edge, and of no smaller weight
abbrev pub GreatestLaw : Type 0
GreatestLaw = (m : Matrix) (marks : List Mark) (needs : List ℕ) (cycle u v : ℕ) (w : ℤ) → u < m.groups → v < m.groups →
    IsAsked m marks needs cycle u v w → IsSomeAnd (edge_weight m marks needs cycle u v) (λ greatest. w ≤ℤ greatest)

-- deciding an open item adds what the item asks for, and nothing else
abbrev pub DecidedLaw : Type 0
DecidedLaw = (m : Matrix) (marks : List Mark) (needs : List ℕ) (cycle item : ℕ) (mark : Mark) (u v : ℕ) (w : ℤ) → slice_get marks item ≡ Some Open →
    IsAsked m (slice_set marks item mark) needs cycle u v w ↔ (IsAsked m marks needs cycle u v w ⊎ ItemAsks m item mark needs cycle u v w)

-- one of the two groups is the link's leader, and the other one its follower
abbrev pub IsLinkOf : Link → ℕ → ℕ → Type 0
IsLinkOf link u v = ((u ≡ link.leader) × (v ≡ link.follower)) ⊎ ((u ≡ link.follower) × (v ≡ link.leader))

-- the item is the pair of the two groups, or a link between them
abbrev pub IsItemOf : Matrix → ℕ → ℕ → ℕ → Type 0
IsItemOf m item u v = (slice_get (pairs_of m) item ≡ Some (lower_first u v))
    ⊎ ((length (pairs_of m) ≤ item) × IsSomeAnd (slice_get m.links (item - length (pairs_of m))) (λ link. IsLinkOf link u v))

-- it leaves the edges between all other groups
abbrev pub OtherEdgeLaw : Type 0
OtherEdgeLaw = (m : Matrix) (marks : List Mark) (needs : List ℕ) (cycle item : ℕ) (mark : Mark) (u v : ℕ) → slice_get marks item ≡ Some Open →
    ¬ IsItemOf m item u v → edge_weight m (slice_set marks item mark) needs cycle u v ≡ edge_weight m marks needs cycle u v
