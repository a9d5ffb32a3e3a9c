-- The entries of which a conflict table is made, their faults, and what they say of a pair.
use Rattle.std.specs.Prelude.{ℕ, List, length, Some, ◌≡◌, ◌<◌, ◌≤◌, ◌⊎◌, ◌↔◌, IsSomeAnd, Any, slice_get}
use Rattle.sig_base.specs.First.{NoneBelow, SomeBelow, IsFirst}
use Rattle.sig_base.specs.declared.group_times.GroupTimes.{GroupTimes}
use Rattle.conflict_matrix.specs.Matrix.{Matrix, intergreen_of}
use Rattle.conflict_matrix.specs.declared.entry.Entry.{Entry}
use Rattle.conflict_matrix.specs.declared.fault.Way.{Way}
use Rattle.conflict_matrix.specs.declared.fault.Way.TheVariants.{AToB, BToA}
use Rattle.conflict_matrix.specs.declared.fault.ConflictFault.{ConflictFault}
use Rattle.conflict_matrix.specs.declared.fault.ConflictFault.TheVariants.{SelfConflict, Twice, Lonely, ShortIntergreen}

abbrev pub IsSelfConflict : Entry → Type 0
IsSelfConflict e = e.a ≡ e.b

-- the two name one pair, in either sense
abbrev pub IsSamePair : Entry → Entry → Type 0
IsSamePair e f = ((e.a ≡ f.a) × (e.b ≡ f.b)) ⊎ ((e.a ≡ f.b) × (e.b ≡ f.a))

abbrev pub Involves : ℕ → Entry → Type 0
Involves g e = (e.a ≡ g) ⊎ (e.b ≡ g)

-- an intergreen is shorter than the amber of the group that it leaves, or than the red-amber of the
-- group that it goes to
abbrev pub IsTooShort : List GroupTimes → ℕ → ℕ → ℕ → Type 0
IsTooShort groups from to intergreen =
    IsSomeAnd (slice_get groups from) (λ times. intergreen < times.amber)
    ⊎ IsSomeAnd (slice_get groups to) (λ times. intergreen < times.red_amber)

abbrev pub IsShort : List GroupTimes → Way → Entry → Type 0
IsShort groups AToB e = IsTooShort groups e.a e.b e.a_to_b
IsShort groups BToA e = IsTooShort groups e.b e.a e.b_to_a

abbrev pub HasShortWay : List GroupTimes → Entry → Type 0
HasShortWay groups e = IsShort groups AToB e ⊎ IsShort groups BToA e

-- faults at a place of the list
abbrev pub SelfConflictAt : List Entry → ℕ → Type 0
SelfConflictAt es k = IsSomeAnd (slice_get es k) IsSelfConflict

abbrev pub RepeatedAt : List Entry → ℕ → Type 0
RepeatedAt es k = IsSomeAnd (slice_get es k) (λ e. SomeBelow (λ n. IsSomeAnd (slice_get es n) (λ earlier. IsSamePair earlier e)) k)

abbrev pub LonelyAt : List Entry → ℕ → Type 0
LonelyAt es g = ¬ Any (Involves g) es

abbrev pub ShortAt : List GroupTimes → List Entry → ℕ → Type 0
ShortAt groups es k = IsSomeAnd (slice_get es k) (HasShortWay groups)

-- the first way of an entry in which its intergreen is short
abbrev pub IsFirstWay : List GroupTimes → Way → Entry → Type 0
IsFirstWay groups AToB e = IsShort groups AToB e
IsFirstWay groups BToA e = (¬ IsShort groups AToB e) × IsShort groups BToA e

-- no fault stands
pub record AreFaultless (groups : List GroupTimes) (es : List Entry) : Type 0 where
  pub apart : NoneBelow (SelfConflictAt es) (length es)
  pub once : NoneBelow (RepeatedAt es) (length es)
  pub partnered : NoneBelow (LonelyAt es) (length groups)
  pub long_enough : NoneBelow (ShortAt groups es) (length es)

-- the first fault, each kind tested over the whole list before the next
abbrev pub IsFirstFault : List GroupTimes → List Entry → ConflictFault → Type 0
IsFirstFault groups es (SelfConflict k) = IsFirst (SelfConflictAt es) (length es) k
IsFirstFault groups es (Twice k) = NoneBelow (SelfConflictAt es) (length es) × IsFirst (RepeatedAt es) (length es) k
IsFirstFault groups es (Lonely g) =
    NoneBelow (SelfConflictAt es) (length es) × NoneBelow (RepeatedAt es) (length es) × IsFirst (LonelyAt es) (length groups) g
IsFirstFault groups es (ShortIntergreen k way) =
    NoneBelow (SelfConflictAt es) (length es) × NoneBelow (RepeatedAt es) (length es) × NoneBelow (LonelyAt es) (length groups)
    × IsFirst (ShortAt groups es) (length es) k × IsSomeAnd (slice_get es k) (IsFirstWay groups way)

-- an entry says that the intergreen from i to j is w
abbrev pub Tells : ℕ → ℕ → ℕ → Entry → Type 0
Tells i j w e = ((e.a ≡ i) × (e.b ≡ j) × (e.a_to_b ≡ w)) ⊎ ((e.b ≡ i) × (e.a ≡ j) × (e.b_to_a ≡ w))

-- the table has what the entries say, and nothing else
pub record IsTableOf (groups : ℕ) (es : List Entry) (m : Matrix) : Type 0 where
  pub same_groups : m.groups ≡ groups
  pub intergreens : (i j w : ℕ) → i < groups → j < groups → (intergreen_of m i j ≡ Some w) ↔ Any (Tells i j w) es

-- what a table is made of
pub record AreEntries (groups : List GroupTimes) (es : List Entry) : Type 0 where
  pub few_groups : (2 ≤ length groups) × (length groups ≤ 16)
  pub few_entries : length es ≤ 120
  pub named : (k : ℕ) (e : Entry) → slice_get es k ≡ Some e → (e.a < length groups) × (e.b < length groups)
  pub bounded : (k : ℕ) (e : Entry) → slice_get es k ≡ Some e → (e.a_to_b ≤ 60) × (e.b_to_a ≤ 60)
