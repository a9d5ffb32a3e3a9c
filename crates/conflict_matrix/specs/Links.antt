-- Start links among groups, and their faults.
use Rattle.std.specs.Prelude.{ℕ, List, length, ◌≡◌, ◌<◌, ◌≤◌, ◌⊎◌, All, IsSomeAnd, slice_get}
use Rattle.sig_base.specs.First.{NoneBelow, SomeBelow, IsFirst}
use Rattle.conflict_matrix.specs.declared.link.Link.{Link}
use Rattle.conflict_matrix.specs.declared.fault.LinkFault.{LinkFault}
use Rattle.conflict_matrix.specs.declared.fault.LinkFault.TheVariants.{SelfLink, Twice}

abbrev pub IsSelfLink : Link → Type 0
IsSelfLink l = l.leader ≡ l.follower

-- the two link the same groups, in either sense
abbrev pub IsSameLink : Link → Link → Type 0
IsSameLink l k = ((l.leader ≡ k.leader) × (l.follower ≡ k.follower)) ⊎ ((l.leader ≡ k.follower) × (l.follower ≡ k.leader))

-- faults at a place of the list
abbrev pub SelfLinkAt : List Link → ℕ → Type 0
SelfLinkAt links k = IsSomeAnd (slice_get links k) IsSelfLink

abbrev pub RepeatedLinkAt : List Link → ℕ → Type 0
RepeatedLinkAt links k = IsSomeAnd (slice_get links k) (λ l.
    SomeBelow (λ n. IsSomeAnd (slice_get links n) (λ earlier. IsSameLink earlier l)) k)

abbrev pub AreFaultlessLinks : List Link → Type 0
AreFaultlessLinks links = NoneBelow (SelfLinkAt links) (length links) × NoneBelow (RepeatedLinkAt links) (length links)

-- the first fault, each kind tested over the whole list before the next
abbrev pub IsFirstLinkFault : List Link → LinkFault → Type 0
IsFirstLinkFault links (SelfLink k) = IsFirst (SelfLinkAt links) (length links) k
IsFirstLinkFault links (Twice k) = NoneBelow (SelfLinkAt links) (length links) × IsFirst (RepeatedLinkAt links) (length links) k

-- between two of so many groups, and shorter than the longest cycle
pub record IsWithin (groups : ℕ) (l : Link) : Type 0 where
  pub leader : l.leader < groups
  pub follower : l.follower < groups
  pub after : l.after ≤ 299

-- what the links of a table are made of
pub record AreLinkable (groups : ℕ) (links : List Link) : Type 0 where
  pub few : length links ≤ 12
  pub within : All (IsWithin groups) links

-- at most 12 links without a fault
pub record AreLinks (groups : ℕ) (links : List Link) : Type 0 where
  pub linkable : AreLinkable groups links
  pub apart : NoneBelow (SelfLinkAt links) (length links)
  pub once : NoneBelow (RepeatedLinkAt links) (length links)
