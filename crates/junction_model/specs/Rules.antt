-- The rules of a junction.
use Rattle.std.specs.Prelude.{ℕ, List, length, ◌≡◌, ◌≢◌, ◌+◌, ◌<◌, ◌≤◌, All, Any, AllPairs, IfSome, slice_get}
use Rattle.sig_base.specs.First.{SomeBelow}
use Rattle.sig_base.specs.Text.{IsLabel, IsTitle}
use Rattle.sig_base.specs.Times.{AreTimes}
use Rattle.conflict_matrix.specs.Matrix.{Matrix, IsMatrix, AreConflicting, intergreen_of}
use Rattle.flow_model.specs.Lane.{AreFlows}
use Rattle.flow_model.specs.declared.lane.Lane.{Lane}
use Rattle.junction_model.specs.declared.group.Group.{Group}
use Rattle.junction_model.specs.Junction.{JunctionView}

-- in seconds
pub record AreCycles (least greatest : ℕ) : Type 0 where
  pub some : 1 ≤ least
  pub ordered : least ≤ greatest
  pub longest : greatest ≤ 300

-- a label, times in their ranges, an end gain within the amber, some effective green at the minimum one, and a maximum
-- that isn't below it
pub record IsGroup (group : Group) : Type 0 where
  pub label : IsLabel group.label
  pub times : AreTimes group.times
  pub gained_in_amber : group.times.end_gain ≤ group.times.amber
  pub some_effective : group.times.start_lost < group.times.min_green + group.times.end_gain
  pub not_below : group.times.min_green ≤ group.times.max_green

pub record AreGroups (groups : List Group) : Type 0 where
  pub several : 2 ≤ length groups
  pub few : length groups ≤ 16
  pub each : All IsGroup groups
  pub distinct : AllPairs (λ (a b : Group). a.label ≢ b.label) groups

-- a label, and flows in their ranges, on one of the groups
pub record IsLane (groups : ℕ) (lane : Lane) : Type 0 where
  pub label : IsLabel lane.label
  pub served : lane.group < groups
  pub flows : AreFlows lane

pub record AreLanes (groups : ℕ) (lanes : List Lane) : Type 0 where
  pub some : 1 ≤ length lanes
  pub few : length lanes ≤ 32
  pub each : All (IsLane groups) lanes
  pub distinct : AllPairs (λ (a b : Lane). a.label ≢ b.label) lanes
  pub some_arrival : Any (λ (lane : Lane). 1 ≤ lane.arrival) lanes

-- at least the amber of the group that it leaves and the red-amber of the group that it goes to
pub record IsLongEnough (from to : Group) (intergreen : ℕ) : Type 0 where
  pub amber : from.times.amber ≤ intergreen
  pub red_amber : to.times.red_amber ≤ intergreen

-- the intergreen from group i to group j, if they conflict
abbrev pub IsPairLongEnough : List Group → Matrix → ℕ → ℕ → Type 0
IsPairLongEnough groups conflicts i j = IfSome (intergreen_of conflicts i j) (λ w.
    IfSome (slice_get groups i) (λ from. IfSome (slice_get groups j) (λ to. IsLongEnough from to w)))

abbrev pub HasPartner : Matrix → ℕ → Type 0
HasPartner conflicts i = SomeBelow (AreConflicting conflicts i) conflicts.groups

-- each group conflicts with another
abbrev pub ArePartnered : Matrix → Type 0
ArePartnered conflicts = (i : ℕ) → i < conflicts.groups → HasPartner conflicts i

-- each intergreen from group i is long enough
abbrev pub AreLongEnoughFrom : List Group → Matrix → ℕ → Type 0
AreLongEnoughFrom groups conflicts i = (j : ℕ) → j < length groups → IsPairLongEnough groups conflicts i j

abbrev pub AreLongEnough : List Group → Matrix → Type 0
AreLongEnough groups conflicts = (i : ℕ) → i < length groups → AreLongEnoughFrom groups conflicts i

-- a table of conflicts and links, where each group conflicts with another and each intergreen is long enough
pub record AreConflicts (groups : List Group) (conflicts : Matrix) : Type 0 where
  pub table : IsMatrix conflicts
  pub same_groups : conflicts.groups ≡ length groups
  pub partnered : ArePartnered conflicts
  pub long_enough : AreLongEnough groups conflicts

pub record IsJunction (junction : JunctionView) : Type 0 where
  pub title : IsTitle junction.title
  pub cycles : AreCycles junction.least_cycle junction.greatest_cycle
  pub groups : AreGroups junction.groups
  pub lanes : AreLanes (length junction.groups) junction.lanes
  pub conflicts : AreConflicts junction.groups junction.conflicts
