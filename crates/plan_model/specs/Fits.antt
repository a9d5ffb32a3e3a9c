-- Plans that fit a junction, second by second.
use Rattle.std.specs.Prelude.{ℕ, length, Some, ◌≡◌, ◌+◌, ◌%◌, ◌<◌, ◌≤◌, All, slice_get}
use Rattle.conflict_matrix.specs.Matrix.{intergreen_of}
use Rattle.conflict_matrix.specs.declared.link.Link.{Link}
use Rattle.junction_model.specs.declared.group.Group.{Group}
use Rattle.junction_model.specs.Junction.{JunctionView}
use Rattle.plan_model.specs.SignalPlan.{PlanView, GreenAt, start_of, green_of}

abbrev pub group_count : JunctionView → ℕ
group_count junction = length junction.groups

-- group j is green at a second from t to t + w
abbrev pub GreenWithin : PlanView → ℕ → ℕ → ℕ → Type 0
GreenWithin p j w t = (d : ℕ) × (d ≤ w) × GreenAt p j (t + d)

-- group i is green at second t, and group j then or at most the intergreen w later
abbrev pub ClashesAt : PlanView → ℕ → ℕ → ℕ → ℕ → Type 0
ClashesAt p w i j t = GreenAt p i t × GreenWithin p j w t

-- for each ordered pair of conflicting groups and each second round the cycle: no clash
abbrev pub IsClear : JunctionView → PlanView → Type 0
IsClear junction p = (i j w t : ℕ) → i < group_count junction → j < group_count junction →
    intergreen_of junction.conflicts i j ≡ Some w → t < p.cycle → ¬ ClashesAt p w i j t

pub record IsWithinLimits (junction : JunctionView) (p : PlanView) : Type 0 where
  pub least : junction.least_cycle ≤ p.cycle
  pub greatest : p.cycle ≤ junction.greatest_cycle

-- one start and one green for each group
pub record HasEachGroup (junction : JunctionView) (p : PlanView) : Type 0 where
  pub starts : length p.starts ≡ group_count junction
  pub greens : length p.greens ≡ group_count junction

-- the follower starts as long after the leader as the link says, round the cycle
abbrev pub KeepsLink : PlanView → Link → Type 0
KeepsLink p link = start_of p link.follower ≡ (start_of p link.leader + link.after) % p.cycle

pub record Fits (junction : JunctionView) (p : PlanView) : Type 0 where
  pub groups : HasEachGroup junction p
  pub cycle : IsWithinLimits junction p
  pub starts : All (λ start. start < p.cycle) p.starts
  pub greens : (i : ℕ) (group : Group) → slice_get junction.groups i ≡ Some group → group.times.min_green ≤ green_of p i
  pub longest : (i : ℕ) (group : Group) → slice_get junction.groups i ≡ Some group → green_of p i ≤ group.times.max_green
  pub clear : IsClear junction p
  pub links : All (KeepsLink p) junction.conflicts.links
