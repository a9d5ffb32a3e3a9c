-- The first reason why a plan doesn't fit.
use Rattle.std.specs.Prelude.{ℕ, Option, Result, length, ◌<◌, ◌≤◌, ⊤, IsSomeAnd, MatchOption, MatchResult, slice_get}
use Rattle.sig_base.specs.First.{SomeBelow, NoneBelow, IsFirst, FirstOrNone}
use Rattle.conflict_matrix.specs.Matrix.{intergreen_of}
use Rattle.junction_model.specs.declared.group.Group.{Group}
use Rattle.junction_model.specs.Junction.{JunctionView}
use Rattle.plan_model.specs.SignalPlan.{PlanView, start_of, green_of}
use Rattle.plan_model.specs.Fits.{ClashesAt, KeepsLink, IsWithinLimits, Fits, group_count}
use Rattle.plan_model.specs.declared.fault.PlanFault.{PlanFault}
use Rattle.plan_model.specs.declared.fault.PlanFault.TheVariants.{CycleLimit, StartRange, MinGreen, Clash, MaxGreen, Link}

-- the answer is the first group, or link, at which P holds, or none
abbrev pub FirstGroupOrNone : JunctionView → (ℕ → Type 0) → Option ℕ → Type 0
FirstGroupOrNone junction P answer = FirstOrNone P (group_count junction) answer

abbrev pub FirstLinkOrNone : JunctionView → (ℕ → Type 0) → Option ℕ → Type 0
FirstLinkOrNone junction P answer = FirstOrNone P (length junction.conflicts.links) answer

abbrev pub StartsLate : PlanView → ℕ → Type 0
StartsLate p i = p.cycle ≤ start_of p i

abbrev pub IsGreenShort : JunctionView → PlanView → ℕ → Type 0
IsGreenShort junction p i = IsSomeAnd (slice_get junction.groups i) (λ (group : Group). green_of p i < group.times.min_green)

-- group i is green at t, and a conflicting group j then or within the intergreen from i to j
abbrev pub PairClashesAt : JunctionView → PlanView → ℕ → ℕ → ℕ → Type 0
PairClashesAt junction p i j t = IsSomeAnd (intergreen_of junction.conflicts i j) (λ w. ClashesAt p w i j t)

abbrev pub PairClashes : JunctionView → PlanView → ℕ → ℕ → Type 0
PairClashes junction p i j = SomeBelow (PairClashesAt junction p i j) p.cycle

abbrev pub GroupClashes : JunctionView → PlanView → ℕ → Type 0
GroupClashes junction p i = SomeBelow (PairClashes junction p i) (group_count junction)

-- the first second at which groups i and j clash, or none
abbrev pub FirstSecondOrNone : JunctionView → PlanView → ℕ → ℕ → Option ℕ → Type 0
FirstSecondOrNone junction p i j answer = FirstOrNone (PairClashesAt junction p i j) p.cycle answer

-- the first group with which group i clashes, and their first second, or none
abbrev pub FirstPartnerOrNone : JunctionView → PlanView → ℕ → Option (ℕ × ℕ) → Type 0
FirstPartnerOrNone junction p i answer = MatchOption answer (NoneBelow (PairClashes junction p i) (group_count junction))
    (λ found. IsFirst (PairClashes junction p i) (group_count junction) found.0 × IsFirst (PairClashesAt junction p i found.0) p.cycle found.1)

-- the first group that clashes, its first partner, and their first second
pub record IsFirstClash (junction : JunctionView) (p : PlanView) (i j t : ℕ) : Type 0 where
  pub group : IsFirst (GroupClashes junction p) (group_count junction) i
  pub partner : IsFirst (PairClashes junction p i) (group_count junction) j
  pub second : IsFirst (PairClashesAt junction p i j) p.cycle t

abbrev pub FirstClashOrNone : JunctionView → PlanView → Option (ℕ × ℕ × ℕ) → Type 0
FirstClashOrNone junction p answer = MatchOption answer (NoneBelow (GroupClashes junction p) (group_count junction))
    (λ found. IsFirstClash junction p found.0 found.1 found.2)

abbrev pub IsGreenLong : JunctionView → PlanView → ℕ → Type 0
IsGreenLong junction p i = IsSomeAnd (slice_get junction.groups i) (λ (group : Group). group.times.max_green < green_of p i)

abbrev pub IsLinkBroken : JunctionView → PlanView → ℕ → Type 0
IsLinkBroken junction p k = IsSomeAnd (slice_get junction.conflicts.links k) (λ link. ¬ KeepsLink p link)

-- each kind of fault is tested over all groups, or links, before the next
abbrev pub IsFirstFault : JunctionView → PlanView → PlanFault → Type 0
IsFirstFault junction p CycleLimit = ¬ IsWithinLimits junction p
IsFirstFault junction p (StartRange i) = IsWithinLimits junction p × IsFirst (StartsLate p) (group_count junction) i
IsFirstFault junction p (MinGreen i) =
    IsWithinLimits junction p × NoneBelow (StartsLate p) (group_count junction) × IsFirst (IsGreenShort junction p) (group_count junction) i
IsFirstFault junction p (Clash i j t) =
    IsWithinLimits junction p × NoneBelow (StartsLate p) (group_count junction)
    × NoneBelow (IsGreenShort junction p) (group_count junction) × IsFirstClash junction p i j t
IsFirstFault junction p (MaxGreen i) =
    IsWithinLimits junction p × NoneBelow (StartsLate p) (group_count junction)
    × NoneBelow (IsGreenShort junction p) (group_count junction) × NoneBelow (GroupClashes junction p) (group_count junction)
    × IsFirst (IsGreenLong junction p) (group_count junction) i
IsFirstFault junction p (Link k) =
    IsWithinLimits junction p × NoneBelow (StartsLate p) (group_count junction)
    × NoneBelow (IsGreenShort junction p) (group_count junction) × NoneBelow (GroupClashes junction p) (group_count junction)
    × NoneBelow (IsGreenLong junction p) (group_count junction) × IsFirst (IsLinkBroken junction p) (length junction.conflicts.links) k

-- each group and link that the fault names is one of the junction's
abbrev pub NamesPartsOf : JunctionView → PlanFault → Type 0
NamesPartsOf junction CycleLimit = ⊤
NamesPartsOf junction (StartRange i) = i < group_count junction
NamesPartsOf junction (MinGreen i) = i < group_count junction
NamesPartsOf junction (Clash i j t) = (i < group_count junction) × (j < group_count junction)
NamesPartsOf junction (MaxGreen i) = i < group_count junction
NamesPartsOf junction (Link k) = k < length junction.conflicts.links

-- the first fault of a plan does
abbrev pub FaultNamesLaw : Type 0
FaultNamesLaw = (junction : JunctionView) (p : PlanView) (fault : PlanFault) → IsFirstFault junction p fault → NamesPartsOf junction fault

-- the plan fits, or the answer is its first fault
abbrev pub FitsOrFirstFault : {T : Type 0} → JunctionView → PlanView → Result T PlanFault → Type 0
FitsOrFirstFault junction p answer = MatchResult answer (λ _. Fits junction p) (IsFirstFault junction p)

-- a plan that fits has no first fault
abbrev pub FaultLaw : Type 0
FaultLaw = (junction : JunctionView) (p : PlanView) (fault : PlanFault) → Fits junction p → ¬ IsFirstFault junction p fault
