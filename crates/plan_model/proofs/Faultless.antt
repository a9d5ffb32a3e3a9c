-- A plan without a fault fits, and a plan that fits has none.
use Rattle.std.proofs.Common.{ℕ, ◌≡◌, ◌<◌, ◌≤◌, inl, inr, length, get_or, refl, arith}
use Rattle.std.specs.Prelude.{Option, None, Some, All, IsSomeAnd, slice_get}
use Rattle.std.proofs.lemmas.List.Elements.{All-from_get_or, All-get_or}
use Rattle.std.proofs.lemmas.Option.{slice_get_within, slice_get-get_or, get_or_from_slice_get}
use Rattle.std.proofs.lemmas.Bool.{cases_eq}
use Rattle.sig_base.specs.First.{NoneBelow}
use Rattle.conflict_matrix.specs.Matrix.{intergreen_of}
use Rattle.conflict_matrix.specs.declared.link.Link.{Link}
use Rattle.junction_model.specs.declared.group.Group.{Group}
use Rattle.junction_model.specs.Junction.{JunctionView}
use Rattle.plan_model.specs.SignalPlan.{PlanView, start_of, green_of}
use Rattle.plan_model.specs.Fits.{ClashesAt, HasEachGroup, IsWithinLimits, IsClear, KeepsLink, Fits, group_count}
use Rattle.plan_model.specs.FirstFault.{StartsLate, IsGreenShort, GroupClashes, IsGreenLong, IsLinkBroken, FaultLaw, FaultNamesLaw}
use Rattle.plan_model.specs.declared.fault.PlanFault.TheVariants as fault

starts_early : (junction : JunctionView) (p : PlanView) → HasEachGroup junction p → NoneBelow (StartsLate p) (group_count junction) →
    All (λ start. start < p.cycle) p.starts
starts_early junction p each none = All-from_get_or (λ start. start < p.cycle) p.starts 0 (λ i h.
    let early : p.cycle ≤ start_of p i → ⊥ = none i (omega (arith, each.starts)) in omega arith)

greens_long : (junction : JunctionView) (p : PlanView) → NoneBelow (IsGreenShort junction p) (group_count junction) →
    (i : ℕ) (group : Group) → slice_get junction.groups i ≡ Some group → group.times.min_green ≤ green_of p i
greens_long junction p none i group is =
    let long : green_of p i < group.times.min_green → ⊥ = λ short. none i (slice_get_within _ _ _ is) (rw is short) in
    omega arith

clear : (junction : JunctionView) (p : PlanView) → NoneBelow (GroupClashes junction p) (group_count junction) → IsClear junction p
clear junction p none i j w t i_in j_in conflict t_in clash = none i i_in (j, j_in, (t, t_in, rw conflict clash))

greens_short : (junction : JunctionView) (p : PlanView) → NoneBelow (IsGreenLong junction p) (group_count junction) →
    (i : ℕ) (group : Group) → slice_get junction.groups i ≡ Some group → green_of p i ≤ group.times.max_green
greens_short junction p none i group is =
    let short : group.times.max_green < green_of p i → ⊥ = λ long. none i (slice_get_within _ _ _ is) (rw is long) in
    omega arith

links_kept : (junction : JunctionView) (p : PlanView) → NoneBelow (IsLinkBroken junction p) (length junction.conflicts.links) → All (KeepsLink p) junction.conflicts.links
links_kept junction p none k d h = elim (cases_eq (start_of p (get_or junction.conflicts.links k d).follower) _) [
  | inl kept ↦ kept
  | inr broken ↦ absurd (none k h (rw (slice_get-get_or junction.conflicts.links k d h) broken))
]

pub faultless_fits : (junction : JunctionView) (p : PlanView) → HasEachGroup junction p → IsWithinLimits junction p →
    NoneBelow (StartsLate p) (group_count junction) → NoneBelow (IsGreenShort junction p) (group_count junction) →
    NoneBelow (GroupClashes junction p) (group_count junction) → NoneBelow (IsGreenLong junction p) (group_count junction) →
    NoneBelow (IsLinkBroken junction p) (length junction.conflicts.links) → Fits junction p
faultless_fits junction p each cycle starts greens clashes longest links = record {
  groups = each;
  cycle = cycle;
  starts = starts_early junction p each starts;
  greens = greens_long junction p greens;
  longest = greens_short junction p longest;
  clear = clear junction p clashes;
  links = links_kept junction p links;
}

module _ (junction : JunctionView) (p : PlanView) (fits : Fits junction p) where
  not_short : (i : ℕ) (o : Option Group) → slice_get junction.groups i ≡ o → IsSomeAnd o (λ group. green_of p i < group.times.min_green) → ⊥
  not_short i None is h = absurd h
  not_short i (Some group) is h = omega (arith, fits.greens i group is, h)

  not_long : (i : ℕ) (o : Option Group) → slice_get junction.groups i ≡ o → IsSomeAnd o (λ group. group.times.max_green < green_of p i) → ⊥
  not_long i None is h = absurd h
  not_long i (Some group) is h = omega (arith, fits.longest i group is, h)

  not_clashing : (i j t : ℕ) → i < group_count junction → j < group_count junction → t < p.cycle → (o : Option ℕ) → intergreen_of junction.conflicts i j ≡ o →
      IsSomeAnd o (λ w. ClashesAt p w i j t) → ⊥
  not_clashing i j t i_in j_in t_in None is h = absurd h
  not_clashing i j t i_in j_in t_in (Some w) is h = fits.clear i j w t i_in j_in is t_in h

  not_broken : (k : ℕ) (o : Option Link) → slice_get junction.conflicts.links k ≡ o → IsSomeAnd o (λ link. ¬ KeepsLink p link) → ⊥
  not_broken k None is h = absurd h
  not_broken k (Some link) is h =
      let links = junction.conflicts.links in
      let kept = All-get_or (KeepsLink p) links k link (slice_get_within links k link is) fits.links in
      h (rw (get_or_from_slice_get links k link link is) at kept)

  early_start : (i : ℕ) → i < group_count junction → ¬ StartsLate p i
  early_start i within late =
      let early : start_of p i < p.cycle = All-get_or (λ start. start < p.cycle) p.starts i 0 (omega (arith, within, fits.groups.starts)) fits.starts in
      absurd (omega (arith, late, early))

pub fault_law : FaultLaw
fault_law junction p fault.CycleLimit fits first = first fits.cycle
fault_law junction p (fault.StartRange i) fits first = early_start junction p fits i first.1.within first.1.holds
fault_law junction p (fault.MinGreen i) fits first = not_short junction p fits i _ refl first.2.holds
fault_law junction p (fault.Clash i j t) fits first =
    let clash = first.3 in
    not_clashing junction p fits i j t clash.group.within clash.partner.within clash.second.within _ refl clash.second.holds
fault_law junction p (fault.MaxGreen i) fits first = not_long junction p fits i _ refl first.4.holds
fault_law junction p (fault.Link k) fits first = not_broken junction p fits k _ refl first.5.holds

pub fault_names_law : FaultNamesLaw
fault_names_law junction p fault.CycleLimit found = tt
fault_names_law junction p (fault.StartRange i) found = found.1.within
fault_names_law junction p (fault.MinGreen i) found = found.2.within
fault_names_law junction p (fault.Clash i j t) found = (found.3.group.within, found.3.partner.within)
fault_names_law junction p (fault.MaxGreen i) found = found.4.within
fault_names_law junction p (fault.Link k) found = found.5.within
