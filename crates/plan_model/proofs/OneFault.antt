-- A plan has one first fault.
use Rattle.std.proofs.Common.{ℕ, ◌≡◌, refl, sym, ap, ◌∙◌, subst, length}
use Rattle.sig_base.specs.First.{IsFirst}
use Rattle.sig_base.proofs.First.{one_first}
use Rattle.junction_model.specs.Junction.{JunctionView}
use Rattle.plan_model.specs.FirstFault.{StartsLate, IsGreenShort, PairClashesAt, PairClashes, GroupClashes, IsFirstClash, IsGreenLong, IsLinkBroken, IsFirstFault}
use Rattle.plan_model.specs.Fits.{group_count}
use Rattle.plan_model.specs.SignalPlan.{PlanView}
use Rattle.plan_model.specs.declared.fault.PlanFault.{PlanFault}
use Rattle.plan_model.specs.declared.fault.PlanFault.TheVariants as fault

module _ (junction : JunctionView) (p : PlanView) where
  one_clash : (i j t k l u : ℕ) → IsFirstClash junction p i j t → IsFirstClash junction p k l u → fault.Clash i j t ≡ fault.Clash k l u
  one_clash i j t k l u one other =
      let group : i ≡ k = one_first (GroupClashes junction p) (group_count junction) i k one.group other.group in
      let partner : j ≡ l = one_first (PairClashes junction p k) (group_count junction) j l
      (subst (λ n. IsFirst (PairClashes junction p n) (group_count junction) j) group one.partner) other.partner in
      let second : t ≡ u = one_first (PairClashesAt junction p k l) p.cycle t u
      (subst (λ n. IsFirst (PairClashesAt junction p k n) p.cycle t) partner
      (subst (λ n. IsFirst (PairClashesAt junction p n j) p.cycle t) group one.second)) other.second in
      ap (λ n. fault.Clash n j t) group ∙ ap (λ n. fault.Clash k n t) partner ∙ ap (fault.Clash k l) second

  pub one_fault : (one other : PlanFault) → IsFirstFault junction p one → IsFirstFault junction p other → one ≡ other
  one_fault fault.CycleLimit fault.CycleLimit h m = refl
  one_fault fault.CycleLimit (fault.StartRange k) h m = absurd (h m.0)
  one_fault fault.CycleLimit (fault.MinGreen k) h m = absurd (h m.0)
  one_fault fault.CycleLimit (fault.Clash k l u) h m = absurd (h m.0)
  one_fault fault.CycleLimit (fault.MaxGreen k) h m = absurd (h m.0)
  one_fault fault.CycleLimit (fault.Link k) h m = absurd (h m.0)
  one_fault (fault.StartRange i) fault.CycleLimit h m = absurd (m h.0)
  one_fault (fault.StartRange i) (fault.StartRange k) h m = ap fault.StartRange (one_first (StartsLate p) (group_count junction) i k h.1 m.1)
  one_fault (fault.StartRange i) (fault.MinGreen k) h m = absurd (m.1 i h.1.within h.1.holds)
  one_fault (fault.StartRange i) (fault.Clash k l u) h m = absurd (m.1 i h.1.within h.1.holds)
  one_fault (fault.StartRange i) (fault.MaxGreen k) h m = absurd (m.1 i h.1.within h.1.holds)
  one_fault (fault.StartRange i) (fault.Link k) h m = absurd (m.1 i h.1.within h.1.holds)
  one_fault (fault.MinGreen i) fault.CycleLimit h m = absurd (m h.0)
  one_fault (fault.MinGreen i) (fault.StartRange k) h m = absurd (h.1 k m.1.within m.1.holds)
  one_fault (fault.MinGreen i) (fault.MinGreen k) h m = ap fault.MinGreen (one_first (IsGreenShort junction p) (group_count junction) i k h.2 m.2)
  one_fault (fault.MinGreen i) (fault.Clash k l u) h m = absurd (m.2 i h.2.within h.2.holds)
  one_fault (fault.MinGreen i) (fault.MaxGreen k) h m = absurd (m.2 i h.2.within h.2.holds)
  one_fault (fault.MinGreen i) (fault.Link k) h m = absurd (m.2 i h.2.within h.2.holds)
  one_fault (fault.Clash i j t) fault.CycleLimit h m = absurd (m h.0)
  one_fault (fault.Clash i j t) (fault.StartRange k) h m = absurd (h.1 k m.1.within m.1.holds)
  one_fault (fault.Clash i j t) (fault.MinGreen k) h m = absurd (h.2 k m.2.within m.2.holds)
  one_fault (fault.Clash i j t) (fault.Clash k l u) h m = one_clash i j t k l u h.3 m.3
  one_fault (fault.Clash i j t) (fault.MaxGreen k) h m = absurd (m.3 i h.3.group.within h.3.group.holds)
  one_fault (fault.Clash i j t) (fault.Link k) h m = absurd (m.3 i h.3.group.within h.3.group.holds)
  one_fault (fault.MaxGreen i) fault.CycleLimit h m = absurd (m h.0)
  one_fault (fault.MaxGreen i) (fault.StartRange k) h m = absurd (h.1 k m.1.within m.1.holds)
  one_fault (fault.MaxGreen i) (fault.MinGreen k) h m = absurd (h.2 k m.2.within m.2.holds)
  one_fault (fault.MaxGreen i) (fault.Clash k l u) h m = absurd (h.3 k m.3.group.within m.3.group.holds)
  one_fault (fault.MaxGreen i) (fault.MaxGreen k) h m = ap fault.MaxGreen (one_first (IsGreenLong junction p) (group_count junction) i k h.4 m.4)
  one_fault (fault.MaxGreen i) (fault.Link k) h m = absurd (m.4 i h.4.within h.4.holds)
  one_fault (fault.Link i) fault.CycleLimit h m = absurd (m h.0)
  one_fault (fault.Link i) (fault.StartRange k) h m = absurd (h.1 k m.1.within m.1.holds)
  one_fault (fault.Link i) (fault.MinGreen k) h m = absurd (h.2 k m.2.within m.2.holds)
  one_fault (fault.Link i) (fault.Clash k l u) h m = absurd (h.3 k m.3.group.within m.3.group.holds)
  one_fault (fault.Link i) (fault.MaxGreen k) h m = absurd (h.4 k m.4.within m.4.holds)
  one_fault (fault.Link i) (fault.Link k) h m = ap fault.Link (one_first (IsLinkBroken junction p) (length junction.conflicts.links) i k h.5 m.5)
