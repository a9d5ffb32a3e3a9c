-- A target isn't above itself.
use Rattle.std.proofs.Common.{inl, inr}
use Rattle.sig_base.specs.declared.target.Target.{Target}
use Rattle.least_greens.specs.Laws.{TotalLaw}
use Rattle.least_greens.specs.Targets.{IsNotAbove}

pub not_above_itself : TotalLaw → (t : Target) → IsNotAbove t t
not_above_itself total t = elim (total t t) [ inl h ↦ h | inr h ↦ h ]
