-- The target beside a plan: to reach its least multiplier at shorter cycles, and to beat it from its own cycle on.
use Rattle.std.proofs.Common.{ℕ, ◌≡◌, ◌<◌, ◌≤◌, arith, refl, inl, inr, subst, sym}
use Rattle.std.proofs.lemmas.Bool.{cases_lt, lt-ltb, le-ltb}
use Rattle.sig_base.specs.declared.ratio.Ratio.{Ratio}
use Rattle.sig_base.specs.declared.target.Target.{Target}
use Rattle.sig_base.specs.declared.target.Target.TheVariants.{Reach, Beat}
use Rattle.plan_model.specs.Multiplier.{MeetsTarget, Serves}
use Rattle.least_greens.specs.BesideLaws.{ShorterBesideLaw, LongerBesideLaw, RisingBesideLaw}
use Rattle.least_greens.specs.ForTarget.{target_beside}
use Rattle.least_greens.specs.Targets.{IsNotAbove}
use Rattle.least_greens.proofs.Multipliers.{not_beaten_law}

reached_below : (plan_cycle cycle : ℕ) (r : Ratio) → cycle < plan_cycle → target_beside plan_cycle r cycle ≡ Reach r
reached_below plan_cycle cycle r less = rw (lt-ltb cycle plan_cycle less) refl

beaten_from : (plan_cycle cycle : ℕ) (r : Ratio) → plan_cycle ≤ cycle → target_beside plan_cycle r cycle ≡ Beat r
beaten_from plan_cycle cycle r long = rw (le-ltb cycle plan_cycle long) refl

pub shorter_beside_law : ShorterBesideLaw
shorter_beside_law junction p lanes r cycle least less =
    let is = reached_below p.cycle cycle r less in (
      is,
      λ fits. record { fits = fits; serves = λ k own counts. subst (λ target. Serves target own) (sym is) (least.least k own counts) },
    )

pub longer_beside_law : LongerBesideLaw
longer_beside_law junction p lanes r cycle least long =
    let is = beaten_from p.cycle cycle r long in
    (is, λ meets. not_beaten_law junction p lanes r least (subst (MeetsTarget junction p lanes) is meets))

between : (s t s' t' : Target) → s ≡ s' → t ≡ t' → IsNotAbove s' t' → IsNotAbove s t
between s t s' t' same_s same_t order = rw (same_s, same_t) order

pub rising_beside_law : RisingBesideLaw
rising_beside_law plan_cycle shorter longer r order = elim (cases_lt longer plan_cycle) [
  | inl less ↦ between _ _ (Reach r) (Reach r) (reached_below plan_cycle shorter r (omega arith)) (reached_below plan_cycle longer r less) (omega arith)
  | inr long ↦ elim (cases_lt shorter plan_cycle) [
    | inl less ↦ between _ _ (Reach r) (Beat r) (reached_below plan_cycle shorter r less) (beaten_from plan_cycle longer r long) (omega arith)
    | inr past ↦ between _ _ (Beat r) (Beat r) (beaten_from plan_cycle shorter r past) (beaten_from plan_cycle longer r long) (omega arith)
  ]
]
