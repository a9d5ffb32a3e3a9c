-- A certificate has one first broken rule.
use Rattle.std.proofs.Common.{ℕ, [], ◌∷◌, ◌≡◌, ◌≢◌, ◌-◌, ◌⊎◌, inl, inr, refl, sym, ap, ◌∙◌, subst, get_or, arith}
use Rattle.std.specs.Prelude.{Option, None, Some, IsSomeAnd}
use Rattle.junction_model.specs.Junction.{JunctionView}
use Rattle.plan_model.specs.FirstFault.{IsFirstFault}
use Rattle.plan_model.specs.SignalPlan.{PlanView}
use Rattle.plan_model.specs.declared.fault.PlanFault.{PlanFault}
use Rattle.plan_model.specs.declared.fault.PlanFault.TheVariants.{CycleLimit}
use Rattle.plan_model.proofs.OneFault.{one_fault}
use Rattle.plan_certificate.specs.Certificate.{CertificateView}
use Rattle.certificate_checker.specs.CertificateRules.{BreaksRule, IsNotAfterInTrees, IsNotAfter, IsFirstOfAll, turn_of}
use Rattle.certificate_checker.specs.Rules.{rule_number}
use Rattle.certificate_checker.specs.declared.rule.Rule.{Rule}
use Rattle.certificate_checker.specs.declared.rule.Rule.TheVariants as rule

-- the rule of a number, with this fault of a plan
rule_with : ℕ → PlanFault → Rule
rule_with number own =
    get_or (rule.Plan ∷ rule.Fit own ∷ rule.Least ∷ rule.Cycles ∷ rule.Tree ∷ rule.Pair ∷ rule.Unvisited ∷ rule.Edge ∷ rule.Sum ∷ rule.Budget ∷ [])
    (number - 1) rule.Plan

-- a rule is known by its number, and that of a plan's fit by its fault too
record IsKnownBy (broken : Rule) (own : PlanFault) : Type 0 where
  is : rule_with (rule_number broken) own ≡ broken
  kind : (broken ≡ rule.Fit own) ⊎ ((rule_number broken ≢ 2) × (own ≡ CycleLimit))

known : (broken : Rule) → (own : PlanFault) × IsKnownBy broken own
unfolding rule_with
known rule.Plan = (CycleLimit, record { is = refl; kind = inr (λ e. omega (arith, e), refl) })
known (rule.Fit own) = (own, record { is = refl; kind = inl refl })
known rule.Least = (CycleLimit, record { is = refl; kind = inr (λ e. omega (arith, e), refl) })
known rule.Cycles = (CycleLimit, record { is = refl; kind = inr (λ e. omega (arith, e), refl) })
known rule.Tree = (CycleLimit, record { is = refl; kind = inr (λ e. omega (arith, e), refl) })
known rule.Pair = (CycleLimit, record { is = refl; kind = inr (λ e. omega (arith, e), refl) })
known rule.Unvisited = (CycleLimit, record { is = refl; kind = inr (λ e. omega (arith, e), refl) })
known rule.Edge = (CycleLimit, record { is = refl; kind = inr (λ e. omega (arith, e), refl) })
known rule.Sum = (CycleLimit, record { is = refl; kind = inr (λ e. omega (arith, e), refl) })
known rule.Budget = (CycleLimit, record { is = refl; kind = inr (λ e. omega (arith, e), refl) })

-- two places in the order of testing are one
record IsSamePlace (a : Rule) (cycle place : ℕ) (b : Rule) (other_cycle other_place : ℕ) : Type 0 where
  number : rule_number a ≡ rule_number b
  of_cycle : cycle ≡ other_cycle
  at : place ≡ other_place

in_trees : (a : Rule) (cycle place : ℕ) (b : Rule) (other_cycle other_place : ℕ) →
    IsNotAfterInTrees a cycle place b other_cycle other_place → IsNotAfterInTrees b other_cycle other_place a cycle place →
    IsSamePlace a cycle place b other_cycle other_place
in_trees a cycle place b other_cycle other_place one other = elim one [
  | inl below ↦ elim other [ inl above ↦ absurd (omega (arith, below, above)) | inr same ↦ absurd (omega (arith, below, same.0)) ]
  | inr same ↦ elim other [
    | inl above ↦ absurd (omega (arith, same.0, above))
    | inr again ↦ elim same.1 [
      | inl before ↦ elim again.1 [ inl after ↦ absurd (omega (arith, before, after)) | inr here ↦ absurd (omega (arith, before, here.0)) ]
      | inr here ↦ elim again.1 [
        | inl after ↦ absurd (omega (arith, here.0, after))
        | inr there ↦ record { number = omega (arith, here.1, there.1); of_cycle = same.0; at = here.0 }
      ]
    ]
  ]
]

same_place : (a : Rule) (cycle place : ℕ) (b : Rule) (other_cycle other_place : ℕ) →
    IsNotAfter a cycle place b other_cycle other_place → IsNotAfter b other_cycle other_place a cycle place →
    IsSamePlace a cycle place b other_cycle other_place
same_place a cycle place b other_cycle other_place one other = elim one [
  | inl below ↦ elim other [ inl above ↦ absurd (omega (arith, below, above)) | inr same ↦ absurd (omega (arith, below, same.0)) ]
  | inr same ↦ elim other [
    | inl above ↦ absurd (omega (arith, same.0, above))
    | inr again ↦ in_trees a cycle place b other_cycle other_place same.1 again.1
  ]
]

module _ (junction : JunctionView) (c : CertificateView) where
  fault_of : (plan : Option PlanView) (f g : PlanFault) → IsSomeAnd plan (λ p. IsFirstFault junction p f) → IsSomeAnd plan (λ p. IsFirstFault junction p g) → f ≡ g
  fault_of None f g one other = absurd one
  fault_of (Some p) f g one other = one_fault junction p f g one other

  same_own : (a b : Rule) (f g : PlanFault) (cycle place other_cycle other_place : ℕ) → IsKnownBy a f → IsKnownBy b g → rule_number a ≡ rule_number b →
      BreaksRule junction c a cycle place → BreaksRule junction c b other_cycle other_place → f ≡ g
  same_own a b f g cycle place other_cycle other_place of_a of_b number one other = elim of_a.kind [
    | inl fit ↦ elim of_b.kind [
      | inl own ↦ fault_of c.plan f g (subst (λ r. BreaksRule junction c r cycle place) fit one).0 (subst (λ r. BreaksRule junction c r other_cycle other_place) own other).0
      | inr apart ↦ absurd (apart.0 (sym number ∙ ap rule_number fit))
    ]
    | inr apart ↦ elim of_b.kind [
      | inl own ↦ absurd (apart.0 (number ∙ ap rule_number own))
      | inr again ↦ apart.1 ∙ sym again.1
    ]
  ]

  -- the rule and the place of the first one
  pub one_rule : (a : Rule) (cycle place : ℕ) (b : Rule) (other_cycle other_place : ℕ) →
      IsFirstOfAll junction c a cycle place → IsFirstOfAll junction c b other_cycle other_place → (a ≡ b) × (place ≡ other_place)
  one_rule a cycle place b other_cycle other_place one other =
      let (f, of_a) = known a in
      let (g, of_b) = known b in
      let same = same_place a cycle place b other_cycle other_place (one.first b other_cycle other_place other.breaks) (other.first a cycle place one.breaks) in
      let own = same_own a b f g cycle place other_cycle other_place of_a of_b same.number one.breaks other.breaks in
      (sym of_a.is ∙ ap (λ n. rule_with n f) same.number ∙ ap (rule_with (rule_number b)) own ∙ of_b.is, same.at)
