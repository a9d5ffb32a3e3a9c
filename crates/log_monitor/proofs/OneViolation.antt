-- A list has one first violation.
use Rattle.std.proofs.Common.{ℕ, List, [], ◌∷◌, ◌++◌, length, ◌≡◌, ◌⊎◌, ◌<◌, inl, inr, refl, sym, ap, ◌∙◌, subst}
use Rattle.std.proofs.lemmas.Bool.{cases_order}
use Rattle.junction_model.specs.Junction.{JunctionView}
use Rattle.aspect_player.specs.declared.aspect.Aspect.{Aspect}
use Rattle.aspect_player.specs.declared.aspect.Aspect.TheVariants.{Green}
use Rattle.aspect_player.specs.Safe.{Shows, IsSafe}
use Rattle.log_monitor.specs.declared.violation.Violation.{Violation}
use Rattle.log_monitor.specs.declared.violation.Violation.TheVariants as violation
use Rattle.log_monitor.specs.Violations.{StandsAt, ComesBefore, IsLeast}
use Rattle.log_monitor.specs.LogLaws.{OneViolationLaw}
use Rattle.log_monitor.proofs.Prefix.{prefix_law}

-- of two numbers none is below the other
level : (i k : ℕ) → ¬ (i < k) → ¬ (k < i) → i ≡ k
level i k first second = elim (cases_order i k) [ inl same ↦ same | inr other ↦ elim other [ inl below ↦ absurd (first below) | inr above ↦ absurd (second above) ] ]

one_least : (junction : JunctionView) (all : List (List Aspect)) (v : ℕ) (x y : Violation) → StandsAt junction all v x →
    StandsAt junction all v y →
    ¬ ComesBefore x y → ¬ ComesBefore y x → x ≡ y
one_least junction all v (violation.Clearance i j u w) (violation.Clearance k l t z) sx sy xy yx =
    let first : i ≡ k = level i k (λ below. xy (inl below)) (λ below. yx (inl below)) in
    let second : j ≡ l = level j l (λ below. xy (inr (first, below))) (λ below. yx (inr (sym first, below))) in
    let row : u ≡ t = level u t
    (λ below. sx.0.latest t below sy.0.ordered (subst (λ n. Shows all t n Green) (sym first) sy.0.first))
    (λ below. sy.0.latest u below sx.0.ordered (subst (λ n. Shows all u n Green) first sx.0.first)) in
    ap (λ n. violation.Clearance n j u w) first ∙ ap (λ n. violation.Clearance k n u w) second ∙ ap (λ n. violation.Clearance k l n w) row ∙ ap (violation.Clearance k l t) (sx.1 ∙ sym sy.1)
one_least junction all v (violation.Clearance i j u w) (violation.Amber k z) sx sy xy yx = absurd (xy tt)
one_least junction all v (violation.Clearance i j u w) (violation.Minimum k z) sx sy xy yx = absurd (xy tt)
one_least junction all v (violation.Amber i w) (violation.Clearance k l t z) sx sy xy yx = absurd (yx tt)
one_least junction all v (violation.Amber i w) (violation.Amber k z) sx sy xy yx =
    ap (λ n. violation.Amber n w) (level i k xy yx) ∙ ap (violation.Amber k) (sx.1 ∙ sym sy.1)
one_least junction all v (violation.Amber i w) (violation.Minimum k z) sx sy xy yx = absurd (xy tt)
one_least junction all v (violation.Minimum i w) (violation.Clearance k l t z) sx sy xy yx = absurd (yx tt)
one_least junction all v (violation.Minimum i w) (violation.Amber k z) sx sy xy yx = absurd (yx tt)
one_least junction all v (violation.Minimum i w) (violation.Minimum k z) sx sy xy yx =
    ap (λ n. violation.Minimum n w) (level i k xy yx) ∙ ap (violation.Minimum k) (sx.1 ∙ sym sy.1)

-- two splits of a list are one, or the first part of one reaches past the row of the other
splits : (before other after more : List (List Aspect)) (row own : List Aspect) → before ++ row ∷ after ≡ other ++ own ∷ more →
    ((before ≡ other) × (row ≡ own)) ⊎ (((rest : List (List Aspect)) × (other ≡ (before ++ row ∷ []) ++ rest)) ⊎ ((rest : List (List Aspect)) × (before ≡ (other ++ own ∷ []) ++ rest)))
splits [] [] after more row own e = inl (refl, cc)
splits [] (b ∷ other) after more row own e = let head : row ≡ b = cc in inr (inl (other, ap (λ r. r ∷ other) (sym head)))
splits (a ∷ before) [] after more row own e = let head : a ≡ own = cc in inr (inr (before, ap (λ r. r ∷ before) head))
splits (a ∷ before) (b ∷ other) after more row own e =
    let head : a ≡ b = cc in
    let tail : before ++ row ∷ after ≡ other ++ own ∷ more = cc in
    elim (splits before other after more row own tail) [
      | inl same ↦ inl (ap (λ r. r ∷ before) head ∙ ap (λ rs. b ∷ rs) same.0, same.1)
      | inr far ↦ elim far [
        | inl past ↦ inr (inl (past.0, ap (λ r. r ∷ other) (sym head) ∙ ap (λ rs. a ∷ rs) past.1))
        | inr past ↦ inr (inr (past.0, ap (λ r. r ∷ before) head ∙ ap (λ rs. b ∷ rs) past.1))
      ]
    ]

pub one_violation_law : OneViolationLaw
one_violation_law junction rows x y fx fy = elim (splits fx.before fy.before fx.after fy.after fx.row fy.row (sym fx.parts ∙ fy.parts)) [
  | inl same ↦
      let moved : IsLeast (StandsAt junction (fy.before ++ fy.row ∷ []) (length fy.before)) x = subst (λ r. IsLeast (StandsAt junction (fy.before ++ r ∷ []) (length fy.before)) x) same.1
      (subst (λ b. IsLeast (StandsAt junction (b ++ fx.row ∷ []) (length b)) x) same.0 fx.first) in
      one_least junction (fy.before ++ fy.row ∷ []) (length fy.before) x y moved.stands fy.first.stands
      (λ before. fy.first.least x moved.stands before) (λ before. moved.least y fy.first.stands before)
  | inr far ↦ elim far [
    | inl past ↦ absurd (fx.unsafe (prefix_law junction (fx.before ++ fx.row ∷ []) past.0 (subst (IsSafe junction) past.1 fy.safe)))
    | inr past ↦ absurd (fy.unsafe (prefix_law junction (fy.before ++ fy.row ∷ []) past.0 (subst (IsSafe junction) past.1 fx.safe)))
  ]
]
