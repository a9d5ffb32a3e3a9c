-- No row of a true curve is at fault.
use Rattle.std.proofs.Common.{ℕ, zero, suc, List, [], ◌∷◌, ◌≡◌, ◌≢◌, ◌⊎◌, inl, inr, Some, subst, refl, slice_get}
use Rattle.std.proofs.lemmas.Option.{none-some, same_Some}
use Rattle.junction_model.specs.Junction.{JunctionView}
use Rattle.junction_model.specs.Narrowed.{narrowed}
use Rattle.junction_model.specs.Rules.{IsJunction}
use Rattle.plan_certificate.specs.declared.claim.Claim.TheVariants.{Stopped}
use Rattle.certificate_checker.specs.Laws.{RulesLaw}
use Rattle.cycle_curve.specs.Curve.{RowView, NoneStopped, IsTrueRow}
use Rattle.cycle_curve.specs.Judged.{HasStopped, IsInOrder}
use Rattle.cycle_curve.specs.Laws.{AcceptedLaw}
use Rattle.cycle_curve.proofs.NarrowedPlans.{narrowed_rules, decide_stopped}
use Rattle.cycle_curve.proofs.Rows.{row_within}

in_order : (junction : JunctionView) (row : RowView) → RulesLaw → IsJunction (narrowed junction row.cycle) → IsTrueRow junction row → IsInOrder junction row
in_order junction row law rules own = record {
  own_claim = record { no_cycle = own.own_claim; least = own.least_is };
  rules = elim (decide_stopped row.certificate.claim) [
    | inl stopped ↦ (own.stopped stopped).stop.rules
    | inr other ↦ (law (narrowed junction row.cycle) row.certificate rules (own.proves other)).0
  ];
}

none_of_both : (row : RowView) (rows : List RowView) → row.certificate.claim ≢ Stopped → NoneStopped rows → NoneStopped (row ∷ rows)
none_of_both row rows other none zero own at = subst (λ (r : RowView). r.certificate.claim ≢ Stopped) (same_Some row own at) other
none_of_both row rows other none (suc k) own at = none k own at

-- some row is that of a stopped search, or none is
stopped_or_none : (rows : List RowView) → HasStopped rows ⊎ NoneStopped rows
stopped_or_none [] = inr (λ k row at. absurd (none-some row at))
stopped_or_none (row ∷ rows) = elim (decide_stopped row.certificate.claim) [
  | inl stopped ↦ inl (0, row, refl, stopped)
  | inr other ↦ elim (stopped_or_none rows) [
    | inl later ↦ (let (k, own, at, stopped) = later in inl (suc k, own, at, stopped))
    | inr none ↦ inr (none_of_both row rows other none)
  ]
]

pub accepted_law : RulesLaw → AcceptedLaw
accepted_law law junction rows rules curve =
    let ordered : (k : ℕ) (row : RowView) → slice_get rows k ≡ Some row → IsInOrder junction row = λ k row at.
    (let within = row_within junction rows k row rules curve.rows_of at in
    in_order junction row law (narrowed_rules junction row.cycle rules within.0 within.1) (curve.each k row at)) in
    elim (stopped_or_none rows) [
      | inl some ↦ inr (λ k row below at. ordered k row at, some)
      | inr none ↦ inl (λ k row below at. ordered k row at, λ k row at. record { finished = none k row at; proves = (curve.each k row at).proves (none k row at) })
    ]
