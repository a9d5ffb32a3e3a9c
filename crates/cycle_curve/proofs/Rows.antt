-- Rows that are made one after another.
use Rattle.std.proofs.Common.{ℕ, List, [], ◌∷◌, ◌++◌, ◌≡◌, ◌≢◌, ◌+◌, ◌-◌, ◌*◌, ◌<◌, ◌≤◌, Some, inl, inr, sym, refl, ◌∙◌, ap, subst, length, length-append, slice_get, get_or, map, arith}
use Rattle.std.specs.Prelude.{option_map}
use Rattle.std.proofs.lemmas.Bool.{cases_lt}
use Rattle.std.proofs.lemmas.Option.{none-some, same_Some, slice_get_within, slice_get_read, slice_get-map}
use Rattle.sig_base.proofs.List.{slice_push}
use Rattle.conflict_matrix.specs.Pairs.{tree_cover_of}
use Rattle.junction_model.specs.Covers.{cover_of}
use Rattle.junction_model.specs.Junction.{JunctionView}
use Rattle.junction_model.specs.Narrowed.{narrowed}
use Rattle.junction_model.specs.Rules.{IsJunction}
use Rattle.plan_certificate.specs.declared.claim.Claim.{Claim}
use Rattle.plan_certificate.specs.declared.claim.Claim.TheVariants as claim
use Rattle.certificate_checker.specs.ClaimTrees.{cycle_of_tree}
use Rattle.plan_design.specs.Design.{IsTrueStop, IsClaimFor}
use Rattle.plan_design.specs.declared.objective.Objective.TheVariants.{Capacity}
use Rattle.cycle_curve.specs.Curve.{RowView, AreRowsOf, EachRow, IsTrueRow, IsTrueCurve, IsDesignedRow, NoneStopped, row_of}
use Rattle.cycle_curve.specs.declared.row.CurveRow.{CurveRow}

-- the row of a number, by its own place
pub row_at : (rows : List RowView) (items : List CurveRow) (n : ℕ) (row : CurveRow) → map row_of items ≡ rows → n < length items → row ≡ get_or items n row →
    slice_get rows n ≡ Some (row_of row)
row_at rows items n row same within is =
    subst (λ rs. slice_get rs n ≡ Some (row_of row)) same (slice_get-map row_of items n ∙ ap (option_map row_of) (slice_get_read items (length items) n row refl within is))

-- what holds of the rows below a number and of that row
pub one_more : (rows : List RowView) (n : ℕ) (row : RowView) → slice_get rows n ≡ Some row → (P : RowView → Type 0) →
    ((k : ℕ) (other : RowView) → k < n → slice_get rows k ≡ Some other → P other) → P row →
    (k : ℕ) (other : RowView) → k < n + 1 → slice_get rows k ≡ Some other → P other
one_more rows n row there P before here k other below at = elim (cases_lt k n) [
  | inl less ↦ before k other less at
  | inr late ↦ (let same : k ≡ n = omega (arith, below, late) in
      let own = sym there ∙ subst (λ i. slice_get rows i ≡ Some other) same at in subst P (same_Some row other own) here)
]

pub row_within : (junction : JunctionView) (rows : List RowView) (n : ℕ) (row : RowView) → IsJunction junction → AreRowsOf junction rows → slice_get rows n ≡ Some row →
    (junction.least_cycle ≤ row.cycle) × (row.cycle ≤ junction.greatest_cycle)
row_within junction rows n row rules of_junction at =
    let is = of_junction.cycles n row at in
    let below = slice_get_within rows n row at in
    (omega (arith, is), omega (arith, is, below, of_junction.count, rules.cycles.ordered))

capacity_cycle : claim.Capacity ≡ claim.Cycle → ⊥
capacity_cycle e = cc

infeasible_cycle : claim.Infeasible ≡ claim.Cycle → ⊥
infeasible_cycle e = cc

stopped_cycle : claim.Stopped ≡ claim.Cycle → ⊥
stopped_cycle e = cc

-- a design for the greatest reserve capacity claims no shortest cycle
no_cycle : (own : Claim) → IsClaimFor Capacity own → own ≢ claim.Cycle
no_cycle own claimed is = elim claimed [
  | inl capacity ↦ capacity_cycle (sym capacity ∙ is)
  | inr rest ↦ elim rest [
    | inl infeasible ↦ infeasible_cycle (sym infeasible ∙ is)
    | inr stopped ↦ stopped_cycle (sym stopped ∙ is)
  ]
]

one_times : (n : ℕ) → 1 * n ≡ n
one_times n = omega arith

module _ (junction : JunctionView) where
  -- rows of the cycles below one
  pub record AreRowsBelow (cycle : ℕ) (rows : List RowView) : Type 0 where
    pub count : junction.least_cycle + length rows ≡ cycle
    pub cycles : (k : ℕ) (row : RowView) → slice_get rows k ≡ Some row → row.cycle ≡ cycle_of_tree junction k

  pub none_below : AreRowsBelow junction.least_cycle []
  none_below = record { count = omega arith; cycles = λ k row there. absurd (none-some row there) }

  module _ (cycle : ℕ) (rows : List RowView) (below : AreRowsBelow cycle rows) (row : RowView) (own : row.cycle ≡ cycle) where
    pub row_below : AreRowsBelow (cycle + 1) (rows ++ row ∷ [])
    row_below = record {
      count = omega (arith, length-append rows (row ∷ []), below.count);
      cycles = λ k other there. elim (slice_push rows row other k there) [
        | inl before ↦ below.cycles k other before
        | inr last ↦ subst (λ (r : RowView). r.cycle ≡ cycle_of_tree junction k) last.1 (omega (arith, own, last.0, below.count))
      ];
    }

    pub each_below : (P : RowView → Type 0) → EachRow P rows → P row → EachRow P (rows ++ row ∷ [])
    each_below P each here k other there = elim (slice_push rows row other k there) [
      | inl before ↦ each k other before
      | inr last ↦ subst P last.1 here
    ]

  pub all_rows : (cycle : ℕ) (rows : List RowView) → IsJunction junction → AreRowsBelow cycle rows → cycle ≡ junction.greatest_cycle + 1 → AreRowsOf junction rows
  all_rows cycle rows rules below last = record {
    count = omega (arith, below.count, last, rules.cycles.ordered);
    cycles = below.cycles;
  }

  pub true_row : (budget : ℕ) (row : RowView) → IsDesignedRow junction budget row → IsTrueRow junction row
  true_row budget row made = record {
    least_is = made.design.least_is ∙ made.zero_is;
    own_claim = no_cycle row.certificate.claim made.design.claimed;
    proves = λ other. (made.design.shown other).proves;
    stopped = λ is. record {
      least = made.least;
      zero_is = made.zero_is;
      stop = subst (λ b. IsTrueStop (narrowed junction row.cycle) made.least b row.certificate) (sym made.design.budget_is) (made.design.stopped is);
    };
  }

  pub true_curve : (budget : ℕ) (rows : List RowView) → AreRowsOf junction rows → EachRow (IsDesignedRow junction budget) rows → IsTrueCurve junction rows
  true_curve budget rows of_junction each = record { rows_of = of_junction; each = λ k row there. true_row budget row (each k row there) }

  -- the trees of the junction with one cycle alone are those of one cycle
  cover_one : (cycle : ℕ) → cover_of (narrowed junction cycle) ≡ tree_cover_of junction.conflicts
  cover_one cycle = let one : cycle - cycle + 1 ≡ 1 = omega arith in rw one (one_times (tree_cover_of junction.conflicts))

  pub never_stopped : (budget : ℕ) (rows : List RowView) → tree_cover_of junction.conflicts ≤ budget → EachRow (IsDesignedRow junction budget) rows → NoneStopped rows
  never_stopped budget rows covers each k row there is =
      let small = (each k row there).design.uncovered is in omega (arith, small, covers, cover_one row.cycle)
