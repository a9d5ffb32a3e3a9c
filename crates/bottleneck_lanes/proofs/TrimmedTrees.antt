-- The trees of all cycles, trimmed for beating a multiple over a set of lanes.
use Rattle.std.proofs.Common.{ℕ, List, [], ◌∷◌, ◌++◌, ◌≡◌, ◌+◌, Some, inl, inr, sym, refl, ◌∙◌, subst, length, length-append, slice_get, arith}
use Rattle.std.proofs.lemmas.Option.{none-some, same_Some}
use Rattle.sig_base.specs.declared.lane_set.LaneSet.{LaneSet}
use Rattle.sig_base.specs.declared.ratio.Ratio.{Ratio}
use Rattle.sig_base.specs.declared.target.Target.TheVariants.{Beat}
use Rattle.sig_base.proofs.List.{slice_push}
use Rattle.constraint_cycles.specs.declared.node.Node.{Node}
use Rattle.junction_model.specs.Junction.{JunctionView}
use Rattle.least_greens.specs.ForTarget.{ClosesCycleFor}
use Rattle.cycle_orders.specs.Forest.{EachTreeOf, HasTreesBelow}
use Rattle.cycle_orders.specs.Lean.{IsLeanFor}
use Rattle.cycle_orders.specs.Trimmed.{IsTrimmed}
use Rattle.cycle_orders.proofs.EachTree.{push_tree, tree_at}
use Rattle.bottleneck_lanes.specs.Answer.{AreTrimmed}
use Rattle.bottleneck_lanes.specs.Critical.{ClosesEach}

module _ (junction : JunctionView) (multiple : Ratio) (lanes : LaneSet) (given : List (List Node)) where
  -- the trees below a number
  pub record AreTrimmedBelow (number : ℕ) (trimmed : List (List Node)) : Type 0 where
    pub long : length trimmed ≡ number
    pub closed : EachTreeOf junction (ClosesCycleFor junction lanes (Beat multiple)) trimmed
    pub lean : EachTreeOf junction (IsLeanFor junction lanes (Beat multiple)) trimmed
    pub stand : AreTrimmed junction multiple lanes given trimmed

  pub none_trimmed : AreTrimmedBelow 0 []
  none_trimmed = record { long = refl; closed = tt; lean = tt; stand = λ k older nodes given_at at. absurd (none-some nodes at) }

  pub given_closes : (number cycle : ℕ) (older : List Node) → slice_get given number ≡ Some older → cycle ≡ junction.least_cycle + number →
      EachTreeOf junction (ClosesCycleFor junction lanes (Beat multiple)) given → ClosesCycleFor junction lanes (Beat multiple) cycle older
  given_closes number cycle older at own each =
      subst (λ c. ClosesCycleFor junction lanes (Beat multiple) c older) (sym own) (tree_at (ClosesCycleFor junction lanes (Beat multiple)) given junction.least_cycle number older at each)

  pub trimmed_more : (number cycle : ℕ) (older nodes : List Node) (trimmed grown : List (List Node)) → slice_get given number ≡ Some older → cycle ≡ junction.least_cycle + number →
      AreTrimmedBelow number trimmed → grown ≡ trimmed ++ nodes ∷ [] → ClosesCycleFor junction lanes (Beat multiple) cycle nodes → IsLeanFor junction lanes (Beat multiple) cycle nodes →
      IsTrimmed junction lanes (Beat multiple) cycle older nodes → AreTrimmedBelow (number + 1) grown
  trimmed_more number cycle older nodes trimmed grown at own below pushed closes lean stands =
      let here : cycle ≡ junction.least_cycle + length trimmed = omega (arith, own, below.long) in
      rw pushed (record {
        long = omega (arith, length-append trimmed (nodes ∷ []), below.long);
        closed = push_tree (ClosesCycleFor junction lanes (Beat multiple)) trimmed junction.least_cycle cycle nodes here below.closed closes;
        lean = push_tree (IsLeanFor junction lanes (Beat multiple)) trimmed junction.least_cycle cycle nodes here below.lean lean;
        stand = λ k before later given_at later_at. elim (slice_push trimmed nodes later k later_at) [
          | inl earlier ↦ below.stand k before later given_at earlier
          | inr last ↦ (
              let same_place : k ≡ number = omega (arith, last.0, below.long) in
              let same_given : older ≡ before = same_Some older before (sym at ∙ subst (λ i. slice_get given i ≡ Some before) same_place given_at) in
              let cycle_is : cycle ≡ junction.least_cycle + k = omega (arith, own, same_place) in
              subst (λ c. IsTrimmed junction lanes (Beat multiple) c before later) cycle_is
              (subst (λ tree. IsTrimmed junction lanes (Beat multiple) cycle tree later) same_given
              (subst (λ tree. IsTrimmed junction lanes (Beat multiple) cycle older tree) last.1 stands)))
        ];
      })

  pub all_trimmed : (number : ℕ) (trimmed : List (List Node)) → AreTrimmedBelow number trimmed → number ≡ length given → HasTreesBelow junction (junction.greatest_cycle + 1) given →
      ClosesEach junction multiple lanes trimmed
  all_trimmed number trimmed below all trees = record {
    trees = omega (arith, below.long, all, trees);
    closed = below.closed;
  }
