-- A walk judged by the needs of all groups, of which a list may hold more than the groups have.
use Rattle.std.proofs.Common.{ℕ, List, [], ◌∷◌, length, take, ◌≡◌, ◌≢◌, refl, sym, ap, ◌∙◌, Bool, arith, subst}
use Rattle.std.proofs.lemmas.List.{get_or-take}
use Rattle.sig_base.specs.Times.{IsGreenNeed}
use Rattle.conflict_matrix.specs.Matrix.{Matrix}
use Rattle.constraint_cycles.specs.Edge.{AreNeeds, edge_weight}
use Rattle.constraint_cycles.specs.StartsLaws.{AgreeOnGroups}
use Rattle.constraint_cycles.specs.Walk.{IsWalk, sum_of}
use Rattle.constraint_cycles.specs.declared.mark.Mark.{Mark}
use Rattle.constraint_cycles.proofs.Agreement.{agreeing_sum}
use Rattle.certificate_checker.specs.Basis.{BasisView, edges_of}
use Rattle.certificate_checker.specs.NodeFault.{sum_fault, walk_fault}

taken_agree : (m : Matrix) (needs : List ℕ) → AgreeOnGroups m needs (take m.groups needs)
taken_agree m needs g below = sym (get_or-take m.groups needs g 0 below)

pub all_needs : (m : Matrix) (needs : List ℕ) → AreNeeds m (take m.groups needs) → AreNeeds m needs
all_needs m needs are g below = subst IsGreenNeed (sym (taken_agree m needs g below)) (are g below)

fault_by_sum : (basis : BasisView) (marks : List Mark) (walk : List ℕ) → IsWalk walk → length walk ≢ 1 →
    sum_fault (sum_of (edges_of basis marks) walk) ≡ walk_fault basis marks walk
fault_by_sum basis marks [] is several = absurd (omega (arith, is.some))
fault_by_sum basis marks (g ∷ []) is several = absurd (several refl)
fault_by_sum basis marks (first ∷ (second ∷ rest)) is several = refl

pub fault_of_sum : (m : Matrix) (marks : List Mark) (needs : List ℕ) (cycle : ℕ) (unfinished : Bool) (walk : List ℕ) → IsWalk walk → length walk ≢ 1 →
    sum_fault (sum_of (edge_weight m marks needs cycle) walk)
    ≡ walk_fault (record { conflicts = m; needs = take m.groups needs; cycle = cycle; unfinished = unfinished }) marks walk
fault_of_sum m marks needs cycle unfinished walk is several =
    ap sum_fault (agreeing_sum m marks needs (take m.groups needs) cycle (taken_agree m needs) walk)
    ∙ fault_by_sum (record { conflicts = m; needs = take m.groups needs; cycle = cycle; unfinished = unfinished }) marks walk is several
