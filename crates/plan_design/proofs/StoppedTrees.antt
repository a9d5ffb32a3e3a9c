-- The forest of a stopped search breaks no rule of certificates, and stays one of a stopped search where its targets rise.
use Rattle.std.proofs.Common.{ℕ, zero, suc, List, [], ◌∷◌, ◌++◌, length, ◌≡◌, ◌+◌, ◌<◌, ◌≤◌, ◌⊎◌, true, false, inl, inr, refl, sym, ap, subst, ◌∙◌, arith, length-append}
use Rattle.std.specs.Prelude.{Option, None, Some, All, IfSome, slice_get, replicate, ◌==◌}
use Rattle.std.proofs.lemmas.Bool.{false≢true}
use Rattle.std.proofs.lemmas.Bool.Decides.{nat_tests}
use Rattle.std.proofs.lemmas.List.Elements.{All-head, All-tail}
use Rattle.std.proofs.lemmas.Option.{slice_get_within}
use Rattle.sig_base.specs.Ratio.{fraction_of}
use Rattle.sig_base.specs.declared.ratio.Ratio.{Ratio}
use Rattle.constraint_cycles.specs.Tree.{IsVisited}
use Rattle.constraint_cycles.specs.declared.node.Node.{Node}
use Rattle.constraint_cycles.specs.declared.node.Node.TheVariants.{Unvisited}
use Rattle.junction_model.specs.Junction.{JunctionView}
use Rattle.junction_model.specs.Rules.{IsJunction}
use Rattle.plan_model.specs.Claims.{IsPlanMultiplier}
use Rattle.plan_model.specs.FirstFault.{FaultLaw}
use Rattle.plan_model.specs.Multiplier.{Meets}
use Rattle.plan_model.specs.SignalPlan.{PlanView}
use Rattle.least_greens.specs.ClosingLaws.{RisingWalkLaw}
use Rattle.least_greens.specs.ForTarget.{target_beside}
use Rattle.cycle_orders.specs.Answer.{EndsUnvisited}
use Rattle.cycle_orders.specs.Forest.{IsMultipleWith, IsSearchTree, IsStoppedAt, target_with}
use Rattle.cycle_orders.proofs.EachTree.{map_trees}
use Rattle.plan_certificate.specs.Certificate.{CertificateView}
use Rattle.plan_certificate.specs.declared.claim.Claim.TheVariants as claim
use Rattle.certificate_checker.specs.Basis.{BasisView, basis_for}
use Rattle.certificate_checker.specs.CertificateRules.{LacksItsPlan, BreaksNoRule}
use Rattle.certificate_checker.specs.ClaimTrees.{cycle_of_tree, IsMultipleFor, target_for}
use Rattle.certificate_checker.specs.Laws.{PartLaw}
use Rattle.certificate_checker.specs.Proves.{ProvesPart}
use Rattle.certificate_checker.specs.TreeRules.{BreaksAt, NoneBreaks}
use Rattle.certificate_checker.specs.declared.rule.Rule.TheVariants as rule
use Rattle.certificate_checker.proofs.CertificateRules.{none_at_all}
use Rattle.certificate_checker.proofs.Closing.{none_by_sound, none_by_closing}
use Rattle.certificate_checker.proofs.TreeRules.{never_unvisited}
use Rattle.plan_design.specs.Design.{IsTrueStop}
use Rattle.plan_design.specs.DesignLaws.{IsStretchTo, IsStretchOfAny, certified, StoppedShownLaw}
use Rattle.plan_design.proofs.StretchedTargets.{tree_at, multiplier_of, meets_any, risen_target, risen_nodes}

only_unvisited : (more place : ℕ) (own : Node) → slice_get (replicate more Unvisited) place ≡ Some own → ¬ IsVisited own
only_unvisited zero place own there visited = absurd (omega (arith, slice_get_within [] place own there))
only_unvisited (suc more) zero own there visited = let same : Unvisited ≡ own = cc in absurd (false≢true (subst IsVisited (sym same) visited))
only_unvisited (suc more) (suc place) own there visited = only_unvisited more place own there visited

-- no visited node stands behind an unvisited one
none_behind : (front : List Node) (more before place : ℕ) (own : Node) → All IsVisited front → before < place →
    slice_get (front ++ replicate more Unvisited) before ≡ Some Unvisited → slice_get (front ++ replicate more Unvisited) place ≡ Some own → ¬ IsVisited own
none_behind [] more before place own each earlier unvisited there visited = only_unvisited more place own there visited
none_behind (head ∷ front) more zero place own each earlier unvisited there visited =
    let same : head ≡ Unvisited = cc in absurd (false≢true (subst IsVisited same (All-head IsVisited head front each)))
none_behind (head ∷ front) more (suc before) zero own each earlier unvisited there visited = absurd (omega (arith, earlier))
none_behind (head ∷ front) more (suc before) (suc place) own each earlier unvisited there visited =
    none_behind front more before place own (All-tail IsVisited head front each) (omega (arith, earlier)) unvisited there visited

unvisited_at : (front rest : List Node) → slice_get (front ++ Unvisited ∷ rest) (length front) ≡ Some Unvisited
unvisited_at [] rest = refl
unvisited_at (head ∷ front) rest = unvisited_at front rest

-- the last tree of a stopped search
none_in_last : (basis : BasisView) (nodes : List Node) → basis.unfinished ≡ true → EndsUnvisited nodes → (place : ℕ) → ¬ BreaksAt basis nodes rule.Unvisited place
none_in_last basis nodes unfinished ends place (inl b) = false≢true (sym b.1 ∙ unfinished)
none_in_last basis nodes unfinished ends place (inr (inl b)) =
    let there = subst (λ all. slice_get all place ≡ Some b.own) ends.joined b.there in
    let unvisited = subst (λ all. slice_get all b.before ≡ Some Unvisited) ends.joined b.unvisited in
    none_behind ends.visited (suc ends.more) b.before place b.own ends.each b.earlier unvisited there b.visited
none_in_last basis nodes unfinished ends place (inr (inr b)) =
    never_unvisited _ (length ends.visited) (subst (All IsVisited) ends.joined b.visited) (unvisited_at ends.visited (replicate ends.more Unvisited))

-- a tree of the forest is a finished one, whose nodes were all visited, or the last one
finished_or_last : (finished : List (List Node)) (last nodes : List Node) (k : ℕ) → All (All IsVisited) finished → slice_get (finished ++ last ∷ []) k ≡ Some nodes →
    ((k < length finished) × All IsVisited nodes) ⊎ ((k ≡ length finished) × (nodes ≡ last))
finished_or_last [] last nodes zero visited at = inr (refl, cc)
finished_or_last [] last nodes (suc k) visited at = absurd (omega (arith, slice_get_within [] k nodes at))
finished_or_last (tree ∷ finished) last nodes zero visited at =
    let same : tree ≡ nodes = cc in inl (omega arith, subst (All IsVisited) same (All-head (All IsVisited) tree finished visited))
finished_or_last (tree ∷ finished) last nodes (suc k) visited at =
    elim (finished_or_last finished last nodes k (All-tail (All IsVisited) tree finished visited) at) [
      | inl before ↦ inl (omega (arith, before.0), before.1)
      | inr here ↦ inr (omega (arith, here.0), here.1)
    ]

not_last : (k trees : ℕ) → k + 1 < trees → (k + 1 == trees) ≡ false
not_last k trees below = grind (arith, nat_tests)

is_last : (k trees : ℕ) → k + 1 ≡ trees → (k + 1 == trees) ≡ true
is_last k trees same = grind (arith, nat_tests)

-- the checker and the search ask for the same target
same_target : (plan : Option PlanView) (multiple : Ratio) (cycle : ℕ) → target_with plan multiple cycle ≡ target_for claim.Stopped plan multiple cycle
same_target None multiple cycle = refl
same_target (Some p) multiple cycle = refl

same_multiple : (junction : JunctionView) (least : Ratio) (plan : Option PlanView) (multiple : Ratio) → IsMultipleWith junction least plan multiple →
    IsMultipleFor junction claim.Stopped plan (fraction_of least) multiple
same_multiple junction least None multiple is = ap fraction_of is
same_multiple junction least (Some p) multiple is = is

may_lack : (plan : Option PlanView) → ¬ LacksItsPlan claim.Stopped plan
may_lack None lacks = lacks
may_lack (Some p) lacks = lacks

module _ (junction : JunctionView) (rules : IsJunction junction) (least : Ratio) (budget : ℕ) (plan : Option PlanView) (forest : List (List Node))
    (stop : IsStoppedAt junction least budget plan forest) (meets : IfSome plan (λ p. Meets junction p (fraction_of least))) where
  abbrev Own : CertificateView
  Own = certified least budget claim.Stopped plan forest

  trees : length forest ≡ length stop.finished + 1
  trees = ap length stop.joined ∙ length-append stop.finished (stop.last ∷ [])

  tree_for : (k : ℕ) (nodes : List Node) → slice_get forest k ≡ Some nodes →
      IsSearchTree junction least (target_for claim.Stopped plan stop.multiple (cycle_of_tree junction k)) (cycle_of_tree junction k) nodes
  tree_for k nodes at =
      subst (λ target. IsSearchTree junction least target (cycle_of_tree junction k) nodes) (same_target plan stop.multiple (cycle_of_tree junction k))
      (tree_at _ forest junction.least_cycle k nodes stop.trees at)

  none_in : (k : ℕ) (nodes : List Node) → slice_get forest k ≡ Some nodes → NoneBreaks (basis_for junction Own stop.multiple k) nodes
  none_in k nodes at =
      let basis = basis_for junction Own stop.multiple k in
      let tree = tree_for k nodes at in
      elim (finished_or_last stop.finished stop.last nodes k stop.visited (subst (λ all. slice_get all k ≡ Some nodes) stop.joined at)) [
        | inl before ↦ none_by_closing basis nodes (record { whole = tree.whole; visited = before.1; sound = tree.sound }) (not_last k (length forest) (omega (arith, before.0, trees)))
        | inr here ↦ none_by_sound basis nodes tree.whole tree.sound
            (none_in_last basis nodes (is_last k (length forest) (omega (arith, here.0, trees))) (subst EndsUnvisited (sym here.1) stop.ends))
      ]

  none_broken : FaultLaw → BreaksNoRule junction Own
  none_broken law =
      none_at_all law junction rules Own stop.multiple (record { stated = may_lack plan; meets = meets; is = same_multiple junction least plan stop.multiple stop.is })
      (omega (arith, trees), omega (arith, trees, stop.within)) (λ k nodes within at. none_in k nodes at) (λ stopped. stop.counted)

  part : ProvesPart junction Own
  part = record {
    stopped = refl;
    meets = meets;
    multiple = stop.multiple;
    is = same_multiple junction least plan stop.multiple stop.is;
    closed = λ k nodes at visited. let tree = tree_for k nodes at in record { whole = tree.whole; visited = visited; sound = tree.sound };
  }

  pub true_stop : FaultLaw → PartLaw → IsTrueStop junction least budget Own
  true_stop law part_law = record { claim = refl; rules = none_broken law; part = part; holds = part_law junction Own rules part; search = stop }

-- a stopped search stays one beside the stretched plan
module _ (rising : RisingWalkLaw) (junction : JunctionView) (rules : IsJunction junction) (least : Ratio) (budget : ℕ) (forest : List (List Node)) where
  risen_tree : (p q : PlanView) → IsStretchTo junction p q → (m n : Ratio) → IsPlanMultiplier junction p (fraction_of m) → IsPlanMultiplier junction q (fraction_of n) →
      (cycle : ℕ) (nodes : List Node) → 1 ≤ cycle → IsSearchTree junction least (target_with (Some p) m cycle) cycle nodes →
      IsSearchTree junction least (target_with (Some q) n cycle) cycle nodes
  risen_tree p q stretch m n of_p of_q cycle nodes some tree = record {
    whole = tree.whole;
    sound = risen_nodes rising junction (target_beside p.cycle m cycle) (target_beside q.cycle n cycle) cycle some (risen_target junction rules p q stretch m n of_p of_q cycle) nodes tree.sound;
    lean = tree.lean;
    due = tree.due;
    outlasts = tree.outlasts;
  }

  stays : (plan stretched : Option PlanView) → IsStretchOfAny junction least plan stretched → IsStoppedAt junction least budget plan forest →
      IsStoppedAt junction least budget stretched forest
  stays None None any stop = stop
  stays None (Some q) any stop = absurd any
  stays (Some p) None any stop = absurd any
  stays (Some p) (Some q) any stop =
      let own = multiplier_of junction rules q any.stretch.stretched.fits in record {
        finished = stop.finished;
        last = stop.last;
        joined = stop.joined;
        within = stop.within;
        visited = stop.visited;
        ends = stop.ends;
        counted = stop.counted;
        multiple = own.0;
        is = own.1;
        trees = map_trees _ _ forest junction.least_cycle
            (λ cycle nodes from below tree. risen_tree p q any.stretch stop.multiple own.0 stop.is own.1 cycle nodes (omega (arith, rules.cycles.some, from)) tree) stop.trees;
      }

pub stopped_shown_law : RisingWalkLaw → FaultLaw → PartLaw → StoppedShownLaw
stopped_shown_law rising law part_law junction least budget plan stretched forest rules any stop =
    true_stop junction rules least budget stretched forest (stays rising junction rules least budget forest plan stretched any stop) (meets_any junction least plan stretched any) law part_law
