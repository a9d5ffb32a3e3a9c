use Rattle.std.proofs.Common.{ℕ, List, ◌≡◌, refl, sym, ap, subst}
use Rattle.std.specs.Prelude.{Some, slice_get}
use Rattle.std.proofs.lemmas.Option.{slice_get_read}
use Rattle.constraint_cycles.specs.declared.node.Node.{Node}
use Rattle.plan_certificate.specs.Certificate.{certificate_of}
use Rattle.certificate_checker.specs.Basis.{BasisView, basis_of, basis_for}
use Rattle.certificate_checker.specs.CertificateRules.{IsFirstOfAll}
use Rattle.certificate_checker.specs.TreeRules.{NoneBreaks, IsFirstBroken}
use Rattle.certificate_checker.proofs.CertificateRules.{tree_first, no_tree_next}
use Rattle.certificate_checker.proofs.checking.trees_fault.Goals as goal

pub returns-in-Some : goal.returns-in-Some
returns-in-Some c =
    let junction = c.args.junction.now in
    let certificate = certificate_of c.args.certificate.now in
    let number = c.loop-number.number in
    let nodes : List Node = c.index-trees-number.result in
    let rule = c.in-Some.rule in
    let place = c.in-Some.place in
    let at : slice_get certificate.branches number ≡ Some nodes =
    rw c.items-trees.ensures at (slice_get_read c.items-trees.result.now _ number nodes refl c.loop-number-test.true c.index-trees-number.is) in
    let first : IsFirstBroken (basis_for junction certificate c.args.multiple number) nodes rule place =
    subst (λ (b : BasisView). IsFirstBroken b nodes rule place) c.basis_of_tree-basis.ensures.value
    (subst (λ (ns : List Node). IsFirstBroken (basis_of c.basis_of_tree-basis.result) ns rule place) c.items.ensures c.in-Some.ensures) in
    let cycle = ap (λ (b : BasisView). b.cycle) c.basis_of_tree-basis.ensures.value in
    subst (λ (k : ℕ). IsFirstOfAll junction certificate rule k place) (sym cycle)
    (tree_first c.fault_law.ensures junction c.rules.ensures certificate c.args.multiple c.requires.planned c.requires.trees number nodes rule place
    c.loop-number.invariant at first)

pub loop-number-preserved : goal.loop-number-preserved
loop-number-preserved c =
    let junction = c.args.junction.now in
    let certificate = certificate_of c.args.certificate.now in
    let number = c.loop-number.number in
    let nodes : List Node = c.index-trees-number.result in
    let at : slice_get certificate.branches number ≡ Some nodes =
    rw c.items-trees.ensures at (slice_get_read c.items-trees.result.now _ number nodes refl c.loop-number-test.true c.index-trees-number.is) in
    let none : NoneBreaks (basis_for junction certificate c.args.multiple number) nodes =
    subst (λ (b : BasisView). NoneBreaks b nodes) c.basis_of_tree-basis.ensures.value
    (subst (λ (ns : List Node). NoneBreaks (basis_of c.basis_of_tree-basis.result) ns) c.items.ensures c.in_default.ensures) in
    no_tree_next junction certificate c.args.multiple number nodes at none c.loop-number.invariant
