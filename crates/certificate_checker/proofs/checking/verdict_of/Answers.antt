use Rattle.std.proofs.Common.{◌≡◌, ◌≢◌, length, rules}
use Rattle.plan_certificate.specs.Certificate.{certificate_of, node_count}
use Rattle.plan_certificate.specs.declared.claim.Claim.TheVariants.{Stopped}
use Rattle.certificate_checker.specs.ClaimTrees.{HasItsTrees}
use Rattle.certificate_checker.proofs.CertificateRules.{cycles_first, proves_claim, proves_part, none_at_all, budget_first}
use Rattle.certificate_checker.proofs.checking.verdict_of.Goals as goal

pub returns-then-not-has_its_trees : goal.returns-then-not-has_its_trees
returns-then-not-has_its_trees c = cycles_first c.fault_law.ensures _ c.rules.ensures _ c.in-Ok.multiple c.in-Ok.ensures (search rules)

pub returns-then-ne : goal.returns-then-ne
returns-then-ne c =
    let junction = c.args.junction.now in
    let certificate = certificate_of c.args.certificate.now in
    let trees : HasItsTrees junction certificate.claim certificate.plan (length certificate.branches) = search rules in
    let going : certificate.claim ≢ Stopped = search rules in (
      none_at_all c.fault_law.ensures junction c.rules.ensures certificate c.in-Ok.multiple c.in-Ok.ensures trees c.in_default.ensures (λ stopped. absurd (going stopped)),
      proves_claim junction c.rules.ensures certificate c.in-Ok.multiple c.requires c.in_default.ensures c.in-Ok.ensures trees going,
    )

pub returns-then-nodes-from : goal.returns-then-nodes-from
returns-then-nodes-from c =
    let junction = c.args.junction.now in
    let certificate = certificate_of c.args.certificate.now in
    let trees : HasItsTrees junction certificate.claim certificate.plan (length certificate.branches) = search rules in
    let stopped : certificate.claim ≡ Stopped = search rules in
    let wrong : node_count certificate ≢ certificate.budget = search rules in
    budget_first c.fault_law.ensures junction c.rules.ensures certificate c.in-Ok.multiple c.in-Ok.ensures trees c.in_default.ensures stopped wrong

pub returns : goal.returns
returns c =
    let junction = c.args.junction.now in
    let certificate = certificate_of c.args.certificate.now in
    let trees : HasItsTrees junction certificate.claim certificate.plan (length certificate.branches) = search rules in
    let stopped : certificate.claim ≡ Stopped = search rules in
    let spent : node_count certificate ≡ certificate.budget = search rules in (
      none_at_all c.fault_law.ensures junction c.rules.ensures certificate c.in-Ok.multiple c.in-Ok.ensures trees c.in_default.ensures (λ e. spent),
      proves_part junction c.rules.ensures certificate c.in-Ok.multiple c.requires c.in_default.ensures c.in-Ok.ensures stopped,
    )
