-- The first lines of a report: what it is about.
use Rattle.std.specs.Prelude.{codes, ℕ, List, ◌++◌, decimal}
use Rattle.sig_base.specs.Fraction.{Fraction}
use Rattle.junction_model.specs.Junction.{JunctionView}
use Rattle.plan_certificate.specs.Certificate.{CertificateView, node_count}
use Rattle.plan_certificate.specs.Text.{claim_word}
use Rattle.plan_certificate.specs.declared.claim.Claim.{Claim}
use Rattle.report_text.specs.Figures.{fraction_text}

unfoldable pub title_line : List ℕ → List ℕ
title_line title = codes "junction " ++ (title ++ codes "\n")

unfoldable pub claim_line : Claim → List ℕ
claim_line claim = codes "claim " ++ (claim_word claim ++ codes "\n")

unfoldable pub least_line : Fraction → List ℕ
least_line least = codes "least " ++ (fraction_text least ++ codes "\n")

unfoldable pub nodes_line : ℕ → List ℕ
nodes_line count = codes "nodes " ++ (decimal count ++ codes "\n")

-- the junction, what is claimed of it for which least multiplier, and how many nodes show it
abbrev pub head_lines : JunctionView → CertificateView → List ℕ
head_lines junction c = title_line junction.title ++ (claim_line c.claim ++ (least_line c.least ++ nodes_line (node_count c)))
