-- The line of a verdict.
use Rattle.std.specs.Prelude.{codes, ℕ, List, [], ◌++◌, decimal, slice_get}
use Rattle.std.specs.Option.{option_map_or}
use Rattle.conflict_matrix.specs.declared.link.Link.{Link}
use Rattle.junction_model.specs.declared.group.Group.{Group}
use Rattle.junction_model.specs.Junction.{JunctionView}
use Rattle.plan_model.specs.declared.fault.PlanFault.{PlanFault}
use Rattle.plan_model.specs.declared.fault.PlanFault.TheVariants as fault
use Rattle.plan_certificate.specs.Text.{claim_word}
use Rattle.plan_certificate.specs.declared.claim.Claim.{Claim}
use Rattle.certificate_checker.specs.Rules.{rule_number, rule_word}
use Rattle.certificate_checker.specs.declared.rule.Rule.{Rule}
use Rattle.certificate_checker.specs.declared.rule.Rule.TheVariants as rule
use Rattle.certificate_checker.specs.declared.verdict.Verdict.{Verdict}
use Rattle.certificate_checker.specs.declared.verdict.Verdict.TheVariants as verdict

-- the name of a group, by its number
abbrev pub name_of : JunctionView → ℕ → List ℕ
name_of junction i = option_map_or (λ (group : Group). group.label) (slice_get junction.groups i) []

-- the names of a link's leader and follower
abbrev pub names_of : JunctionView → Link → List ℕ
names_of junction link = codes "link " ++ (name_of junction link.leader ++ (codes " " ++ name_of junction link.follower))

abbrev pub link_words : JunctionView → ℕ → List ℕ
link_words junction k = option_map_or (names_of junction) (slice_get junction.conflicts.links k) []

-- why a plan doesn't fit
abbrev pub fault_words : JunctionView → PlanFault → List ℕ
fault_words junction fault.CycleLimit = codes "cycle_limit"
fault_words junction (fault.StartRange i) = codes "start_range " ++ name_of junction i
fault_words junction (fault.MinGreen i) = codes "min_green " ++ name_of junction i
fault_words junction (fault.Clash i j t) =
    codes "clash " ++ (name_of junction i ++ (codes " " ++ (name_of junction j ++ (codes " second " ++ decimal t))))
fault_words junction (fault.MaxGreen i) = codes "max_green " ++ name_of junction i
fault_words junction (fault.Link k) = link_words junction k

-- where the node stands that breaks a rule
abbrev pub node_words : ℕ → ℕ → List ℕ
node_words cycle node = codes " cycle " ++ (decimal cycle ++ (codes " node " ++ decimal node))

-- what follows the number and the word of a rule
abbrev pub where_words : JunctionView → Rule → ℕ → ℕ → List ℕ
where_words junction rule.Plan cycle node = []
where_words junction (rule.Fit fault) cycle node = codes " " ++ fault_words junction fault
where_words junction rule.Least cycle node = []
where_words junction rule.Cycles cycle node = []
where_words junction rule.Tree cycle node = node_words cycle node
where_words junction rule.Pair cycle node = node_words cycle node
where_words junction rule.Unvisited cycle node = node_words cycle node
where_words junction rule.Edge cycle node = node_words cycle node
where_words junction rule.Sum cycle node = node_words cycle node
where_words junction rule.Budget cycle node = []

abbrev pub rule_words : Rule → List ℕ
rule_words broken = decimal (rule_number broken) ++ (codes " " ++ rule_word broken)

abbrev pub verdict_line : JunctionView → Claim → Verdict → List ℕ
verdict_line junction claim verdict.Proved = codes "proved " ++ (claim_word claim ++ codes "\n")
verdict_line junction claim verdict.Partial = codes "partial stopped\n"
verdict_line junction claim (verdict.Broken broken cycle node) =
    codes "refuted " ++ (rule_words broken ++ (where_words junction broken cycle node ++ codes "\n"))
