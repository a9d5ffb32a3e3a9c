-- The numbers and words of the rules.
use Rattle.std.specs.Prelude.{ℕ, List, codes}
use Rattle.certificate_checker.specs.declared.rule.Rule.{Rule}
use Rattle.certificate_checker.specs.declared.rule.Rule.TheVariants.{Plan, Fit, Least, Cycles, Tree, Pair, Unvisited, Edge, Sum, Budget}

abbrev pub rule_number : Rule → ℕ
rule_number Plan = 1
rule_number (Fit fault) = 2
rule_number Least = 3
rule_number Cycles = 4
rule_number Tree = 5
rule_number Pair = 6
rule_number Unvisited = 7
rule_number Edge = 8
rule_number Sum = 9
rule_number Budget = 10

abbrev pub rule_word : Rule → List ℕ
rule_word Plan = codes "plan"
rule_word (Fit fault) = codes "fit"
rule_word Least = codes "least"
rule_word Cycles = codes "cycles"
rule_word Tree = codes "tree"
rule_word Pair = codes "pair"
rule_word Unvisited = codes "unvisited"
rule_word Edge = codes "edge"
rule_word Sum = codes "sum"
rule_word Budget = codes "budget"
