use Rattle.std.proofs.Common.{◌≡◌, ◌++◌, map, drop, option_map}
use Rattle.serde_json.specs.View.{view}
use Rattle.plan_certificate.specs.Members.{all_of, tree_of}
use Rattle.plan_certificate.proofs.branches.trees_in.Given as goal

abbrev pub invariant-loop-value : goal.invariant-loop-value
invariant-loop-value l = all_of (tree_of l.groups) (map view l.values)
    ≡ option_map (λ rest. l.forest ++ rest) (all_of (tree_of l.groups) (map view (drop l.value-index l.values)))
