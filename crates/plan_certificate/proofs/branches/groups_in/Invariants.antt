use Rattle.std.proofs.Common.{◌≡◌, ◌≤◌, All, ◌++◌, map, drop, option_map}
use Rattle.serde_json.specs.View.{view}
use Rattle.plan_certificate.specs.Members.{all_of, whole_within}
use Rattle.plan_certificate.proofs.branches.groups_in.Given as goal

abbrev pub invariant-loop-value : goal.invariant-loop-value
invariant-loop-value l = record {
  numbers : all_of (whole_within 0 l.greatest) (map view l.values)
      ≡ option_map (λ rest. l.numbers.items ++ rest) (all_of (whole_within 0 l.greatest) (map view (drop l.value-index l.values)));
  below : All (λ n. n ≤ l.greatest) l.numbers.items;
}
