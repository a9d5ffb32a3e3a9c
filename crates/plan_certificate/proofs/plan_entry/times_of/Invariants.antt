use Rattle.std.proofs.Common.{◌≡◌, ◌++◌, drop, map, option_map}
use Rattle.serde_json.specs.View.{view}
use Rattle.plan_certificate.specs.Members.{all_of, whole_within}
use Rattle.plan_certificate.specs.Ranges.{longest_time}
use Rattle.plan_certificate.proofs.plan_entry.times_of.Given as goal

abbrev pub invariant-loop-value : goal.invariant-loop-value
invariant-loop-value l = all_of (whole_within 0 longest_time) (map view l.values)
    ≡ option_map (λ rest. l.times.items ++ rest) (all_of (whole_within 0 longest_time) (map view (drop l.value-index l.values)))
