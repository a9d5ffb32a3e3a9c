use Rattle.std.proofs.Common.{length, ◌≡◌, ◌+◌, ◌*◌, refl, ap, arith}
use Rattle.sample_junctions.specs.Draws.{first_state}
use Rattle.sample_junctions.specs.Sample.{group_count, state_of}
use Rattle.sample_junctions.proofs.Parts.{are_groups, are_groups_of_sample, are_lanes, is_title}
use Rattle.sample_junctions.proofs.States.{state_after_both, state_after_lanes}
use Rattle.sample_junctions.proofs.sampling.sample.Goals as goal

pub conflicts-requires-clause-groups : goal.conflicts-requires-clause-groups
conflicts-requires-clause-groups c = rw (c.deref.ensures.value, c.in_ok-groups.ensures.groups) (are_groups_of_sample _ _)

pub new-junction-requires : goal.new-junction-requires
new-junction-requires c =
    let x = c.below-count.new.self.state in
    let n = 8 + c.below-count.result in
    let size : length c.in_ok-groups.groups.items ≡ n = rw c.in_ok-groups.ensures.groups (are_groups_of_sample x n).as_many in
    record {
      title = rw c.in_ok-title.ensures (is_title c.args.number c.ranges.number.fits);
      cycles = record { some = omega arith; ordered = omega arith; longest = omega arith };
      groups = rw c.in_ok-groups.ensures.groups (are_groups x n (omega arith) (omega (arith, c.below-count.ensures.below)));
      lanes = rw (size, c.in_ok-lanes.ensures.lanes) (are_lanes c.groups.new.draws.state n (omega arith) (omega (arith, c.below-count.ensures.below)));
      conflicts = rw c.deref.ensures.value at c.in_ok-conflicts.ensures.rules;
    }

pub returns : goal.returns
returns c =
    let number = c.args.number in
    let count : 8 + c.below-count.result ≡ group_count number = ap (λ r. 8 + r) (rw c.new-draws.ensures at c.below-count.ensures.value) in
    let first : c.below-count.new.self.state ≡ state_of number 1 = rw c.new-draws.ensures at c.below-count.ensures.state in
    let second : c.groups.new.draws.state ≡ state_of number (1 + group_count number) =
    rw (c.in_ok-groups.ensures.state, first, count) (state_after_both (first_state number) 1 (group_count number)) in
    let third : c.lanes.new.draws.state ≡ state_of number (1 + 5 * group_count number) =
    rw (c.in_ok-lanes.ensures.state, second, count) (state_after_lanes (first_state number) (group_count number)) in
    rw c.new-junction.ensures (record {
      rules = rw c.new-junction.ensures at c.rules.ensures;
      title = c.in_ok-title.ensures;
      least_cycle = refl;
      greatest_cycle = refl;
      groups = rw (first, count) at c.in_ok-groups.ensures.groups;
      lanes = rw (second, count) at c.in_ok-lanes.ensures.lanes;
      conflicts = rw (third, count) at c.in_ok-conflicts.ensures.table;
      links = c.in_ok-conflicts.ensures.links;
    })
