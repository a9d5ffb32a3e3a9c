use Rattle.std.proofs.Common.{ℕ, ◌+◌, ◌<◌, length, length-set, replicate, zero-add, ap, sym, ◌∙◌, refl, arith}
use Rattle.std.proofs.lemmas.List.{drop-set-lt, get_or-take, take_more_set}
use Rattle.std.proofs.lemmas.List.FromFn.{get_or-map-range_with_len, map-range_with_len_more}
use Rattle.std.proofs.lemmas.Grind.{drop_more_same}
use Rattle.least_greens.specs.NeedOf.{need_of}
use Rattle.least_greens.proofs.Closing.{are_needs}
use Rattle.least_greens.proofs.group_need.needs.Goals as goal

pub loop-group-preserved : goal.loop-group-preserved
loop-group-preserved c =
    let f : ℕ → ℕ = need_of c.args.junction.now c.args.lanes c.args.target c.args.cycle in
    let needs = c.loop-group.needs in
    let group = c.loop-group.group in
    let before = c.loop-group.invariant in
    let within : group < length needs = omega (arith, c.rules.ensures.groups.few, ap length c.groups-group-end.ensures.value, before.full, c.loop-group-test.true) in
    record {
      full = length-set needs group c.need.result ∙ before.full;
      value = rw (take_more_set needs group c.need.result within, map-range_with_len_more f 0 group group (zero-add group), before.value, c.need.ensures.value) refl;
      unused = drop-set-lt (group + 1) needs group c.need.result (omega arith) ∙ drop_more_same needs (replicate 16 0) group before.unused;
    }

pub returns-clause-each : goal.returns-clause-each
returns-clause-each c g below =
    let f : ℕ → ℕ = need_of c.args.junction.now c.args.lanes c.args.target c.args.cycle in
    let needs = c.loop-group.needs in
    let group = c.loop-group.group in
    let inside : g < group = omega (arith, ap length c.groups-group-end.ensures.value, c.loop-group-test.false) in
    sym (get_or-take group needs g 0 inside) ∙ rw c.loop-group.invariant.value (get_or-map-range_with_len f 0 group g g 0 inside (zero-add g))

pub returns-clause-range : goal.returns-clause-range
returns-clause-range c = are_needs c.args.junction.now c.args.lanes c.args.target c.args.cycle c.loop-group.needs c.rules.ensures (returns-clause-each c)
