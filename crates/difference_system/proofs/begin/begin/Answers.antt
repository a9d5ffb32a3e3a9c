use Rattle.std.proofs.Common.{◌∷◌, ◌∙◌, ap, arith, rules}
use Rattle.std.proofs.lemmas.Int.{ints}
use Rattle.std.proofs.lemmas.Bool.{some_since}
use Rattle.std.proofs.lemmas.Option.{MatchOption-at_some}
use Rattle.difference_system.specs.System.{groups_of, edges_of}
use Rattle.difference_system.proofs.IsSystem.{regular_of}
use Rattle.difference_system.proofs.IsState.{begun_none, begun_weight, begun_more}
use Rattle.difference_system.proofs.begin.begin.Goals as goal

pub unwrap-edge-requires : goal.unwrap-edge-requires
unwrap-edge-requires c =
    let s = c.args.system.now in
    let outward = (regular_of s).outward c.loop-group.group (omega arith) (omega arith) in
    some_since c.edge.result _ _ c.edge.ensures (λ none. rw none at outward)

pub loop-group-init : goal.loop-group-init
loop-group-init c =
    let s = c.args.system.now in
    rw c.blank-state.ensures (begun_none (groups_of s) s.cycle (edges_of s) (regular_of s))

pub overflow_cast-edge : goal.overflow_cast-edge
overflow_cast-edge c =
    let s = c.args.system.now in
    let found = MatchOption-at_some _ _ _ c.unwrap-edge.ensures c.edge.ensures in
    let some = begun_weight (groups_of s) s.cycle (edges_of s) (regular_of s) c.loop-group.group (omega arith) (omega arith) c.unwrap-edge.result found in
    search (rules, ints)

pub loop-group-preserved : goal.loop-group-preserved
loop-group-preserved c =
    let s = c.args.system.now in
    let found = MatchOption-at_some _ _ _ c.unwrap-edge.ensures c.edge.ensures in
    let some = begun_weight (groups_of s) s.cycle (edges_of s) (regular_of s) c.loop-group.group (omega arith) (omega arith) c.unwrap-edge.result found in
    begun_more (groups_of s) s.cycle (edges_of s) (regular_of s) c.loop-group.group (omega arith) (omega arith) c.unwrap-edge.result found
    c.loop-group.state c.set.new.self _ _ c.loop-group.invariant c.set.ensures (c.push.ensures ∙ ap (λ trail. c.unwrap-edge.result.to ∷ trail) c.new-trail.ensures) (omega (arith, ints))
