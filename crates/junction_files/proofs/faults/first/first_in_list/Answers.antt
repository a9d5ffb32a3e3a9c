use Rattle.std.proofs.Common.{refl}
use Rattle.std.proofs.lemmas.List.{length-map}
use Rattle.toml.specs.View.{view}
use Rattle.junction_files.proofs.ElementAt.{view_at}
use Rattle.junction_files.proofs.FirstFault.{none_more, first_in_list, none_in_list}
use Rattle.junction_files.proofs.faults.first.first_in_list.Goals as goal

pub returns-in-Some : goal.returns-in-Some
returns-in-Some c = first_in_list _ _ _ c.args.list c.requires _ _ _
    (view_at _ _ _ _ c.elements-elements.ensures c.loop-i-test.true c.index-elements-i.is) (c.in-Some.ensures)
    (rw c.elements-elements.ensures at c.loop-i.invariant)

pub loop-i-preserved : goal.loop-i-preserved
loop-i-preserved c = none_more (view c.args.document.now) _ c.args.part _ _ _
    (view_at _ _ _ _ refl c.loop-i-test.true c.index-elements-i.is) c.in_default.ensures c.loop-i.invariant

pub returns : goal.returns
returns c = none_in_list _ _ _ c.args.list c.requires c.loop-i.i
    (rw (← c.elements-elements.ensures, length-map) c.loop-i-test.false) (rw c.elements-elements.ensures at c.loop-i.invariant)
