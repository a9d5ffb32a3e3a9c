use Rattle.std.proofs.Common.{arith}
use Rattle.junction_files.proofs.Faultless.{readable, has_title, has_least, has_greatest}
use Rattle.junction_files.proofs.IsJunction.{is_junction}
use Rattle.junction_files.specs.declared.faults.Key.TheVariants as key
use Rattle.junction_files.proofs.reading.build.build.Goals as goal

pub title-requires : goal.title-requires
title-requires c = has_title _ c.requires

pub number-requires : goal.number-requires
number-requires c = readable _ key.LeastCycle _ _ (has_least _ c.requires) (omega arith)

pub number-requires-2 : goal.number-requires-2
number-requires-2 c = readable _ key.GreatestCycle _ _ (has_greatest _ c.requires) (omega arith)

pub new-requires : goal.new-requires
new-requires c =
    rw (c.title.ensures, c.number.ensures, c.number-2.ensures, c.in_ok-groups.ensures, c.in_ok-lanes.ensures)
    (is_junction _ c.requires _ (rw (c.deref.ensures.value, c.in_ok-groups.ensures) at c.in_ok-conflicts.ensures.rules))
