use Rattle.junction_files.proofs.faults.twice.is_twice.Goals as goal

pub returns : goal.returns
returns c = rw c.elements_before-earlier.ensures at c.is_repeated.ensures
