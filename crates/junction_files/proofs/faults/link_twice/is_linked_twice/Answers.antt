use Rattle.junction_files.proofs.faults.link_twice.is_linked_twice.Goals as goal

pub returns : goal.returns
returns c = rw c.elements_before-earlier.ensures at c.is_repeated.ensures
