use Rattle.std.proofs.Common.{refl, rules}
use Rattle.junction_files.specs.Reads.{IsRefusal}
use Rattle.junction_files.specs.declared.faults.JunctionFault.TheVariants.{Refused}
use Rattle.junction_program.proofs.Accepted.{not_first}
use Rattle.junction_program.proofs.Endings.{answered_later}
use Rattle.junction_program.proofs.junctions.accepted_junction.Goals as goal

pub returns-in-Err-Refused-clause-ends : goal.returns-in-Err-Refused-clause-ends
returns-in-Err-Refused-clause-ends g c =
    let refused : IsRefusal c.in-Ok.bytes.items (Refused c.in-Err-Refused.kind c.in-Err-Refused.place) = search rules in
    answered_later _ _ _ _ _ _ _ _ _ _ _ c.in-Ok.ensures.unchanged
    (record { bytes = c.in-Ok.bytes.items; fetched = c.in-Ok.ensures.bytes; kind = c.in-Err-Refused.kind; place = c.in-Err-Refused.place; refused = refused; told = refl })
    refl tt (not_first _ _ _ c.in-Ok.ensures.bytes) c.refuse_junction.ensures
