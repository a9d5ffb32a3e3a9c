use Rattle.std.proofs.Common.{inr, refl}
use Rattle.toml.proofs.Views.{view-Table}
use Rattle.toml.specs.View.{table_view}
use Rattle.junction_files.specs.FirstFault.{fault_at}
use Rattle.junction_files.proofs.reading.reader.read.Goals as goal

pub returns-in-Some-clause-fault : goal.returns-in-Some-clause-fault
returns-in-Some-clause-fault c = inr (record {
  document = table_view c.in-Ok.table;
  is_document = record { utf8 = c.in-Ok.ensures.ok.0; parsed = c.in-Ok.ensures.ok.1 };
  fault = fault_at c.in-Some.kind c.in-Some.spot;
  first = rw view-Table at c.in-Some.ensures;
  kind = refl;
  place = c.place.ensures;
})
