-- A number has at most one sample.
use Rattle.std.proofs.Common.{◌≡◌, sym, ◌∙◌}
use Rattle.conflict_matrix.proofs.OneTable.{same_table}
use Rattle.sample_junctions.specs.Sample.{SampleLaw}

pub sample_law : SampleLaw
sample_law number j k first second =
    let title : j.title ≡ k.title = first.title ∙ sym second.title in
    let least : j.least_cycle ≡ k.least_cycle = first.least_cycle ∙ sym second.least_cycle in
    let greatest : j.greatest_cycle ≡ k.greatest_cycle = first.greatest_cycle ∙ sym second.greatest_cycle in
    let groups : j.groups ≡ k.groups = first.groups ∙ sym second.groups in
    let lanes : j.lanes ≡ k.lanes = first.lanes ∙ sym second.lanes in
    let conflicts : j.conflicts ≡ k.conflicts = same_table _ _ j.conflicts k.conflicts first.conflicts second.conflicts
    (first.links ∙ sym second.links) first.rules.conflicts.table second.rules.conflicts.table in
    λ i. record {
      title = title i;
      least_cycle = least i;
      greatest_cycle = greatest i;
      groups = groups i;
      lanes = lanes i;
      conflicts = conflicts i;
    }
