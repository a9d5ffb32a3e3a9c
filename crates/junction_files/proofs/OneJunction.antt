-- Bytes spell at most one junction.
use Rattle.std.proofs.Common.{ℕ, ℤ, pos, List, Option, Some, map, length, ◌≡◌, ap, sym, ◌∙◌}
use Rattle.std.proofs.lemmas.Option.{same_Some}
use Rattle.toml.specs.Data.{Members, Data, table}
use Rattle.junction_model.specs.Junction.{JunctionView}
use Rattle.junction_model.specs.Rules.{IsJunction}
use Rattle.junction_files.specs.Document.{conflicts_in}
use Rattle.junction_files.specs.Meaning.{natural, entry_of, IsJunctionOf}
use Rattle.junction_files.specs.Reads.{IsDocument}
use Rattle.junction_files.specs.Laws.{OneJunctionLaw}
use Rattle.conflict_matrix.proofs.OneTable.{same_table}

pub same_document : (bytes : List ℕ) (d e : Members) → IsDocument bytes d → IsDocument bytes e → d ≡ e
same_document bytes d e first second = same_Some d e (sym first.parsed ∙ second.parsed)

same_number : (z : Option ℤ) (m n : ℕ) → z ≡ Some (pos m) → z ≡ Some (pos n) → m ≡ n
same_number z m n first second = ap natural (same_Some (pos m) (pos n) (sym first ∙ second))

same_junction : (document : Data) (j k : JunctionView) → IsJunctionOf document j → IsJunctionOf document k → IsJunction j → IsJunction k → j ≡ k
same_junction document j k first second rules_j rules_k =
    let title : j.title ≡ k.title = same_Some j.title k.title (sym first.title ∙ second.title) in
    let least : j.least_cycle ≡ k.least_cycle = same_number _ j.least_cycle k.least_cycle first.least_cycle second.least_cycle in
    let greatest : j.greatest_cycle ≡ k.greatest_cycle = same_number _ j.greatest_cycle k.greatest_cycle first.greatest_cycle second.greatest_cycle in
    let groups : j.groups ≡ k.groups = first.groups ∙ sym second.groups in
    let lanes : j.lanes ≡ k.lanes = first.lanes ∙ sym second.lanes in
    let conflicts : j.conflicts ≡ k.conflicts = same_table (length j.groups) (map (entry_of document) (conflicts_in document)) j.conflicts k.conflicts
    first.conflicts (rw (← groups) at second.conflicts) (first.links ∙ sym second.links) rules_j.conflicts.table rules_k.conflicts.table in
    λ i. record {
      title = title i;
      least_cycle = least i;
      greatest_cycle = greatest i;
      groups = groups i;
      lanes = lanes i;
      conflicts = conflicts i;
    }

pub one_junction_law : OneJunctionLaw
one_junction_law bytes j k first second =
    let same : second.document ≡ first.document = same_document bytes _ _ second.is_document first.is_document in
    same_junction (table first.document) j k first.junction_of (rw same at second.junction_of) first.rules second.rules
