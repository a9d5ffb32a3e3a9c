-- Every list of bytes spells a junction, or is refused for one fault at one place.
use Rattle.std.proofs.Common.{ℕ, List, Option, None, Some, map, length, ◌≡◌, ◌+◌, ◌*◌, ◌/◌, ◌%◌, ◌⊎◌, inl, inr, refl, sym, ◌∙◌, arith}
use Rattle.std.specs.Prelude.{IsUtf8}
use Rattle.std.specs.List.{fold, range_with_len}
use Rattle.std.specs.Str.{is_utf8}
use Rattle.std.proofs.lemmas.List.{length-map}
use Rattle.std.proofs.lemmas.List.FromFn.{get_or-map-range_with_len, length-range_with_len}
use Rattle.std.proofs.lemmas.Option.{none-some}
use Rattle.std.proofs.lemmas.Str.{IsUtf8-from_is_utf8, is_utf8-from_IsUtf8}
use Rattle.toml.specs.Data.{Data, Members, table}
use Rattle.toml.specs.Parse.{parse_document}
use Rattle.conflict_matrix.specs.Matrix.{Matrix, IsMatrix, unlinked, with_links}
use Rattle.conflict_matrix.specs.Links.{AreLinks}
use Rattle.conflict_matrix.specs.Entries.{IsTableOf}
use Rattle.conflict_matrix.specs.Filling.{cell_after, IsFilled}
use Rattle.conflict_matrix.specs.declared.entry.Entry.{Entry}
use Rattle.conflict_matrix.specs.declared.link.Link.{Link}
use Rattle.conflict_matrix.proofs.Cells.{table_from, matrix_from}
use Rattle.junction_model.specs.Rules.{AreConflicts}
use Rattle.junction_files.specs.Document.{groups_in}
use Rattle.junction_files.specs.Faultless.{IsFaultless}
use Rattle.junction_files.specs.Laws.{FaultlessLaw, TotalityLaw, IsOnlyRefusal}
use Rattle.junction_files.specs.Meaning.{times_of, group_of, entries_in, links_of, IsJunctionOf}
use Rattle.junction_files.specs.Reads.{IsDocument, IsRefusal, place_of}
use Rattle.junction_files.specs.declared.faults.Kind.{Kind}
use Rattle.junction_files.specs.declared.faults.Place.{Place}
use Rattle.junction_files.specs.declared.faults.JunctionFault.TheVariants.{Refused}
use Rattle.junction_files.proofs.Conflicts.{times_in, times_again, are_entries, are_faultless}
use Rattle.junction_files.proofs.Decisions.{is_true}
use Rattle.junction_files.proofs.Faultless.{has_title, has_least, has_greatest}
use Rattle.junction_files.proofs.FirstOfAll.{first_fault}
use Rattle.junction_files.proofs.IsJunction.{are_conflicts, linked_rules, linked_table, junction_in, is_junction}
use Rattle.junction_files.proofs.Links.{are_links}
use Rattle.junction_files.proofs.OneRefusal.{one_refusal_law}
use Rattle.junction_files.specs.declared.faults.Kind.TheVariants as kind
use Rattle.junction_files.specs.declared.faults.Part.TheVariants as part
use Rattle.junction_files.specs.declared.faults.Key.TheVariants as key

-- each cell is what the entries say of its two groups
abbrev cells_of : List Entry → List ℕ
cells_of es = map (λ c. fold (cell_after (c / 16) (c % 16)) 255 es) (range_with_len 0 256)

filled : (es : List Entry) → IsFilled es (cells_of es)
filled es i j first second =
    let row : (16 * i + j) / 16 ≡ i = omega arith in
    let column : (16 * i + j) % 16 ≡ j = omega arith in
    get_or-map-range_with_len (λ c. fold (cell_after (c / 16) (c % 16)) 255 es) 0 256 (16 * i + j) (16 * i + j) 0 (omega arith) (omega arith)
    ∙ rw (row, column) refl

all_cells : (es : List Entry) → length (cells_of es) ≡ 256
all_cells es = rw length-map (length-range_with_len 0 256)

with_links_matrix : (m : Matrix) (links : List Link) → IsMatrix m → AreLinks m.groups links → IsMatrix (with_links m links)
with_links_matrix m links matrix faultless = record {
  few = matrix.few;
  full = matrix.full;
  bounded = matrix.bounded;
  symmetric = matrix.symmetric;
  apart = matrix.apart;
  inside = matrix.inside;
  links = faultless;
}

-- the table of the conflicts and links of a document
abbrev unlinked_in : Data → Matrix
unlinked_in document = unlinked (length (times_in document)) (cells_of (entries_in document))

abbrev table_in : Data → Matrix
table_in document = with_links (unlinked_in document) (links_of document)

unlinked_matrix : (document : Data) → IsFaultless document → IsMatrix (unlinked_in document)
unlinked_matrix document faultless = matrix_from (times_in document) (entries_in document) (cells_of (entries_in document))
    (are_entries document faultless) (are_faultless document faultless) (all_cells (entries_in document)) (filled (entries_in document))

unlinked_table : (document : Data) → IsFaultless document → IsTableOf (length (times_in document)) (entries_in document) (unlinked_in document)
unlinked_table document faultless = table_from (times_in document) (entries_in document) (cells_of (entries_in document))
    (are_entries document faultless) (are_faultless document faultless) (filled (entries_in document))

unlinked_conflicts : (document : Data) → IsFaultless document → AreConflicts (map group_of (groups_in document)) (unlinked_in document)
unlinked_conflicts document faultless = are_conflicts (map group_of (groups_in document)) (times_in document) (entries_in document) (unlinked_in document)
    (sym (times_again (groups_in document))) (are_entries document faultless) (are_faultless document faultless)
    (unlinked_table document faultless) (unlinked_matrix document faultless)

conflicts : (document : Data) → IsFaultless document → AreConflicts (map group_of (groups_in document)) (table_in document)
conflicts document faultless = linked_rules (map group_of (groups_in document)) (unlinked_in document) (links_of document) (unlinked_conflicts document faultless)
    (with_links_matrix (unlinked_in document) (links_of document) (unlinked_matrix document faultless) (rw length-map (are_links document faultless)))

same_length : (document : Data) → length (times_in document) ≡ length (map group_of (groups_in document))
same_length document = length-map (groups_in document) times_of ∙ sym (length-map (groups_in document) group_of)

junction_of : (document : Data) → IsFaultless document → IsJunctionOf document (junction_in document (table_in document))
junction_of document faultless = record {
  title = (has_title document faultless).text;
  least_cycle = (has_least document faultless).whole;
  greatest_cycle = (has_greatest document faultless).whole;
  groups = refl;
  lanes = refl;
  conflicts = rw (← same_length document) (linked_table (length (times_in document)) (entries_in document) (unlinked_in document) (links_of document)
      (unlinked_table document faultless));
  links = refl;
}

pub faultless_law : FaultlessLaw
faultless_law bytes document is_document none = (
  junction_in (table document) (table_in (table document)),
  record {
    document = document;
    is_document = is_document;
    faultless = none;
    junction_of = junction_of (table document) (record { none = none });
    rules = is_junction (table document) (record { none = none }) (table_in (table document)) (conflicts (table document) (record { none = none }));
  },
)

parsed : (bytes : List ℕ) (found : Option Members) → parse_document bytes ≡ found → IsUtf8 bytes →
    ((document : Members) × IsDocument bytes document) ⊎ ((document : Members) → ¬ IsDocument bytes document)
parsed bytes None e utf8 = inr (λ document is_document. none-some document (sym e ∙ is_document.parsed))
parsed bytes (Some document) e utf8 = inl (document, record { utf8 = utf8; parsed = e })

document_or_none : (bytes : List ℕ) → ((document : Members) × IsDocument bytes document) ⊎ ((document : Members) → ¬ IsDocument bytes document)
document_or_none bytes = elim (is_true (is_utf8 bytes)) [
  | inl utf8 ↦ parsed bytes (parse_document bytes) refl (IsUtf8-from_is_utf8 bytes utf8)
  | inr other ↦ inr (λ document is_document. other (is_utf8-from_IsUtf8 bytes is_document.utf8))
]

only : (bytes : List ℕ) (k : Kind) (p : Place) → IsRefusal bytes (Refused k p) → IsOnlyRefusal bytes k p
only bytes k p refused = record { refused = refused; only = λ l q other. one_refusal_law bytes l k q p other refused }

pub totality_law : TotalityLaw
totality_law bytes = elim (document_or_none bytes) [
  | inl (document, is_document) ↦ elim (first_fault (table document)) [
    | inl (fault, first) ↦ inr (
      fault.kind,
      place_of fault,
      only bytes fault.kind (place_of fault) (inr (record {
        document = document;
        is_document = is_document;
        fault = fault;
        first = first;
        kind = refl;
        place = refl;
      })),
    )
    | inr none ↦ inl (faultless_law bytes document is_document none)
  ]
  | inr none ↦ inr (
    kind.NotToml,
    record { part = part.Top; index = 0; key = key.Whole },
    only bytes kind.NotToml _ (inl (record {
      not_document = none;
      kind = refl;
      place = refl;
    })),
  )
]
