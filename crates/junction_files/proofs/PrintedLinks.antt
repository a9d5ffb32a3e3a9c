-- No fault stands at a printed link.
use Rattle.std.proofs.Common.{ℕ, List, Some, length, slice_get, ◌≡◌, ◌+◌, ◌≤◌, inl, inr, refl, sym, arith}
use Rattle.std.proofs.lemmas.Option.{slice_get_within, same_Some, none-some}
use Rattle.toml.specs.Data.{Data, table}
use Rattle.conflict_matrix.specs.Links.{IsWithin}
use Rattle.conflict_matrix.specs.declared.link.Link.{Link}
use Rattle.junction_model.specs.Junction.{JunctionView}
use Rattle.junction_model.specs.Rules.{IsJunction}
use Rattle.junction_model.specs.declared.group.Group.{Group}
use Rattle.junction_files.specs.Document.{words_in}
use Rattle.junction_files.specs.Faults.{NamesGroups, IsWrong, ShapeFault, RangeFault, UnknownFault, SelfLinkFault, LinkTwiceFault}
use Rattle.junction_files.specs.Printing.{label_at, link_members, printed_version}
use Rattle.junction_files.specs.declared.document.Version.{Version}
use Rattle.junction_files.specs.declared.faults.Kind.{Kind}
use Rattle.junction_files.specs.declared.faults.Key.{Key}
use Rattle.junction_files.proofs.Elements.{all_at}
use Rattle.junction_files.proofs.PrintedDocument.{same_version, document_of, link_list, origin_before}
use Rattle.junction_files.proofs.PrintedNames.{no_other_word, in_bounds, label_names_group, same_group}
use Rattle.junction_files.specs.declared.faults.Kind.TheVariants as kind
use Rattle.junction_files.specs.declared.faults.Part.TheVariants as part
use Rattle.junction_files.specs.declared.faults.Key.TheVariants as key

pub within_groups : (j : JunctionView) → IsJunction j → (k : ℕ) (l : Link) → slice_get j.conflicts.links k ≡ Some l → IsWithin (length j.groups) l
within_groups j rules k l found =
    rw rules.conflicts.same_groups at (all_at (IsWithin j.conflicts.groups) j.conflicts.links k l rules.conflicts.table.links.linkable.within found)

shape : (v : Version) (groups : List Group) (l : Link) (at : Key) → ¬ ShapeFault v part.Link (table (link_members groups l)) at
shape v groups l key.Whole wrong = none-some _ (sym wrong)
shape v groups l key.Other wrong = no_other_word part.Link v (words_in (link_members groups l)) refl wrong
shape v groups l key.Leader wrong = wrong.1 refl
shape v groups l key.Follower wrong = wrong.1 refl
shape v groups l key.After wrong = wrong.1 refl
shape v groups l _ wrong = wrong.1

range : (document : Data) (groups : List Group) (l : Link) → l.after ≤ 299 → (at : Key) →
    ¬ RangeFault document part.Link (table (link_members groups l)) at
range document groups l most key.After wrong = in_bounds l.after 0 299 (omega arith) most wrong
range document groups l most _ wrong = wrong

reference : (j : JunctionView) (l : Link) → IsWithin (length j.groups) l → (at : Key) →
    ¬ UnknownFault (document_of j) part.Link (table (link_members j.groups l)) at
reference j l within key.Leader wrong = wrong (label_names_group j l.leader within.leader)
reference j l within key.Follower wrong = wrong (label_names_group j l.follower within.follower)
reference j l within _ wrong = wrong

self : (j : JunctionView) → IsJunction j → (k : ℕ) (l : Link) → slice_get j.conflicts.links k ≡ Some l → (at : Key) →
    ¬ SelfLinkFault part.Link (table (link_members j.groups l)) at
self j rules k l found key.Whole wrong =
    let within = within_groups j rules k l found in
    let same : l.leader ≡ l.follower = sym (same_group j rules l.follower l.leader within.follower within.leader (same_Some _ _ wrong)) in
    rules.conflicts.table.links.apart k (slice_get_within j.conflicts.links k l found) (rw found same)
self j rules k l found _ wrong = wrong

twice : (j : JunctionView) → IsJunction j → (k : ℕ) (l : Link) → slice_get j.conflicts.links k ≡ Some l → (at : Key) →
    ¬ LinkTwiceFault (document_of j) part.Link (k + 1) (table (link_members j.groups l)) at
twice j rules k l found key.Whole wrong =
    let before = origin_before (link_members j.groups) (NamesGroups key.Leader key.Follower (label_at j.groups l.leader) (label_at j.groups l.follower))
    j.conflicts.links k (rw link_list at wrong) in
    let m = before.1 in
    let own = within_groups j rules k l found in
    let other = within_groups j rules before.0 m before.3 in
    let same = same_group j rules in
    rules.conflicts.table.links.once k (slice_get_within j.conflicts.links k l found) (rw found (
      before.0,
      before.2,
      rw before.3 (elim before.4 [
        | inl (leader, follower) ↦ inl (
          same m.leader l.leader other.leader own.leader (same_Some _ _ leader),
          same m.follower l.follower other.follower own.follower (same_Some _ _ follower),
        )
        | inr (leader, follower) ↦ inr (
          same m.leader l.follower other.leader own.follower (same_Some _ _ leader),
          same m.follower l.leader other.follower own.leader (same_Some _ _ follower),
        )
      ]),
    ))
twice j rules k l found _ wrong = wrong

pub none_at_link : (j : JunctionView) → IsJunction j → (k : ℕ) (l : Link) → slice_get j.conflicts.links k ≡ Some l → (f : Kind) (at : Key) →
    ¬ IsWrong (document_of j) f part.Link (k + 1) (table (link_members j.groups l)) at
none_at_link j rules k l found kind.Shape at wrong = shape (printed_version j) j.groups l at (rw same_version at wrong)
none_at_link j rules k l found kind.Range at wrong = range (document_of j) j.groups l (within_groups j rules k l found).after at wrong
none_at_link j rules k l found kind.Unknown at wrong = reference j l (within_groups j rules k l found) at wrong
none_at_link j rules k l found kind.SelfLink at wrong = self j rules k l found at wrong
none_at_link j rules k l found kind.LinkTwice at wrong = twice j rules k l found at wrong
none_at_link j rules k l found _ at wrong = wrong
