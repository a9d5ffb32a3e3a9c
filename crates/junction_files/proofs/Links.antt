-- The links of a document in which no fault stands: they are links of its groups without a fault.
use Rattle.std.proofs.Common.{ℕ, List, Some, map, length, get_or, slice_get, ◌≡◌, ◌+◌, ◌<◌, IsSomeAnd, inl, inr, sym, ap, ◌∙◌}
use Rattle.std.proofs.lemmas.List.{length-map}
use Rattle.std.proofs.lemmas.Option.{slice_get_within}
use Rattle.toml.specs.Data.{Data}
use Rattle.toml.specs.View.{view}
use Rattle.toml.specs.declared.value.Value.{Value}
use Rattle.sig_base.specs.First.{SomeBelow}
use Rattle.conflict_matrix.specs.Links.{IsSelfLink, IsSameLink, SelfLinkAt, RepeatedLinkAt, IsFirstLinkFault, IsWithin, AreLinkable, AreLinks}
use Rattle.conflict_matrix.specs.declared.link.Link.{Link}
use Rattle.conflict_matrix.specs.declared.fault.LinkFault.{LinkFault}
use Rattle.conflict_matrix.specs.declared.fault.LinkFault.TheVariants.{SelfLink, Twice}
use Rattle.junction_files.specs.Document.{groups_in, links_in}
use Rattle.junction_files.specs.Faultless.{IsFaultless, IsLinkElement}
use Rattle.junction_files.specs.Meaning.{text_of, link_of, links_of}
use Rattle.junction_files.proofs.ElementAt.{link_place, view_at}
use Rattle.junction_files.proofs.Elements.{origin, any_before, all_of_map}
use Rattle.junction_files.proofs.Faultless.{none_at, is_table, has_text, has_number, count_links}
use Rattle.junction_files.proofs.Groups.{reference_at, same_name}
use Rattle.junction_files.specs.declared.faults.Kind.TheVariants as kind
use Rattle.junction_files.specs.declared.faults.Part.TheVariants as part
use Rattle.junction_files.specs.declared.faults.Key.TheVariants as key

pub link_element : (document : Data) → IsFaultless document → (k : ℕ) (d : Data) → slice_get (links_in document) k ≡ Some d → IsLinkElement document d
link_element document faultless k d found =
    let at = link_place document k d found in
    let none = none_at document faultless part.Link (k + 1) d at in
    let table = is_table document faultless part.Link (k + 1) d at in
    record {
      leader = reference_at document faultless d key.Leader (has_text d key.Leader table (none kind.Shape key.Leader)) (none kind.Unknown key.Leader);
      follower = reference_at document faultless d key.Follower (has_text d key.Follower table (none kind.Shape key.Follower)) (none kind.Unknown key.Follower);
      after = has_number d key.After _ _ table (none kind.Shape key.After) (none kind.Range key.After);
    }

-- the same of a value that is read from the list
pub link_value : (document : Data) → IsFaultless document → (values : List Value) (k : ℕ) (value : Value) →
    map view values ≡ links_in document → k < length values → value ≡ get_or values k value → IsLinkElement document (view value)
link_value document faultless values k value same inside read =
    link_element document faultless k (view value) (view_at values (links_in document) k value same inside read)

within : (document : Data) (d : Data) → IsLinkElement document d → IsWithin (length (groups_in document)) (link_of document d)
within document d link = record {
  leader = slice_get_within (groups_in document) _ link.leader.group.group link.leader.group.found;
  follower = slice_get_within (groups_in document) _ link.follower.group.group link.follower.group.found;
  after = link.after.greatest;
}

pub are_linkable : (document : Data) → IsFaultless document → AreLinkable (length (groups_in document)) (links_of document)
are_linkable document faultless = record {
  few = rw length-map (count_links document faultless);
  within = all_of_map (link_of document) (IsWithin (length (groups_in document))) (links_in document)
      (λ k d found. within document d (link_element document faultless k d found));
}

not_self : (document : Data) → IsFaultless document → (k : ℕ) → ¬ SelfLinkAt (links_of document) k
not_self document faultless k self =
    let b = origin (link_of document) IsSelfLink (links_in document) k self in
    let link = link_element document faultless k b.0 b.1 in
    let same = same_name document (text_of b.0 key.Leader) (text_of b.0 key.Follower) link.leader.group link.follower.group b.2 in
    let none = none_at document faultless part.Link (k + 1) b.0 (link_place document k b.0 b.1) kind.SelfLink key.Whole in
    (rw link.leader.text at none) (link.follower.text ∙ ap Some (sym same))

not_twice : (document : Data) → IsFaultless document → (k : ℕ) → ¬ RepeatedLinkAt (links_of document) k
not_twice document faultless k repeated =
    let b = origin (link_of document)
    (λ (l : Link). SomeBelow (λ n. IsSomeAnd (slice_get (links_of document) n) (λ earlier. IsSameLink earlier l)) k) (links_in document) k repeated in
    let earlier = origin (link_of document) (λ (l : Link). IsSameLink l (link_of document b.0)) (links_in document) b.2.0 b.2.2 in
    let c = link_element document faultless k b.0 b.1 in
    let d = link_element document faultless b.2.0 earlier.0 earlier.1 in
    let none = none_at document faultless part.Link (k + 1) b.0 (link_place document k b.0 b.1) kind.LinkTwice key.Whole in
    let same = same_name document in
    (rw (c.leader.text, c.follower.text) at none) (any_before _ (links_in document) k b.2.0 earlier.0 b.0 b.2.1 b.1 earlier.1 (elim earlier.2 [
      | inl pair ↦ inl (
        d.leader.text ∙ ap Some (same _ _ d.leader.group c.leader.group pair.0),
        d.follower.text ∙ ap Some (same _ _ d.follower.group c.follower.group pair.1),
      )
      | inr pair ↦ inr (
        d.leader.text ∙ ap Some (same _ _ d.leader.group c.follower.group pair.0),
        d.follower.text ∙ ap Some (same _ _ d.follower.group c.leader.group pair.1),
      )
    ]))

pub no_link_fault : (document : Data) → IsFaultless document → (f : LinkFault) → ¬ IsFirstLinkFault (links_of document) f
no_link_fault document faultless (SelfLink k) first = not_self document faultless k first.holds
no_link_fault document faultless (Twice k) first = not_twice document faultless k first.1.holds

pub are_links : (document : Data) → IsFaultless document → AreLinks (length (groups_in document)) (links_of document)
are_links document faultless = record {
  linkable = are_linkable document faultless;
  apart = λ k below. not_self document faultless k;
  once = λ k below. not_twice document faultless k;
}
