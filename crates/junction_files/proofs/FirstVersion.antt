-- A file of the first version gives no maximum and no link, since these keys aren't listed in it.
use Rattle.std.proofs.Common.{ℕ, List, [], ◌∷◌, false, Option, None, Some, Ordering, Less, Equal, Greater, Any, map, slice_get, ◌≡◌, ◌+◌, refl, sym, ap, ◌∙◌, subst}
use Rattle.std.specs.Prelude.{Contains}
use Rattle.std.specs.Cmp.Lexicographic.{slice_cmp}
use Rattle.std.specs.List.{list_any}
use Rattle.std.specs.Ordering.{is_eq, nat_cmp, match_ordering}
use Rattle.std.specs.Str.{bytes_eq}
use Rattle.std.proofs.lemmas.Bool.{false≢true}
use Rattle.std.proofs.lemmas.List.Folds.{list_any-from_Any}
use Rattle.std.proofs.lemmas.Map.Text.{is_eq-slice_cmp}
use Rattle.std.proofs.lemmas.Option.{none-some}
use Rattle.std.proofs.lemmas.Slice.Eq.{bytes_eq-Decides}
use Rattle.toml.specs.Data.{Data, Members, no_members, member, get_member, as_table, table}
use Rattle.junction_model.specs.declared.group.Group.{Group}
use Rattle.junction_files.specs.Document.{word_of, part_keys, words_in, value_in, version_of, groups_in, links_in}
use Rattle.junction_files.specs.Faults.{ShapeFault}
use Rattle.junction_files.specs.Faultless.{IsFaultless}
use Rattle.junction_files.specs.Laws.{FirstVersionLaw}
use Rattle.junction_files.specs.Meaning.{number_or, group_of, link_of}
use Rattle.junction_files.specs.declared.document.Version.{Version}
use Rattle.junction_files.specs.declared.document.Version.TheVariants.{First}
use Rattle.junction_files.specs.declared.faults.Part.{Part}
use Rattle.junction_files.specs.declared.faults.Key.{Key}
use Rattle.junction_files.proofs.ElementAt.{group_place}
use Rattle.junction_files.proofs.Elements.{any_first, any_later, all_of_map}
use Rattle.junction_files.proofs.Faultless.{none_at}
use Rattle.junction_files.specs.declared.faults.Kind.TheVariants as kind
use Rattle.junction_files.specs.declared.faults.Part.TheVariants as part
use Rattle.junction_files.specs.declared.faults.Key.TheVariants as key

at_word : (k l : List ℕ) (f : Data) (ms : Members) (d : Data) (o : Ordering) → slice_cmp nat_cmp k l ≡ o →
    (get_member k ms ≡ Some d → Any (λ w. w ≡ k) (words_in ms)) →
    match_ordering o (get_member k ms) (Some f) (get_member k ms) ≡ Some d → Any (λ w. w ≡ k) (l ∷ words_in ms)
at_word k l f ms d Less e rest found = any_later (λ w. w ≡ k) l (words_in ms) (rest found)
at_word k l f ms d Equal e rest found =
    any_first (λ w. w ≡ k) l (words_in ms) (sym ((bytes_eq-Decides k l).0 (sym (is_eq-slice_cmp k l) ∙ ap is_eq e)))
at_word k l f ms d Greater e rest found = any_later (λ w. w ≡ k) l (words_in ms) (rest found)

-- what is found at a word stands in the table under it
found_word : (k : List ℕ) (ms : Members) (d : Data) → get_member k ms ≡ Some d → Any (λ w. w ≡ k) (words_in ms)
found_word k no_members d e = absurd (none-some d e)
found_word k (member l f ms) d e = at_word k l f ms d (slice_cmp nat_cmp k l) refl (λ found. found_word k ms d found) e

not_listed : (listed : List (List ℕ)) (word : List ℕ) → list_any (bytes_eq word) listed ≡ false → ¬ Contains listed word
not_listed listed word none (k, inside, same) = false≢true (sym none ∙ list_any-from_Any (bytes_eq word) listed
    (k, word, inside, same, (bytes_eq-Decides word word).1 refl))

lacks_member : (p : Part) (v : Version) (word : List ℕ) (ms : Members) (o : Option Data) → list_any (bytes_eq word) (map word_of (part_keys p v)) ≡ false →
    ¬ Any (λ w. ¬ Contains (map word_of (part_keys p v)) w) (words_in ms) → get_member word ms ≡ o → o ≡ None
lacks_member p v word ms None none listed e = refl
lacks_member p v word ms (Some d) none listed e =
    let (k, w, inside, at, same) = found_word word ms d e in
    absurd (listed (k, w, inside, at, λ contained. not_listed (map word_of (part_keys p v)) word none (subst (Contains (map word_of (part_keys p v))) same contained)))

lacks_at : (p : Part) (v : Version) (d : Data) (k : Key) (o : Option Members) → list_any (bytes_eq (word_of k)) (map word_of (part_keys p v)) ≡ false →
    ¬ ShapeFault v p d key.Other → as_table d ≡ o → value_in d k ≡ None
lacks_at p v d k None none shaped e = rw e refl
lacks_at p v d k (Some ms) none shaped e = rw e (lacks_member p v (word_of k) ms (get_member (word_of k) ms) none (rw e at shaped) refl)

-- nothing stands at a key that isn't listed
lacks : (p : Part) (v : Version) (d : Data) (k : Key) → list_any (bytes_eq (word_of k)) (map word_of (part_keys p v)) ≡ false →
    ¬ ShapeFault v p d key.Other → value_in d k ≡ None
lacks p v d k none shaped = lacks_at p v d k (as_table d) none shaped refl

no_maximum : (d : Data) → value_in d key.MaxGreen ≡ None → number_or 300 d key.MaxGreen ≡ 300
no_maximum d e = rw e refl

no_links : (document : Data) → value_in document key.Link ≡ None → links_in document ≡ []
no_links document e = rw e refl

maximum : (document : Data) → IsFaultless document → version_of document ≡ First → (k : ℕ) (d : Data) → slice_get (groups_in document) k ≡ Some d →
    number_or 300 d key.MaxGreen ≡ 300
maximum document faultless first k d found = no_maximum d (lacks part.Group First d key.MaxGreen refl
    (rw first at (none_at document faultless part.Group (k + 1) d (group_place document k d found) kind.Shape key.Other)))

links : (document : Data) → IsFaultless document → version_of document ≡ First → links_in document ≡ []
links document faultless first = no_links document (lacks part.Top First document key.Link refl
    (rw first at (none_at document faultless part.Top 0 document refl kind.Shape key.Other)))

pub first_version_law : FirstVersionLaw
first_version_law bytes j spelled first =
    let document = table spelled.document in
    let faultless : IsFaultless document = record { none = spelled.faultless } in (
      rw spelled.junction_of.groups (all_of_map group_of (λ (g : Group). g.times.max_green ≡ 300) (groups_in document) (maximum document faultless first)),
      spelled.junction_of.links ∙ ap (map (link_of document)) (links document faultless first),
    )
