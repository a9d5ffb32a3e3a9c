-- At each place of a document a rule is broken or isn't.
use Rattle.std.proofs.Common.{ℕ, ℤ, pos, List, Option, Some, IsSome, Any, map, take, length, is_some, ◌≡◌, ◌-◌, ◌+ℤ◌, inl, inr, refl, ap}
use Rattle.std.specs.Prelude.{Contains}
use Rattle.std.proofs.lemmas.List.Elements.{Contains-get_or}
use Rattle.std.proofs.lemmas.Option.{same_Some}
use Rattle.toml.specs.Data.{Data, as_str, as_integer, as_array, as_table}
use Rattle.junction_files.specs.Document.{word_of, part_keys, words_in, version_of, value_in, text_in, whole_in, list_in, groups_in, lanes_in, conflicts_in, links_in}
use Rattle.junction_files.specs.Rules.{sort_of, count_of, range_of}
use Rattle.junction_files.specs.Faults.{VersionFault, IsMisshaped, IsOtherWord, ShapeFault, CountFault, RangeFault, IsNamed, IsWrongLabel, NameFault, IsUnknown, UnknownFault, NamesOneGroup, SelfConflictFault, NamesGroups, IsRepeated, TwiceFault, Involves, LonelyFault, IsAbove, HasMore, IsTooShort, ShortIntergreenFault, EndGainFault, NoEffectiveFault, NoFlowFault, MaxGreenFault, SelfLinkFault, LinkTwiceFault, IsWrong}
use Rattle.junction_files.specs.declared.document.Version.{Version}
use Rattle.junction_files.specs.declared.faults.Kind.{Kind}
use Rattle.junction_files.specs.declared.faults.Part.{Part}
use Rattle.junction_files.specs.declared.faults.Key.{Key}
use Rattle.junction_files.specs.declared.faults.shape.Sort.{Sort}
use Rattle.junction_files.specs.declared.faults.shape.Sort.TheVariants.{Text, Whole, WholeOrMissing, Tables, TablesOrMissing}
use Rattle.junction_files.proofs.Decisions.{Decided, never, fails, both, either, of_some, of_any, of_all, is_true, is_none, is_text, is_whole, is_below, is_at_most, is_between, is_label, is_title}
use Rattle.junction_files.specs.declared.faults.Kind.TheVariants as kind
use Rattle.junction_files.specs.declared.faults.Part.TheVariants as part
use Rattle.junction_files.specs.declared.faults.Key.TheVariants as key

version : (p : Part) (d : Data) (k : Key) → Decided (VersionFault p d k)
version part.Top d key.Version = fails (either (is_whole (whole_in d key.Version) (pos 1)) (is_whole (whole_in d key.Version) (pos 2)))
version _ _ _ = never

misshaped : (sort : Sort) (value : Option Data) → Decided (IsMisshaped sort value)
misshaped Text value = fails (of_some value (λ d. IsSome (as_str d)) (λ d. is_true (is_some (as_str d))))
misshaped Whole value = fails (of_some value (λ d. IsSome (as_integer d)) (λ d. is_true (is_some (as_integer d))))
misshaped WholeOrMissing value = of_some value _ (λ d. is_none (as_integer d))
misshaped Tables value = fails (of_some value (λ d. IsSome (as_array d)) (λ d. is_true (is_some (as_array d))))
misshaped TablesOrMissing value = of_some value _ (λ d. is_none (as_array d))

same_words : (s t : List ℕ) → Decided (s ≡ t)
same_words s t = elim (is_text (Some s) t) [
  | inl same ↦ inl (same_Some s t same)
  | inr other ↦ inr (λ same. other (ap Some same))
]

contains : (words : List (List ℕ)) (word : List ℕ) → Decided (Contains words word)
contains words word = elim (of_any (λ w. w ≡ word) (λ w. same_words w word) words) [
  | inl (k, w, inside, at, same) ↦ inl (rw same at (rw at at (Contains-get_or words k w inside)))
  | inr none ↦ inr (λ (k, inside, same). none (k, word, inside, same, refl))
]

shape : (v : Version) (p : Part) (d : Data) (k : Key) → Decided (ShapeFault v p d k)
shape v p d key.Whole = is_none (as_table d)
shape v p d key.Other = of_some (as_table d) _ (λ ms. of_any (IsOtherWord p v) (λ word. fails (contains (map word_of (part_keys p v)) word)) (words_in ms))
shape v p d k = both (is_true (is_some (as_table d))) (of_some (sort_of p k v) _ (λ sort. misshaped sort (value_in d k)))

count : (p : Part) (d : Data) (k : Key) → Decided (CountFault p d k)
count part.Top d k = of_some (count_of k) _ (λ limits. of_some (list_in d k) _ (λ ds. fails (is_between limits.0 limits.1 (length ds))))
count _ _ _ = never

range : (document : Data) (p : Part) (d : Data) (k : Key) → Decided (RangeFault document p d k)
range document p d k = of_some (range_of document p k) _ (λ limits. of_some (whole_in d k) _ (λ z. either (is_below z limits.0) (is_below limits.1 z)))

some_named : (name : List ℕ) (ds : List Data) → Decided (Any (IsNamed name) ds)
some_named name ds = of_any (IsNamed name) (λ d. is_text (text_in d key.Name) name) ds

wrong_label : (ds : List Data) (n : ℕ) (d : Data) → Decided (IsWrongLabel ds n d)
wrong_label ds n d = of_some (text_in d key.Name) _ (λ name. either (fails (is_label name)) (some_named name (take (n - 1) ds)))

name : (document : Data) (p : Part) (n : ℕ) (d : Data) (k : Key) → Decided (NameFault document p n d k)
name document part.Top n d key.Name = of_some (text_in d key.Name) _ (λ title. fails (is_title title))
name document part.Group n d key.Name = wrong_label (groups_in document) n d
name document part.Lane n d key.Name = wrong_label (lanes_in document) n d
name _ _ _ _ _ = never

unknown_name : (document : Data) (o : Option (List ℕ)) → Decided (IsUnknown document o)
unknown_name document o = of_some o _ (λ name. fails (some_named name (groups_in document)))

unknown : (document : Data) (p : Part) (d : Data) (k : Key) → Decided (UnknownFault document p d k)
unknown document part.Lane d key.Group = unknown_name document (text_in d key.Group)
unknown document part.Conflict d key.A = unknown_name document (text_in d key.A)
unknown document part.Conflict d key.B = unknown_name document (text_in d key.B)
unknown document part.Link d key.Leader = unknown_name document (text_in d key.Leader)
unknown document part.Link d key.Follower = unknown_name document (text_in d key.Follower)
unknown _ _ _ _ = never

one_group : (one other : Key) (d : Data) → Decided (NamesOneGroup one other d)
one_group one other d = of_some (text_in d one) _ (λ name. is_text (text_in d other) name)

self_conflict : (p : Part) (d : Data) (k : Key) → Decided (SelfConflictFault p d k)
self_conflict part.Conflict d key.Whole = one_group key.A key.B d
self_conflict _ _ _ = never

names_groups : (one other : Key) (a b : List ℕ) (d : Data) → Decided (NamesGroups one other a b d)
names_groups one other a b d = either (both (is_text (text_in d one) a) (is_text (text_in d other) b)) (both (is_text (text_in d one) b) (is_text (text_in d other) a))

repeated : (one other : Key) (earlier : List Data) (d : Data) → Decided (IsRepeated one other earlier d)
repeated one other earlier d =
    of_some (text_in d one) _ (λ a. of_some (text_in d other) _ (λ b. of_any (NamesGroups one other a b) (names_groups one other a b) earlier))

twice : (document : Data) (p : Part) (n : ℕ) (d : Data) (k : Key) → Decided (TwiceFault document p n d k)
twice document part.Conflict n d key.Whole = repeated key.A key.B (take (n - 1) (conflicts_in document)) d
twice _ _ _ _ _ = never

lonely : (document : Data) (p : Part) (d : Data) (k : Key) → Decided (LonelyFault document p d k)
lonely document part.Group d key.Whole = of_some (text_in d key.Name) _ (λ name. fails (of_any (Involves name)
    (λ conflict. either (is_text (text_in conflict key.A) name) (is_text (text_in conflict key.B) name)) (conflicts_in document)))
lonely _ _ _ _ = never

has_more : (document : Data) (o : Option (List ℕ)) (k : Key) (w : ℤ) → Decided (HasMore document o k w)
has_more document o k w = of_some o _ (λ name. of_any (λ group. IsNamed name group × IsAbove group k w)
    (λ group. both (is_text (text_in group key.Name) name) (of_some (whole_in group k) _ (λ z. is_below w z))) (groups_in document))

too_short : (document : Data) (from to : Option (List ℕ)) (intergreen : Option ℤ) → Decided (IsTooShort document from to intergreen)
too_short document from to intergreen = of_some intergreen _ (λ w. either (has_more document from key.Amber w) (has_more document to key.RedAmber w))

short_intergreen : (document : Data) (p : Part) (d : Data) (k : Key) → Decided (ShortIntergreenFault document p d k)
short_intergreen document part.Conflict d key.AToB = too_short document (text_in d key.A) (text_in d key.B) (whole_in d key.AToB)
short_intergreen document part.Conflict d key.BToA = too_short document (text_in d key.B) (text_in d key.A) (whole_in d key.BToA)
short_intergreen _ _ _ _ = never

end_gain : (p : Part) (d : Data) (k : Key) → Decided (EndGainFault p d k)
end_gain part.Group d key.EndGain = of_some (whole_in d key.EndGain) _ (λ gain. of_some (whole_in d key.Amber) _ (λ amber. is_below amber gain))
end_gain _ _ _ = never

no_effective : (p : Part) (d : Data) (k : Key) → Decided (NoEffectiveFault p d k)
no_effective part.Group d key.StartLost = of_some (whole_in d key.StartLost) _ (λ lost. of_some (whole_in d key.EndGain) _ (λ gain.
    of_some (whole_in d key.MinGreen) _ (λ green. is_at_most (green +ℤ gain) lost)))
no_effective _ _ _ = never

no_flow : (p : Part) (d : Data) (k : Key) → Decided (NoFlowFault p d k)
no_flow part.Top d key.Lane = of_all (λ lane. whole_in lane key.Arrival ≡ Some (pos 0)) (λ lane. is_whole (whole_in lane key.Arrival) (pos 0)) (lanes_in d)
no_flow _ _ _ = never

max_green : (p : Part) (d : Data) (k : Key) → Decided (MaxGreenFault p d k)
max_green part.Group d key.MaxGreen = of_some (whole_in d key.MaxGreen) _ (λ most. of_some (whole_in d key.MinGreen) _ (λ least. is_below most least))
max_green _ _ _ = never

self_link : (p : Part) (d : Data) (k : Key) → Decided (SelfLinkFault p d k)
self_link part.Link d key.Whole = one_group key.Leader key.Follower d
self_link _ _ _ = never

link_twice : (document : Data) (p : Part) (n : ℕ) (d : Data) (k : Key) → Decided (LinkTwiceFault document p n d k)
link_twice document part.Link n d key.Whole = repeated key.Leader key.Follower (take (n - 1) (links_in document)) d
link_twice _ _ _ _ _ = never

pub is_wrong : (document : Data) (f : Kind) (p : Part) (n : ℕ) (d : Data) (k : Key) → Decided (IsWrong document f p n d k)
is_wrong document kind.NotToml p n d k = never
is_wrong document kind.Version p n d k = version p d k
is_wrong document kind.Shape p n d k = shape (version_of document) p d k
is_wrong document kind.Count p n d k = count p d k
is_wrong document kind.Range p n d k = range document p d k
is_wrong document kind.Name p n d k = name document p n d k
is_wrong document kind.Unknown p n d k = unknown document p d k
is_wrong document kind.SelfConflict p n d k = self_conflict p d k
is_wrong document kind.Twice p n d k = twice document p n d k
is_wrong document kind.Lonely p n d k = lonely document p d k
is_wrong document kind.ShortIntergreen p n d k = short_intergreen document p d k
is_wrong document kind.EndGain p n d k = end_gain p d k
is_wrong document kind.NoEffective p n d k = no_effective p d k
is_wrong document kind.NoFlow p n d k = no_flow p d k
is_wrong document kind.MaxGreen p n d k = max_green p d k
is_wrong document kind.SelfLink p n d k = self_link p d k
is_wrong document kind.LinkTwice p n d k = link_twice document p n d k
