-- The numbers of kinds, parts and keys tell these apart.
use Rattle.std.proofs.Common.{arith, ℕ, ◌<◌, ◌+◌, ◌≡◌, refl, sym, get_or, ◌∙◌, ◌∷◌}
use Rattle.std.proofs.lemmas.List.{get_or-map}
use Rattle.std.proofs.lemmas.List.FromFn.{get_or-range_with_len}
use Rattle.junction_files.specs.FaultOrder.{kind_number, part_number, key_number}
use Rattle.junction_files.specs.FirstFault.{all_kinds, all_parts, all_keys}
use Rattle.junction_files.specs.declared.faults.Kind.{Kind}
use Rattle.junction_files.specs.declared.faults.Part.{Part}
use Rattle.junction_files.specs.declared.faults.Key.{Key}
use Rattle.junction_files.specs.declared.faults.Kind.TheVariants as kind
use Rattle.junction_files.specs.declared.faults.Part.TheVariants as part
use Rattle.junction_files.specs.declared.faults.Key.TheVariants as key

pub part_at : (p : Part) → get_or all_parts (part_number p) part.Top ≡ p
part_at part.Top = refl
part_at part.Group = refl
part_at part.Lane = refl
part_at part.Conflict = refl
part_at part.Link = refl

pub same_part : (p q : Part) → part_number p ≡ part_number q → p ≡ q
same_part p q e = sym (part_at p) ∙ rw e (part_at q)

pub part_number_at : (i : ℕ) → i < 5 → part_number (get_or all_parts i part.Top) ≡ i
part_number_at i below = sym (get_or-map part_number all_parts i part.Top 0 below) ∙ get_or-range_with_len 0 5 i 0 below ∙ omega arith

pub kind_at : (k : Kind) → get_or (kind.NotToml ∷ all_kinds) (kind_number k) kind.NotToml ≡ k
kind_at kind.NotToml = refl
kind_at kind.Version = refl
kind_at kind.Shape = refl
kind_at kind.Count = refl
kind_at kind.Range = refl
kind_at kind.Name = refl
kind_at kind.Unknown = refl
kind_at kind.SelfConflict = refl
kind_at kind.Twice = refl
kind_at kind.Lonely = refl
kind_at kind.ShortIntergreen = refl
kind_at kind.EndGain = refl
kind_at kind.NoEffective = refl
kind_at kind.NoFlow = refl
kind_at kind.MaxGreen = refl
kind_at kind.SelfLink = refl
kind_at kind.LinkTwice = refl

pub same_kind : (k l : Kind) → kind_number k ≡ kind_number l → k ≡ l
same_kind k l e = sym (kind_at k) ∙ rw e (kind_at l)

pub kind_number_at : (i : ℕ) → i < 17 → kind_number (get_or all_kinds i kind.NotToml) ≡ i + 1
kind_number_at i below = sym (get_or-map kind_number all_kinds i kind.NotToml 1 below) ∙ get_or-range_with_len 1 17 i 1 below ∙ omega arith

pub key_at : (k : Key) → get_or all_keys (key_number k) key.Whole ≡ k
key_at key.Whole = refl
key_at key.Version = refl
key_at key.Name = refl
key_at key.LeastCycle = refl
key_at key.GreatestCycle = refl
key_at key.Group = refl
key_at key.Lane = refl
key_at key.Conflict = refl
key_at key.Link = refl
key_at key.MinGreen = refl
key_at key.Amber = refl
key_at key.RedAmber = refl
key_at key.StartLost = refl
key_at key.EndGain = refl
key_at key.MaxGreen = refl
key_at key.Arrival = refl
key_at key.Saturation = refl
key_at key.Limit = refl
key_at key.A = refl
key_at key.B = refl
key_at key.AToB = refl
key_at key.BToA = refl
key_at key.Leader = refl
key_at key.Follower = refl
key_at key.After = refl
key_at key.Other = refl

pub same_key : (k l : Key) → key_number k ≡ key_number l → k ≡ l
same_key k l e = sym (key_at k) ∙ rw e (key_at l)

pub key_number_at : (i : ℕ) → i < 26 → key_number (get_or all_keys i key.Whole) ≡ i
key_number_at i below = sym (get_or-map key_number all_keys i key.Whole 0 below) ∙ get_or-range_with_len 0 26 i 0 below ∙ omega arith
