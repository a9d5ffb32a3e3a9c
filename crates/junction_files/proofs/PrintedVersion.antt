-- What it says of a junction that it is printed in the first version.
use Rattle.std.proofs.Common.{ℕ, zero, suc, List, Some, slice_get, ◌≡◌, ◌≤◌, sym, ap, arith, refl, Bool, true, false, [], ◌∷◌, if◌then◌else◌}
use Rattle.std.specs.Prelude.{◌||◌}
use Rattle.std.proofs.lemmas.Bool.{false≢true}
use Rattle.std.proofs.lemmas.Bool.Decides.{nat_tests}
use Rattle.std.proofs.lemmas.Option.{same_Some, none-some}
use Rattle.junction_model.specs.Junction.{JunctionView}
use Rattle.junction_files.specs.Printing.{is_bound, has_elements, printed_version}
use Rattle.junction_model.specs.declared.group.Group.{Group}
use Rattle.std.specs.List.{list_any}
use Rattle.junction_files.specs.declared.document.Version.{Version}
use Rattle.junction_files.specs.declared.document.Version.TheVariants.{First, Second}
use Rattle.junction_files.proofs.PrintedDocument.{link_tables}

neither : (a b : Bool) → (a || b) ≡ false → (a ≡ false) × (b ≡ false)
neither true b e = absurd (false≢true (sym e))
neither false b e = (refl, e)

none_of : {X : Type 0} (p : X → Bool) (xs : List X) → list_any p xs ≡ false → (k : ℕ) (x : X) → slice_get xs k ≡ Some x → p x ≡ false
none_of p [] e k x found = absurd (none-some x found)
none_of p (y ∷ ys) e zero x found = rw (← same_Some y x found) (neither (p y) (list_any p ys) e).0
none_of p (y ∷ ys) e (suc k) x found = none_of p ys (neither (p y) (list_any p ys) e).1 k x found

abbrev is_second : Version → Bool
is_second First = false
is_second Second = true

-- the first version where nothing asks for the second
nothing_asks : (b : Bool) → (if b then Second else First) ≡ First → b ≡ false
nothing_asks true e = ap is_second e
nothing_asks false e = refl

no_elements : {X : Type 0} (xs : List X) → has_elements xs ≡ false → xs ≡ []
no_elements [] e = refl
no_elements (x ∷ xs) e = absurd (false≢true (sym e))

first_version : (j : JunctionView) → printed_version j ≡ First → (list_any is_bound j.groups ≡ false) × (has_elements j.conflicts.links ≡ false)
first_version j e = neither (list_any is_bound j.groups) (has_elements j.conflicts.links) (nothing_asks _ e)

pub first_links : (j : JunctionView) → printed_version j ≡ First → link_tables j ≡ []
first_links j e = rw (no_elements j.conflicts.links (first_version j e).1) refl

pub first_maximum : (j : JunctionView) → printed_version j ≡ First → (k : ℕ) (g : Group) → slice_get j.groups k ≡ Some g → 300 ≤ g.times.max_green
first_maximum j e k g found =
    let unbound = none_of is_bound j.groups (first_version j e).0 k g found in grind (arith, nat_tests)
