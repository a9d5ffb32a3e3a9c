-- Lists and whole numbers of a JSON value.
use Rattle.std.proofs.Common.{◌≡◌, ℕ, List, [], ◌∷◌, map, Option, Some, None, option_map, Vec, Global, Bor, refl, ap, sym, ◌∙◌}
use Rattle.std.proofs.lemmas.Option.{same_Some, none-some}
use Rattle.serde_json.specs.Data.{Data, null, boolean, number, unsigned, negative, float, string, array, object, Items, no_items, item}
use Rattle.serde_json.specs.View.{items_of, items_view, view}
use Rattle.serde_json.specs.declared.value.Value.{Value}
use Rattle.plan_certificate.specs.Contents.{whole, list}
use Rattle.plan_certificate.specs.Shape.{elements, whole_of, list_of}

pub elements-items_of : (ds : List Data) → elements (items_of ds) ≡ ds
elements-items_of [] = refl
elements-items_of (d ∷ ds) = ap (λ es. d ∷ es) (elements-items_of ds)

items_of-elements : (items : Items) → items_of (elements items) ≡ items
items_of-elements no_items = refl
items_of-elements (item d ds) = ap (item d) (items_of-elements ds)

pub elements_behind : (r : Option (Bor (Vec Value Global))) (o : Option Items) →
    option_map (λ a. items_view a.now.items) r ≡ o → option_map (λ a. map view a.now.items) r ≡ option_map elements o
elements_behind None o e = rw (← e) refl
elements_behind (Some a) o e = rw (← e, elements-items_of) refl

pub list_read : (d : Data) (ds : List Data) → list_of d ≡ Some ds → d ≡ list ds
list_read null ds h = absurd (none-some ds h)
list_read (boolean b) ds h = absurd (none-some ds h)
list_read (number n) ds h = absurd (none-some ds h)
list_read (string s) ds h = absurd (none-some ds h)
list_read (array items) ds h = ap array (sym (items_of-elements items)) ∙ ap list (same_Some (elements items) ds h)
list_read (object ms) ds h = absurd (none-some ds h)

pub whole_read : (d : Data) (n : ℕ) → whole_of d ≡ Some n → d ≡ whole n
whole_read null n h = absurd (none-some n h)
whole_read (boolean b) n h = absurd (none-some n h)
whole_read (number (unsigned k)) n h = ap whole (same_Some k n h)
whole_read (number (negative z)) n h = absurd (none-some n h)
whole_read (number (float x)) n h = absurd (none-some n h)
whole_read (string s) n h = absurd (none-some n h)
whole_read (array items) n h = absurd (none-some n h)
whole_read (object ms) n h = absurd (none-some n h)
