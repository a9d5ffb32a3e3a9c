-- The shape of a certificate, as the reader tests it, part by part. That the test passes exactly where a value holds contents
-- is proved.
use Rattle.std.specs.Prelude.{ℕ, codes, List, [], ◌∷◌, length, Bool, false, ◌==◌, ◌&&◌, ◌||◌, Option, is_some, option_map, option_and_then}
use Rattle.std.specs.List.{list_all}
use Rattle.std.specs.Option.{option_map_or}
use Rattle.serde_json.specs.Data.{Data, Items, no_items, item, Members}
use Rattle.serde_json.specs.Events.{members_len}
use Rattle.serde_json.specs.Find.{as_null, as_number, as_u64, as_array, as_object, as_str, get_member}

abbrev pub elements : Items → List Data
elements no_items = []
elements (item d ds) = d ∷ elements ds

abbrev pub whole_of : Data → Option ℕ
whole_of d = option_and_then as_u64 (as_number d)

abbrev pub list_of : Data → Option (List Data)
list_of d = option_map elements (as_array d)

abbrev pub is_whole : Data → Bool
is_whole d = is_some (whole_of d)

abbrev pub is_list_of : (Data → Bool) → Data → Bool
is_list_of test d = option_map_or (λ ds. list_all test ds) (list_of d) false

abbrev pub is_node : Data → Bool
is_node d = is_some (as_null d) || is_whole d || is_list_of is_whole d

abbrev pub is_tree : Data → Bool
is_tree d = is_list_of is_node d

-- the member of this key passes a test
abbrev pub has : List ℕ → (Data → Bool) → Members → Bool
has key test ms = option_map_or test (get_member key ms) false

abbrev pub is_plan_of : Members → Bool
is_plan_of ms = (members_len ms == 3)
    && has (codes "cycle") is_whole ms
    && has (codes "greens") (is_list_of is_whole) ms
    && has (codes "starts") (is_list_of is_whole) ms

abbrev pub is_plan : Data → Bool
is_plan d = is_some (as_null d) || option_map_or is_plan_of (as_object d) false

abbrev pub is_text : Data → Bool
is_text d = is_some (as_str d)

-- a list of two whole numbers
abbrev pub is_pair : Data → Bool
is_pair d = option_map_or (λ ds. (length ds == 2) && list_all is_whole ds) (list_of d) false

abbrev pub is_certificate_of : Members → Bool
is_certificate_of ms = (members_len ms == 6)
    && has (codes "branches") (is_list_of is_tree) ms
    && has (codes "budget") is_whole ms
    && has (codes "claim") is_text ms
    && has (codes "least") is_pair ms
    && has (codes "plan") is_plan ms
    && has (codes "version") is_whole ms
