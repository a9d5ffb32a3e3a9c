-- Trees are read as they were written, and what is read was written.
use Rattle.std.proofs.Common.{nat_le, ◌≡◌, ◌≤◌, ◌<◌, ◌-◌, ℕ, List, length, map, Some, option_map, option_and_then, All, refl, ap, ◌∙◌, arith, subst}
use Rattle.std.proofs.lemmas.Bool.{le-leb, leb-true, and_parts}
use Rattle.std.proofs.lemmas.List.{length-map}
use Rattle.std.proofs.lemmas.List.Elements.{All-weaker}
use Rattle.std.proofs.lemmas.Option.{option_and_then_some, same_Some, none-some, cond_some}
use Rattle.serde_json.specs.Data.{Data, null, boolean, number, unsigned, negative, float, string, array, object}
use Rattle.constraint_cycles.specs.declared.node.Node.{Node}
use Rattle.constraint_cycles.specs.declared.node.Node.TheVariants.{Split, Closed, Unvisited}
use Rattle.plan_certificate.specs.Contents.{whole, list, node_data, tree_data, forest_data}
use Rattle.plan_certificate.specs.Members.{all_of, within, whole_within, walk_within, walk_of, node_of, tree_of, few_trees, forest_of}
use Rattle.plan_certificate.specs.Ranges.{last_item, most_trees, IsWalkAmong, IsNodeAmong, IsTreeAmong}
use Rattle.plan_certificate.specs.Shape.{list_of, whole_of}
use Rattle.plan_certificate.proofs.ListReading.{all_back, all_read, option_map_some, cond_parts}
use Rattle.plan_certificate.proofs.Elements.{elements-items_of, list_read, whole_read}

abbrev pub IsWithin : ℕ → ℕ → ℕ → Type 0
IsWithin least greatest n = (least ≤ n) × (n ≤ greatest)

pub number_back : (least greatest n : ℕ) → IsWithin least greatest n → whole_within least greatest (whole n) ≡ Some n
number_back least greatest n h = rw (le-leb least n h.0, le-leb n greatest h.1) refl

pub number_read : (least greatest : ℕ) (d : Data) (n : ℕ) → whole_within least greatest d ≡ Some n → (d ≡ whole n) × IsWithin least greatest n
number_read least greatest d n h = option_and_then_some (within least greatest) (whole_of d) n h (λ m found inside.
    let same = cond_some _ m n inside in
    let bounds = and_parts _ _ same.0 in
    (whole_read d n (found ∙ ap Some same.1), subst (IsWithin least greatest) same.1 (leb-true least m bounds.0, leb-true m greatest bounds.1)))

walk_back : (groups : ℕ) → 2 ≤ groups → (walk : List ℕ) → IsWalkAmong groups walk → walk_of groups (map whole walk) ≡ Some walk
walk_back groups low walk h =
    let each : All (IsWithin 0 (groups - 1)) walk = All-weaker (λ g. g < groups) (IsWithin 0 (groups - 1)) (λ g below. (omega arith, omega arith)) walk h.1 in
    rw (
      all_back whole (whole_within 0 (groups - 1)) (IsWithin 0 (groups - 1)) (number_back 0 (groups - 1)) walk each,
      le-leb 1 (length walk) h.0.some,
      le-leb (length walk) 16 h.0.few,
    ) refl

walk_read : (groups : ℕ) → 2 ≤ groups → groups ≤ 16 → (ds : List Data) (walk : List ℕ) → walk_of groups ds ≡ Some walk → (ds ≡ map whole walk) × IsWalkAmong groups walk
walk_read groups low high ds walk h = option_and_then_some walk_within (all_of (whole_within 0 (groups - 1)) ds) walk h (λ found read inside.
    let same = cond_some _ found walk inside in
    let bounds = and_parts _ _ same.0 in
    let some : 1 ≤ length found = leb-true 1 (length found) bounds.0 in
    let few : length found ≤ 16 = leb-true (length found) 16 bounds.1 in
    let numbers = all_read whole (whole_within 0 (groups - 1)) (IsWithin 0 (groups - 1)) (number_read 0 (groups - 1)) ds found read in
    let below : All (λ g. g < groups) found = All-weaker (IsWithin 0 (groups - 1)) (λ g. g < groups) (λ g inside. let most : g ≤ groups - 1 = inside.1 in omega arith) found numbers.1 in
    let small : All (λ g. g < 16) found = All-weaker (λ g. g < groups) (λ g. g < 16) (λ g less. omega arith) found below in
    rw (← same.1) (numbers.0, (record { some = some; few = few; within = small }, below)))

pub node_back : (groups : ℕ) → 2 ≤ groups → (node : Node) → IsNodeAmong groups node → node_of groups (node_data node) ≡ Some node
node_back groups low (Split item) h = ap (option_map Split) (number_back 0 last_item item (omega arith, h))
node_back groups low (Closed walk) h = rw (elements-items_of (map whole walk)) (ap (option_map Closed) (walk_back groups low walk h))
node_back groups low Unvisited h = refl

split_read : (groups k : ℕ) (node : Node) → option_map Split (whole_within 0 last_item (whole k)) ≡ Some node → (whole k ≡ node_data node) × IsNodeAmong groups node
split_read groups k node h =
    let found = option_map_some Split (whole_within 0 last_item (whole k)) node h in
    let item = number_read 0 last_item (whole k) found.0 found.1 in
    rw (← found.2) (item.0, item.1.1)

closed_read : (groups : ℕ) → 2 ≤ groups → groups ≤ 16 → (d : Data) (node : Node) →
    option_map Closed (option_and_then (walk_of groups) (list_of d)) ≡ Some node → (d ≡ node_data node) × IsNodeAmong groups node
closed_read groups low high d node h =
    let found = option_map_some Closed (option_and_then (walk_of groups) (list_of d)) node h in
    option_and_then_some (walk_of groups) (list_of d) found.0 found.1 (λ ds listed walked.
    let walk = walk_read groups low high ds found.0 walked in
    rw (← found.2) (list_read d ds listed ∙ ap list walk.0, walk.1))

pub node_read : (groups : ℕ) → 2 ≤ groups → groups ≤ 16 → (d : Data) (node : Node) → node_of groups d ≡ Some node → (d ≡ node_data node) × IsNodeAmong groups node
node_read groups low high null node h = rw (← same_Some Unvisited node h) (refl, tt)
node_read groups low high (boolean b) node h = absurd (none-some node h)
node_read groups low high (number (unsigned k)) node h = split_read groups k node h
node_read groups low high (number (negative z)) node h = absurd (none-some node h)
node_read groups low high (number (float x)) node h = absurd (none-some node h)
node_read groups low high (string s) node h = absurd (none-some node h)
node_read groups low high (array items) node h = closed_read groups low high (array items) node h
node_read groups low high (object ms) node h = absurd (none-some node h)

tree_back : (groups : ℕ) → 2 ≤ groups → (nodes : List Node) → IsTreeAmong groups nodes → tree_of groups (tree_data nodes) ≡ Some nodes
tree_back groups low nodes h = rw (elements-items_of (map node_data nodes)) (all_back node_data (node_of groups) (IsNodeAmong groups) (node_back groups low) nodes h)

tree_read : (groups : ℕ) → 2 ≤ groups → groups ≤ 16 → (d : Data) (nodes : List Node) → tree_of groups d ≡ Some nodes → (d ≡ tree_data nodes) × IsTreeAmong groups nodes
tree_read groups low high d nodes h = option_and_then_some (all_of (node_of groups)) (list_of d) nodes h (λ ds listed read.
    let found = all_read node_data (node_of groups) (IsNodeAmong groups) (node_read groups low high) ds nodes read in
    (list_read d ds listed ∙ ap list found.0, found.1))

abbrev pub AreTreesAmong : ℕ → List (List Node) → Type 0
AreTreesAmong groups trees = (length trees ≤ most_trees) × All (IsTreeAmong groups) trees

pub forest_back : (groups : ℕ) → 2 ≤ groups → (trees : List (List Node)) → AreTreesAmong groups trees → forest_of groups (forest_data trees) ≡ Some trees
forest_back groups low trees h =
    rw (elements-items_of (map tree_data trees), length-map trees tree_data, le-leb (length trees) most_trees h.0)
    (all_back tree_data (tree_of groups) (IsTreeAmong groups) (tree_back groups low) trees h.1)

few_read : (groups : ℕ) → 2 ≤ groups → groups ≤ 16 → (ds : List Data) (trees : List (List Node)) → few_trees groups ds ≡ Some trees →
    (ds ≡ map tree_data trees) × AreTreesAmong groups trees
few_read groups low high ds trees h =
    let few = cond_parts (nat_le (length ds) most_trees) (all_of (tree_of groups) ds) trees h in
    let found = all_read tree_data (tree_of groups) (IsTreeAmong groups) (tree_read groups low high) ds trees few.1 in
    let bound : length ds ≤ most_trees = leb-true (length ds) most_trees few.0 in
    (found.0, (subst (λ n. n ≤ most_trees) (ap length found.0 ∙ length-map trees tree_data) bound, found.1))

pub forest_read : (groups : ℕ) → 2 ≤ groups → groups ≤ 16 → (d : Data) (trees : List (List Node)) → forest_of groups d ≡ Some trees →
    (d ≡ forest_data trees) × AreTreesAmong groups trees
forest_read groups low high d trees h = option_and_then_some (few_trees groups) (list_of d) trees h (λ ds listed read.
    let found = few_read groups low high ds trees read in
    (list_read d ds listed ∙ ap list found.0, found.1))
