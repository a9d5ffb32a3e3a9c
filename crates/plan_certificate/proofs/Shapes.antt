-- The test of the shape passes exactly where a value holds contents.
use Rattle.std.proofs.Common.{◌≡◌, ◌&&◌, ◌==◌, ℕ, codes, Bool, true, false, List, [], ◌∷◌, map, length, Option, Some, None, refl, ap, sym, subst, ◌∙◌, arith}
use Rattle.std.specs.Cmp.Derive.{both_true}
use Rattle.std.specs.List.{list_all}
use Rattle.std.specs.Option.{option_map_or}
use Rattle.std.proofs.lemmas.Bool.{false≢true, and_parts, eqb-true}
use Rattle.std.proofs.lemmas.List.{length-map}
use Rattle.std.proofs.lemmas.Option.{same_Some}
use Rattle.serde_json.specs.Data.{Data, null, boolean, number, unsigned, negative, float, string, array, object, Members}
use Rattle.serde_json.specs.Events.{members_len}
use Rattle.serde_json.specs.Find.{get_member, as_object}
use Rattle.sig_base.proofs.Option.{some_value}
use Rattle.sig_base.specs.Fraction.{Fraction, over}
use Rattle.plan_model.specs.SignalPlan.{PlanView, plan_with}
use Rattle.constraint_cycles.specs.declared.node.Node.{Node}
use Rattle.constraint_cycles.specs.declared.node.Node.TheVariants.{Split, Closed, Unvisited}
use Rattle.plan_certificate.specs.Contents.{Contents, whole, list, wholes, node_data, tree_data, forest_data, fraction_data, StandsAt, IsPlanObject, IsPlanData, Holds}
use Rattle.plan_certificate.specs.Shape.{whole_of, list_of, is_whole, is_list_of, is_node, is_tree, has, is_plan_of, is_plan, is_text, is_pair, is_certificate_of}
use Rattle.plan_certificate.proofs.Elements.{elements-items_of, list_read, whole_read}

-- ---- a value that passes holds contents

some_or_false : (test : Data → Bool) (o : Option Data) → option_map_or test o false ≡ true → (d : Data) × (o ≡ Some d) × (test d ≡ true)
some_or_false test None h = absurd (false≢true h)
some_or_false test (Some d) h = (d, refl, h)

list_or_false : (test : List Data → Bool) (o : Option (List Data)) → option_map_or test o false ≡ true → (ds : List Data) × (o ≡ Some ds) × (test ds ≡ true)
list_or_false test None h = absurd (false≢true h)
list_or_false test (Some ds) h = (ds, refl, h)

has_member : (key : List ℕ) (test : Data → Bool) (ms : Members) → has key test ms ≡ true → (d : Data) × StandsAt ms key d × (test d ≡ true)
has_member key test ms h = some_or_false test (get_member key ms) h

all_made : {X : Type 0} (write : X → Data) (test : Data → Bool) → ((d : Data) → test d ≡ true → (x : X) × (d ≡ write x)) →
    (ds : List Data) → list_all test ds ≡ true → (xs : List X) × (ds ≡ map write xs)
all_made write test each [] h = ([], refl)
all_made write test each (d ∷ ds) h =
    let parts = and_parts _ _ h in
    let here = each d parts.0 in
    let later = all_made write test each ds parts.1 in
    (here.0 ∷ later.0, ap (λ e. e ∷ ds) here.1 ∙ ap (λ es. write here.0 ∷ es) later.1)

list_made : {X : Type 0} (write : X → Data) (test : Data → Bool) → ((d : Data) → test d ≡ true → (x : X) × (d ≡ write x)) →
    (d : Data) → is_list_of test d ≡ true → (xs : List X) × (d ≡ list (map write xs))
list_made write test each d h =
    let listed = list_or_false (list_all test) (list_of d) h in
    let made = all_made write test each listed.0 listed.2 in
    (made.0, list_read d listed.0 listed.1 ∙ ap list made.1)

whole_made : (d : Data) → is_whole d ≡ true → (n : ℕ) × (d ≡ whole n)
whole_made d h =
    let found = some_value (whole_of d) h in
    (found.0, whole_read d found.0 found.1)

wholes_made : (d : Data) → is_list_of is_whole d ≡ true → (ns : List ℕ) × (d ≡ wholes ns)
wholes_made d h = list_made whole is_whole whole_made d h

closed_made : (d : Data) → is_list_of is_whole d ≡ true → (node : Node) × (d ≡ node_data node)
closed_made d h = let walk = wholes_made d h in (Closed walk.0, walk.1)

node_made : (d : Data) → is_node d ≡ true → (node : Node) × (d ≡ node_data node)
node_made null h = (Unvisited, refl)
node_made (boolean b) h = absurd (false≢true h)
node_made (number (unsigned k)) h = (Split k, refl)
node_made (number (negative z)) h = absurd (false≢true h)
node_made (number (float x)) h = absurd (false≢true h)
node_made (string s) h = absurd (false≢true h)
node_made (array items) h = closed_made (array items) h
node_made (object ms) h = absurd (false≢true h)

tree_made : (d : Data) → is_tree d ≡ true → (nodes : List Node) × (d ≡ tree_data nodes)
tree_made d h = list_made node_data is_node node_made d h

forest_made : (d : Data) → is_list_of is_tree d ≡ true → (trees : List (List Node)) × (d ≡ forest_data trees)
forest_made d h = list_made tree_data is_tree tree_made d h

two_numbers : (ns : List ℕ) → length ns ≡ 2 → (f : Fraction) × (wholes ns ≡ fraction_data f)
two_numbers [] h = absurd (omega (arith, h))
two_numbers (a ∷ []) h = absurd (omega (arith, h))
two_numbers (a ∷ b ∷ []) h = (over a b, refl)
two_numbers (a ∷ b ∷ c ∷ ns) h = absurd (omega (arith, h))

pair_made : (d : Data) → is_pair d ≡ true → (f : Fraction) × (d ≡ fraction_data f)
pair_made d h =
    let listed = list_or_false (λ ds. (length ds == 2) && list_all is_whole ds) (list_of d) h in
    let parts = and_parts _ _ listed.2 in
    let made = all_made whole is_whole whole_made listed.0 parts.1 in
    let two = two_numbers made.0 (sym (length-map made.0 whole) ∙ ap length (sym made.1) ∙ eqb-true (length listed.0) 2 parts.0) in
    (two.0, list_read d listed.0 listed.1 ∙ ap list made.1 ∙ two.1)

text_made : (d : Data) → is_text d ≡ true → (s : List ℕ) × (d ≡ string s)
text_made null h = absurd (false≢true h)
text_made (boolean b) h = absurd (false≢true h)
text_made (number n) h = absurd (false≢true h)
text_made (string s) h = (s, refl)
text_made (array items) h = absurd (false≢true h)
text_made (object ms) h = absurd (false≢true h)

plan_object_made : (ms : Members) → is_plan_of ms ≡ true → (p : PlanView) × IsPlanObject (object ms) p
plan_object_made ms h =
    let third = and_parts _ (has (codes "starts") (is_list_of is_whole) ms) h in
    let second = and_parts _ (has (codes "greens") (is_list_of is_whole) ms) third.0 in
    let first = and_parts (members_len ms == 3) (has (codes "cycle") is_whole ms) second.0 in
    let cycle_here = has_member (codes "cycle") is_whole ms first.1 in
    let greens_here = has_member (codes "greens") (is_list_of is_whole) ms second.1 in
    let starts_here = has_member (codes "starts") (is_list_of is_whole) ms third.1 in
    let c = whole_made cycle_here.0 cycle_here.2 in
    let g = wholes_made greens_here.0 greens_here.2 in
    let s = wholes_made starts_here.0 starts_here.2 in (
      plan_with c.0 s.0 g.0,
      record {
        members = ms;
        object = refl;
        three = eqb-true (members_len ms) 3 first.0;
        cycle = cycle_here.1 ∙ ap Some c.1;
        greens = greens_here.1 ∙ ap Some g.1;
        starts = starts_here.1 ∙ ap Some s.1;
      },
    )

some_plan : (d : Data) → ((p : PlanView) × IsPlanObject d p) → (plan : Option PlanView) × IsPlanData d plan
some_plan d made = (Some made.0, made.1)

plan_made : (d : Data) → is_plan d ≡ true → (plan : Option PlanView) × IsPlanData d plan
plan_made null h = (None, refl)
plan_made (boolean b) h = absurd (false≢true h)
plan_made (number n) h = absurd (false≢true h)
plan_made (string s) h = absurd (false≢true h)
plan_made (array items) h = absurd (false≢true h)
plan_made (object ms) h = some_plan (object ms) (plan_object_made ms h)

pub certificate_made : (ms : Members) → is_certificate_of ms ≡ true → (contents : Contents) × Holds (object ms) contents
certificate_made ms h =
    let sixth = and_parts _ (has (codes "version") is_whole ms) h in
    let fifth = and_parts _ (has (codes "plan") is_plan ms) sixth.0 in
    let fourth = and_parts _ (has (codes "least") is_pair ms) fifth.0 in
    let third = and_parts _ (has (codes "claim") is_text ms) fourth.0 in
    let second = and_parts _ (has (codes "budget") is_whole ms) third.0 in
    let first = and_parts (members_len ms == 6) (has (codes "branches") (is_list_of is_tree) ms) second.0 in
    let branches_here = has_member (codes "branches") (is_list_of is_tree) ms first.1 in
    let budget_here = has_member (codes "budget") is_whole ms second.1 in
    let claim_here = has_member (codes "claim") is_text ms third.1 in
    let least_here = has_member (codes "least") is_pair ms fourth.1 in
    let plan_here = has_member (codes "plan") is_plan ms fifth.1 in
    let version_here = has_member (codes "version") is_whole ms sixth.1 in
    let t = forest_made branches_here.0 branches_here.2 in
    let b = whole_made budget_here.0 budget_here.2 in
    let c = text_made claim_here.0 claim_here.2 in
    let l = pair_made least_here.0 least_here.2 in
    let p = plan_made plan_here.0 plan_here.2 in
    let v = whole_made version_here.0 version_here.2 in (
      record { branches = t.0; budget = b.0; claim = c.0; least = l.0; plan = p.0; version = v.0 },
      record {
        members = ms;
        object = refl;
        six = eqb-true (members_len ms) 6 first.0;
        branches = branches_here.1 ∙ ap Some t.1;
        budget = budget_here.1 ∙ ap Some b.1;
        claim = claim_here.1 ∙ ap Some c.1;
        least = least_here.1 ∙ ap Some l.1;
        plan = (plan_here.0, plan_here.1, p.1);
        version = version_here.1 ∙ ap Some v.1;
      },
    )

-- ---- a value that holds contents passes

has_value : (key : List ℕ) (test : Data → Bool) (ms : Members) (d : Data) → StandsAt ms key d → test d ≡ true → has key test ms ≡ true
has_value key test ms d stands passes = rw stands passes

all_pass : {X : Type 0} (write : X → Data) (test : Data → Bool) → ((x : X) → test (write x) ≡ true) → (xs : List X) → list_all test (map write xs) ≡ true
all_pass write test each [] = refl
all_pass write test each (x ∷ xs) = both_true (each x) (all_pass write test each xs)

list_passes : {X : Type 0} (write : X → Data) (test : Data → Bool) → ((x : X) → test (write x) ≡ true) → (xs : List X) → is_list_of test (list (map write xs)) ≡ true
list_passes write test each xs = rw (elements-items_of (map write xs)) (all_pass write test each xs)

wholes_pass : (ns : List ℕ) → is_list_of is_whole (wholes ns) ≡ true
wholes_pass ns = list_passes whole is_whole (λ n. refl) ns

node_passes : (node : Node) → is_node (node_data node) ≡ true
node_passes (Split item) = refl
node_passes (Closed walk) = wholes_pass walk
node_passes Unvisited = refl

tree_passes : (nodes : List Node) → is_tree (tree_data nodes) ≡ true
tree_passes nodes = list_passes node_data is_node node_passes nodes

forest_passes : (trees : List (List Node)) → is_list_of is_tree (forest_data trees) ≡ true
forest_passes trees = list_passes tree_data is_tree tree_passes trees

object_passes : (ms : Members) (p : PlanView) → members_len ms ≡ 3 → StandsAt ms (codes "cycle") (whole p.cycle) →
    StandsAt ms (codes "greens") (wholes p.greens) → StandsAt ms (codes "starts") (wholes p.starts) → is_plan_of ms ≡ true
object_passes ms p three cycle greens starts =
    both_true (both_true (both_true (rw three refl)
    (has_value (codes "cycle") is_whole ms (whole p.cycle) cycle refl))
    (has_value (codes "greens") (is_list_of is_whole) ms (wholes p.greens) greens (wholes_pass p.greens)))
    (has_value (codes "starts") (is_list_of is_whole) ms (wholes p.starts) starts (wholes_pass p.starts))

plan_passes : (d : Data) (plan : Option PlanView) → IsPlanData d plan → is_plan d ≡ true
plan_passes d None h = rw h refl
plan_passes d (Some p) h = rw h.object (object_passes h.members p h.three h.cycle h.greens h.starts)

holds_passes : (d : Data) (contents : Contents) (h : Holds d contents) → is_certificate_of h.members ≡ true
holds_passes d contents h =
    both_true (both_true (both_true (both_true (both_true (both_true (rw h.six refl)
    (has_value (codes "branches") (is_list_of is_tree) h.members (forest_data contents.branches) h.branches (forest_passes contents.branches)))
    (has_value (codes "budget") is_whole h.members (whole contents.budget) h.budget refl))
    (has_value (codes "claim") is_text h.members (string contents.claim) h.claim refl))
    (has_value (codes "least") is_pair h.members (fraction_data contents.least) h.least refl))
    (has_value (codes "plan") is_plan h.members h.plan.0 h.plan.1 (plan_passes h.plan.0 contents.plan h.plan.2)))
    (has_value (codes "version") is_whole h.members (whole contents.version) h.version refl)

-- the members are those of the object
pub same_members : (d : Data) (contents : Contents) (h : Holds d contents) (ms : Members) → as_object d ≡ Some ms → h.members ≡ ms
same_members d contents h ms found = same_Some h.members ms (ap as_object (sym h.object) ∙ found)

pub certificate_passes : (d : Data) (contents : Contents) (ms : Members) → as_object d ≡ Some ms → Holds d contents → is_certificate_of ms ≡ true
certificate_passes d contents ms found h = subst (λ ms. is_certificate_of ms ≡ true) (same_members d contents h ms found) (holds_passes d contents h)

-- what the test says beside the kinds
pub shape_parts : (ms : Members) → is_certificate_of ms ≡ true → (members_len ms ≡ 6) × (has (codes "plan") is_plan ms ≡ true)
shape_parts ms h =
    let sixth = and_parts _ (has (codes "version") is_whole ms) h in
    let fifth = and_parts _ (has (codes "plan") is_plan ms) sixth.0 in
    let fourth = and_parts _ (has (codes "least") is_pair ms) fifth.0 in
    let third = and_parts _ (has (codes "claim") is_text ms) fourth.0 in
    let second = and_parts _ (has (codes "budget") is_whole ms) third.0 in
    let first = and_parts (members_len ms == 6) (has (codes "branches") (is_list_of is_tree) ms) second.0 in
    (eqb-true (members_len ms) 6 first.0, fifth.1)
