-- The text of a certificate is read as the data that it was written for.
use Rattle.std.proofs.Common.{Bool, true, if◌then◌else◌, option_and_then, ◌≡◌, ◌≤◌, ◌<◌, ◌^◌, ◌++◌, ℕ, suc, max, codes, false, List, [], ◌∷◌, map, All, Option, None, Some, IfSome, IsUtf8, option_map, refl, ap, ap₂, sym, subst, ◌∙◌, arith, append-nil}
use Rattle.std.proofs.lemmas.Fmt.{IsAscii-decimal}
use Rattle.std.proofs.lemmas.List.Elements.{All-head, All-tail, All-weaker, All-cons, All-nil}
use Rattle.std.proofs.lemmas.Str.{IsUtf8-append, IsUtf8-from_ascii}
use Rattle.json.specs.Json as json
use Rattle.json.specs.Print.{quoted}
use Rattle.json.specs.Tree as tree
use Rattle.json.specs.Tree.{HasNumbers, ItemsHaveNumbers, MembersHaveNumbers, json_tokens}
use Rattle.json.specs.Token.{Token}
use Rattle.json.specs.Lex.{tokens}
use Rattle.json.proofs.Printed.Decimals.{IsNumber-decimal}
use Rattle.json.proofs.Printed.Tokens.{tokens-print}
use Rattle.json.proofs.Printed.Trees.{ArePrintable-json_tokens, value-json_tokens}
use Rattle.json.proofs.Printed.Utf8.{IsUtf8-are_ascii, IsUtf8-quoted}
use Rattle.serde_json.specs.Data.{Data, null, boolean, number, string, array, object, Items, no_items, item, Members, no_members, member, depth, items_depth, members_depth}
use Rattle.serde_json.specs.Read.{read, max_depth, of_json, of_items, of_members}
use Rattle.serde_json.specs.View.{items_of}
use Rattle.serde_json.specs.Written.{outline, items_outline, members_outline, compact_text, items_text, members_text}
use Rattle.serde_json.proofs.Numbers.{number_of-decimal}
use Rattle.serde_json.proofs.Texts.{print-outline}
use Rattle.plan_model.specs.SignalPlan.{PlanView}
use Rattle.constraint_cycles.specs.declared.node.Node.{Node}
use Rattle.constraint_cycles.specs.declared.node.Node.TheVariants.{Split, Closed, Unvisited}
use Rattle.plan_certificate.specs.Certificate.{CertificateView}
use Rattle.plan_certificate.specs.Contents.{whole, list, wholes, node_data, tree_data, forest_data}
use Rattle.plan_certificate.specs.Ranges.{IsNodeAmong, IsTreeAmong, IsPlanAmong, IsInRange, longest_time}
use Rattle.plan_certificate.specs.Reads.{IsJson}
use Rattle.plan_certificate.specs.Text.{claim_word, plan_members, plan_data, plan_or_null, certificate_members, certificate_data, text_of}
use Rattle.plan_certificate.specs.Version.{version_of, are_of_first}
use Rattle.plan_certificate.specs.declared.claim.Claim.{Claim}
use Rattle.plan_certificate.specs.declared.claim.Claim.TheVariants as claim
use Rattle.plan_certificate.proofs.NoFloat.{shallow}

-- ---- values whose text is read as they are

record IsReadable (d : Data) : Type 0 where
  numbers : HasNumbers (outline d)
  again : of_json (outline d) ≡ Some d
  utf8 : IsUtf8 (compact_text d)

record AreReadable (ds : Items) : Type 0 where
  numbers : ItemsHaveNumbers (items_outline ds)
  again : of_items (items_outline ds) ≡ Some ds
  first : IsUtf8 (items_text false ds)
  later : IsUtf8 (items_text true ds)

whole_readable : (n : ℕ) → n < 2 ^ 64 → IsReadable (whole n)
whole_readable n h = record {
  numbers = IsNumber-decimal n h;
  again = ap (option_map number) (number_of-decimal n h);
  utf8 = IsUtf8-from_ascii _ (IsAscii-decimal n h);
}

null_readable : IsReadable null
null_readable = record { numbers = tt; again = refl; utf8 = IsUtf8-are_ascii _ refl }

comma_then : (text : List ℕ) → IsUtf8 text → IsUtf8 (44 ∷ text)
comma_then text h = IsUtf8-append (44 ∷ []) text (IsUtf8-are_ascii (44 ∷ []) refl) h

items_readable : {X : Type 0} (write : X → Data) (P : X → Type 0) → ((x : X) → P x → IsReadable (write x)) →
    (xs : List X) → All P xs → AreReadable (items_of (map write xs))
items_readable write P each [] h = record {
  numbers = tt;
  again = refl;
  first = IsUtf8-are_ascii (93 ∷ []) refl;
  later = IsUtf8-are_ascii (93 ∷ []) refl;
}
items_readable write P each (x ∷ xs) h =
    let here = each x (All-head P x xs h) in
    let rest = items_readable write P each xs (All-tail P x xs h) in
    let joined = IsUtf8-append (compact_text (write x)) (items_text true (items_of (map write xs))) here.utf8 rest.later in
    record {
      numbers = (here.numbers, rest.numbers);
      again = rw (here.again, rest.again) refl;
      first = joined;
      later = comma_then _ joined;
    }

list_readable : {X : Type 0} (write : X → Data) (P : X → Type 0) → ((x : X) → P x → IsReadable (write x)) →
    (xs : List X) → All P xs → IsReadable (list (map write xs))
list_readable write P each xs h =
    let items = items_readable write P each xs h in
    record {
      numbers = items.numbers;
      again = ap (option_map array) items.again;
      utf8 = IsUtf8-append (91 ∷ []) _ (IsUtf8-are_ascii (91 ∷ []) refl) items.first;
    }

abbrev IsWord : ℕ → Type 0
IsWord n = n < 2 ^ 64

wholes_readable : (ns : List ℕ) → All IsWord ns → IsReadable (wholes ns)
wholes_readable ns h = list_readable whole IsWord whole_readable ns h

-- ---- the parts of a certificate

node_readable : (groups : ℕ) (node : Node) → IsNodeAmong groups node → IsReadable (node_data node)
node_readable groups (Split n) h = whole_readable n (omega (arith, h))
node_readable groups (Closed walk) h = wholes_readable walk (All-weaker (λ g. g < 16) IsWord (λ g less. omega (arith, less)) walk h.0.within)
node_readable groups Unvisited h = null_readable

tree_readable : (groups : ℕ) (nodes : List Node) → IsTreeAmong groups nodes → IsReadable (tree_data nodes)
tree_readable groups nodes h = list_readable node_data (IsNodeAmong groups) (node_readable groups) nodes h

forest_readable : (groups : ℕ) (trees : List (List Node)) → All (IsTreeAmong groups) trees → IsReadable (forest_data trees)
forest_readable groups trees h = list_readable tree_data (IsTreeAmong groups) (tree_readable groups) trees h

times_readable : (seconds : List ℕ) → All (λ s. s ≤ longest_time) seconds → IsReadable (wholes seconds)
times_readable seconds h = wholes_readable seconds (All-weaker (λ s. s ≤ longest_time) IsWord (λ s most. omega (arith, most)) seconds h)

string_readable : (text : List ℕ) → IsUtf8 text → IsReadable (string text)
string_readable text h = record { numbers = tt; again = refl; utf8 = IsUtf8-quoted text h }

claim_readable : (c : Claim) → IsReadable (string (claim_word c))
claim_readable claim.Capacity = string_readable (codes "capacity") (IsUtf8-are_ascii _ refl)
claim_readable claim.Cycle = string_readable (codes "cycle") (IsUtf8-are_ascii _ refl)
claim_readable claim.Infeasible = string_readable (codes "infeasible") (IsUtf8-are_ascii _ refl)
claim_readable claim.Stopped = string_readable (codes "stopped") (IsUtf8-are_ascii _ refl)

-- the members behind a key, which an end or a further member follows
record HaveText (ms : Members) : Type 0 where
  numbers : MembersHaveNumbers (members_outline ms)
  first : IsUtf8 (members_text false ms)
  later : IsUtf8 (members_text true ms)

no_text : HaveText no_members
no_text = record { numbers = tt; first = IsUtf8-are_ascii (125 ∷ []) refl; later = IsUtf8-are_ascii (125 ∷ []) refl }

member_text : (key : List ℕ) (d : Data) (ms : Members) → IsUtf8 (quoted key) → IsReadable d → HaveText ms → HaveText (member key d ms)
member_text key d ms name here rest =
    let value = IsUtf8-append (compact_text d) (members_text true ms) here.utf8 rest.later in
    let after = IsUtf8-append (58 ∷ []) _ (IsUtf8-are_ascii (58 ∷ []) refl) value in
    let joined = IsUtf8-append (quoted key) _ name after in
    record { numbers = (here.numbers, rest.numbers); first = joined; later = comma_then _ joined }

object_readable : (ms : Members) → HaveText ms → of_members (members_outline ms) no_members ≡ Some ms → IsReadable (object ms)
object_readable ms text again = record {
  numbers = text.numbers;
  again = ap (option_map object) again;
  utf8 = IsUtf8-append (123 ∷ []) _ (IsUtf8-are_ascii (123 ∷ []) refl) text.first;
}

plan_readable : (groups : ℕ) (p : PlanView) → IsPlanAmong groups p → IsReadable (plan_data p)
plan_readable groups p h =
    let cycle = whole_readable p.cycle (omega (arith, h.cycle)) in
    let greens = times_readable p.greens h.greens.1 in
    let starts = times_readable p.starts h.starts.1 in
    object_readable (plan_members p)
    (member_text _ _ _ (IsUtf8-quoted (codes "cycle") (IsUtf8-are_ascii _ refl)) cycle
    (member_text _ _ _ (IsUtf8-quoted (codes "greens") (IsUtf8-are_ascii _ refl)) greens
    (member_text _ _ _ (IsUtf8-quoted (codes "starts") (IsUtf8-are_ascii _ refl)) starts no_text)))
    (rw (cycle.again, greens.again, starts.again) refl)

plan_or_null_readable : (groups : ℕ) (plan : Option PlanView) → IfSome plan (IsPlanAmong groups) → IsReadable (plan_or_null plan)
plan_or_null_readable groups None h = null_readable
plan_or_null_readable groups (Some p) h = plan_readable groups p h

word_of_two : (b : Bool) → IsWord (if b then 1 else 2)
word_of_two true = omega arith
word_of_two false = omega arith

version_word : (trees : List (List Node)) → IsWord (version_of trees)
version_word trees = word_of_two (are_of_first trees)

fraction_readable : (num den : ℕ) → IsWord num → IsWord den → IsReadable (wholes (num ∷ den ∷ []))
fraction_readable num den h k = wholes_readable (num ∷ den ∷ []) (All-cons IsWord num (den ∷ []) h (All-cons IsWord den [] k (All-nil IsWord)))

certificate_readable : (groups : ℕ) (c : CertificateView) → IsInRange groups c → IsWord c.budget → IsReadable (certificate_data c)
certificate_readable groups c h word =
    let branches = forest_readable groups c.branches h.trees in
    let budget = whole_readable c.budget word in
    let claim = claim_readable c.claim in
    let least = fraction_readable c.least.num c.least.den (omega (arith, h.least.num)) (omega (arith, h.least.den)) in
    let plan = plan_or_null_readable groups c.plan h.plan in
    let version = whole_readable (version_of c.branches) (version_word c.branches) in
    object_readable (certificate_members c)
    (member_text _ _ _ (IsUtf8-quoted (codes "branches") (IsUtf8-are_ascii _ refl)) branches
    (member_text _ _ _ (IsUtf8-quoted (codes "budget") (IsUtf8-are_ascii _ refl)) budget
    (member_text _ _ _ (IsUtf8-quoted (codes "claim") (IsUtf8-are_ascii _ refl)) claim
    (member_text _ _ _ (IsUtf8-quoted (codes "least") (IsUtf8-are_ascii _ refl)) least
    (member_text _ _ _ (IsUtf8-quoted (codes "plan") (IsUtf8-are_ascii _ refl)) plan
    (member_text _ _ _ (IsUtf8-quoted (codes "version") (IsUtf8-are_ascii _ refl)) version no_text))))))
    (rw (branches.again, budget.again, least.again, plan.again, version.again) refl)

-- ---- the whole text

mutual
  outline_depth : (d : Data) → tree.depth (outline d) ≡ depth d
  outline_depth null = refl
  outline_depth (boolean b) = refl
  outline_depth (number n) = refl
  outline_depth (string s) = refl
  outline_depth (array ds) = ap suc (outline_items_depth ds)
  outline_depth (object ms) = ap suc (outline_members_depth ms)

  outline_items_depth : (ds : Items) → tree.items_depth (items_outline ds) ≡ items_depth ds
  outline_items_depth no_items = refl
  outline_items_depth (item d ds) = ap₂ max (outline_depth d) (outline_items_depth ds)

  outline_members_depth : (ms : Members) → tree.members_depth (members_outline ms) ≡ members_depth ms
  outline_members_depth no_members = refl
  outline_members_depth (member k d ms) = ap₂ max (outline_depth d) (outline_members_depth ms)

abbrev last_value : Option (json.Json × List Token) → Option Data
last_value o = option_and_then of_json (option_and_then (λ p. json.if_last p.0 p.1) o)

readable_text : (d : Data) → IsReadable d → depth d ≤ max_depth → read (compact_text d) ≡ Some d
readable_text d h few =
    let ts = json_tokens (outline d) in
    let within : tree.depth (outline d) ≤ max_depth = subst (λ n. n ≤ max_depth) (sym (outline_depth d)) few in
    let written : tokens (compact_text d) ≡ ts ++ [] =
    ap tokens (sym (print-outline d)) ∙ tokens-print ts (ArePrintable-json_tokens (outline d) h.numbers) ∙ sym (append-nil ts) in
    ap (λ us. last_value (json.value max_depth us)) written ∙ ap last_value (value-json_tokens (outline d) max_depth [] within) ∙ h.again

pub text_is_json : (groups : ℕ) (c : CertificateView) → IsInRange groups c → c.budget < 2 ^ 64 → IsJson (text_of c) (certificate_data c)
unfolding text_of
text_is_json groups c range word =
    let readable = certificate_readable groups c range word in
    record { utf8 = readable.utf8; value = readable_text (certificate_data c) readable (shallow c) }
