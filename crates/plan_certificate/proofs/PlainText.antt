-- The text of a certificate has no control byte, and so no line feed.
use Rattle.std.proofs.Common.{Bool, true, false, codes, ◌≡◌, ◌≤◌, ◌/◌, ◌%◌, ◌==◌, ◌++◌, ℕ, zero, suc, List, [], ◌∷◌, map, nat_lt, All, Option, None, Some, refl, arith}
use Rattle.std.proofs.Math.Dec.{leb}
use Rattle.std.proofs.lemmas.Bool.{leb-true}
use Rattle.std.proofs.lemmas.List.Elements.{All-nil, All-cons, All-append, All-weaker}
use Rattle.std.proofs.lemmas.List.Sums.{AllPass-from_list_all}
use Rattle.std.specs.Fmt.{digit_glyph, digits_onto, digits}
use Rattle.std.specs.List.{list_all}
use Rattle.json.specs.Print.{escape_byte, quoted}
use Rattle.serde_json.specs.Data.{Data, string, Members, member, no_members}
use Rattle.serde_json.specs.View.{items_of}
use Rattle.serde_json.specs.Written.{compact_text, comma_if, items_text, members_text}
use Rattle.constraint_cycles.specs.declared.node.Node.{Node}
use Rattle.constraint_cycles.specs.declared.node.Node.TheVariants.{Split, Closed, Unvisited}
use Rattle.plan_model.specs.SignalPlan.{PlanView}
use Rattle.plan_certificate.specs.Certificate.{CertificateView}
use Rattle.plan_certificate.specs.Contents.{whole, list, wholes, node_data, tree_data, forest_data}
use Rattle.plan_certificate.specs.Text.{claim_word, plan_or_null, text_of}
use Rattle.plan_certificate.specs.Version.{version_of}
use Rattle.plan_certificate.specs.declared.claim.Claim.{Claim}
use Rattle.plan_certificate.specs.declared.claim.Claim.TheVariants as claim

abbrev pub IsPlain : List ℕ → Type 0
IsPlain bytes = All (λ b. 32 ≤ b) bytes

-- by a test of each byte
tested : (bytes : List ℕ) → list_all (leb 32) bytes ≡ true → IsPlain bytes
tested bytes is = All-weaker (λ b. leb 32 b ≡ true) (λ b. 32 ≤ b) (λ b. leb-true 32 b) bytes (AllPass-from_list_all (leb 32) bytes is)

joined : (xs ys : List ℕ) → IsPlain xs → IsPlain ys → IsPlain (xs ++ ys)
joined = All-append (λ b. 32 ≤ b)

with_byte : (b : ℕ) (bytes : List ℕ) → 32 ≤ b → IsPlain bytes → IsPlain (b ∷ bytes)
with_byte = All-cons (λ b. 32 ≤ b)

-- ---- numbers

glyph : (d : ℕ) (short : Bool) → nat_lt d 10 ≡ short → 32 ≤ digit_glyph false d
glyph d true is = rw is (omega arith)
glyph d false is = rw is (omega arith)

more_digits : (k n : ℕ) (bytes : List ℕ) → IsPlain (digit_glyph false (n % 10) ∷ bytes) → IsPlain (digits_onto k 10 false (n / 10) (digit_glyph false (n % 10) ∷ bytes)) →
    (last : Bool) → (n / 10 == 0) ≡ last → IsPlain (digits_onto (suc k) 10 false n bytes)
more_digits k n bytes here more true is = rw is here
more_digits k n bytes here more false is = rw is more

onto : (k n : ℕ) (bytes : List ℕ) → IsPlain bytes → IsPlain (digits_onto k 10 false n bytes)
onto zero n bytes plain = plain
onto (suc k) n bytes plain =
    let here = with_byte (digit_glyph false (n % 10)) bytes (glyph (n % 10) _ refl) plain in
    more_digits k n bytes here (onto k (n / 10) (digit_glyph false (n % 10) ∷ bytes) here) _ refl

whole_plain : (n : ℕ) → IsPlain (compact_text (whole n))
unfolding digits
whole_plain n = onto 64 n [] (All-nil (λ b. 32 ≤ b))

-- ---- lists and members

comma : (later : Bool) → IsPlain (comma_if later)
comma true = tested (44 ∷ []) refl
comma false = All-nil (λ b. 32 ≤ b)

items : {X : Type 0} (f : X → Data) → ((x : X) → IsPlain (compact_text (f x))) → (later : Bool) (xs : List X) → IsPlain (items_text later (items_of (map f xs)))
items f each later [] = tested (93 ∷ []) refl
items f each later (x ∷ xs) = joined (comma_if later) _ (comma later) (joined (compact_text (f x)) _ (each x) (items f each true xs))

listed : {X : Type 0} (f : X → Data) → ((x : X) → IsPlain (compact_text (f x))) → (xs : List X) → IsPlain (compact_text (list (map f xs)))
listed f each xs = with_byte 91 _ (omega arith) (items f each false xs)

one_more : (later : Bool) (key : List ℕ) (d : Data) (rest : Members) → IsPlain (quoted key) → IsPlain (compact_text d) → IsPlain (members_text true rest) →
    IsPlain (members_text later (member key d rest))
one_more later key d rest of_key of_value more =
    joined (comma_if later) _ (comma later) (joined (quoted key) _ of_key (with_byte 58 _ (omega arith) (joined (compact_text d) _ of_value more)))

-- ---- the parts of a certificate

node_plain : (node : Node) → IsPlain (compact_text (node_data node))
node_plain (Split item) = whole_plain item
node_plain (Closed walk) = listed whole whole_plain walk
node_plain Unvisited = tested (codes "null") refl

claim_plain : (own : Claim) → IsPlain (quoted (claim_word own))
unfolding escape_byte
claim_plain claim.Capacity = tested (quoted (codes "capacity")) refl
claim_plain claim.Cycle = tested (quoted (codes "cycle")) refl
claim_plain claim.Infeasible = tested (quoted (codes "infeasible")) refl
claim_plain claim.Stopped = tested (quoted (codes "stopped")) refl

plan_plain : (plan : Option PlanView) → IsPlain (compact_text (plan_or_null plan))
unfolding escape_byte
plan_plain None = tested (codes "null") refl
plan_plain (Some p) =
    let starts : Members = member (codes "starts") (wholes p.starts) no_members in
    let greens : Members = member (codes "greens") (wholes p.greens) starts in
    with_byte 123 (members_text false (member (codes "cycle") (whole p.cycle) greens)) (omega arith)
    (one_more false (codes "cycle") (whole p.cycle) greens (tested (quoted (codes "cycle")) refl) (whole_plain p.cycle)
    (one_more true (codes "greens") (wholes p.greens) starts (tested (quoted (codes "greens")) refl) (listed whole whole_plain p.greens)
    (one_more true (codes "starts") (wholes p.starts) no_members (tested (quoted (codes "starts")) refl) (listed whole whole_plain p.starts)
    (tested (125 ∷ []) refl))))

pub text_is_plain : (c : CertificateView) → IsPlain (text_of c)
unfolding escape_byte text_of
text_is_plain c =
    let pair = c.least.num ∷ c.least.den ∷ [] in
    let version : Members = member (codes "version") (whole (version_of c.branches)) no_members in
    let plan : Members = member (codes "plan") (plan_or_null c.plan) version in
    let least : Members = member (codes "least") (wholes pair) plan in
    let own : Members = member (codes "claim") (string (claim_word c.claim)) least in
    let budget : Members = member (codes "budget") (whole c.budget) own in
    with_byte 123 (members_text false (member (codes "branches") (forest_data c.branches) budget)) (omega arith)
    (one_more false (codes "branches") (forest_data c.branches) budget (tested (quoted (codes "branches")) refl) (listed tree_data (listed node_data node_plain) c.branches)
    (one_more true (codes "budget") (whole c.budget) own (tested (quoted (codes "budget")) refl) (whole_plain c.budget)
    (one_more true (codes "claim") (string (claim_word c.claim)) least (tested (quoted (codes "claim")) refl) (claim_plain c.claim)
    (one_more true (codes "least") (wholes pair) plan (tested (quoted (codes "least")) refl) (listed whole whole_plain pair)
    (one_more true (codes "plan") (plan_or_null c.plan) version (tested (quoted (codes "plan")) refl) (plan_plain c.plan)
    (one_more true (codes "version") (whole (version_of c.branches)) no_members (tested (quoted (codes "version")) refl) (whole_plain (version_of c.branches))
    (tested (125 ∷ []) refl)))))))
