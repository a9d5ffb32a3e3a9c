-- The members of an object give a certificate exactly where the object is that certificate's.
use Rattle.std.proofs.Common.{◌≡◌, ◌≤◌, ℕ, codes, bytes_eq, Bool, true, false, List, [], ◌∷◌, Option, Some, None, Result, Ok, Err, IfOk, IfErr, IfSome, if◌then◌else◌, option_map, option_and_then, inl, inr, ◌⊎◌, refl, ap, sym, subst, ◌∙◌}
use Rattle.std.proofs.lemmas.Bool.{false≢true, le-leb, leb-true, and_parts, or_cases, eqb-true}
use Rattle.std.proofs.lemmas.Option.{option_and_then_some, same_Some, none-some, cond_some}
use Rattle.std.proofs.lemmas.Slice.Eq.{bytes_eq-Decides}
use Rattle.serde_json.specs.Data.{Data, null, boolean, number, string, array, object, Members}
use Rattle.serde_json.specs.Find.{get_member, as_str, as_object}
use Rattle.constraint_cycles.specs.declared.node.Node.{Node}
use Rattle.sig_base.specs.Fraction.{Fraction, over}
use Rattle.plan_model.specs.SignalPlan.{PlanView}
use Rattle.plan_certificate.specs.Certificate.{CertificateView, certificate_of}
use Rattle.plan_certificate.specs.declared.certificate.Certificate.{Certificate}
use Rattle.plan_certificate.specs.declared.fault.CertificateFault.{CertificateFault}
use Rattle.plan_certificate.specs.declared.fault.CertificateFault.TheVariants as fault
use Rattle.plan_certificate.specs.Contents.{whole, list, forest_data, fraction_data, StandsAt, IsPlanData}
use Rattle.plan_certificate.specs.Members.{at_least_one, whole_under, budget_under, claim_of, claim_under, forest_of, forest_under, of_version, branches_under, plan_of_value, plan_or_null_under, fraction_of_two, fraction_under, IsLeastUnder, certificate_with, certificate_beside, IsCertificateUnder, IsGiven}
use Rattle.plan_certificate.specs.Ranges.{IsPlanAmong}
use Rattle.plan_certificate.specs.Reads.{IsCertificate, IsMisshapen, IsOutOfRange, IsFaultOf, GivesBack}
use Rattle.plan_certificate.specs.Shape.{list_of, whole_of, has, is_plan, is_certificate_of}
use Rattle.plan_certificate.specs.Text.{claim_word, contents_of}
use Rattle.plan_certificate.specs.Version.{IsVersionOf}
use Rattle.plan_certificate.specs.declared.claim.Claim.{Claim}
use Rattle.plan_certificate.specs.declared.claim.Claim.TheVariants as claim
use Rattle.plan_certificate.proofs.ListReading.{option_map_some}
use Rattle.plan_certificate.proofs.Elements.{list_read, whole_read}
use Rattle.plan_certificate.proofs.Plans.{value_back, value_read}
use Rattle.plan_certificate.proofs.Shapes.{same_members, shape_parts, certificate_made, certificate_passes}
use Rattle.plan_certificate.proofs.Trees.{AreTreesAmong, forest_back, forest_read}

-- ---- the object of a certificate gives it

budget_back : (ms : Members) (n : ℕ) → StandsAt ms (codes "budget") (whole n) → 1 ≤ n → budget_under ms ≡ Some n
budget_back ms n stands some = rw (stands, le-leb 1 n some) refl

claim_back : (ms : Members) (c : Claim) → StandsAt ms (codes "claim") (string (claim_word c)) → claim_under ms ≡ Some c
claim_back ms claim.Capacity stands = rw stands refl
claim_back ms claim.Cycle stands = rw stands refl
claim_back ms claim.Infeasible stands = rw stands refl
claim_back ms claim.Stopped stands = rw stands refl

least_back : (ms : Members) (f : Fraction) → StandsAt ms (codes "least") (fraction_data f) → fraction_under ms ≡ Some f
least_back ms f stands = rw stands refl

plan_back : (groups : ℕ) (ms : Members) (d : Data) (plan : Option PlanView) → StandsAt ms (codes "plan") d → IsPlanData d plan →
    IfSome plan (IsPlanAmong groups) → plan_or_null_under groups ms ≡ Some plan
plan_back groups ms d plan stands held range = rw stands (value_back groups d plan held range)

version_back : (trees : List (List Node)) (version : ℕ) → IsVersionOf trees version → of_version trees version ≡ Some trees
version_back trees version (inl first) = rw (first.0, first.1) refl
version_back trees version (inr second) = rw second refl

branches_back : (groups : ℕ) → 2 ≤ groups → (ms : Members) (trees : List (List Node)) (version : ℕ) → StandsAt ms (codes "branches") (forest_data trees) →
    StandsAt ms (codes "version") (whole version) → AreTreesAmong groups trees → IsVersionOf trees version → branches_under groups ms ≡ Some trees
branches_back groups low ms trees version stands version_stands range allowed =
    let forest : forest_under groups ms ≡ Some trees = rw stands (forest_back groups low trees range) in
    let number : whole_under (codes "version") ms ≡ Some version = rw version_stands refl in
    rw (forest, number) (version_back trees version allowed)

beside_back : (groups : ℕ) (ms : Members) (c : CertificateView) → budget_under ms ≡ Some c.budget → claim_under ms ≡ Some c.claim →
    plan_or_null_under groups ms ≡ Some c.plan → branches_under groups ms ≡ Some c.branches → certificate_beside groups c.least ms ≡ Some c
beside_back groups ms c budget claim plan branches = rw (budget, claim, plan, branches) refl

under_back : (groups : ℕ) → 2 ≤ groups → (d : Data) (c : CertificateView) (h : IsCertificate groups d c) → IsCertificateUnder groups h.contents.members c
under_back groups low d c h =
    let held = h.contents in
    record {
      least = record { stands = least_back held.members c.least held.least; range = h.range.least };
      beside = beside_back groups held.members c
          (budget_back held.members c.budget held.budget h.range.budget)
          (claim_back held.members c.claim held.claim)
          (plan_back groups held.members held.plan.0 c.plan held.plan.1 held.plan.2 h.range.plan)
          (branches_back groups low held.members c.branches h.version held.branches held.version (h.range.few, h.range.trees) h.allowed);
    }

pub certificate_back : (groups : ℕ) → 2 ≤ groups → (d : Data) (ms : Members) (c : CertificateView) → as_object d ≡ Some ms →
    IsCertificate groups d c → IsCertificateUnder groups ms c
certificate_back groups low d ms c found h = subst (λ ms. IsCertificateUnder groups ms c) (same_members d _ h.contents ms found) (under_back groups low d c h)

-- ---- what an object gives is the certificate of the object

budget_read : (ms : Members) (n : ℕ) → budget_under ms ≡ Some n → StandsAt ms (codes "budget") (whole n) × (1 ≤ n)
budget_read ms n h =
    option_and_then_some at_least_one (whole_under (codes "budget") ms) n h (λ m found some.
    option_and_then_some whole_of (get_member (codes "budget") ms) m found (λ d stands number.
    let same = cond_some _ m n some in
    rw (← same.1) (stands ∙ ap Some (whole_read d m number), leb-true 1 m same.0)))

string_read : (d : Data) (text : List ℕ) → as_str d ≡ Some text → d ≡ string text
string_read null text h = absurd (none-some text h)
string_read (boolean b) text h = absurd (none-some text h)
string_read (number n) text h = absurd (none-some text h)
string_read (string s) text h = ap string (same_Some s text h)
string_read (array items) text h = absurd (none-some text h)
string_read (object ms) text h = absurd (none-some text h)

-- the word of the first test that passes
word_or : (b : Bool) (first c : Claim) (rest : Option Claim) → (if b then Some first else rest) ≡ Some c → ((b ≡ true) × (first ≡ c)) ⊎ (rest ≡ Some c)
word_or true first c rest h = inl (refl, same_Some first c h)
word_or false first c rest h = inr h

word_read : (text : List ℕ) (first c : Claim) → (bytes_eq text (claim_word first) ≡ true) × (first ≡ c) → text ≡ claim_word c
word_read text first c h = (bytes_eq-Decides text (claim_word first)).0 h.0 ∙ ap claim_word h.1

claim_of_read : (text : List ℕ) (c : Claim) → claim_of text ≡ Some c → text ≡ claim_word c
claim_of_read text c h =
    let fourth : Option Claim = (if bytes_eq text (codes "stopped") then Some claim.Stopped else None) in
    let third : Option Claim = (if bytes_eq text (codes "infeasible") then Some claim.Infeasible else fourth) in
    let second : Option Claim = (if bytes_eq text (codes "cycle") then Some claim.Cycle else third) in
    elim (word_or (bytes_eq text (codes "capacity")) claim.Capacity c second h) [
      | inl is ↦ word_read text claim.Capacity c is
      | inr h ↦ elim (word_or (bytes_eq text (codes "cycle")) claim.Cycle c third h) [
        | inl is ↦ word_read text claim.Cycle c is
        | inr h ↦ elim (word_or (bytes_eq text (codes "infeasible")) claim.Infeasible c fourth h) [
          | inl is ↦ word_read text claim.Infeasible c is
          | inr h ↦ word_read text claim.Stopped c (cond_some (bytes_eq text (codes "stopped")) claim.Stopped c h)
        ]
      ]
    ]

claim_read : (ms : Members) (c : Claim) → claim_under ms ≡ Some c → StandsAt ms (codes "claim") (string (claim_word c))
claim_read ms c h =
    option_and_then_some claim_of (option_and_then as_str (get_member (codes "claim") ms)) c h (λ text found word.
    option_and_then_some as_str (get_member (codes "claim") ms) text found (λ d stands is_text.
    stands ∙ ap Some (string_read d text is_text ∙ ap string (claim_of_read text c word))))

two_read : (ds : List Data) (f : Fraction) → fraction_of_two ds ≡ Some f → list ds ≡ fraction_data f
two_read [] f h = absurd (none-some f h)
two_read (a ∷ []) f h = absurd (none-some f h)
two_read (a ∷ b ∷ []) f h =
    option_and_then_some (λ num. option_map (over num) (whole_of b)) (whole_of a) f h (λ num is_num rest.
    let den = option_map_some (over num) (whole_of b) f rest in
    ap (λ d. list (d ∷ b ∷ [])) (whole_read a num is_num) ∙ ap (λ d. list (whole num ∷ d ∷ [])) (whole_read b den.0 den.1) ∙ ap fraction_data den.2)
two_read (a ∷ b ∷ c ∷ ds) f h = absurd (none-some f h)

least_read : (ms : Members) (f : Fraction) → fraction_under ms ≡ Some f → StandsAt ms (codes "least") (fraction_data f)
least_read ms f h =
    option_and_then_some fraction_of_two (option_and_then list_of (get_member (codes "least") ms)) f h (λ ds found two.
    option_and_then_some list_of (get_member (codes "least") ms) ds found (λ d stands listed.
    stands ∙ ap Some (list_read d ds listed ∙ two_read ds f two)))

record IsPlanHeld (groups : ℕ) (ms : Members) (plan : Option PlanView) : Type 0 where
  held : (d : Data) × StandsAt ms (codes "plan") d × IsPlanData d plan
  range : IfSome plan (IsPlanAmong groups)

plan_read : (groups : ℕ) (ms : Members) (plan : Option PlanView) → has (codes "plan") is_plan ms ≡ true → plan_or_null_under groups ms ≡ Some plan →
    IsPlanHeld groups ms plan
plan_read groups ms plan shape h =
    option_and_then_some (plan_of_value groups) (get_member (codes "plan") ms) plan h (λ d stands read.
    let found = value_read groups d plan (rw stands at shape) read in
    record { held = (d, stands, found.0); range = found.1 })

version_read : (trees branches : List (List Node)) (version : ℕ) → of_version trees version ≡ Some branches → IsVersionOf trees version × (trees ≡ branches)
version_read trees branches version h =
    let same = cond_some _ trees branches h in (
      elim (or_cases _ _ same.0) [
        | inl second ↦ inr (eqb-true version 2 second)
        | inr first ↦ let parts = and_parts _ _ first in inl (eqb-true version 1 parts.0, parts.1)
      ],
      same.1,
    )

record AreBranchesHeld (groups : ℕ) (ms : Members) (trees : List (List Node)) : Type 0 where
  version : ℕ
  branches_stand : StandsAt ms (codes "branches") (forest_data trees)
  version_stands : StandsAt ms (codes "version") (whole version)
  range : AreTreesAmong groups trees
  allowed : IsVersionOf trees version

branches_read : (groups : ℕ) → 2 ≤ groups → groups ≤ 16 → (ms : Members) (branches : List (List Node)) → branches_under groups ms ≡ Some branches →
    AreBranchesHeld groups ms branches
branches_read groups low high ms branches h =
    option_and_then_some (λ trees. option_and_then (of_version trees) (whole_under (codes "version") ms)) (forest_under groups ms) branches h (λ trees trees_found rest.
    option_and_then_some (of_version trees) (whole_under (codes "version") ms) branches rest (λ version version_found allowed.
    option_and_then_some (forest_of groups) (get_member (codes "branches") ms) trees trees_found (λ d stands read.
    option_and_then_some whole_of (get_member (codes "version") ms) version version_found (λ e version_stands is_number.
    let forest = forest_read groups low high d trees read in
    let same = version_read trees branches version allowed in
    rw (← same.1) (record {
      version = version;
      branches_stand = stands ∙ ap Some forest.0;
      version_stands = version_stands ∙ ap Some (whole_read e version is_number);
      range = forest.1;
      allowed = same.0;
    })))))

beside_read : (groups : ℕ) → 2 ≤ groups → groups ≤ 16 → (ms : Members) (least : Fraction) (c : CertificateView) → is_certificate_of ms ≡ true →
    IsLeastUnder ms least → certificate_beside groups least ms ≡ Some c → IsCertificate groups (object ms) c
beside_read groups low high ms least c shape is_least h =
    option_and_then_some _ (budget_under ms) c h (λ budget budget_found h.
    option_and_then_some _ (claim_under ms) c h (λ claim claim_found h.
    option_and_then_some _ (plan_or_null_under groups ms) c h (λ plan plan_found h.
    let made = option_map_some (certificate_with budget claim least plan) (branches_under groups ms) c h in
    let kind = shape_parts ms shape in
    let b = budget_read ms budget budget_found in
    let p = plan_read groups ms plan kind.1 plan_found in
    let t = branches_read groups low high ms made.0 made.1 in
    rw (← made.2) (record {
      version = t.version;
      contents = record {
        members = ms;
        object = refl;
        six = kind.0;
        branches = t.branches_stand;
        budget = b.0;
        claim = claim_read ms claim claim_found;
        least = least_read ms least is_least.stands;
        plan = p.held;
        version = t.version_stands;
      };
      allowed = t.allowed;
      range = record { few = t.range.0; trees = t.range.1; budget = b.1; least = is_least.range; plan = p.range };
    }))))

object_back : (d : Data) (ms : Members) → as_object d ≡ Some ms → d ≡ object ms
object_back null ms h = absurd (none-some ms h)
object_back (boolean b) ms h = absurd (none-some ms h)
object_back (number n) ms h = absurd (none-some ms h)
object_back (string s) ms h = absurd (none-some ms h)
object_back (array items) ms h = absurd (none-some ms h)
object_back (object members) ms h = ap object (same_Some members ms h)

pub certificate_read : (groups : ℕ) → 2 ≤ groups → groups ≤ 16 → (d : Data) (ms : Members) (c : CertificateView) → as_object d ≡ Some ms →
    is_certificate_of ms ≡ true → IsCertificateUnder groups ms c → IsCertificate groups d c
certificate_read groups low high d ms c found shape h =
    rw (object_back d ms found) (beside_read groups low high ms c.least c shape h.least h.beside)

-- a value is one certificate's
pub one_certificate : (groups : ℕ) → 2 ≤ groups → (d : Data) (c found : CertificateView) → IsCertificate groups d c → IsCertificate groups d found → found ≡ c
one_certificate groups low d c found h k =
    let members : k.contents.members ≡ h.contents.members = same_members d _ k.contents h.contents.members (ap as_object h.contents.object) in
    let one = under_back groups low d c h in
    let other = subst (λ ms. IsCertificateUnder groups ms found) members (under_back groups low d found k) in
    let least : found.least ≡ c.least = same_Some found.least c.least (sym other.least.stands ∙ one.least.stands) in
    same_Some found c (sym other.beside ∙ ap (λ least. certificate_beside groups least h.contents.members) least ∙ one.beside)

-- ---- what the reader finds

beside_least : (groups : ℕ) (ms : Members) (least : Fraction) (c : CertificateView) → certificate_beside groups least ms ≡ Some c → least ≡ c.least
beside_least groups ms least c h =
    option_and_then_some _ (budget_under ms) c h (λ budget budget_found h.
    option_and_then_some _ (claim_under ms) c h (λ claim claim_found h.
    option_and_then_some _ (plan_or_null_under groups ms) c h (λ plan plan_found h.
    let made = option_map_some (certificate_with budget claim least plan) (branches_under groups ms) c h in
    ap (λ c. c.least) made.2)))

same_least : (ms : Members) (f g : Fraction) → IsLeastUnder ms f → IsLeastUnder ms g → f ≡ g
same_least ms f g h k = same_Some f g (sym h.stands ∙ k.stands)

-- what stands beside the one least multiplier is all that the members give
pub given : (groups : ℕ) (ms : Members) (least : Fraction) (o : Option CertificateView) → IsLeastUnder ms least →
    o ≡ certificate_beside groups least ms → IsGiven groups ms o
given groups ms least None is_least e = λ c h.
    none-some c (e ∙ ap (λ f. certificate_beside groups f ms) (same_least ms least c.least is_least h.least) ∙ h.beside)
given groups ms least (Some c) is_least e =
    let same : least ≡ c.least = beside_least groups ms least c (sym e) in
    record { least = subst (IsLeastUnder ms) same is_least; beside = ap (λ f. certificate_beside groups f ms) (sym same) ∙ sym e }

pub misshapen : (d : Data) (ms : Members) → as_object d ≡ Some ms → is_certificate_of ms ≡ false → IsMisshapen d
misshapen d ms found fails = λ contents h. false≢true (sym fails ∙ certificate_passes d contents ms found h)

pub out_of_range : (groups : ℕ) → 2 ≤ groups → (d : Data) (ms : Members) → as_object d ≡ Some ms → is_certificate_of ms ≡ true →
    IsGiven groups ms None → IsOutOfRange groups d
out_of_range groups low d ms found shape none =
    let made = certificate_made ms shape in
    record {
      contents = made.0;
      held = rw (object_back d ms found) made.1;
      no_certificate = λ c h. none c (certificate_back groups low d ms c found h);
    }

-- a value that is a certificate's is read as this one
pub given_back : (groups : ℕ) → 2 ≤ groups → (d : Data) (c : CertificateView) → IsCertificate groups d c → (r : Result Certificate CertificateFault) →
    IfOk r (λ found. IsCertificate groups d (certificate_of found)) → IfErr r (IsFaultOf groups d) → GivesBack c r
given_back groups low d c h (Ok found) is refused = one_certificate groups low d c (certificate_of found) h is
given_back groups low d c h (Err fault.NotJson) is refused = absurd refused
given_back groups low d c h (Err fault.Shape) is refused = absurd (refused (contents_of h.version c) h.contents)
given_back groups low d c h (Err fault.Range) is refused = absurd (refused.no_certificate c h)
given_back groups low d c h (Err fault.Memory) is refused = refl
