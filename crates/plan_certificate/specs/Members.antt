-- The parts that the members of an object give, where they are in their ranges: the answers of the reader's functions, part
-- by part. That an object gives a certificate exactly where it is that certificate's is proved.
use Rattle.std.specs.Prelude.{ℕ, ◌≡◌, ◌-◌, ◌==◌, ◌&&◌, ◌||◌, nat_le, codes, List, [], ◌∷◌, length, bytes_eq, if◌then◌else◌, Option, Some, None, is_some, option_map, option_and_then}
use Rattle.serde_json.specs.Data.{Data, Members}
use Rattle.serde_json.specs.Find.{as_null, as_object, as_str, get_member}
use Rattle.constraint_cycles.specs.declared.node.Node.{Node}
use Rattle.constraint_cycles.specs.declared.node.Node.TheVariants.{Split, Closed, Unvisited}
use Rattle.sig_base.specs.Fraction.{Fraction, over}
use Rattle.plan_model.specs.SignalPlan.{PlanView, plan_with}
use Rattle.plan_certificate.specs.Certificate.{CertificateView}
use Rattle.plan_certificate.specs.Ranges.{last_item, most_trees, longest_time, IsLeast}
use Rattle.plan_certificate.specs.Shape.{whole_of, list_of}
use Rattle.plan_certificate.specs.Version.{are_of_first}
use Rattle.plan_certificate.specs.declared.claim.Claim.{Claim}
use Rattle.plan_certificate.specs.declared.claim.Claim.TheVariants as claim

-- what each value of a list gives; none where one gives nothing
abbrev pub all_of : {X : Type 0} → (Data → Option X) → List Data → Option (List X)
all_of f [] = Some []
all_of f (d ∷ ds) = option_and_then (λ x. option_map (λ xs. x ∷ xs) (all_of f ds)) (f d)

abbrev pub within : ℕ → ℕ → ℕ → Option ℕ
within least greatest n = if nat_le least n && nat_le n greatest then Some n else None

abbrev pub whole_within : ℕ → ℕ → Data → Option ℕ
whole_within least greatest d = option_and_then (within least greatest) (whole_of d)

abbrev pub walk_within : List ℕ → Option (List ℕ)
walk_within gs = if nat_le 1 (length gs) && nat_le (length gs) 16 then Some gs else None

abbrev pub walk_of : ℕ → List Data → Option (List ℕ)
walk_of groups ds = option_and_then walk_within (all_of (whole_within 0 (groups - 1)) ds)

abbrev pub visited_of : ℕ → Data → Option Node
visited_of groups d =
    if is_some (whole_of d)
    then option_map Split (whole_within 0 last_item d)
    else option_map Closed (option_and_then (walk_of groups) (list_of d))

abbrev pub node_of : ℕ → Data → Option Node
node_of groups d = if is_some (as_null d) then Some Unvisited else visited_of groups d

abbrev pub tree_of : ℕ → Data → Option (List Node)
tree_of groups d = option_and_then (all_of (node_of groups)) (list_of d)

abbrev pub few_trees : ℕ → List Data → Option (List (List Node))
few_trees groups ds = if nat_le (length ds) most_trees then all_of (tree_of groups) ds else None

abbrev pub forest_of : ℕ → Data → Option (List (List Node))
forest_of groups d = option_and_then (few_trees groups) (list_of d)

abbrev pub claim_of : List ℕ → Option Claim
claim_of text =
    if bytes_eq text (codes "capacity") then Some claim.Capacity
    else (if bytes_eq text (codes "cycle") then Some claim.Cycle
    else (if bytes_eq text (codes "infeasible") then Some claim.Infeasible
    else (if bytes_eq text (codes "stopped") then Some claim.Stopped else None)))

abbrev pub at_least_one : ℕ → Option ℕ
at_least_one n = if nat_le 1 n then Some n else None

abbrev pub whole_under : List ℕ → Members → Option ℕ
whole_under key ms = option_and_then whole_of (get_member key ms)

abbrev pub budget_under : Members → Option ℕ
budget_under ms = option_and_then at_least_one (whole_under (codes "budget") ms)

abbrev pub claim_under : Members → Option Claim
claim_under ms = option_and_then claim_of (option_and_then as_str (get_member (codes "claim") ms))

abbrev pub forest_under : ℕ → Members → Option (List (List Node))
forest_under groups ms = option_and_then (forest_of groups) (get_member (codes "branches") ms)

-- the trees, where the version may have them
abbrev pub of_version : List (List Node) → ℕ → Option (List (List Node))
of_version trees version = if (version == 2) || ((version == 1) && are_of_first trees) then Some trees else None

abbrev pub branches_under : ℕ → Members → Option (List (List Node))
branches_under groups ms =
    option_and_then (λ trees. option_and_then (of_version trees) (whole_under (codes "version") ms)) (forest_under groups ms)

-- ---- the plan

abbrev pub times_of : Data → Option (List ℕ)
times_of d = option_and_then (all_of (whole_within 0 longest_time)) (list_of d)

abbrev pub times_under : List ℕ → Members → Option (List ℕ)
times_under key ms = option_and_then times_of (get_member key ms)

-- as many starts and greens as groups
abbrev pub plan_from : ℕ → ℕ → List ℕ → List ℕ → Option PlanView
plan_from groups cycle starts greens =
    if (length starts == groups) && (length greens == groups) then Some (plan_with cycle starts greens) else None

abbrev pub cycle_under : Members → Option ℕ
cycle_under ms = option_and_then (whole_within 1 longest_time) (get_member (codes "cycle") ms)

abbrev pub plan_under : ℕ → Members → Option PlanView
plan_under groups ms =
    option_and_then (λ cycle.
    option_and_then (λ starts.
    option_and_then (plan_from groups cycle starts)
    (times_under (codes "greens") ms))
    (times_under (codes "starts") ms))
    (cycle_under ms)

abbrev pub plan_of_value : ℕ → Data → Option (Option PlanView)
plan_of_value groups d =
    if is_some (as_null d) then Some None
    else option_map Some (option_and_then (plan_under groups) (as_object d))

abbrev pub plan_or_null_under : ℕ → Members → Option (Option PlanView)
plan_or_null_under groups ms = option_and_then (plan_of_value groups) (get_member (codes "plan") ms)

-- ---- the least multiplier

abbrev pub fraction_of_two : List Data → Option Fraction
fraction_of_two (a ∷ b ∷ []) = option_and_then (λ num. option_map (over num) (whole_of b)) (whole_of a)
fraction_of_two _ = None

abbrev pub fraction_under : Members → Option Fraction
fraction_under ms = option_and_then fraction_of_two (option_and_then list_of (get_member (codes "least") ms))

pub record IsLeastUnder (ms : Members) (f : Fraction) : Type 0 where
  pub stands : fraction_under ms ≡ Some f
  pub range : IsLeast f

-- ---- the whole

abbrev pub certificate_with : ℕ → Claim → Fraction → Option PlanView → List (List Node) → CertificateView
certificate_with budget claim least plan branches = record {
  branches = branches;
  budget = budget;
  claim = claim;
  least = least;
  plan = plan;
}

-- what the members give beside this least multiplier
abbrev pub certificate_beside : ℕ → Fraction → Members → Option CertificateView
certificate_beside groups least ms =
    option_and_then (λ budget.
    option_and_then (λ claim.
    option_and_then (λ plan.
    option_map (certificate_with budget claim least plan)
    (branches_under groups ms))
    (plan_or_null_under groups ms))
    (claim_under ms))
    (budget_under ms)

pub record IsCertificateUnder (groups : ℕ) (ms : Members) (c : CertificateView) : Type 0 where
  pub least : IsLeastUnder ms c.least
  pub beside : certificate_beside groups c.least ms ≡ Some c

-- the members give this certificate, or none
abbrev pub IsGiven : ℕ → Members → Option CertificateView → Type 0
IsGiven groups ms (Some c) = IsCertificateUnder groups ms c
IsGiven groups ms None = (c : CertificateView) → ¬ IsCertificateUnder groups ms c
