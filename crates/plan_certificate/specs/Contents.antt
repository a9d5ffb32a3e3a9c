-- What stands in the text of a certificate, whatever its numbers: a JSON object of six members (RFC 8259).
use Rattle.std.specs.Prelude.{ℕ, codes, List, [], ◌∷◌, map, Option, None, Some, ◌≡◌}
use Rattle.serde_json.specs.Data.{Data, null, number, unsigned, string, array, object, Members}
use Rattle.serde_json.specs.Events.{members_len}
use Rattle.serde_json.specs.Find.{get_member}
use Rattle.serde_json.specs.View.{items_of}
use Rattle.sig_base.specs.Fraction.{Fraction}
use Rattle.plan_model.specs.SignalPlan.{PlanView}
use Rattle.constraint_cycles.specs.declared.node.Node.{Node}
use Rattle.constraint_cycles.specs.declared.node.Node.TheVariants.{Split, Closed, Unvisited}

pub record Contents : Type 0 where
  pub branches : List (List Node)
  pub budget : ℕ
  pub claim : List ℕ
  pub least : Fraction
  pub plan : Option PlanView
  pub version : ℕ

-- a whole number from 0 to 2^64 - 1
abbrev pub whole : ℕ → Data
whole n = number (unsigned n)

abbrev pub list : List Data → Data
list ds = array (items_of ds)

abbrev pub wholes : List ℕ → Data
wholes ns = list (map whole ns)

-- a Split is the number of its item, and a Closed node the list of its walk's groups
abbrev pub node_data : Node → Data
node_data (Split item) = whole item
node_data (Closed walk) = wholes walk
node_data Unvisited = null

abbrev pub tree_data : List Node → Data
tree_data nodes = list (map node_data nodes)

abbrev pub forest_data : List (List Node) → Data
forest_data trees = list (map tree_data trees)

-- the numerator and the denominator
abbrev pub fraction_data : Fraction → Data
fraction_data f = wholes (f.num ∷ f.den ∷ [])

-- the member of this key is this value
abbrev pub StandsAt : Members → List ℕ → Data → Type 0
StandsAt members key d = get_member key members ≡ Some d

-- an object of three members that is this plan
pub record IsPlanObject (d : Data) (p : PlanView) : Type 0 where
  pub members : Members
  pub object : d ≡ object members
  pub three : members_len members ≡ 3
  pub cycle : StandsAt members (codes "cycle") (whole p.cycle)
  pub greens : StandsAt members (codes "greens") (wholes p.greens)
  pub starts : StandsAt members (codes "starts") (wholes p.starts)

abbrev pub IsPlanData : Data → Option PlanView → Type 0
IsPlanData d None = d ≡ null
IsPlanData d (Some p) = IsPlanObject d p

-- an object of six members that holds these contents
pub record Holds (d : Data) (contents : Contents) : Type 0 where
  pub members : Members
  pub object : d ≡ object members
  pub six : members_len members ≡ 6
  pub branches : StandsAt members (codes "branches") (forest_data contents.branches)
  pub budget : StandsAt members (codes "budget") (whole contents.budget)
  pub claim : StandsAt members (codes "claim") (string contents.claim)
  pub least : StandsAt members (codes "least") (fraction_data contents.least)
  pub plan : (d : Data) × StandsAt members (codes "plan") d × IsPlanData d contents.plan
  pub version : StandsAt members (codes "version") (whole contents.version)
