-- The versions of a certificate's text.
use Rattle.std.specs.Prelude.{ℕ, List, length, Bool, true, nat_le, ◌≡◌, ◌⊎◌, if◌then◌else◌}
use Rattle.std.specs.List.{list_all}
use Rattle.constraint_cycles.specs.declared.node.Node.{Node}
use Rattle.constraint_cycles.specs.declared.node.Node.TheVariants.{Split, Closed, Unvisited}
use Rattle.plan_certificate.specs.Ranges.{last_pair}

-- in version 1 a Split decides a pair, and a walk has two groups or more
abbrev pub is_of_first : Node → Bool
is_of_first (Split item) = nat_le item last_pair
is_of_first (Closed walk) = nat_le 2 (length walk)
is_of_first Unvisited = true

abbrev pub are_of_first : List (List Node) → Bool
are_of_first trees = list_all (list_all is_of_first) trees

-- the version that is written
abbrev pub version_of : List (List Node) → ℕ
version_of trees = if are_of_first trees then 1 else 2

-- the version that is read: version 2 has every tree
abbrev pub IsVersionOf : List (List Node) → ℕ → Type 0
IsVersionOf trees version = ((version ≡ 1) × (are_of_first trees ≡ true)) ⊎ (version ≡ 2)
