-- The first rule that a node breaks by itself.
use Rattle.std.proofs.Common.{ℕ, List, [], ◌∷◌, length, slice_index, ◌≡◌, ◌≢◌, ◌≤◌, ◌⊎◌, inl, inr, refl, Bool, true, false, arith, ℤ, pos, ◌≤ℤ◌}
use Rattle.std.specs.Prelude.{Option, None, Some, slice_get, int_lt, nat_lt, MatchOption, if◌then◌else◌}
use Rattle.std.specs.Option.{option_map_or}
use Rattle.std.proofs.lemmas.Bool.{cases_lt, lt-ltb, le-ltb}
use Rattle.std.proofs.lemmas.Int.{ints}
use Rattle.constraint_cycles.specs.Edge.{longest_green}
use Rattle.constraint_cycles.specs.TreeShape.{is_open}
use Rattle.constraint_cycles.specs.Walk.{sum_of}
use Rattle.constraint_cycles.specs.declared.mark.Mark.{Mark}
use Rattle.constraint_cycles.specs.declared.mark.Mark.TheVariants.{Open, First, Second}
use Rattle.constraint_cycles.specs.declared.node.Node.{Node}
use Rattle.constraint_cycles.specs.declared.node.Node.TheVariants as node
use Rattle.certificate_checker.specs.Basis.{BasisView, edges_of}
use Rattle.certificate_checker.specs.NodeFault.{sum_fault, walk_fault, node_fault}
use Rattle.certificate_checker.specs.Rules.{rule_number}
use Rattle.certificate_checker.specs.TreeRules.{LacksAnEdge, HasLowSum, IsOfServedGroup}
use Rattle.certificate_checker.specs.declared.rule.Rule.{Rule}
use Rattle.certificate_checker.specs.declared.rule.Rule.TheVariants.{Pair, Unvisited, Edge, Sum}

abbrev pub HasNoMoreThan0 : BasisView → List Mark → List ℕ → Type 0
HasNoMoreThan0 basis marks walk = HasLowSum basis marks walk ⊎ IsOfServedGroup basis walk

-- what a node breaks in its own order
abbrev pub OwnBreaks : BasisView → Bool → List Mark → Node → Rule → Type 0
OwnBreaks basis seen marks (node.Split item) Pair = slice_get marks item ≢ Some Open
OwnBreaks basis seen marks (node.Split item) Unvisited = seen ≡ true
OwnBreaks basis seen marks (node.Closed walk) Unvisited = seen ≡ true
OwnBreaks basis seen marks (node.Closed walk) Edge = LacksAnEdge basis marks walk
OwnBreaks basis seen marks (node.Closed walk) Sum = HasNoMoreThan0 basis marks walk
OwnBreaks basis seen marks node.Unvisited Unvisited = basis.unfinished ≡ false
OwnBreaks basis seen marks own rule = ⊥

-- the rule is broken by the node, and no rule of a smaller number is
pub record IsOwnFirst (basis : BasisView) (seen : Bool) (marks : List Mark) (own : Node) (rule : Rule) : Type 0 where
  pub breaks : OwnBreaks basis seen marks own rule
  pub smaller : (other : Rule) → OwnBreaks basis seen marks own other → rule_number rule ≤ rule_number other

abbrev pub BreaksNone : BasisView → Bool → List Mark → Node → Type 0
BreaksNone basis seen marks own = (rule : Rule) → ¬ OwnBreaks basis seen marks own rule

abbrev pub FirstOrNone : BasisView → Bool → List Mark → Node → Option Rule → Type 0
FirstOrNone basis seen marks own found = MatchOption found (BreaksNone basis seen marks own) (IsOwnFirst basis seen marks own)

module _ (basis : BasisView) (seen : Bool) (marks : List Mark) where
  from_pair : (own : Node) (rule : Rule) → OwnBreaks basis seen marks own rule → 6 ≤ rule_number rule
  from_pair own Pair b = omega arith
  from_pair own Unvisited b = omega arith
  from_pair own Edge b = omega arith
  from_pair own Sum b = omega arith
  from_pair (node.Split item) rule b = absurd b
  from_pair (node.Closed walk) rule b = absurd b
  from_pair node.Unvisited rule b = absurd b

  -- a Split breaks no more than these two
  pub of_split : (item : ℕ) (P : Rule → Type 0) → (slice_get marks item ≢ Some Open → P Pair) → (seen ≡ true → P Unvisited) →
      (rule : Rule) → OwnBreaks basis seen marks (node.Split item) rule → P rule
  of_split item P p u Pair b = p b
  of_split item P p u Unvisited b = u b
  of_split item P p u rule b = absurd b

  pub of_closed : (walk : List ℕ) (P : Rule → Type 0) → (seen ≡ true → P Unvisited) → (LacksAnEdge basis marks walk → P Edge) →
      (HasNoMoreThan0 basis marks walk → P Sum) → (rule : Rule) → OwnBreaks basis seen marks (node.Closed walk) rule → P rule
  of_closed walk P u e s Unvisited b = u b
  of_closed walk P u e s Edge b = e b
  of_closed walk P u e s Sum b = s b
  of_closed walk P u e s rule b = absurd b

  pub of_unvisited : (P : Rule → Type 0) → (basis.unfinished ≡ false → P Unvisited) →
      (rule : Rule) → OwnBreaks basis seen marks node.Unvisited rule → P rule
  of_unvisited P u Unvisited b = u b
  of_unvisited P u rule b = absurd b

module _ (basis : BasisView) (marks : List Mark) where
  not_open : (seen : Bool) (item : ℕ) → slice_get marks item ≢ Some Open → FirstOrNone basis seen marks (node.Split item) (Some Pair)
  not_open seen item shut = record { breaks = shut; smaller = from_pair basis seen marks (node.Split item) }

  was_open : (seen : Bool) (item : ℕ) → slice_get marks item ≡ Some Open →
      FirstOrNone basis seen marks (node.Split item) (if seen then Some Unvisited else None)
  was_open true item there = record {
    breaks = refl;
    smaller = of_split basis true marks item (λ other. 7 ≤ rule_number other) (λ shut. absurd (shut there)) (λ e. omega arith);
  }
  was_open false item there = of_split basis false marks item (λ other. ⊥) (λ shut. shut there) (λ e. cc)

  split_first : (seen : Bool) (item : ℕ) (o : Option Mark) → slice_get marks item ≡ o →
      FirstOrNone basis seen marks (node.Split item) (if option_map_or is_open o false then (if seen then Some Unvisited else None) else Some Pair)
  split_first seen item None e = not_open seen item (λ there. cc)
  split_first seen item (Some Open) e = was_open seen item e
  split_first seen item (Some First) e = not_open seen item (λ there. cc)
  split_first seen item (Some Second) e = not_open seen item (λ there. cc)

  -- a walk with a sum
  summed_first : (walk : List ℕ) (sum : ℤ) → 2 ≤ length walk → ((g : ℕ) → walk ≢ g ∷ []) → sum_of (edges_of basis marks) walk ≡ Some sum → (b : Bool) → int_lt (pos 0) sum ≡ b →
      FirstOrNone basis false marks (node.Closed walk) (if b then None else Some Sum)
  summed_first walk sum several apart e true test = of_closed basis false marks walk (λ other. ⊥) (λ f. cc) (λ lacks. let missing = lacks.missing in cc)
      (λ no_more. elim no_more [
        | inl low ↦
            let adds = low.adds in
            let same : low.sum ≡ sum = cc in
            let low_sum : sum ≤ℤ pos 0 = rw same at low.at_most in
            absurd (omega (arith, ints, low_sum, test))
        | inr served ↦ apart served.group served.alone
      ])
  summed_first walk sum several apart e false test = record {
    breaks = inl (record { several = several; sum = sum; adds = e; at_most = omega (arith, ints) });
    smaller = of_closed basis false marks walk (λ other. 9 ≤ rule_number other) (λ f. cc) (λ lacks. let missing = lacks.missing in cc) (λ no_more. omega arith);
  }

  several_first : (walk : List ℕ) → 2 ≤ length walk → ((g : ℕ) → walk ≢ g ∷ []) → (o : Option ℤ) → sum_of (edges_of basis marks) walk ≡ o →
      FirstOrNone basis false marks (node.Closed walk) (sum_fault o)
  several_first walk several apart None e = record {
    breaks = record { several = several; missing = e };
    smaller = of_closed basis false marks walk (λ other. 8 ≤ rule_number other) (λ f. cc) (λ lacks. omega arith) (λ no_more. omega arith);
  }
  several_first walk several apart (Some sum) e = summed_first walk sum several apart e _ refl

  -- a walk of one group has neither edges nor a sum
  alone_first : (g : ℕ) (b : Bool) → nat_lt longest_green (slice_index basis.needs g) ≡ b →
      FirstOrNone basis false marks (node.Closed (g ∷ [])) (if b then None else Some Sum)
  alone_first g true test = of_closed basis false marks (g ∷ []) (λ other. ⊥) (λ f. cc) (λ lacks. absurd (omega (arith, lacks.several)))
      (λ no_more. elim no_more [
        | inl low ↦ absurd (omega (arith, low.several))
        | inr served ↦
            let alone = served.alone in
            let same : served.group ≡ g = cc in
            let enough : slice_index basis.needs g ≤ longest_green = rw same at served.served in
            let none : nat_lt longest_green (slice_index basis.needs g) ≡ false = le-ltb longest_green (slice_index basis.needs g) enough in
            cc
      ])
  alone_first g false test = record {
    breaks = inr (record {
      group = g;
      alone = refl;
      served = elim (cases_lt longest_green (slice_index basis.needs g)) [
        | inl more ↦ (let some : nat_lt longest_green (slice_index basis.needs g) ≡ true = lt-ltb longest_green (slice_index basis.needs g) more in absurd (cc))
        | inr enough ↦ enough
      ];
    });
    smaller = of_closed basis false marks (g ∷ []) (λ other. 9 ≤ rule_number other) (λ f. cc) (λ lacks. absurd (omega (arith, lacks.several))) (λ no_more. omega arith);
  }

  walk_first : (walk : List ℕ) → FirstOrNone basis false marks (node.Closed walk) (walk_fault basis marks walk)
  walk_first [] = of_closed basis false marks [] (λ other. ⊥) (λ f. cc) (λ lacks. absurd (omega (arith, lacks.several)))
      (λ no_more. elim no_more [ inl low ↦ absurd (omega (arith, low.several)) | inr served ↦ (let alone = served.alone in cc) ])
  walk_first (g ∷ []) = alone_first g _ refl
  walk_first (first ∷ (second ∷ rest)) = several_first (first ∷ (second ∷ rest)) (omega arith) (λ g same. cc) _ refl

  closed_first : (seen : Bool) (walk : List ℕ) →
      FirstOrNone basis seen marks (node.Closed walk) (if seen then Some Unvisited else walk_fault basis marks walk)
  closed_first true walk = record {
    breaks = refl;
    smaller = of_closed basis true marks walk (λ other. 7 ≤ rule_number other) (λ e. omega arith) (λ lacks. omega arith) (λ no_more. omega arith);
  }
  closed_first false walk = walk_first walk

  unvisited_first : (seen : Bool) (b : Bool) → basis.unfinished ≡ b →
      FirstOrNone basis seen marks node.Unvisited (if b then None else Some Unvisited)
  unvisited_first seen true e = of_unvisited basis seen marks (λ other. ⊥) (λ f. cc)
  unvisited_first seen false e = record {
    breaks = e;
    smaller = of_unvisited basis seen marks (λ other. 7 ≤ rule_number other) (λ f. omega arith);
  }

  pub node_first : (seen : Bool) (own : Node) → FirstOrNone basis seen marks own (node_fault basis seen marks own)
  node_first seen (node.Split item) = split_first seen item _ refl
  node_first seen (node.Closed walk) = closed_first seen walk
  node_first seen node.Unvisited = unvisited_first seen _ refl
