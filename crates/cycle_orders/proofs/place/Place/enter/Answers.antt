use Rattle.std.proofs.Common.{rules, refl, ◌-◌, ◌≤◌, ◌≡◌, Option, None, Some, IsNone, sym, ap, ◌∙◌, arith, slice_index}
use Rattle.std.specs.Prelude.{MatchOption, IfSome}
use Rattle.std.proofs.lemmas.Bool.{false≢true}
use Rattle.std.proofs.lemmas.Option.{slice_get-get_or, none-some}
use Rattle.constraint_cycles.specs.Order.{order_of}
use Rattle.difference_system.specs.Closure.{decided}
use Rattle.cycle_orders.specs.declared.place.Standing.TheVariants.{At}
use Rattle.cycle_orders.proofs.Places.{item_open, item_within, item_decided, inserted, top_at, top_root, top_decided, closed_here, solvable_here}
use Rattle.cycle_orders.proofs.place.Place.enter.Goals as goal

if_closed : {A : Type 0} (r : Option A) (B : Type 0) (P Q : A → Type 0) → ((w : A) → P w → Q w) → MatchOption r B P → IfSome r Q
if_closed None B P Q f h = tt
if_closed (Some w) B P Q f h = f w h

if_none : {A : Type 0} (r : Option A) (B C : Type 0) (P : A → Type 0) → (B → C) → MatchOption r B P → IsNone r → C
if_none None B C P f h none = f h
if_none (Some w) B C P f h none = absurd (false≢true (sym none))

pub unreachable-requires : goal.unreachable-requires
unreachable-requires c =
    let s = c.self.inside in
    let some : 1 ≤ s.depth = omega (arith, c.if-self-eq0.false) in
    none-some (slice_index s.items (s.depth - 1)) (sym c.in_default-get.is ∙ c.get.ensures.value ∙ slice_get-get_or s.items (s.depth - 1) 0 (omega (arith, c.self.invariant.within)))

pub mark-requires : goal.mark-requires
mark-requires c =
    let s = c.self.inside in
    item_within s.closure s.items (order_of s.order) s.depth s.standing c.self.invariant (search rules) (omega (arith, c.if-self-eq0.false)) c.in-Some.item (sym c.get.ensures.value ∙ c.in-Some.is)

pub decide-requires-clause-was_open : goal.decide-requires-clause-was_open
decide-requires-clause-was_open c =
    let s = c.self.inside in
    item_open s.closure s.items (order_of s.order) s.depth s.standing c.self.invariant (search rules) (omega (arith, c.if-self-eq0.false)) c.in-Some.item (sym c.get.ensures.value ∙ c.in-Some.is)

pub decide-requires-clause-decides : goal.decide-requires-clause-decides
decide-requires-clause-decides c =
    let s = c.self.inside in
    item_decided s.closure s.items (order_of s.order) s.depth s.standing c.self.invariant (search rules) (omega (arith, c.if-self-eq0.false)) c.in-Some.item (sym c.get.ensures.value ∙ c.in-Some.is)
    c.mark.result c.mark.ensures

pub returns-then-matches-clause-closed : goal.returns-then-matches-clause-closed
returns-then-matches-clause-closed c =
    let s = c.self.inside in
    let entered : s.standing ≡ At = search rules in
    let some = rw (← c.self.view_is) at c.requires in
    let top = top_at s.closure s.items (order_of s.order) s.depth s.standing c.self.invariant entered in
    rw (← c.self.view_is) (if_closed c.closing.result _ _ _ (closed_here s.closure s.items (order_of s.order) s.depth s.standing c.self.invariant s.closure refl refl refl top some) c.closing.ensures)

pub returns-then-matches-clause-solvable : goal.returns-then-matches-clause-solvable
returns-then-matches-clause-solvable c =
    let s = c.self.inside in
    let entered : s.standing ≡ At = search rules in
    let some = rw (← c.self.view_is) at c.requires in
    let top = top_at s.closure s.items (order_of s.order) s.depth s.standing c.self.invariant entered in
    rw (← c.self.view_is) (if_none c.closing.result _ _ _ (solvable_here s.closure s.items (order_of s.order) s.depth s.standing c.self.invariant s.closure refl refl refl top some) c.closing.ensures)

pub returns-in-Some-decide-clause-closed : goal.returns-in-Some-decide-clause-closed
returns-in-Some-decide-clause-closed c =
    let s = c.self.inside in
    let some = rw (← c.self.view_is) at c.requires in
    let at = sym c.get.ensures.value ∙ c.in-Some.is in
    let top = top_decided s.closure s.items (order_of s.order) s.depth s.standing c.self.invariant (search rules) (omega (arith, c.if-self-eq0.false)) c.in-Some.item at c.mark.result c.mark.ensures in
    rw (← c.self.view_is) (closed_here s.closure s.items (order_of s.order) s.depth s.standing c.self.invariant (decided s.closure c.in-Some.item c.mark.result) refl refl refl top some
    c.in-Some-decide.walk c.in-Some-decide.ensures.closed.circuit.closes)

pub returns-clause-solvable : goal.returns-clause-solvable
returns-clause-solvable c =
    let s = c.self.inside in
    let some = rw (← c.self.view_is) at c.requires in
    let at = sym c.get.ensures.value ∙ c.in-Some.is in
    let top = top_decided s.closure s.items (order_of s.order) s.depth s.standing c.self.invariant (search rules) (omega (arith, c.if-self-eq0.false)) c.in-Some.item at c.mark.result c.mark.ensures in
    λ none. rw (← c.self.view_is) (solvable_here s.closure s.items (order_of s.order) s.depth s.standing c.self.invariant (decided s.closure c.in-Some.item c.mark.result) refl refl refl top some
    (rw (c.in_default-decide.ensures.is_decided refl) at (c.in_default-decide.ensures.solvable refl)))

pub invariant_of-self-2 : goal.invariant_of-self-2
invariant_of-self-2 c =
    let s = c.self.inside in
    let i = c.self.invariant in
    let is = c.in_default-decide.ensures.is_decided refl in
    record {
      made = rw is i.made;
      within = i.within;
      way = rw is i.way;
      orders = ap (λ v. v.orders) is ∙ inserted s.closure s.items (order_of s.order) s.depth s.standing i (search rules) (omega (arith, c.if-self-eq0.false)) c.in-Some.item
          (sym c.get.ensures.value ∙ c.in-Some.is) c.mark.result c.mark.ensures;
    }
