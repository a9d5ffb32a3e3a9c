-- A walk that was made of numbers below the number of groups.
use Rattle.std.proofs.Common.{◌≡◌, ◌<◌, ◌↔◌, ℕ, List, length, All, Option, Some, None, IsSome, IfSome, nat_le, ◌&&◌, ⊎_elim, ap, refl, true, false}
use Rattle.std.proofs.lemmas.Bool.{leb-true, le-leb, cases_Bool, and_parts, false≢true}
use Rattle.constraint_cycles.specs.Walk.{IsWalk}
use Rattle.plan_certificate.specs.Members.{walk_within}

pub walk_made : (ns : List ℕ) (o : Option (List ℕ)) → (IsSome o ↔ IsWalk ns) → IfSome o (λ w. w ≡ ns) → All (λ g. g < 16) ns → o ≡ walk_within ns
walk_made ns None some same each = ⊎_elim
    (λ (h : (nat_le 1 (length ns) && nat_le (length ns) 16) ≡ true). absurd (let p = and_parts _ _ h in false≢true (some.1 (record { some = leb-true _ _ p.0; few = leb-true _ _ p.1; within = each }))))
    (λ (h : (nat_le 1 (length ns) && nat_le (length ns) 16) ≡ false). rw h refl)
    (cases_Bool (nat_le 1 (length ns) && nat_le (length ns) 16))
walk_made ns (Some w) some same each =
    let p = some.0 refl in
    rw (le-leb _ _ p.some, le-leb _ _ p.few) (ap Some same)
