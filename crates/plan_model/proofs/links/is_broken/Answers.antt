use Rattle.std.proofs.Common.{Bool, true, false, Some, ◌≡◌, ◌↔◌, ◌∙◌, ap, refl, not, IsTrue, get_or, slice_get}
use Rattle.std.proofs.lemmas.Bool.{not-true, both_ways}
use Rattle.std.proofs.lemmas.Option.{slice_get-get_or}
use Rattle.conflict_matrix.specs.Matrix.{Matrix}
use Rattle.conflict_matrix.specs.declared.link.Link.{Link}
use Rattle.plan_model.proofs.links.is_broken.Goals as goal

not_kept : (b : Bool) (P : Type 0) → IsTrue b ↔ P → IsTrue (not b) ↔ (P → ⊥)
not_kept true P h = (λ none kept. both_ways true (not-true true none) refl, λ none. absurd (none (h.0 refl)))
not_kept false P h = (λ _ kept. both_ways false refl (h.1 kept), λ _. refl)

pub returns : goal.returns
returns c =
    let same : c.links.result.now ≡ c.args.junction.now.conflicts.links = c.links.ensures.value ∙ ap (λ (m : Matrix). m.links) c.conflicts.ensures.value in
    let d : Link = record { leader = 0; follower = 0; after = 0 } in
    let at : slice_get c.args.junction.now.conflicts.links c.args.link ≡ Some (get_or c.links.result.now c.args.link d) =
    rw (← same) (slice_get-get_or c.links.result.now c.args.link d (rw same c.requires.link)) in
    rw at (not_kept c.keeps_link.result _ c.keeps_link.ensures)
