-- The aspect that tests choose.
use Rattle.std.proofs.Common.{Bool, true, false, if◌then◌else◌, ◌≡◌, refl, ap, ◌∙◌}
use Rattle.aspect_player.specs.declared.aspect.Aspect.{Aspect}
use Rattle.aspect_player.specs.declared.aspect.Aspect.TheVariants.{Red, RedAmber, Green, Amber}

abbrev pub choice : Bool → Bool → Bool → Aspect
choice green amber red_amber = (if green then Green else if amber then Amber else if red_amber then RedAmber else Red)

pub same_choice : (g g' a a' r r' : Bool) → g ≡ g' → (g ≡ false → a ≡ a') → (g ≡ false → a ≡ false → r ≡ r') → choice g a r ≡ choice g' a' r'
same_choice true g' a a' r r' e f h = ap (λ x. choice x a' r') e
same_choice false g' true a' r r' e f h = ap (λ x. choice false x r') (f refl) ∙ ap (λ x. choice x a' r') e
same_choice false g' false a' r r' e f h = ap (λ x. choice false false x) (h refl refl) ∙ ap (λ x. choice false x r') (f refl) ∙ ap (λ x. choice x a' r') e

pub choice_green : (g a r : Bool) → choice g a r ≡ Green → g ≡ true
choice_green true a r e = refl
choice_green false true r e = cc
choice_green false false true e = cc
choice_green false false false e = cc
