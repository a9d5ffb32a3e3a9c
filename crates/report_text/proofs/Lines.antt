-- Lines, one element after another.
use Rattle.std.proofs.Common.{ℕ, List, [], ◌∷◌, ◌≡◌, ◌++◌, ◌+◌, ◌<◌, length, get_or, take, refl, ap, ◌∙◌, sym, subst, append_assoc}
use Rattle.std.proofs.lemmas.List.{append-nil, take_more}
use Rattle.report_text.specs.Pieces.{GrewBy, AreLines}

one_more : {X : Type 0} (IsLine : X → List ℕ → Type 0) (xs : List X) (x : X) (text line : List ℕ) →
    AreLines IsLine xs text → IsLine x line → AreLines IsLine (xs ++ x ∷ []) (text ++ line)
one_more IsLine [] x text line none is = (line, [], is, refl, ap (λ t. t ++ line) none ∙ sym (append-nil line))
one_more IsLine (y ∷ ys) x text line some is =
    (some.0, some.1 ++ line, some.2, one_more IsLine ys x some.1 line some.3 is, ap (λ t. t ++ line) some.4 ∙ append_assoc some.0 some.1 line)

-- the lines grew by that of the next element
pub next_line : {X : Type 0} (IsLine : X → List ℕ → Type 0) (xs : List X) (i : ℕ) (x : X) (old mid new : List ℕ) → i < length xs →
    GrewBy (AreLines IsLine (take i xs)) old mid → GrewBy (IsLine (get_or xs i x)) mid new → GrewBy (AreLines IsLine (take (i + 1) xs)) old new
next_line IsLine xs i x old mid new h before line = (
  before.0 ++ line.0,
  subst (λ l. AreLines IsLine l (before.0 ++ line.0)) (sym (take_more xs i x h)) (one_more IsLine (take i xs) (get_or xs i x) before.0 line.0 before.1 line.1),
  line.2 ∙ ap (λ t. t ++ line.0) before.2 ∙ append_assoc old before.0 line.0,
)
