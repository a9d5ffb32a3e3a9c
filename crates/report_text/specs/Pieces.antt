-- Texts that grow by pieces.
use Rattle.std.specs.Prelude.{ℕ, List, [], ◌∷◌, ◌≡◌, ◌++◌}

-- the text grew by a part of this kind
abbrev pub GrewBy : (List ℕ → Type 0) → List ℕ → List ℕ → Type 0
GrewBy IsPart old new = (part : List ℕ) × IsPart part × (new ≡ old ++ part)

-- a line of its kind for each element, in order
abbrev pub AreLines : {X : Type 0} → (X → List ℕ → Type 0) → List X → List ℕ → Type 0
AreLines IsLine [] text = text ≡ []
AreLines IsLine (x ∷ xs) text =
    (first : List ℕ) × (rest : List ℕ) × IsLine x first × AreLines IsLine xs rest × (text ≡ first ++ rest)
