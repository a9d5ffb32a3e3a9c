-- The greater of two weights is one of the two, and no less than each.
use Rattle.std.proofs.Common.{ℕ, suc, List, [], ◌∷◌, ◌≡◌, ◌<◌, ◌+◌, ◌⊎◌, inl, inr, refl, sym, ap, ◌∙◌, length, drop, drop-cons, get_or, slice_get, Option, Some, None, arith, ℤ, ◌≤ℤ◌}
use Rattle.std.specs.Int.{int_max}
use Rattle.std.proofs.lemmas.List.Elements.{Contains-push_cases}
use Rattle.std.proofs.lemmas.Int.{ints, int_max_is, fold-int_max_reached}
use Rattle.std.proofs.lemmas.Option.{slice_get_within, get_or_from_slice_get}
use Rattle.conflict_matrix.specs.declared.link.Link.{Link}
use Rattle.constraint_cycles.specs.Edge.{linked_weight, links_weight, greater}
use Rattle.constraint_cycles.specs.declared.mark.Mark.{Mark}
use Rattle.constraint_cycles.specs.declared.mark.Mark.TheVariants.{Open}

int_max_one : (a b : ℤ) → (int_max a b ≡ a) ⊎ (int_max a b ≡ b)
int_max_one a b = elim (fold-int_max_reached a (b ∷ []) (int_max a b) refl) [
  | inl first ↦ inl first
  | inr on ↦ inr (elim (Contains-push_cases [] b (int_max a b) on) [ inl none ↦ absurd (omega (arith, none.1)) | inr is ↦ sym is ])
]

pub greater_is : (a b : Option ℤ) (w : ℤ) → greater a b ≡ Some w → (a ≡ Some w) ⊎ (b ≡ Some w)
greater_is None b w e = inr e
greater_is (Some a) None w e = inl e
greater_is (Some a) (Some b) w e = elim (int_max_one a b) [
  | inl first ↦ inl (rw first at e)
  | inr second ↦ inr (rw second at e)
]

pub greater_first : (a b : Option ℤ) (v w : ℤ) → a ≡ Some v → w ≤ℤ v → (x : ℤ) × (greater a b ≡ Some x) × (w ≤ℤ x)
greater_first None b v w e h = cc
greater_first (Some a) None v w e h = (v, e, h)
greater_first (Some a) (Some b) v w e h =
    let is : a ≡ v = cc in
    let most = int_max_is a b in
    (int_max a b, refl, omega (arith, ints))

pub greater_second : (a b : Option ℤ) (v w : ℤ) → b ≡ Some v → w ≤ℤ v → (x : ℤ) × (greater a b ≡ Some x) × (w ≤ℤ x)
greater_second None b v w e h = (v, e, h)
greater_second (Some a) None v w e h = cc
greater_second (Some a) (Some b) v w e h =
    let is : b ≡ v = cc in
    let most = int_max_is a b in
    (int_max a b, refl, omega (arith, ints))

int_max_assoc : (a b c : ℤ) → int_max a (int_max b c) ≡ int_max (int_max a b) c
int_max_assoc a b c =
    let right = int_max_is b c in
    let whole = int_max_is a (int_max b c) in
    let left = int_max_is a b in
    let again = int_max_is (int_max a b) c in
    omega (arith, ints)

pub greater_assoc : (a b c : Option ℤ) → greater a (greater b c) ≡ greater (greater a b) c
greater_assoc None b c = refl
greater_assoc (Some a) None c = refl
greater_assoc (Some a) (Some b) None = refl
greater_assoc (Some a) (Some b) (Some c) = ap Some (int_max_assoc a b c)

-- the weights of the links from a place on, of which the first is taken
pub links_more : (marks : List Mark) (links : List Link) (cycle u v n k : ℕ) (mark : Mark) (link d : Link) (most total : Option ℤ) →
    slice_get marks (n + k) ≡ Some mark → k < length links → link ≡ get_or links k d →
    total ≡ greater most (links_weight (drop (n + k) marks) (drop k links) cycle u v) →
    total ≡ greater (greater most (linked_weight mark link cycle u v)) (links_weight (drop (n + (k + 1)) marks) (drop (k + 1) links) cycle u v)
links_more marks links cycle u v n k mark link d most total marked below is h =
    let within = slice_get_within marks (n + k) mark marked in
    let here = get_or_from_slice_get marks (n + k) mark Open marked in
    let next : suc (n + k) ≡ n + (k + 1) = omega arith in
    let first : drop (n + k) marks ≡ mark ∷ drop (n + (k + 1)) marks = drop-cons marks (n + k) Open within ∙ rw (here, next) refl in
    let one : suc k ≡ k + 1 = omega arith in
    let taken : drop k links ≡ link ∷ drop (k + 1) links = drop-cons links k d below ∙ rw (← is, one) refl in
    h ∙ rw (first, taken) (greater_assoc most (linked_weight mark link cycle u v) (links_weight (drop (n + (k + 1)) marks) (drop (k + 1) links) cycle u v))
