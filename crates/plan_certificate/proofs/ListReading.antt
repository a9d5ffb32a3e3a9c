-- Lists that are written and read element by element.
use Rattle.std.proofs.Common.{◌≡◌, Bool, true, false, if◌then◌else◌, List, [], ◌∷◌, map, Option, Some, None, option_map, All, refl, ap, subst, ◌∙◌}
use Rattle.std.proofs.lemmas.Option.{option_and_then_some, same_Some, none-some}
use Rattle.std.proofs.lemmas.List.Elements.{All-nil, All-cons, All-head, All-tail}
use Rattle.serde_json.specs.Data.{Data}
use Rattle.plan_certificate.specs.Members.{all_of}

pub option_map_some : {A B : Type 0} (f : A → B) (o : Option A) (y : B) → option_map f o ≡ Some y → (x : A) × (o ≡ Some x) × (f x ≡ y)
option_map_some f None y h = absurd (none-some y h)
option_map_some f (Some x) y h = (x, refl, same_Some (f x) y h)

-- a value that comes only under a test
pub cond_parts : {A : Type 0} (b : Bool) (o : Option A) (y : A) → (if b then o else None) ≡ Some y → (b ≡ true) × (o ≡ Some y)
cond_parts true o y h = (refl, h)
cond_parts false o y h = absurd (none-some y h)

-- what was written is read
pub all_back : {X : Type 0} (write : X → Data) (read : Data → Option X) (P : X → Type 0) →
    ((x : X) → P x → read (write x) ≡ Some x) →
    (xs : List X) → All P xs → all_of read (map write xs) ≡ Some xs
all_back write read P back [] h = refl
all_back write read P back (x ∷ xs) h = rw (back x (All-head P x xs h), all_back write read P back xs (All-tail P x xs h)) refl

-- what is read was written
pub all_read : {X : Type 0} (write : X → Data) (read : Data → Option X) (P : X → Type 0) →
    ((d : Data) (x : X) → read d ≡ Some x → (d ≡ write x) × P x) →
    (ds : List Data) (xs : List X) → all_of read ds ≡ Some xs → (ds ≡ map write xs) × All P xs
all_read write read P each [] xs h = rw (← same_Some [] xs h) (refl, All-nil P)
all_read write read P each (d ∷ ds) xs h = option_and_then_some (λ x. option_map (λ ys. x ∷ ys) (all_of read ds)) (read d) xs h (λ x found more.
    let rest = option_map_some (λ ys. x ∷ ys) (all_of read ds) xs more in
    let here = each d x found in
    let later = all_read write read P each ds rest.0 rest.1 in
    subst (λ ys. (d ∷ ds ≡ map write ys) × All P ys) rest.2
    (ap (λ e. e ∷ ds) here.0 ∙ ap (λ es. write x ∷ es) later.0, All-cons P x rest.0 here.1 later.1))
