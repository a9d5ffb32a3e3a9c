-- What follows where no fault stands: texts and numbers at the keys of an element, and the top of the document.
use Rattle.std.proofs.Common.{ℕ, ℤ, pos, negsuc, List, [], Option, None, Some, IsSome, IsSomeAnd, option_and_then, ◌≡◌, ◌⊎◌, ◌<ℤ◌, ◌^◌, ◌<◌, ◌≤◌, inl, inr, refl, arith, All, length}
use Rattle.std.proofs.lemmas.Int.{ints}
use Rattle.std.proofs.lemmas.Bool.{false≢true, cases_lt}
use Rattle.toml.specs.Data.{Data, as_str, as_integer, as_table, as_array}
use Rattle.junction_files.specs.Document.{value_in, text_in, whole_in, element_at, list_in, elements_in, groups_in, lanes_in, conflicts_in, links_in, array_in}
use Rattle.junction_files.specs.Faults.{IsWrong}
use Rattle.junction_files.specs.Meaning.{natural, text_of, number_of}
use Rattle.junction_files.specs.Faultless.{IsFaultless, IsReadable, HasNumber, HasNumberOr, HasTitle}
use Rattle.junction_files.specs.declared.faults.Kind.{Kind}
use Rattle.junction_files.specs.declared.faults.Part.{Part}
use Rattle.junction_files.specs.declared.faults.Key.{Key}
use Rattle.sig_base.specs.Text.{IsBetween}
use Rattle.junction_files.specs.declared.faults.Kind.TheVariants as kind
use Rattle.junction_files.specs.declared.faults.Key.TheVariants as key
use Rattle.junction_files.specs.declared.faults.Part.TheVariants as part
use Rattle.sig_base.proofs.Option.{some_value, some_or}
use Rattle.junction_files.proofs.Decisions.{stable, is_title}

-- no kind of fault stands at any key of an element
pub none_at : (document : Data) → IsFaultless document → (p : Part) (n : ℕ) (d : Data) → element_at document p n ≡ Some d →
    (k : Kind) (at : Key) → ¬ IsWrong document k p n d at
none_at document faultless p n d e k at wrong =
    faultless.none (record { kind = k; part = p; index = n; key = at }) (rw e wrong)

pub not_below : (m n : ℕ) → ¬ (m < n) → n ≤ m
not_below m n h = elim (cases_lt m n) [ inl less ↦ absurd (h less) | inr more ↦ more ]

not_missing : {A : Type 0} (o : Option A) → (o ≡ None → ⊥) → IsSome o
not_missing None h = absurd (h refl)
not_missing (Some x) h = refl

not_none : {A : Type 0} (o : Option A) → ¬ ¬ IsSome o → IsSome o
not_none None h = absurd (h (λ s. false≢true s))
not_none (Some x) h = refl

pub read_some : {A : Type 0} (read : Data → Option A) (o : Option Data) → ¬ ¬ IsSomeAnd o (λ d. IsSome (read d)) → IsSome (option_and_then read o)
read_some read None h = absurd (h (λ n. n))
read_some read (Some d) h = not_none (read d) h

pub is_table : (document : Data) → IsFaultless document → (p : Part) (n : ℕ) (d : Data) → element_at document p n ≡ Some d → IsSome (as_table d)
is_table document faultless p n d e = not_missing (as_table d) (none_at document faultless p n d e kind.Shape key.Whole)

-- where a text is asked for, one stands
pub has_text : (d : Data) (k : Key) → IsSome (as_table d) → ¬ (IsSome (as_table d) × ¬ IsSomeAnd (value_in d k) (λ v. IsSome (as_str v))) →
    text_in d k ≡ Some (text_of d k)
has_text d k table shaped = some_or (text_in d k) [] (read_some as_str (value_in d k) (λ none. shaped (table, none)))

-- a number that isn't out of its range
in_range : (z : ℤ) (low high : ℕ) → ¬ ((z <ℤ pos low) ⊎ (pos high <ℤ z)) → (z ≡ pos (natural z)) × (low ≤ natural z) × (natural z ≤ high)
in_range (pos n) low high h = (refl, not_below n low (λ less. h (inl (omega (arith, ints)))), not_below high n (λ more. h (inr (omega (arith, ints)))))
in_range (negsuc n) low high h = absurd (h (inl (omega (arith, ints))))

some_number : (d : Data) (k : Key) (o : Option ℤ) (low high : ℕ) → whole_in d k ≡ o → IsSome o → ¬ IsSomeAnd o (λ z. (z <ℤ pos low) ⊎ (pos high <ℤ z)) →
    HasNumber d k low high
some_number d k None low high e s h = absurd (false≢true s)
some_number d k (Some z) low high e s h =
    let read = in_range z low high h in
    let same : number_of d k ≡ natural z = rw e refl in
    record { whole = rw (same, ← read.0) e; least = rw same read.1; greatest = rw same read.2 }

-- where a whole number is asked for, one of the range stands
pub has_number : (d : Data) (k : Key) (low high : ℕ) → IsSome (as_table d) → ¬ (IsSome (as_table d) × ¬ IsSomeAnd (value_in d k) (λ v. IsSome (as_integer v))) →
    ¬ IsSomeAnd (whole_in d k) (λ z. (z <ℤ pos low) ⊎ (pos high <ℤ z)) → HasNumber d k low high
has_number d k low high table shaped ranged =
    some_number d k (whole_in d k) low high refl (read_some as_integer (value_in d k) (λ none. shaped (table, none))) ranged

some_number_or : (default : ℕ) (d : Data) (k : Key) (o : Option ℤ) (low high : ℕ) → whole_in d k ≡ o → low ≤ default → default ≤ high →
    ¬ IsSomeAnd o (λ z. (z <ℤ pos low) ⊎ (pos high <ℤ z)) → HasNumberOr default d k low high
some_number_or default d k None low high e l g h = record { whole = rw e tt; least = rw e l; greatest = rw e g }
some_number_or default d k (Some z) low high e l g h =
    let read = in_range z low high h in
    record { whole = rw e read.0; least = rw e read.1; greatest = rw e read.2 }

-- a number that may be missing, with a default of the range
pub has_number_or : (default : ℕ) (d : Data) (k : Key) (low high : ℕ) → low ≤ default → default ≤ high →
    ¬ IsSomeAnd (whole_in d k) (λ z. (z <ℤ pos low) ⊎ (pos high <ℤ z)) → HasNumberOr default d k low high
has_number_or default d k low high l g ranged = some_number_or default d k (whole_in d k) low high refl l g ranged

-- a number of a range of 32 bits can be read
pub readable : (d : Data) (k : Key) (low high : ℕ) → HasNumber d k low high → high < 2 ^ 32 → IsReadable 0 d k
readable d k low high number small = let most = number.greatest in record { whole = rw number.whole refl; small = omega arith }

none_at_top : (document : Data) → IsFaultless document → (k : Kind) (at : Key) → ¬ IsWrong document k part.Top 0 document at
none_at_top document faultless = none_at document faultless part.Top 0 document refl

top_table : (document : Data) → IsFaultless document → IsSome (as_table document)
top_table document faultless = is_table document faultless part.Top 0 document refl

pub has_title : (document : Data) → IsFaultless document → HasTitle document
has_title document faultless =
    let none = none_at_top document faultless in
    let name = has_text document key.Name (top_table document faultless) (none kind.Shape key.Name) in
    record { text = name; title = stable (is_title (text_of document key.Name)) (rw name at (none kind.Name key.Name)) }

pub has_least : (document : Data) → IsFaultless document → HasNumber document key.LeastCycle 1 300
has_least document faultless =
    let none = none_at_top document faultless in
    has_number document key.LeastCycle 1 300 (top_table document faultless) (none kind.Shape key.LeastCycle) (none kind.Range key.LeastCycle)

pub has_greatest : (document : Data) → IsFaultless document → HasNumber document key.GreatestCycle (number_of document key.LeastCycle) 300
has_greatest document faultless =
    let none = none_at_top document faultless in
    has_number document key.GreatestCycle (number_of document key.LeastCycle) 300 (top_table document faultless)
    (none kind.Shape key.GreatestCycle) (rw (has_least document faultless).whole at (none kind.Range key.GreatestCycle))

-- not all lanes are without arrivals
pub not_idle : (document : Data) → IsFaultless document → ¬ All (λ lane. whole_in lane key.Arrival ≡ Some (pos 0)) (lanes_in document)
not_idle document faultless = none_at_top document faultless kind.NoFlow key.Lane

is_between : (low high n : ℕ) → ¬ ¬ IsBetween low high n → IsBetween low high n
is_between low high n h = (not_below n low (λ less. h (λ b. omega arith)), not_below high n (λ more. h (λ b. omega arith)))

-- where a list is asked for, one of the lengths stands
has_count : (d : Data) (k : Key) (low high : ℕ) → IsSome (as_table d) → ¬ (IsSome (as_table d) × ¬ IsSomeAnd (value_in d k) (λ v. IsSome (as_array v))) →
    ¬ IsSomeAnd (list_in d k) (λ ds. ¬ IsBetween low high (length ds)) → IsBetween low high (length (elements_in d k))
has_count d k low high table shaped counted =
    let items = some_value (array_in d k) (read_some as_array (value_in d k) (λ none. shaped (table, none))) in
    rw items.1 (is_between low high _ (rw items.1 at counted))

pub count_groups : (document : Data) → IsFaultless document → IsBetween 2 16 (length (groups_in document))
count_groups document faultless =
    let none = none_at_top document faultless in
    has_count document key.Group 2 16 (top_table document faultless) (none kind.Shape key.Group) (none kind.Count key.Group)

pub count_lanes : (document : Data) → IsFaultless document → IsBetween 1 32 (length (lanes_in document))
count_lanes document faultless =
    let none = none_at_top document faultless in
    has_count document key.Lane 1 32 (top_table document faultless) (none kind.Shape key.Lane) (none kind.Count key.Lane)

pub count_conflicts : (document : Data) → IsFaultless document → IsBetween 1 120 (length (conflicts_in document))
count_conflicts document faultless =
    let none = none_at_top document faultless in
    has_count document key.Conflict 1 120 (top_table document faultless) (none kind.Shape key.Conflict) (none kind.Count key.Conflict)

few_listed : (d : Data) (k : Key) (most : ℕ) (ds : Option (List Data)) → list_in d k ≡ ds → ¬ IsSomeAnd ds (λ es. ¬ IsBetween 0 most (length es)) →
    length (elements_in d k) ≤ most
few_listed d k most None e counted = rw e (omega arith)
few_listed d k most (Some ds) e counted = rw e (is_between 0 most _ counted).1

pub count_links : (document : Data) → IsFaultless document → length (links_in document) ≤ 12
count_links document faultless = few_listed document key.Link 12 (list_in document key.Link) refl (none_at_top document faultless kind.Count key.Link)
