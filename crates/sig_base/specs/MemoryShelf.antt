-- What contracts see of a shelf in memory.
use Rattle.std.specs.Prelude.{ℕ, List, [], ◌∷◌, ◌++◌, Bool, false, Option, None, Some, refl}
use Rattle.std.specs.Bool.{nat_eq}
use Rattle.std.specs.List.{list_any}
use Rattle.std.specs.Ordering.{nat_cmp}
use Rattle.std.specs.Cmp.Lexicographic.{slice_cmp}
use Rattle.std.specs.FinMap as finite
use Rattle.std.specs.Coded.{Coded, code_by, coded×, coded_ℕ, coded_list}
use Rattle.sig_base.specs.CallNumber.{next_number}
use Rattle.sig_base.specs.Shelf.{Holdings, with_held}

pub record MemoryShelfState : Type 0 where
  pub holds : Holdings
  -- how many calls of `fetch` and `put` there were, as far as 64 bits count
  pub calls : ℕ
  -- the numbers given to `fail_at`
  pub failing : List ℕ
  pub faults : ℕ
  pub refusals : ℕ

-- a state is stored as the pairs of its fields
abbrev pub state_code : Coded MemoryShelfState
state_code = code_by (Holdings × (ℕ × (List ℕ × (ℕ × ℕ))))
    (coded× (finite.code {R = slice_cmp nat_cmp} (coded_list coded_ℕ) (coded_list coded_ℕ))
    (coded× coded_ℕ (coded× (coded_list coded_ℕ) (coded× coded_ℕ coded_ℕ))))
    (λ s. (s.holds, (s.calls, (s.failing, (s.faults, s.refusals)))))
    (λ p. record { holds = p.0; calls = p.1.0; failing = p.1.1.0; faults = p.1.1.1.0; refusals = p.1.1.1.1 })
    (λ _. refl)

-- it holds nothing, was never called and has no fault
abbrev pub empty_shelf : MemoryShelfState
empty_shelf = record { holds = finite.empty; calls = 0; failing = []; faults = 0; refusals = 0 }

-- the number was given to `fail_at`; no number never was
abbrev pub is_failing : List ℕ → Option ℕ → Bool
is_failing failing None = false
is_failing failing (Some number) = list_any (λ given. nat_eq given number) failing

-- the next call has a number, and that number was given to `fail_at`
abbrev pub fails_next : MemoryShelfState → Bool
fails_next s = is_failing s.failing (next_number s.calls)

-- the name holds these bytes, and all else stays
abbrev pub with_bytes : MemoryShelfState → List ℕ → List ℕ → MemoryShelfState
with_bytes s name bytes = record {
  holds = with_held s.holds name bytes;
  calls = s.calls;
  failing = s.failing;
  faults = s.faults;
  refusals = s.refusals;
}

-- one more number is given to `fail_at`, and all else stays
abbrev pub with_failing : MemoryShelfState → ℕ → MemoryShelfState
with_failing s call = record {
  holds = s.holds;
  calls = s.calls;
  failing = s.failing ++ call ∷ [];
  faults = s.faults;
  refusals = s.refusals;
}
