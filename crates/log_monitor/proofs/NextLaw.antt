-- The next violation of a safe list's memory and a row is the first violation of the list with that row.
use Rattle.std.proofs.Common.{ℕ, List, [], ◌∷◌, ◌++◌, length, Option, Some, None, ◌≡◌, ◌⊎◌, ◌≤◌, ◌<◌, ◌+◌, ◌-◌, inl, inr, refl, sym, ap, ◌∙◌, subst, arith}
use Rattle.std.proofs.lemmas.Bool.{cases_lt}
use Rattle.std.proofs.lemmas.Option.{slice_get_within}
use Rattle.junction_model.specs.Junction.{JunctionView}
use Rattle.aspect_player.specs.declared.aspect.Aspect.{Aspect}
use Rattle.aspect_player.specs.declared.aspect.Aspect.TheVariants.{Green, Amber}
use Rattle.aspect_player.specs.Safe.{Shows, IsSafe, IsClearance, IsWholeAmber, IsWholeGreen}
use Rattle.aspect_player.proofs.Timetable.{in_rows}
use Rattle.log_monitor.specs.declared.violation.Violation.{Violation}
use Rattle.log_monitor.specs.declared.violation.Violation.TheVariants as violation
use Rattle.log_monitor.specs.Memory.{Memory, IsMemoryOf, IsLastGreen, latest_of, IsNext, HasNoNext}
use Rattle.log_monitor.specs.Violations.{AreRows, StandsAt, IsLeast, IsFirstViolation}
use Rattle.log_monitor.specs.MonitorLaws.{NextLaw}
use Rattle.log_monitor.proofs.LongerRows.{amber_or_not, shown_group, shown_some, longer, shorter, shorter_other, row_count}
use Rattle.log_monitor.proofs.Prefix.{prefix_law}
use Rattle.log_monitor.proofs.NextStands.{latest, next_stands, stands_next}

-- a list where something stands isn't safe
pub stands_unsafe : (junction : JunctionView) (all : List (List Aspect)) (v : ℕ) (found : Violation) → v < length all →
    StandsAt junction all v found → ¬ IsSafe junction all
stands_unsafe junction all v (violation.Clearance i j u w) h stands safe =
    let s = stands.0 in
    let apart = safe.clearance i j s.intergreen u v s.conflict s.ordered s.first s.second in absurd (omega (arith, apart, s.near))
stands_unsafe junction all v (violation.Amber i w) h stands safe =
    let s = stands.0 in
    let k : ℕ = v - s.last in
    let sum : s.last + k ≡ v = omega (arith, s.later) in
    let amber = safe.amber i s.last k s.group s.there s.green s.ended (omega (arith, s.later)) (omega (arith, s.within, s.later)) (omega (arith, sum, h)) in
    s.other (subst (λ t. Shows all t i Amber) sum amber)
stands_unsafe junction all v (violation.Minimum i w) h stands safe =
    let s = stands.0 in
    let whole = safe.minimum i s.before s.seconds s.group s.there s.some s.begun s.green s.ended in absurd (omega (arith, whole, s.short))

-- the parts of a list with a row added
snoc_parts : (rows before after : List (List Aspect)) (row own : List Aspect) → rows ++ row ∷ [] ≡ before ++ own ∷ after →
    ((rows ≡ before) × (row ≡ own) × (after ≡ [])) ⊎ ((rest : List (List Aspect)) × (rows ≡ (before ++ own ∷ []) ++ rest))
snoc_parts [] [] [] row own e = inl (refl, cc, refl)
snoc_parts [] [] (x ∷ after) row own e = cc
snoc_parts [] (b ∷ []) after row own e = cc
snoc_parts [] (b ∷ c ∷ before) after row own e = cc
snoc_parts (first ∷ rows) [] after row own e = let same : first ≡ own = cc in inr (rows, ap (λ x. x ∷ rows) same)
snoc_parts (first ∷ rows) (b ∷ before) after row own e =
    let head : first ≡ b = cc in
    let tail : rows ++ row ∷ [] ≡ before ++ own ∷ after = cc in
    elim (snoc_parts rows before after row own tail) [
      | inl same ↦ inl (rw (head, same.0) refl, same.1, same.2)
      | inr more ↦ inr (more.0, rw (head, more.1) refl)
    ]

least_same : (P Q : Violation → Type 0) (found : Violation) → ((x : Violation) → P x → Q x) → ((x : Violation) → Q x → P x) →
    IsLeast P found → IsLeast Q found
least_same P Q found to from is = record { stands = to found is.stands; least = λ other stands. is.least other (from other stands) }

module _ (junction : JunctionView) (rows : List (List Aspect)) (row : List Aspect) (m : Memory) (are : AreRows junction (rows ++ row ∷ []))
    (safe : IsSafe junction rows) (is : IsMemoryOf junction rows m) where
  size : length (rows ++ row ∷ []) ≡ length rows + 1
  size = row_count rows row

  module _ (none : HasNoNext junction m row) where
    nothing : (found : Violation) → ¬ StandsAt junction (rows ++ row ∷ []) (length rows) found
    nothing found stands = none found (stands_next junction rows row m are is safe found stands)

    clearance_kept : IsClearance junction (rows ++ row ∷ [])
    clearance_kept i j w u v conflict order first second = elim (cases_lt v (length rows)) [
      | inl old ↦ safe.clearance i j w u v conflict order (shorter rows (row ∷ []) u i Green (omega (arith, old, order)) first) (shorter rows (row ∷ []) v j Green old second)
      | inr rest ↦
          let at : v ≡ length rows = omega (arith, rest, in_rows (rows ++ row ∷ []) v j Green second, size) in
          elim (cases_lt (u + w) v) [
            | inl apart ↦ apart
            | inr near ↦ absurd (by (latest_of m row i) (latest junction rows row m are is i (shown_group junction (rows ++ row ∷ []) u i Green are first)) at near)
          ]
    ]
      where
        by : (o : Option ℕ) → IsLastGreen (rows ++ row ∷ []) i o → v ≡ length rows → v ≤ u + w → ⊥
        by None last at near = last u first
        by (Some t) last at near =
            let after : u ≤ t = elim (cases_lt t u) [ inl before ↦ absurd (last.1 u before first) | inr fine ↦ fine ] in
            nothing (violation.Clearance i j t (length rows)) (
              record {
                intergreen = w;
                conflict = conflict;
                second = subst (λ n. Shows (rows ++ row ∷ []) n j Green) at second;
                first = last.0;
                ordered = omega (arith, in_rows (rows ++ row ∷ []) t i Green last.0, size);
                near = omega (arith, at, near, after);
                latest = λ n later _ e. last.1 n later e;
              },
              refl,
            )

    amber_kept : IsWholeAmber junction (rows ++ row ∷ [])
    amber_kept i u k group there green other some within inside = elim (cases_lt (u + k) (length rows)) [
      | inl old ↦ longer rows (row ∷ []) (u + k) i Amber (safe.amber i u k group there (shorter rows (row ∷ []) u i Green (omega (arith, old)) green)
          (shorter_other rows (row ∷ []) (u + 1) i (omega (arith, old, some)) other) some within old)
      | inr rest ↦
          let at : u + k ≡ length rows = omega (arith, rest, inside, size) in
          let shown = shown_some junction (rows ++ row ∷ []) (u + k) i are inside (slice_get_within junction.groups i group there) in
          elim (amber_or_not shown.0) [
            | inl amber ↦ shown.1 ∙ ap Some amber
            | inr not ↦ absurd (nothing (violation.Amber i (length rows)) (
              record {
                group = group;
                there = there;
                last = u;
                green = green;
                ended = other;
                later = omega (arith, at, some);
                within = omega (arith, at, within);
                other = λ e. not (let amber = subst (λ n. Shows (rows ++ row ∷ []) n i Amber) (sym at) e in let own = shown.1 in cc);
              },
              refl,
            ))
          ]
    ]

    minimum_kept : IsWholeGreen junction (rows ++ row ∷ [])
    minimum_kept i u n group there some begun green ended = elim (cases_lt (u + n + 1) (length rows)) [
      | inl old ↦ safe.minimum i u n group there some (shorter_other rows (row ∷ []) u i (omega (arith, old)) begun)
          (λ k low high. shorter rows (row ∷ []) (u + k) i Green (omega (arith, old, high)) (green k low high)) (shorter_other rows (row ∷ []) (u + n + 1) i old ended)
      | inr rest ↦
          let at : u + n + 1 ≡ length rows = omega (arith, rest, in_rows (rows ++ row ∷ []) (u + n + 1) i ended.0 ended.1, size) in
          elim (cases_lt n group.times.min_green) [
            | inr fine ↦ fine
            | inl short ↦ absurd (nothing (violation.Minimum i (length rows)) (
              record {
                group = group;
                there = there;
                before = u;
                seconds = n;
                some = some;
                begun = begun;
                green = green;
                ended = ended;
                now = sym at;
                short = short;
              },
              refl,
            ))
          ]
    ]

    all_safe : IsSafe junction (rows ++ row ∷ [])
    all_safe = record { clearance = clearance_kept; amber = amber_kept; minimum = minimum_kept }

  none_next : IsSafe junction (rows ++ row ∷ []) → HasNoNext junction m row
  none_next all found next = stands_unsafe junction (rows ++ row ∷ []) (length rows) found (omega (arith, size)) (next_stands junction rows row m are is found next) all

  first_violation : (found : Violation) → IsNext junction m row found → IsFirstViolation junction (rows ++ row ∷ []) found
  first_violation found next =
      let first = least_same _ _ found (next_stands junction rows row m are is) (stands_next junction rows row m are is safe) next in
      record {
        before = rows;
        row = row;
        after = [];
        parts = refl;
        safe = safe;
        unsafe = stands_unsafe junction (rows ++ row ∷ []) (length rows) found (omega (arith, size)) first.stands;
        first = first;
      }

  next_violation : (found : Violation) → IsFirstViolation junction (rows ++ row ∷ []) found → IsNext junction m row found
  next_violation found first = elim (snoc_parts rows first.before first.after row first.row first.parts) [
    | inl same ↦
        let before : first.before ≡ rows = sym same.0 in
        let own : first.row ≡ row = sym same.1 in
        let least : IsLeast (StandsAt junction (rows ++ row ∷ []) (length rows)) found = subst (λ r. IsLeast (StandsAt junction (rows ++ r ∷ []) (length rows)) found) own
        (subst (λ b. IsLeast (StandsAt junction (b ++ first.row ∷ []) (length b)) found) before first.first) in
        least_same _ _ found (stands_next junction rows row m are is safe) (next_stands junction rows row m are is) least
    | inr more ↦ absurd (first.unsafe (prefix_law junction (first.before ++ first.row ∷ []) more.0 (subst (IsSafe junction) more.1 safe)))
  ]

pub next_law : NextLaw
next_law junction rows row m are safe is = record {
  violation = λ found. (first_violation junction rows row m are safe is found, next_violation junction rows row m are safe is found);
  none = (all_safe junction rows row m are safe is, none_next junction rows row m are safe is);
}
