-- The memory of a list with a row added.
use Rattle.std.proofs.Common.{ℕ, zero, suc, List, [], ◌∷◌, ◌++◌, length, Option, Some, None, ◌≡◌, ◌≢◌, slice_get, inl, inr, refl, sym, ap, ◌∙◌, subst, arith}
use Rattle.std.proofs.lemmas.Bool.{cases_lt}
use Rattle.aspect_player.specs.declared.aspect.Aspect.{Aspect}
use Rattle.aspect_player.specs.declared.aspect.Aspect.TheVariants.{Red, RedAmber, Green, Amber}
use Rattle.aspect_player.specs.Safe.{Shows}
use Rattle.aspect_player.proofs.Timetable.{in_rows}
use Rattle.log_monitor.specs.declared.memory.GroupMemory.{GroupMemory}
use Rattle.log_monitor.specs.Memory.{IsLastGreen, IsRunStart, run_start, group_after, groups_after}
use Rattle.log_monitor.specs.MonitorLaws.{MemoryLaw}
use Rattle.log_monitor.proofs.LongerRows.{longer, shorter, row_count, shown_new, old_or_new}

pub groups_count : (v : ℕ) (row : List Aspect) (groups : List GroupMemory) → length row ≡ length groups →
    length (groups_after v row groups) ≡ length groups
unfolding groups_after
groups_count v [] [] h = refl
groups_count v [] (own ∷ groups) h = absurd (omega arith)
groups_count v (aspect ∷ row) [] h = absurd (omega arith)
groups_count v (aspect ∷ row) (own ∷ groups) h = omega (arith, groups_count v row groups (omega arith))

-- what is remembered of a group comes from its aspect and what was remembered of it
pub one_group : (v : ℕ) (row : List Aspect) (groups : List GroupMemory) (i : ℕ) (new : GroupMemory) →
    slice_get (groups_after v row groups) i ≡ Some new →
    (aspect : Aspect) × (old : GroupMemory) × (slice_get row i ≡ Some aspect) × (slice_get groups i ≡ Some old) × (group_after v aspect old ≡ new)
unfolding groups_after
one_group v [] groups i new e = cc
one_group v (aspect ∷ row) [] i new e = cc
one_group v (aspect ∷ row) (own ∷ groups) zero new e = (aspect, own, refl, refl, cc)
one_group v (aspect ∷ row) (own ∷ groups) (suc i) new e = one_group v row groups i new e

module _ (rows : List (List Aspect)) (row : List Aspect) (i : ℕ) where
  last_new : slice_get row i ≡ Some Green → IsLastGreen (rows ++ row ∷ []) i (Some (length rows))
  last_new green = (
    shown_new rows row i Green green,
    λ t after e. absurd (omega (arith, after, in_rows (rows ++ row ∷ []) t i Green e, row_count rows row)),
  )

  last_old : (last : Option ℕ) → slice_get row i ≢ Some Green → IsLastGreen rows i last → IsLastGreen (rows ++ row ∷ []) i last
  last_old None other is = λ t e. elim (old_or_new rows row t i Green e) [ inl old ↦ is t old.1 | inr new ↦ other new.1 ]
  last_old (Some u) other is = (
    longer rows (row ∷ []) u i Green is.0,
    λ t after e. elim (old_or_new rows row t i Green e) [ inl old ↦ is.1 t after old.1 | inr new ↦ other new.1 ],
  )

  run_new : (since : Option ℕ) → slice_get row i ≡ Some Green → IsRunStart rows i since →
      IsRunStart (rows ++ row ∷ []) i (Some (run_start (length rows) since))
  run_new None green is = (
    omega (arith, row_count rows row),
    λ t low high. let at : length rows ≡ t = omega (arith, low, high, row_count rows row) in subst (λ n. Shows (rows ++ row ∷ []) n i Green) at (shown_new rows row i Green green),
    λ t at e. is t at (shorter rows (row ∷ []) t i Green (omega (arith, at)) e),
  )
  run_new (Some f) green is = (
    omega (arith, is.0, row_count rows row),
    λ t low high. elim (cases_lt t (length rows)) [
      | inl old ↦ longer rows (row ∷ []) t i Green (is.1 t low old)
      | inr new ↦ let at : length rows ≡ t = omega (arith, new, high, row_count rows row) in subst (λ n. Shows (rows ++ row ∷ []) n i Green) at (shown_new rows row i Green green)
    ],
    λ t at e. is.2 t at (shorter rows (row ∷ []) t i Green (omega (arith, at, is.0)) e),
  )

  run_none : slice_get row i ≢ Some Green → IsRunStart (rows ++ row ∷ []) i None
  run_none other = λ t at e. elim (old_or_new rows row t i Green e) [
    | inl old ↦ absurd (omega (arith, at, old.0, row_count rows row))
    | inr new ↦ other new.1
  ]

  not_green : (aspect : Aspect) → slice_get row i ≡ Some aspect → aspect ≢ Green → slice_get row i ≢ Some Green
  not_green aspect is other e = other (cc)

  pub last_after : (aspect : Aspect) (old : GroupMemory) → slice_get row i ≡ Some aspect → IsLastGreen rows i old.last →
      IsLastGreen (rows ++ row ∷ []) i (group_after (length rows) aspect old).last
  last_after Green old shown is = last_new shown
  last_after Red old shown is = last_old old.last (not_green Red shown (λ e. cc e)) is
  last_after RedAmber old shown is = last_old old.last (not_green RedAmber shown (λ e. cc e)) is
  last_after Amber old shown is = last_old old.last (not_green Amber shown (λ e. cc e)) is

  pub run_after : (aspect : Aspect) (old : GroupMemory) → slice_get row i ≡ Some aspect → IsRunStart rows i old.since →
      IsRunStart (rows ++ row ∷ []) i (group_after (length rows) aspect old).since
  run_after Green old shown is = run_new old.since shown is
  run_after Red old shown is = run_none (not_green Red shown (λ e. cc e))
  run_after RedAmber old shown is = run_none (not_green RedAmber shown (λ e. cc e))
  run_after Amber old shown is = run_none (not_green Amber shown (λ e. cc e))

pub memory_law : MemoryLaw
memory_law junction rows row m full is = record {
  count = omega (arith, is.count, row_count rows row);
  groups = groups_count m.rows row m.groups (full ∙ sym is.groups) ∙ is.groups;
  last = λ i new e.
      let one = one_group m.rows row m.groups i new e in
      let at : group_after (length rows) one.0 one.1 ≡ new = ap (λ n. group_after n one.0 one.1) (sym is.count) ∙ one.4 in
      subst (λ own. IsLastGreen (rows ++ row ∷ []) i own.last) at (last_after rows row i one.0 one.1 one.2 (is.last i one.1 one.3));
  since = λ i new e.
      let one = one_group m.rows row m.groups i new e in
      let at : group_after (length rows) one.0 one.1 ≡ new = ap (λ n. group_after n one.0 one.1) (sym is.count) ∙ one.4 in
      subst (λ own. IsRunStart (rows ++ row ∷ []) i own.since) at (run_after rows row i one.0 one.1 one.2 (is.since i one.1 one.3));
}
