-- Orders that each decide one more item: there are no more of them than items are left open.
use Rattle.std.proofs.Common.{ℕ, zero, suc, List, [], ◌∷◌, ◌++◌, ◌≡◌, ◌≢◌, ◌+◌, ◌-◌, ◌<◌, ◌≤◌, refl, sym, ap, ◌∙◌, subst, arith, false, Option, Some, None, length, append-nil, drop, take, length-set, get_or, set, slice_get, map, replicate, reverse, count_by, option_to_list}
use Rattle.std.specs.Prelude.{slice_index_or, All}
use Rattle.std.proofs.lemmas.List.Elements.{All-push, All-pop}
use Rattle.std.proofs.lemmas.List.{get_or-reverse, get_or-map, length-map, length-reverse, map-append, reverse-append, take_all, drop_all, length-append, length-replicate}
use Rattle.std.proofs.Math.Seq.{map-set_same}
use Rattle.std.proofs.lemmas.List.Sums.{count_by-le-length}
use Rattle.conflict_matrix.specs.Matrix.{Matrix}
use Rattle.conflict_matrix.specs.Pairs.{pairs_of}
use Rattle.constraint_cycles.specs.Marks.{item_count, root_mark, root_marks}
use Rattle.constraint_cycles.specs.Order.{marks_of}
use Rattle.constraint_cycles.specs.Edge.{AreNeeds}
use Rattle.constraint_cycles.specs.TreeShape.{is_open}
use Rattle.constraint_cycles.specs.declared.mark.Mark.{Mark}
use Rattle.constraint_cycles.specs.declared.mark.Mark.TheVariants.{Open, First, Second}
use Rattle.constraint_cycles.proofs.NodeCounts.{decided_count}
use Rattle.constraint_cycles.proofs.Refinement.{marked_here}
use Rattle.std.proofs.lemmas.Option.{same_Some}
use Rattle.difference_system.specs.Level.{Decision, decision_of, decisions_of, marks_at, IsNext, AreDecisions, IsLevel, AreLevels}
use Rattle.difference_system.specs.declared.level.Level.{Level}

-- the marks of the last decision
abbrev top_marks : List Decision → List Mark
top_marks ds = slice_index_or (map marks_at ds) 0 []

not_open : (mark : Mark) → mark ≢ Open → is_open mark ≡ false
not_open Open h = absurd (h refl)
not_open First h = refl
not_open Second h = refl

decisions_long : (m : Matrix) (ds : List Decision) → AreDecisions m ds → length (top_marks ds) ≡ item_count m
decisions_long m [] h = absurd h
decisions_long m (d ∷ []) h = rw (h, length-append (map root_mark (pairs_of m)) (replicate (length m.links) Open), length-map (pairs_of m) root_mark, length-replicate (length m.links) Open) refl
decisions_long m (d ∷ (below ∷ rest)) h = rw (h.0.is) (length-set below.0 d.1 h.0.mark ∙ decisions_long m (below ∷ rest) h.1)

decisions_room : (m : Matrix) (ds : List Decision) → AreDecisions m ds → count_by is_open (top_marks ds) + length ds ≤ item_count m + 1
decisions_room m [] h = absurd h
decisions_room m (d ∷ []) h = omega (arith, count_by-le-length is_open d.0, decisions_long m (d ∷ []) h)
decisions_room m (d ∷ (below ∷ rest)) h =
    let less = decided_count below.0 d.1 h.0.mark h.0.was_open (not_open h.0.mark h.0.decides) in
    let same : count_by is_open d.0 ≡ count_by is_open (set below.0 d.1 h.0.mark) = ap (count_by is_open) h.0.is in
    omega (arith, decisions_room m (below ∷ rest) h.1)

-- while an item is open there are at most as many decisions as items
decisions_below : (m : Matrix) (ds : List Decision) (item : ℕ) → AreDecisions m ds → slice_get (top_marks ds) item ≡ Some Open → length ds ≤ item_count m
decisions_below m ds item h was_open =
    let less = decided_count (top_marks ds) item First was_open refl in
    omega (arith, decisions_room m ds h)

decisions_more : (m : Matrix) (ds : List Decision) (item : ℕ) (mark : Mark) → AreDecisions m ds → slice_get (top_marks ds) item ≡ Some Open → mark ≢ Open →
    AreDecisions m ((set (top_marks ds) item mark, item) ∷ ds)
decisions_more m [] item mark h was_open decides = absurd h
decisions_more m (below ∷ rest) item mark h was_open decides = (record { mark = mark; was_open = was_open; decides = decides; is = refl }, h)

decisions_less : (m : Matrix) (d : Decision) (ds : List Decision) → 1 ≤ length ds → AreDecisions m (d ∷ ds) → AreDecisions m ds
decisions_less m d [] some h = absurd (omega arith)
decisions_less m d (below ∷ rest) some h = h.1

pub levels_push : (levels : List Level) (l : Level) → decisions_of (levels ++ l ∷ []) ≡ decision_of l ∷ decisions_of levels
levels_push levels l = rw (map-append decision_of levels (l ∷ [])) (reverse-append (map decision_of levels) (decision_of l ∷ []))

next_in : (m : Matrix) (ds : List Decision) (d e : Decision) (k : ℕ) → AreDecisions m ds → suc k < length ds → IsNext (get_or ds (suc k) e) (get_or ds k d)
next_in m [] d e k h within = absurd h
next_in m (top ∷ []) d e k h within = absurd (omega arith)
next_in m (top ∷ (below ∷ rest)) d e zero h within = h.0
next_in m (top ∷ (below ∷ rest)) d e (suc k) h within = next_in m (below ∷ rest) d e k h.1 (omega arith)

root_in : (m : Matrix) (ds : List Decision) (d : Decision) (k : ℕ) → AreDecisions m ds → suc k ≡ length ds → get_or ds k d ≡ (root_marks m, 0)
root_in m [] d k h last = absurd h
root_in m (top ∷ []) d zero h last = h
root_in m (top ∷ []) d (suc k) h last = absurd (omega arith)
root_in m (top ∷ (below ∷ rest)) d zero h last = absurd (omega arith)
root_in m (top ∷ (below ∷ rest)) d (suc k) h last = root_in m (below ∷ rest) d k h.1 (omega arith)

-- the mark of the decided item tells the decision
pub next_mark : (below decision : Decision) (mark : Mark) → IsNext below decision → slice_get decision.0 decision.1 ≡ Some mark → (set below.0 decision.1 mark, decision.1) ≡ decision
next_mark below decision mark h is =
    let same : h.mark ≡ mark = same_Some h.mark mark (sym (marked_here below.0 decision.1 Open h.mark h.was_open) ∙ sym (ap (λ marks. slice_get marks decision.1) h.is) ∙ is) in
    ap (λ marks. (marks, decision.1)) (ap (set below.0 decision.1) (sym same) ∙ sym h.is)

pub levels_some : (m : Matrix) (levels : List Level) → AreDecisions m (decisions_of levels) → 1 ≤ length levels
levels_some m [] h = absurd h
levels_some m (l ∷ levels) h = omega arith

levels_long : (levels : List Level) → length (decisions_of levels) ≡ length levels
levels_long levels = length-reverse (map decision_of levels) ∙ length-map levels decision_of

pub top_first : (levels : List Level) (l : Level) → 1 ≤ length levels → l ≡ get_or levels (length levels - 1) l → top_marks (decisions_of levels) ≡ marks_of l.order
top_first levels l some is =
    let long = length-map levels decision_of in
    let last : length (map decision_of levels) - 1 - 0 ≡ length levels - 1 = omega arith in
    let top : get_or (decisions_of levels) 0 (decision_of l) ≡ decision_of l =
    get_or-reverse (map decision_of levels) 0 (decision_of l) (omega arith)
    ∙ rw last (get_or-map decision_of levels (length levels - 1) l (decision_of l) (omega arith)) ∙ ap decision_of (sym is) in
    let there : 0 < length (decisions_of levels) = omega (arith, levels_long levels) in
    get_or-map marks_at (decisions_of levels) 0 (decision_of l) [] there ∙ ap marks_at top

-- a level by its place from the root order on
at_place : (levels : List Level) (d : Level) (k place : ℕ) → k + place + 1 ≡ length levels → get_or (decisions_of levels) k (decision_of d) ≡ decision_of (get_or levels place d)
at_place levels d k place e =
    let long = length-map levels decision_of in
    let same : length (map decision_of levels) - 1 - k ≡ place = omega arith in
    get_or-reverse (map decision_of levels) k (decision_of d) (omega arith) ∙ rw same (get_or-map decision_of levels place d (decision_of d) (omega arith))

module _ (m : Matrix) (old levels : List Level) (d : Level) (kept : map decision_of levels ≡ map decision_of old) (h : AreDecisions m (decisions_of old)) where
  kept_decisions : AreDecisions m (decisions_of levels)
  kept_decisions = subst (λ ds. AreDecisions m (reverse ds)) (sym kept) h

  pub kept_root : (root : Level) → decision_of root ≡ (root_marks m, 0) → map decision_of (set levels 0 root) ≡ map decision_of old
  kept_root root is =
      let some = levels_some m levels kept_decisions in
      let last = root_in m (decisions_of levels) (decision_of d) (length levels - 1) kept_decisions (omega (arith, levels_long levels)) in
      map-set_same decision_of levels 0 root d (is ∙ sym last ∙ at_place levels d (length levels - 1) 0 (omega arith)) ∙ kept

  next_from : (e : Level) (k place : ℕ) → k + place + 1 ≡ length levels → 1 ≤ place → IsNext (decision_of (get_or levels (place - 1) e)) (decision_of (get_or levels place d))
  next_from e k place last some =
      let next = next_in m (decisions_of levels) (decision_of d) (decision_of e) k kept_decisions (omega (arith, levels_long levels)) in
      subst (λ (below : Decision). IsNext below (decision_of (get_or levels place d))) (at_place levels e (suc k) (place - 1) (omega arith))
      (subst (λ (above : Decision). IsNext (get_or (decisions_of levels) (suc k) (decision_of e)) above) (at_place levels d k place last) next)

  -- each level but that of the root order decides one more item than the one before it
  pub next_level : (below : Level) (place : ℕ) → 1 ≤ place → place < length levels → below ≡ get_or levels (place - 1) below → d ≡ get_or levels place d → IsNext (decision_of below) (decision_of d)
  next_level below place some within below_is is =
      subst (λ (l : Level). IsNext (decision_of l) (decision_of d)) (sym below_is)
      (subst (λ (l : Level). IsNext (decision_of (get_or levels (place - 1) below)) (decision_of l)) (sym is) (next_from below (length levels - 1 - place) place (omega arith) some))

module _ (m : Matrix) (needs : List ℕ) (cycle : ℕ) (levels : List Level) (room : ℕ) (h : AreLevels m needs cycle levels room) where
  pub top_level : (l : Level) → l ≡ get_or levels (length levels - 1) l → IsLevel m needs cycle l
  top_level l is =
      let some = levels_some m levels h.decisions in
      rw is (h.each (length levels - 1) l (omega arith))

  -- while an item is open there is room for one more level
  pub room_left : (item : ℕ) → item_count m ≤ 132 → slice_get (top_marks (decisions_of levels)) item ≡ Some Open → length levels < room
  room_left item few was_open = omega (arith, decisions_below m (decisions_of levels) item h.decisions was_open, levels_long levels, h.spacious)

  pub levels_more : (more : ℕ) (item : ℕ) (mark : Mark) (l : Level) → slice_get (top_marks (decisions_of levels)) item ≡ Some Open → mark ≢ Open →
      decision_of l ≡ (set (top_marks (decisions_of levels)) item mark, item) → IsLevel m needs cycle l → room ≤ more → AreLevels m needs cycle (levels ++ l ∷ []) more
  levels_more more item mark l was_open decides is made larger = record {
    needed = h.needed;
    lasts = h.lasts;
    each = All-push (IsLevel m needs cycle) levels l h.each made;
    decisions = rw (levels_push levels l, is) (decisions_more m (decisions_of levels) item mark h.decisions was_open decides);
    spacious = omega (arith, h.spacious);
  }

  pub levels_less : (less : List Level) (last : Option Level) → levels ≡ less ++ option_to_list last → 2 ≤ length (map marks_at (decisions_of levels)) → AreLevels m needs cycle less room
  levels_less less None is several = subst (λ ls. AreLevels m needs cycle ls room) (is ∙ append-nil less) h
  levels_less less (Some l) is several =
      let popped : decisions_of levels ≡ decision_of l ∷ decisions_of less = ap decisions_of is ∙ levels_push less l in
      let long : length (decisions_of levels) ≡ suc (length (decisions_of less)) = ap length popped in
      let same = length-map (decisions_of levels) marks_at in
      record {
        needed = h.needed;
        lasts = h.lasts;
        each = (All-pop (IsLevel m needs cycle) levels less (Some l) is h.each).0;
        decisions = decisions_less m (decision_of l) (decisions_of less) (omega arith) (subst (AreDecisions m) popped h.decisions);
        spacious = h.spacious;
      }

-- levels that were made anew, written back in their places
pub written_back : (old new : List Level) (len : ℕ) → map decision_of new ≡ map decision_of old → len ≡ length old → take len (new ++ drop (length new) old) ≡ new
written_back old new len same long =
    let as_many : length new ≡ length old = sym (length-map new decision_of) ∙ ap length same ∙ length-map old decision_of in
    let none : drop (length new) old ≡ [] = drop_all (length new) old (omega arith) in
    rw (none, append-nil new) (take_all len new (omega arith))

pub levels_renewed : (m : Matrix) (needs more : List ℕ) (cycle : ℕ) (old new : List Level) (room : ℕ) → AreLevels m needs cycle old room → AreNeeds m more →
    All (IsLevel m more cycle) new → map decision_of new ≡ map decision_of old → AreLevels m more cycle new room
levels_renewed m needs more cycle old new room h needed each same = record {
  needed = needed;
  lasts = h.lasts;
  each = each;
  decisions = subst (λ ds. AreDecisions m (reverse ds)) (sym same) h.decisions;
  spacious = h.spacious;
}
