-- A tree breaks no rule exactly where it closes its cycle.
use Rattle.std.proofs.Common.{ℕ, zero, suc, List, [], ◌∷◌, ◌++◌, append_assoc, length, take, get_or, slice_index, ◌≡◌, ◌≢◌, ◌<◌, ◌≤◌, inl, inr, refl, sym, ap, ◌∙◌, false, arith, subst, ℤ, pos, ◌≤ℤ◌}
use Rattle.std.specs.Prelude.{Option, None, Some, All, slice_get}
use Rattle.std.proofs.lemmas.Bool.{cases_lt}
use Rattle.std.proofs.lemmas.Int.{ints, by_lt_z}
use Rattle.std.proofs.lemmas.List.Elements.{All-head, All-tail}
use Rattle.std.proofs.lemmas.Option.{slice_get_within, slice_get-get_or}
use Rattle.std.proofs.Math.Seq.{take-append_seam}
use Rattle.std.proofs.lemmas.List.{append-nil, take_all}
use Rattle.constraint_cycles.specs.Closing.{Closes}
use Rattle.constraint_cycles.specs.Edge.{longest_green}
use Rattle.constraint_cycles.specs.Marks.{root_marks}
use Rattle.constraint_cycles.specs.Walk.{IsWalk, IsPositiveCycle, sum_of}
use Rattle.constraint_cycles.specs.Tree.{Leads, AllNodes, IsSound, IsVisited, IsWholeTree, ClosesCycle, orders_below}
use Rattle.constraint_cycles.specs.declared.mark.Mark.{Mark}
use Rattle.constraint_cycles.specs.declared.mark.Mark.TheVariants.{Open, First, Second}
use Rattle.constraint_cycles.specs.declared.node.Node.{Node}
use Rattle.constraint_cycles.specs.declared.node.Node.TheVariants as node
use Rattle.constraint_cycles.proofs.Visits.{leads_more}
use Rattle.plan_certificate.specs.Ranges.{IsNodeAmong, IsWalkAmong}
use Rattle.certificate_checker.specs.Basis.{BasisView, edges_of}
use Rattle.certificate_checker.specs.TreeRules.{HasOrder, IsAt, LacksAnEdge, HasLowSum, IsOfServedGroup, BreaksAt, NoneBreaks}
use Rattle.certificate_checker.specs.declared.rule.Rule.TheVariants.{Plan, Fit, Least, Cycles, Tree, Pair, Unvisited, Edge, Sum, Budget}
use Rattle.certificate_checker.proofs.TreeRules.{one_rest, never_unvisited}

abbrev Among : BasisView → Node → Type 0
Among basis = IsNodeAmong basis.conflicts.groups

at_seam : (before : List Node) (own : Node) (after : List Node) → slice_get (before ++ own ∷ after) (length before) ≡ Some own
at_seam [] own after = refl
at_seam (front ∷ before) own after = at_seam before own after

module _ (basis : BasisView) (nodes : List Node) (visited : All IsVisited nodes) (none : NoneBreaks basis nodes) where
  abbrev root : List (List Mark)
  root = root_marks basis.conflicts ∷ []

  sound_item : (marks : List Mark) (item : ℕ) (o : Option Mark) → slice_get marks item ≡ o → (slice_get marks item ≢ Some Open → ⊥) → slice_get marks item ≡ Some Open
  sound_item marks item None e shut = absurd (shut (λ f. cc))
  sound_item marks item (Some Open) e shut = e
  sound_item marks item (Some First) e shut = absurd (shut (λ f. cc))
  sound_item marks item (Some Second) e shut = absurd (shut (λ f. cc))

  positive_cycle : (marks : List Mark) (walk : List ℕ) (place : ℕ) → IsAt basis nodes place marks (node.Closed walk) → IsWalk walk → 2 ≤ length walk →
      (o : Option ℤ) → sum_of (edges_of basis marks) walk ≡ o → IsPositiveCycle (edges_of basis marks) walk
  positive_cycle marks walk place at is several None e =
      absurd (none Edge place (record { walk = walk; marks = marks; at_closed = at; lacks = record { several = several; missing = e } }))
  positive_cycle marks walk place at is several (Some sum) e = by_lt_z (pos 0) sum (λ h. record { walk = is; sum = sum; adds = e; positive = h })
      (λ h. absurd (none Sum place (record { walk = walk; marks = marks; at_closed = at; low = inl (record { several = several; sum = sum; adds = e; at_most = h }) })))

  sound_walk : (marks : List Mark) (walk : List ℕ) (place : ℕ) → IsAt basis nodes place marks (node.Closed walk) → IsWalkAmong basis.conflicts.groups walk →
      Closes basis.conflicts marks basis.needs basis.cycle walk
  sound_walk marks [] place at is = absurd (omega (arith, is.0.some))
  sound_walk marks (g ∷ []) place at is =
      let within = All-head (λ h. h < basis.conflicts.groups) g [] is.1 in
      elim (cases_lt longest_green (slice_index basis.needs g)) [
        | inl more ↦ (within, omega (arith, more))
        | inr enough ↦ absurd (none Sum place (record { walk = g ∷ []; marks = marks; at_closed = at; low = inr (record { group = g; alone = refl; served = enough }) }))
      ]
  sound_walk marks (first ∷ (second ∷ rest)) place at is = positive_cycle marks (first ∷ (second ∷ rest)) place at is.0 (omega arith) _ refl

  sound_node : (marks : List Mark) (own : Node) (place : ℕ) → IsAt basis nodes place marks own → Among basis own →
      IsSound basis.conflicts basis.needs basis.cycle marks own
  sound_node marks (node.Split item) place at range = sound_item marks item _ refl (λ shut. none Pair place (record { item = item; marks = marks; at_split = at; not_open = shut }))
  sound_node marks (node.Closed walk) place at range = sound_walk marks walk place at range
  sound_node marks node.Unvisited place at range = tt

  walked : (before after : List Node) (coming : List (List Mark)) → before ++ after ≡ nodes → All (Among basis) after → Leads root before coming →
      Leads coming after [] × AllNodes (IsSound basis.conflicts basis.needs basis.cycle) coming after
  walked before [] [] is range leads = (refl, tt)
  walked before [] (marks ∷ later) is range leads =
      let taken : take (length before) nodes ≡ before = rw (← is) (take-append_seam before []) in
      let end : length before ≡ length nodes = rw (← is) (ap length (sym (append-nil before))) in
      absurd (none Tree (length before) (inl (end, (marks, record { later = later; leads = rw taken leads }))))
  walked before (own ∷ after) [] is range leads =
      let taken : take (length before) nodes ≡ before = rw (← is) (take-append_seam before (own ∷ after)) in
      let at : slice_get nodes (length before) ≡ Some own = rw (← is) (at_seam before own after) in
      absurd (none Tree (length before) (inr (slice_get_within nodes (length before) own at, rw taken leads)))
  walked before (own ∷ after) (marks ∷ later) is range leads =
      let taken : take (length before) nodes ≡ before = rw (← is) (take-append_seam before (own ∷ after)) in
      let at : slice_get nodes (length before) ≡ Some own = rw (← is) (at_seam before own after) in
      let here : IsAt basis nodes (length before) marks own = record { there = at; order = record { later = later; leads = rw taken leads } } in
      let rest = walked (before ++ own ∷ []) after (orders_below marks own ++ later) (append_assoc before (own ∷ []) after ∙ is) (All-tail (Among basis) own after range)
      (leads_more before root later marks own leads) in
      (rest.0, (sound_node marks own (length before) here (All-head (Among basis) own after range), rest.1))

  pub closes_by : All (Among basis) nodes → ClosesCycle basis.conflicts basis.needs basis.cycle nodes
  closes_by ranges = let all = walked [] nodes root refl ranges refl in record { whole = all.0; visited = visited; sound = all.1 }

-- each node of a tree that closes its cycle is sound in its own order
sound_at : (P : List Mark → Node → Type 0) (coming : List (List Mark)) (nodes : List Node) → AllNodes P coming nodes → (place : ℕ) (own : Node) → slice_get nodes place ≡ Some own →
    (marks : List Mark) × (later : List (List Mark)) × Leads coming (take place nodes) (marks ∷ later) × P marks own
sound_at P coming [] all place own at = absurd (omega (arith, slice_get_within [] place own at))
sound_at P [] (front ∷ nodes) all place own at = absurd all
sound_at P (marks ∷ later) (front ∷ nodes) all zero own at = let same : front ≡ own = cc in (marks, later, refl, subst (P marks) same all.0)
sound_at P (marks ∷ later) (front ∷ nodes) all (suc place) own at = sound_at P _ nodes all.1 place own at

module _ (basis : BasisView) (marks : List Mark) where
  abbrev ClosesHere : List ℕ → Type 0
  ClosesHere = Closes basis.conflicts marks basis.needs basis.cycle

  has_edges : (walk : List ℕ) → ClosesHere walk → ¬ LacksAnEdge basis marks walk
  has_edges [] closes lacks = omega (arith, lacks.several)
  has_edges (g ∷ []) closes lacks = omega (arith, lacks.several)
  has_edges (first ∷ (second ∷ rest)) closes lacks = let adds = closes.adds in let none = lacks.missing in cc

  has_sum : (walk : List ℕ) → ClosesHere walk → ¬ HasLowSum basis marks walk
  has_sum [] closes low = omega (arith, low.several)
  has_sum (g ∷ []) closes low = omega (arith, low.several)
  has_sum (first ∷ (second ∷ rest)) closes low =
      let adds = closes.adds in
      let other = low.adds in
      let same : closes.sum ≡ low.sum = cc in
      let at_most : closes.sum ≤ℤ pos 0 = rw (← same) at low.at_most in
      absurd (omega (arith, ints, at_most, closes.positive))

  not_served : (walk : List ℕ) → ClosesHere walk → ¬ IsOfServedGroup basis walk
  not_served walk closes served =
      let alone : ClosesHere (served.group ∷ []) = subst ClosesHere served.alone closes in
      absurd (omega (arith, alone.1, served.served))

-- a whole tree of sound nodes breaks no rule but that of unvisited nodes
module _ (basis : BasisView) (nodes : List Node) (whole : IsWholeTree basis.conflicts nodes)
    (sound : AllNodes (IsSound basis.conflicts basis.needs basis.cycle) (root_marks basis.conflicts ∷ []) nodes) where
  abbrev IsOwn : List Mark → Node → Type 0
  IsOwn = IsSound basis.conflicts basis.needs basis.cycle

  own_sound : (place : ℕ) (marks : List Mark) (own : Node) → IsAt basis nodes place marks own → IsOwn marks own
  own_sound place marks own at =
      let found = sound_at IsOwn (root_marks basis.conflicts ∷ []) nodes sound place own at.there in
      let same = one_rest (root_marks basis.conflicts ∷ []) (take place nodes) _ _ found.2 at.order.leads in
      let marks_same : found.0 ≡ marks = cc in
      subst (λ ms. IsOwn ms own) marks_same found.3

  no_missing : (place : ℕ) (marks : List Mark) → length nodes ≤ place → HasOrder basis nodes place marks → ⊥
  no_missing place marks past o =
      let leads = rw (take_all place nodes past) at o.leads in
      let same = one_rest (root_marks basis.conflicts ∷ []) nodes _ _ leads whole in cc

  no_more : (place : ℕ) → place < length nodes → Leads (root_marks basis.conflicts ∷ []) (take place nodes) [] → ⊥
  no_more place within leads =
      let at = slice_get-get_or nodes place node.Unvisited within in
      let found = sound_at IsOwn (root_marks basis.conflicts ∷ []) nodes sound place (get_or nodes place node.Unvisited) at in
      let same = one_rest (root_marks basis.conflicts ∷ []) (take place nodes) _ _ found.2 leads in cc

  pub none_by_sound : ((place : ℕ) → ¬ BreaksAt basis nodes Unvisited place) → NoneBreaks basis nodes
  none_by_sound kept Tree place (inl b) = no_missing place b.1.0 (omega (arith, b.0)) b.1.1
  none_by_sound kept Tree place (inr b) = no_more place b.0 b.1
  none_by_sound kept Pair place b = b.not_open (own_sound place b.marks (node.Split b.item) b.at_split)
  none_by_sound kept Unvisited place b = kept place b
  none_by_sound kept Edge place b = has_edges basis b.marks b.walk (own_sound place b.marks (node.Closed b.walk) b.at_closed) b.lacks
  none_by_sound kept Sum place b =
      let closes = own_sound place b.marks (node.Closed b.walk) b.at_closed in
      elim b.low [ inl low ↦ has_sum basis b.marks b.walk closes low | inr served ↦ not_served basis b.marks b.walk closes served ]
  none_by_sound kept Plan place b = b
  none_by_sound kept (Fit fault) place b = b
  none_by_sound kept Least place b = b
  none_by_sound kept Cycles place b = b
  none_by_sound kept Budget place b = b

none_unvisited : (basis : BasisView) (nodes : List Node) → All IsVisited nodes → basis.unfinished ≡ false → (place : ℕ) → ¬ BreaksAt basis nodes Unvisited place
none_unvisited basis nodes visited finished place (inl b) = never_unvisited nodes place visited b.0
none_unvisited basis nodes visited finished place (inr (inl b)) = never_unvisited nodes b.before visited b.unvisited
none_unvisited basis nodes visited finished place (inr (inr b)) = let stopped = b.stopped in cc

pub none_by_closing : (basis : BasisView) (nodes : List Node) → ClosesCycle basis.conflicts basis.needs basis.cycle nodes → basis.unfinished ≡ false → NoneBreaks basis nodes
none_by_closing basis nodes tree finished = none_by_sound basis nodes tree.whole tree.sound (none_unvisited basis nodes tree.visited finished)
