-- The edges of an order: difference constraints on the starts of the groups. An edge from u to v of weight w
-- says that v starts at least w seconds after u; a negative weight bounds how long v may start before u. The pair of the
-- two groups and each of the links may ask for one; the edge has the greatest weight that is asked.
use Rattle.std.specs.Prelude.{ℕ, List, [], ◌∷◌, ℤ, pos, neg_ℤ, Bool, true, false, Option, None, Some, drop, length, ◌+◌, ◌%◌, ◌-ℤ◌, ◌==◌, ◌&&◌, ◌<◌, ◌≤ℤ◌, if◌then◌else◌, nat_lt, slice_index, slice_index_or}
use Rattle.std.specs.Option.{option_map_or}
use Rattle.std.specs.Int.{int_max}
use Rattle.sig_base.specs.Times.{IsGreenNeed}
use Rattle.conflict_matrix.specs.Matrix.{Matrix, intergreen_of}
use Rattle.conflict_matrix.specs.Pairs.{pairs_of, pair_number_of}
use Rattle.conflict_matrix.specs.declared.link.Link.{Link}
use Rattle.constraint_cycles.specs.declared.mark.Mark.{Mark}
use Rattle.constraint_cycles.specs.declared.mark.Mark.TheVariants.{Open, First, Second}

-- in seconds
abbrev pub longest_cycle : ℕ
longest_cycle = 300

abbrev pub longest_green : ℕ
longest_green = longest_cycle

abbrev pub longest_intergreen : ℕ
longest_intergreen = 60

-- what a group needs for which no green is enough
abbrev pub unserved_need : ℕ
unserved_need = longest_green + 1

-- the greatest weight of an edge: such a need and the longest intergreen
abbrev pub greatest_weight : ℕ
greatest_weight = unserved_need + longest_intergreen

-- the weight of the edge from one group to another, where there is one
abbrev pub Edges : Type 0
Edges = ℕ → ℕ → Option ℤ

-- the mark of the pair of groups u and v, in either sense
abbrev pub mark_between : Matrix → List Mark → ℕ → ℕ → Mark
mark_between m marks u v = option_map_or (λ k. slice_index_or marks k Open) (pair_number_of m u v) Open

-- from u to v, which conflict, for the green that u needs and the intergreen to v. Where u is first, v starts at least
-- so much later; where v is first, it is v's next start, a cycle on, that does. No edge while the pair is open.
abbrev pub pair_weight : Mark → Bool → ℕ → ℕ → Option ℤ
pair_weight Open u_is_lower green_and_intergreen cycle = None
pair_weight First true green_and_intergreen cycle = Some (pos green_and_intergreen)
pair_weight First false green_and_intergreen cycle = Some (pos green_and_intergreen -ℤ pos cycle)
pair_weight Second true green_and_intergreen cycle = Some (pos green_and_intergreen -ℤ pos cycle)
pair_weight Second false green_and_intergreen cycle = Some (pos green_and_intergreen)

-- from u to v, which don't conflict: every group starts with group 0 or later, and at most a cycle less one
-- second after it; groups other than 0 say nothing of each other
abbrev pub origin_weight : ℕ → ℕ → ℕ → Option ℤ
origin_weight cycle u v = (if u == v then None else if u == 0 then Some (pos 0) else if v == 0 then Some (pos 1 -ℤ pos cycle) else None)

-- from u to v without the links, for the green that each group needs
abbrev pub group_weight : Matrix → List Mark → List ℕ → ℕ → Edges
group_weight m marks needs cycle u v =
    option_map_or (λ w. pair_weight (mark_between m marks u v) (nat_lt u v) (slice_index needs u + w) cycle) (intergreen_of m u v) (origin_weight cycle u v)

-- from one end of a link to the other: the follower waits so many seconds for the leader, less than a cycle, where the
-- link is First; where it is Second it starts a cycle earlier, since it has then passed the cycle's end. No edge while
-- the link is open.
abbrev pub link_weight : Mark → Bool → ℕ → ℕ → Option ℤ
link_weight Open u_leads wait cycle = None
link_weight First true wait cycle = Some (pos wait)
link_weight First false wait cycle = Some (neg_ℤ (pos wait))
link_weight Second true wait cycle = Some (pos wait -ℤ pos cycle)
link_weight Second false wait cycle = Some (pos cycle -ℤ pos wait)

-- from u to v, for one link with its mark
abbrev pub linked_weight : Mark → Link → ℕ → Edges
linked_weight mark link cycle u v =
    (if u == link.leader && v == link.follower then link_weight mark true (link.after % cycle) cycle
    else if u == link.follower && v == link.leader then link_weight mark false (link.after % cycle) cycle
    else None)

-- the greater of two weights, of which each may be missing
abbrev pub greater : Option ℤ → Option ℤ → Option ℤ
greater None b = b
greater (Some a) None = Some a
greater (Some a) (Some b) = Some (int_max a b)

-- from u to v, for all links with their marks
abbrev pub links_weight : List Mark → List Link → ℕ → Edges
links_weight marks [] cycle u v = None
links_weight [] (link ∷ links) cycle u v = None
links_weight (mark ∷ marks) (link ∷ links) cycle u v = greater (linked_weight mark link cycle u v) (links_weight marks links cycle u v)

-- the marks of the links, which follow those of the pairs
abbrev pub link_marks : Matrix → List Mark → List Mark
link_marks m marks = drop (length (pairs_of m)) marks

-- all edges among the groups: the greatest weight that is asked
abbrev pub edge_weight : Matrix → List Mark → List ℕ → ℕ → Edges
edge_weight m marks needs cycle u v =
    (if nat_lt u m.groups && nat_lt v m.groups
    then greater (group_weight m marks needs cycle u v) (links_weight (link_marks m marks) m.links cycle u v)
    else None)

-- each group has a need
abbrev pub AreNeeds : Matrix → List ℕ → Type 0
AreNeeds m needs = (g : ℕ) → g < m.groups → IsGreenNeed (slice_index needs g)

-- a weight in seconds: at least the longest cycle below 0
pub record IsWeight (w : ℤ) : Type 0 where
  pub least : neg_ℤ (pos longest_cycle) ≤ℤ w
  pub greatest : w ≤ℤ pos greatest_weight
