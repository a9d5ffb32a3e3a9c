-- What a tree closes that has a walk for each of its leaves.
use Rattle.std.proofs.Common.{ℕ, suc, All, List, [], ◌∷◌, ◌⊎◌, inl, inr, arith}
use Rattle.std.proofs.lemmas.Bool.{false≢true}
use Rattle.conflict_matrix.specs.Matrix.{Matrix}
use Rattle.constraint_cycles.specs.Marks.{Refines, IsDecided}
use Rattle.constraint_cycles.specs.Closing.{Closes}
use Rattle.constraint_cycles.specs.WalkLaws.{NeedNoLess}
use Rattle.constraint_cycles.specs.Tree.{Leads, AllNodes, IsSound, IsVisited}
use Rattle.constraint_cycles.specs.declared.mark.Mark.{Mark}
use Rattle.constraint_cycles.specs.declared.mark.Mark.TheVariants.{First, Second}
use Rattle.constraint_cycles.specs.declared.node.Node.{Node}
use Rattle.constraint_cycles.specs.declared.node.Node.TheVariants.{Split, Closed, Unvisited}
use Rattle.constraint_cycles.proofs.Refinement.{decision_refined, full_decides}
use Rattle.constraint_cycles.proofs.Growth.{closes_rises, need_rises, refinement_rises}

-- the full order, one that decides each item, refines some order that is to come
abbrev pub RefinesSome : List (List Mark) → List Mark → Type 0
RefinesSome [] full = ⊥
RefinesSome (marks ∷ coming) full = Refines marks full ⊎ RefinesSome coming full

visited_later : (node : Node) (nodes : List Node) → All IsVisited (node ∷ nodes) → All IsVisited nodes
visited_later node nodes visited k other below = visited (suc k) other (omega arith)

pub closing_walk : (m : Matrix) (needs : List ℕ) (cycle : ℕ) (full : List Mark) → IsDecided full → (nodes : List Node) (coming : List (List Mark)) →
    Leads coming nodes [] → All IsVisited nodes → AllNodes (IsSound m needs cycle) coming nodes → RefinesSome coming full → (walk : List ℕ) × Closes m full needs cycle walk
closing_walk m needs cycle full decided [] [] leads visited sound some = absurd some
closing_walk m needs cycle full decided [] (marks ∷ coming) leads visited sound some = cc
closing_walk m needs cycle full decided (node ∷ nodes) [] leads visited sound some = absurd some
closing_walk m needs cycle full decided (Split item ∷ nodes) (marks ∷ coming) leads visited sound (inl here) =
    closing_walk m needs cycle full decided nodes _ leads (visited_later _ nodes visited) sound.1
    (elim (full_decides marks full item here decided sound.0) [
      | inl first ↦ inl (decision_refined marks full item First here sound.0 first)
      | inr second ↦ inr (inl (decision_refined marks full item Second here sound.0 second))
    ])
closing_walk m needs cycle full decided (Split item ∷ nodes) (marks ∷ coming) leads visited sound (inr later) =
    closing_walk m needs cycle full decided nodes _ leads (visited_later _ nodes visited) sound.1 (inr (inr later))
closing_walk m needs cycle full decided (Closed walk ∷ nodes) (marks ∷ coming) leads visited sound (inl here) =
    (walk, closes_rises m marks full needs needs cycle (λ g below. omega arith) (refinement_rises m marks full needs cycle here) walk sound.0)
closing_walk m needs cycle full decided (Closed walk ∷ nodes) (marks ∷ coming) leads visited sound (inr later) =
    closing_walk m needs cycle full decided nodes coming leads (visited_later _ nodes visited) sound.1 later
closing_walk m needs cycle full decided (Unvisited ∷ nodes) (marks ∷ coming) leads visited sound some = absurd (false≢true (visited 0 Unvisited (omega arith)))

pub sound_rises : (m : Matrix) (needs more : List ℕ) (cycle : ℕ) (marks : List Mark) (node : Node) → NeedNoLess m needs more → IsSound m needs cycle marks node → IsSound m more cycle marks node
sound_rises m needs more cycle marks (Split item) no_less sound = sound
sound_rises m needs more cycle marks (Closed walk) no_less sound = closes_rises m marks marks needs more cycle no_less (need_rises m marks needs more cycle no_less) walk sound
sound_rises m needs more cycle marks Unvisited no_less sound = sound

pub all_nodes : (P Q : List Mark → Node → Type 0) → ((marks : List Mark) (node : Node) → P marks node → Q marks node) → (coming : List (List Mark)) (nodes : List Node) →
    AllNodes P coming nodes → AllNodes Q coming nodes
all_nodes P Q more coming [] h = tt
all_nodes P Q more [] (node ∷ nodes) h = absurd h
all_nodes P Q more (marks ∷ coming) (node ∷ nodes) h = (more marks node h.0, all_nodes P Q more _ nodes h.1)
