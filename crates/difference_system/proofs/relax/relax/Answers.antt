use Rattle.std.proofs.Common.{ℕ, List, ◌∷◌, ◌≡◌, ◌<◌, ◌==◌, false, pos, arith, sym, ap, ◌∙◌}
use Rattle.std.specs.List.{list_any}
use Rattle.std.proofs.lemmas.Int.{ints}
use Rattle.difference_system.specs.State.{start_of, trail_of, with_start}
use Rattle.difference_system.specs.Relax.{asked_by, IsRaise}
use Rattle.difference_system.specs.declared.edge.Edge.{Edge}
use Rattle.difference_system.specs.declared.state.State.{State}
use Rattle.difference_system.proofs.relax.relax.Goals as goal

raise_of : (s : State) (e : Edge) (raised : State) (start : ℕ) (trail : List ℕ) → raised ≡ with_start s e.to start trail →
    trail ≡ e.to ∷ trail_of s e.from → start_of s e.to < start → pos start ≡ asked_by s e → list_any (λ g. e.to == g) (trail_of s e.from) ≡ false → IsRaise s e raised
raise_of s e raised start trail set goes_on later asked apart = record {
  start = start;
  later = later;
  asked = asked;
  set = set ∙ ap (with_start s e.to start) goes_on;
  apart = apart;
}

pub push-requires : goal.push-requires
push-requires c =
    let off = rw c.trail.ensures at c.if-holds.ensures in
    rw c.trail.ensures (c.requires.room (sym off))

pub returns : goal.returns
returns c =
    let off = rw c.trail.ensures at c.if-holds.ensures in
    raise_of c.args.state.now c.args.edge _ _ _ c.set.ensures (c.push.ensures ∙ ap (λ trail. c.args.edge.to ∷ trail) c.trail.ensures)
    (omega (arith, ints)) (omega (arith, ints)) (sym off)
