use Rattle.std.proofs.Common.{length, ◌≤◌, ap, subst, arith}
use Rattle.std.proofs.lemmas.List.{take_all}
use Rattle.difference_system.specs.EdgeList.{edges_in}
use Rattle.difference_system.specs.Relax.{PassesUpTo}
use Rattle.difference_system.proofs.Relaxes.{met_more, raised_more}
use Rattle.difference_system.proofs.relax.pass.Goals as goal
use Rattle.difference_system.proofs.relax.pass.Goals.{in-Met, in-Raised}

pub loop-place-preserved : goal.loop-place-preserved
loop-place-preserved c =
    let es = edges_in c.args.list.now in
    elim c.match-relax_at.branch [
      | in-Met w ↦ record {
        state = c.relax_at.ensures.state;
        so_far = rw w.raised-is (met_more es c.args.state.now c.loop-place.state c.relax_at.new.state c.loop-place.place c.loop-place.raised (omega (arith, ap length c.edges-place-end.ensures))
            w.in-Met.ensures.step.0 w.in-Met.ensures.step.1 c.loop-place.invariant.so_far);
      }
      | in-Raised w ↦ record {
        state = c.relax_at.ensures.state;
        so_far = rw w.raised-is (raised_more es c.args.state.now c.loop-place.state c.relax_at.new.state c.loop-place.place c.loop-place.raised
            w.in-Raised.ensures.step c.loop-place.invariant.so_far);
      }
    ]

pub returns-else-raised-clause-pass : goal.returns-else-raised-clause-pass
returns-else-raised-clause-pass c =
    let es = edges_in c.args.list.now in
    let kept = subst (λ raised. PassesUpTo es c.loop-place.place c.args.state.now raised c.loop-place.state) c.if-raised.false c.loop-place.invariant.so_far in
    let past : length es ≤ c.loop-place.place = omega (arith, ap length c.edges-place-end.ensures) in
    (kept.0, rw (take_all c.loop-place.place es past) at kept.1)
