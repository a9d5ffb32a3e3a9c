use Rattle.std.proofs.Common.{ℕ, ◌≤◌, max, ap, sym, arith}
use Rattle.plan_change.specs.Schedule.{greatest_from, own_gap}
use Rattle.plan_change.proofs.Filled.{greatest_more, greatest_none}
use Rattle.plan_change.proofs.heads.gap.Goals as goal

pub loop-i-init : goal.loop-i-init
loop-i-init c = record { value = sym (greatest_none _); bound = omega arith }

pub loop-i-preserved : goal.loop-i-preserved
loop-i-preserved c =
    let junction = c.args.junction.now in
    let i = c.loop-i.i in
    let gaps : ℕ → ℕ = λ k. max (greatest_from junction k) (own_gap junction k) in
    let more = greatest_more i gaps in
    let amber = ap (λ t. t.amber) c.times_of-times.ensures.value in
    let red_amber = ap (λ t. t.red_amber) c.times_of-times.ensures.value in
    let own : own_gap junction i ≤ 40 = omega (arith, amber, red_amber, c.times_of-times.ensures.amber, c.times_of-times.ensures.red_amber) in
    record {
      value = omega (arith, more, amber, red_amber, c.greatest_wait.ensures.value, c.max.ensures, c.max-most.ensures, c.loop-i.invariant.value);
      bound = omega (arith, amber, red_amber, own, c.greatest_wait.ensures.most, c.max.ensures, c.max-most.ensures, c.loop-i.invariant.bound);
    }
