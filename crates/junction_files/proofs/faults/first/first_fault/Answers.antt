use Rattle.std.proofs.Common.{arith, ◌≡◌, ◌+◌, get_or, inl, inr}
use Rattle.std.proofs.lemmas.Bool.{cases_lt}
use Rattle.junction_files.specs.FaultOrder.{kind_number}
use Rattle.junction_files.specs.FirstFault.{all_kinds}
use Rattle.junction_files.proofs.FirstFault.{first_of_kinds}
use Rattle.junction_files.proofs.FaultOrder.{kind_number_at, same_kind}
use Rattle.junction_files.specs.declared.faults.Kind.TheVariants as kind
use Rattle.junction_files.proofs.faults.first.first_fault.Goals as goal

pub returns-in-Some : goal.returns-in-Some
returns-in-Some c =
    let at : kind_number (get_or c.kinds-kinds.result c.loop-kind.kind-index kind.NotToml) ≡ c.loop-kind.kind-index + 1 =
    rw c.kinds-kinds.ensures (kind_number_at _ c.loop-kind-test.true) in
    first_of_kinds _ _ _ (c.in-Some.ensures) (rw at c.loop-kind.invariant)

pub loop-kind-preserved : goal.loop-kind-preserved
loop-kind-preserved c f below stands = elim (cases_lt (kind_number f.kind) (c.loop-kind.kind-index + 1)) [
  | inl earlier ↦ c.loop-kind.invariant f earlier stands
  | inr later ↦
      let now : kind_number f.kind ≡ kind_number (get_or all_kinds c.loop-kind.kind-index kind.NotToml) = omega (arith, kind_number_at _ c.loop-kind-test.true) in
      c.in_default.ensures f (rw c.kinds-kinds.ensures (same_kind _ _ now)) stands
]
