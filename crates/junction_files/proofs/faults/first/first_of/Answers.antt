use Rattle.std.proofs.Common.{arith, ◌≡◌, get_or, inl, inr}
use Rattle.std.proofs.lemmas.Bool.{cases_lt}
use Rattle.junction_files.specs.FaultOrder.{part_number}
use Rattle.junction_files.specs.FirstFault.{all_parts}
use Rattle.junction_files.proofs.FirstFault.{first_of_parts}
use Rattle.junction_files.proofs.FaultOrder.{part_number_at, same_part}
use Rattle.junction_files.specs.declared.faults.Part.TheVariants as part
use Rattle.junction_files.proofs.faults.first.first_of.Goals as goal

pub returns-in-Some : goal.returns-in-Some
returns-in-Some c =
    let at : part_number (get_or c.parts-parts.result c.loop-part.part-index part.Top) ≡ c.loop-part.part-index =
    rw c.parts-parts.ensures (part_number_at _ c.loop-part-test.true) in
    first_of_parts _ _ _ _ (c.in-Some.ensures) (rw at c.loop-part.invariant)

pub loop-part-preserved : goal.loop-part-preserved
loop-part-preserved c f same below stands = elim (cases_lt (part_number f.part) c.loop-part.part-index) [
  | inl earlier ↦ c.loop-part.invariant f same earlier stands
  | inr later ↦
      let now : part_number f.part ≡ part_number (get_or all_parts c.loop-part.part-index part.Top) = omega (arith, part_number_at _ c.loop-part-test.true) in
      c.in_default.ensures f same (rw c.parts-parts.ensures (same_part _ _ now)) stands
]
