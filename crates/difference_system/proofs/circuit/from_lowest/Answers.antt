use Rattle.std.proofs.Common.{◌∙◌}
use Rattle.difference_system.proofs.IsClosingCircuit.{sum_of-from_place, turned-lowest, turned-moved}
use Rattle.difference_system.proofs.circuit.from_lowest.Goals as goal

pub returns-clause-moved : goal.returns-clause-moved
returns-clause-moved c =
    let value = rw c.unwrap.ensures at c.new.ensures.value in
    turned-moved c.lowest_place.result _ _ (value ∙ c.turned-cells.ensures)

pub returns-clause-lowest : goal.returns-clause-lowest
returns-clause-lowest c =
    let value = rw c.unwrap.ensures at c.new.ensures.value in
    turned-lowest c.lowest_place.result _ _ (value ∙ c.turned-cells.ensures) c.lowest_place.ensures

pub returns-clause-sum : goal.returns-clause-sum
returns-clause-sum c edge =
    let value = rw c.unwrap.ensures at c.new.ensures.value in
    sum_of-from_place edge c.lowest_place.result _ _ (value ∙ c.turned-cells.ensures)
