-- An order that decides one more item is an order of the same conflicts, and asks for no less.
use Rattle.std.proofs.Common.{ℕ, List, ◌≡◌, ap, ◌∙◌, Some, length, length-set, set, slice_get}
use Rattle.conflict_matrix.specs.Matrix.{Matrix}
use Rattle.constraint_cycles.specs.Marks.{OrderView, IsOrderFor}
use Rattle.constraint_cycles.specs.Order.{order_of, marks_of}
use Rattle.constraint_cycles.specs.WalkLaws.{DecisionLaw}
use Rattle.constraint_cycles.specs.declared.order.Order.{Order}
use Rattle.constraint_cycles.specs.declared.mark.Mark.{Mark}
use Rattle.constraint_cycles.specs.declared.mark.Mark.TheVariants.{Open}
use Rattle.difference_system.specs.Decision.{IsClosedWith}
use Rattle.difference_system.specs.Level.{IsLevel}
use Rattle.difference_system.specs.declared.level.Level.{Level}

pub next_made : (m : Matrix) (o next : OrderView) (item : ℕ) (mark : Mark) → IsOrderFor m o → next.marks ≡ set o.marks item mark → next.fixed ≡ o.fixed → IsOrderFor m next
next_made m o next item mark made marks fixed = record {
  marks = ap length marks ∙ length-set o.marks item mark ∙ made.marks;
  fixed = fixed ∙ made.fixed;
}

-- a walk that closes the order before closes the next one
pub closed_next : DecisionLaw → (m : Matrix) (marks next : List Mark) (needs : List ℕ) (cycle item : ℕ) (mark : Mark) (walk : List ℕ) →
    slice_get marks item ≡ Some Open → next ≡ set marks item mark → IsClosedWith m marks needs cycle walk → IsClosedWith m next needs cycle walk
closed_next decision m marks next needs cycle item mark walk was_open is h = record {
  circuit = record { closes = rw is (decision m marks needs cycle item mark walk was_open h.circuit.closes); once = h.circuit.once; lowest = h.circuit.lowest };
  unserved = h.unserved;
}

-- the level of an order that a walk closes
pub closed_level : (m : Matrix) (needs : List ℕ) (cycle : ℕ) (l : Level) (order : Order) (walk : List ℕ) → l.order ≡ order → l.closing ≡ Some walk →
    IsOrderFor m (order_of order) → IsClosedWith m (marks_of order) needs cycle walk → IsLevel m needs cycle l
closed_level m needs cycle l order walk same is made closed = record { made = rw same made; summed = rw (is, same) closed }
