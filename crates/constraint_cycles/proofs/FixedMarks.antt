-- The fixed marks of an order are First, so an open item isn't fixed.
use Rattle.std.proofs.Common.{ℕ, ◌≡◌, ◌<◌, inl, inr, sym, ap, ◌∙◌, slice_index_or}
use Rattle.std.proofs.lemmas.Bool.{cases_lt}
use Rattle.std.proofs.lemmas.List.{get_or-take, get_or-replicate}
use Rattle.std.proofs.lemmas.Option.{get_or_from_slice_get}
use Rattle.constraint_cycles.specs.Marks.{OrderView, KeepsFixed}
use Rattle.constraint_cycles.specs.OrderLaws.{OpenItemLaw}
use Rattle.constraint_cycles.specs.declared.mark.Mark.TheVariants.{Open, First}

pub fixed_mark : (o : OrderView) (k : ℕ) → KeepsFixed o → k < o.fixed → slice_index_or o.marks k Open ≡ First
fixed_mark o k kept below =
    sym (get_or-take o.fixed o.marks k Open below) ∙ ap (λ marks. slice_index_or marks k Open) kept.first ∙ get_or-replicate o.fixed k First Open below

pub open_item_law : OpenItemLaw
open_item_law o item kept was_open = elim (cases_lt item o.fixed) [
  | inl fixed ↦ let first = fixed_mark o item kept fixed in let is = get_or_from_slice_get o.marks item Open Open was_open in cc
  | inr free ↦ free
]
