use Rattle.std.proofs.Common.{length, ap, ◌∙◌}
use Rattle.std.proofs.lemmas.List.{length-map}
use Rattle.junction_files.proofs.IsJunction.{linked_rules, linked_table}
use Rattle.junction_files.proofs.reading.conflicts.conflicts.Goals as goal

pub linked-requires-clause-groups : goal.linked-requires-clause-groups
linked-requires-clause-groups c =
    c.in_ok-unlinked.ensures.rules.same_groups ∙ ap length c.requires.groups ∙ length-map _ _

pub returns-clause-table : goal.returns-clause-table
returns-clause-table c = rw c.in_ok-linked.ensures (linked_table _ _ _ _ c.in_ok-unlinked.ensures.table)

pub returns-clause-rules : goal.returns-clause-rules
returns-clause-rules c =
    rw c.in_ok-linked.ensures (linked_rules _ _ _ c.in_ok-unlinked.ensures.rules (rw c.in_ok-linked.ensures at c.in_ok-linked.linked.table))
