use Rattle.std.proofs.Common.{map, sym, ap, ◌∙◌}
use Rattle.std.specs.Ordering.{nat_cmp}
use Rattle.std.specs.Cmp.Lexicographic.{slice_cmp, nat_list_cmp_total}
use Rattle.std.specs.FinMap.{find, get-from_entries}
use Rattle.sig_base.specs.WriteLog.{entry_of}
use Rattle.sig_base.proofs.WriteLog.{found_first, found_later}
use Rattle.sig_base.proofs.write_log.find.Goals as goal

pub loop-held_name-init : goal.loop-held_name-init
loop-held_name-init c = get-from_entries nat_list_cmp_total _ _
    ∙ ap (λ es. find (slice_cmp nat_cmp) c.args.name.now (map entry_of es)) (sym c.into_iter-held_name-iterator.ensures.into_iter_gives.0)

pub loop-held_name-preserved : goal.loop-held_name-preserved
loop-held_name-preserved c =
    let other = rw c.as_str.ensures.value at c.if-eq.ensures in
    rw (c.loop-held_name.invariant, c.in-Some.ensures.steps) (found_later c.args.name.now c.in-Some.field-0.now _ other)

pub returns-then-eq : goal.returns-then-eq
returns-then-eq c =
    let same = rw c.as_str.ensures.value at c.if-eq.ensures in
    rw (c.loop-held_name.invariant, c.in-Some.ensures.steps) (sym (found_first c.args.name.now c.in-Some.field-0.now _ same))
