use Rattle.std.proofs.Common.{◌≡◌, get_or, slice_get, Some, None, ap, sym, ◌∙◌, arith}
use Rattle.std.proofs.lemmas.Option.{slice_get-get_or}
use Rattle.aspect_player.specs.declared.aspect.Aspect.TheVariants.{Red}
use Rattle.log_monitor.specs.Sight.{junction_in, memory_in, row_in}
use Rattle.log_monitor.proofs.SightCases.{amber_same}
use Rattle.log_monitor.proofs.sight.Sight.lacks_amber.Goals as goal

pub returns : goal.returns
returns c =
    let junction = junction_in c.args.self.now in
    let i = c.args.i in
    let default = c.index-groups-i.result in
    let there : slice_get junction.groups i ≡ Some default =
    slice_get-get_or junction.groups i default c.requires.i ∙ ap (λ xs. Some (get_or xs i default)) (sym c.groups.ensures.value) ∙ ap Some (sym c.index-groups-i.is) in
    amber_same junction (memory_in c.args.self.now) (row_in c.args.self.now) i default
    (get_or c.args.self.now.groups.now i (record { last = None; since = None })) (get_or c.args.self.now.row.now i Red) c.owes_amber.result there
    (slice_get-get_or _ i _ (omega (arith, c.requires.i, c.requires.whole.groups))) (slice_get-get_or _ i _ (omega (arith, c.requires.i, c.requires.whole.row)))
    c.owes_amber.ensures
