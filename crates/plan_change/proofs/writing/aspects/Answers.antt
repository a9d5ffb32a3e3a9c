use Rattle.std.proofs.Common.{◌≡◌, ◌<◌, ◌++◌, ◌∷◌, [], length, arith, ap, sym, ◌∙◌}
use Rattle.plan_model.specs.Fits.{group_count}
use Rattle.aspect_player.proofs.Timetable.{aspects_more, all_aspects}
use Rattle.plan_change.specs.Changer.{junction_in, second_in, display_in}
use Rattle.plan_change.proofs.writing.aspects.Goals as goal

pub loop-group-preserved : goal.loop-group-preserved
loop-group-preserved c =
    let changer = c.args.changer.now in
    let groups : length c.groups-group-end.result.now ≡ group_count (junction_in changer) =
    ap length (c.groups-group-end.ensures.value ∙ ap (λ j. j.groups) c.junction.ensures) in
    let inside : c.loop-group.group < group_count (junction_in changer) = omega arith in
    let more = aspects_more (junction_in changer) (display_in changer) c.loop-group.group (second_in changer) c.aspect.result inside c.aspect.ensures in
    c.in_ok-push.ensures.items ∙ ap (λ l. l ++ c.aspect.result ∷ []) c.loop-group.invariant ∙ sym more

pub returns : goal.returns
returns c =
    let changer = c.args.changer.now in
    let groups : length c.groups-group-end.result.now ≡ group_count (junction_in changer) =
    ap length (c.groups-group-end.ensures.value ∙ ap (λ j. j.groups) c.junction.ensures) in
    c.loop-group.invariant ∙ all_aspects (junction_in changer) (display_in changer) c.loop-group.group (second_in changer) (omega arith)
