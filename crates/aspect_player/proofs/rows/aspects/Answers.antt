use Rattle.std.proofs.Common.{◌≡◌, ◌<◌, ◌++◌, ◌∷◌, [], length, arith, ap, sym, ◌∙◌}
use Rattle.plan_model.specs.Fits.{group_count}
use Rattle.aspect_player.specs.Aspect.{aspect_at}
use Rattle.aspect_player.specs.Player.{junction_in, plan_in, second_of}
use Rattle.aspect_player.proofs.Timetable.{aspects_more, all_aspects}
use Rattle.aspect_player.proofs.rows.aspects.Goals as goal

pub loop-group-preserved : goal.loop-group-preserved
loop-group-preserved c =
    let player = c.args.player.now in
    let groups : length c.groups-group-end.result.now ≡ group_count (junction_in player) =
    ap length (c.groups-group-end.ensures.value ∙ ap (λ j. j.groups) (c.junction.ensures ∙ c.plan.ensures.junction)) in
    let inside : c.loop-group.group < group_count (junction_in player) = omega arith in
    let more = aspects_more (junction_in player) (aspect_at (plan_in player)) c.loop-group.group (second_of player) c.aspect.result inside c.aspect.ensures in
    c.in_ok-push.ensures.items ∙ ap (λ l. l ++ c.aspect.result ∷ []) c.loop-group.invariant ∙ sym more

pub returns : goal.returns
returns c =
    let player = c.args.player.now in
    let groups : length c.groups-group-end.result.now ≡ group_count (junction_in player) =
    ap length (c.groups-group-end.ensures.value ∙ ap (λ j. j.groups) (c.junction.ensures ∙ c.plan.ensures.junction)) in
    c.loop-group.invariant ∙ all_aspects (junction_in player) (aspect_at (plan_in player)) c.loop-group.group (second_of player) (omega arith)
