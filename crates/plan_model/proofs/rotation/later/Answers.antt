use Rattle.std.proofs.Math.Nat.{add-mod-mod}
use Rattle.plan_model.proofs.rotation.later.Goals as goal

pub returns : goal.returns
returns c = add-mod-mod c.args.start c.args.by c.args.cycle
