use Rattle.std.proofs.Common.{rules}
use Rattle.sig_base.proofs.WriteWhole.{written_more}
use Rattle.sig_base.proofs.write_whole.write_whole.Goals as goal

pub loop-done-preserved : goal.loop-done-preserved
loop-done-preserved g c = record {
  within = search rules;
  appended = written_more _ _ _ _ _ _ c.loop-done.invariant.appended c.in-Ok.ensures.bytes;
}
