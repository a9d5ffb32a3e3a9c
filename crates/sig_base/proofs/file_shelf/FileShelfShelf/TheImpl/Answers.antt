-- What the trait says of a shelf that tells what it holds asks nothing of one that doesn't.
use Rattle.std.proofs.Common.{refl}
use Rattle.sig_base.proofs.Answers.{if_ok_always, if_err_always}
use Rattle.sig_base.proofs.file_shelf.FileShelfShelf.TheImpl.Goals as goal

pub fetch-tells : goal.fetch-tells
fetch-tells g c = record {
  same = refl;
  short = c.ensures.short;
  bytes = if_ok_always c.result _ (λ _. tt);
  cause = c.ensures.cause;
}

pub put-tells : goal.put-tells
put-tells g c = record {
  ok = if_ok_always c.result _ (λ _. refl);
  err = if_err_always c.result _ (λ _. refl);
  refusals = c.ensures.refusals;
  cause = c.ensures.cause;
}
