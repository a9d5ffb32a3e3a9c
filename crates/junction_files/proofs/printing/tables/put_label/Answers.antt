use Rattle.sig_base.proofs.Utf8.{label_text}
use Rattle.junction_files.proofs.printing.tables.put_label.Goals as goal

pub put_text-requires : goal.put_text-requires
put_text-requires c = label_text _ (rw (← c.bytes.ensures.value) at c.bytes.ensures.label)
