use Rattle.sig_base.proofs.Utf8.{title_text}
use Rattle.junction_files.proofs.printing.printer.head_table.Goals as goal

pub put_text-requires : goal.put_text-requires
put_text-requires c = title_text _ (rw (← c.bytes.ensures.value) at c.bytes.ensures.title)
