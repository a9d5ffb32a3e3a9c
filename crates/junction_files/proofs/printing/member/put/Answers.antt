use Rattle.junction_files.proofs.Members.{members_insert}
use Rattle.junction_files.proofs.printing.member.put.Goals as goal

pub returns : goal.returns
returns c = rw (c.in_ok-insert.ensures.entries, ← c.word.ensures, ← c.in_ok-word.ensures.ok) (members_insert c.in_ok-word.word c.args.value c.args.table.now.entries)
