use Rattle.std.proofs.lemmas.Bool.{false≢true}
use Rattle.sample_junctions.proofs.Parts.{is_title}
use Rattle.sample_junctions.proofs.sampling.title.Goals as goal

pub unreachable-requires : goal.unreachable-requires
unreachable-requires c = false≢true (c.in_default.ensures.exactly.1
    (rw (c.deref.ensures.value, c.in_ok-put_number.ensures.ok, c.in_ok-put.ensures.ok, c.new-text.ensures.items) (is_title c.args.number c.ranges.number.fits)))
