use Rattle.std.proofs.Common.{inr, refl, sym, ◌∙◌}
use Rattle.csv.specs.Reading.{Reached, strip_bom}
use Rattle.log_monitor.proofs.judging.reader_of.Goals as goal

pub returns : goal.returns
unfolding Reached
returns c =
    let reader = c.from_reader.ensures in
    let builder = c.has_headers.ensures in
    record {
      trim = rw builder at reader.trim ∙ c.new.ensures.trim;
      ready = inr (inr (rw builder at reader.has_headers, reader.headers));
      config = rw builder at reader.config ∙ c.new.ensures.config;
      flexible = rw builder at reader.flexible ∙ c.new.ensures.flexible;
      rest = strip_bom c.args.bytes.now;
      source = reader.source;
      reached = (sym reader.state, refl);
      expected = reader.expected;
    }
