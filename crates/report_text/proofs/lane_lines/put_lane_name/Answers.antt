use Rattle.std.proofs.Common.{codes, ◌++◌, append_assoc}
use Rattle.report_text.proofs.lane_lines.put_lane_name.Goals as goal

pub returns : goal.returns
returns c =
    let grown = rw (c.in_ok-put_bytes.ensures.ok, c.in_ok-put.ensures.ok, c.bytes.ensures.value) at c.put-2.ensures.ok in
    rw (append_assoc (c.args.text.now.items ++ codes "lane ") c.args.label.now (codes " saturation "), append_assoc c.args.text.now.items (codes "lane ") (c.args.label.now ++ codes " saturation ")) at grown
