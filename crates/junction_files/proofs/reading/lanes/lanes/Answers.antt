use Rattle.junction_files.proofs.Lanes.{lane_value}
use Rattle.junction_files.proofs.reading.lanes.lanes.Goals as goal

pub lane-requires : goal.lane-requires
lane-requires c = lane_value _ c.requires _ _ _ c.elements-element-items.ensures c.loop-element-test.true c.element-item.is
