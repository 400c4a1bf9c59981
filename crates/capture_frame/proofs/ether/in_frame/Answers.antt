use Rattle.capture_frame.proofs.Frames.{frame_same}
use Rattle.capture_frame.proofs.Only.{only_same}
use Rattle.capture_frame.proofs.ether.in_frame.Goals as goal

pub returns : goal.returns
returns c =
    only_same _ _ _
    (frame_same c.args.count c.args.place c.u16_at.result c.args.octets.now c.in_ok-header.header.now c.in_ok-header.behind.now c.in_ok-header.ensures c.u16_at.ensures)
    c.in_tags.ensures
