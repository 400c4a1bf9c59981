use Rattle.datagram_source.proofs.lines.read_place.Goals as goal

pub returns-in-AtTaps : goal.returns-in-AtTaps
returns-in-AtTaps c = rw c.in-AtTaps.is c.read_tap.ensures
