use Rattle.datagram_source.specs.Datagram.{place_of}
use Rattle.datagram_source.proofs.LineReadings.{no_place, no_octets}
use Rattle.datagram_source.proofs.lines.read_parts.Goals as goal

pub returns-in_default : goal.returns-in_default
returns-in_default c = no_place c.args.form c.args.line.now c.in_default.ensures

pub returns-in-None : goal.returns-in-None
returns-in-None c = no_octets c.args.form c.args.line.now (place_of c.in-Some.placed.place) c.in-Some.placed.rest.now c.in-Some.ensures
    c.in-None.ensures
