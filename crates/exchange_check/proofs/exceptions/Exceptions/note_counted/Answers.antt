use Rattle.exchange_check.proofs.Entries.{notes-line}
use Rattle.exchange_check.proofs.exceptions.Exceptions.note_counted.Goals as goal

pub returns : goal.returns
returns c =
    notes-line c.args.nodes.now c.args.kept.now c.args.site.now c.args.fact.now c.args.line.now c.args.self.now
    c.note_octets.new.self c.note_reading.new.self c.note_leave.new.self c.note_first_otherwise.new.self
    c.note_stop.new.self c.in_ok-note_octets.ensures.others c.in_ok-note_reading.ensures.others
    c.in_ok-note_leave.ensures.others c.in_ok-note_first_otherwise.ensures.others c.in_ok-note_stop.ensures.others
    c.in_ok-note_octets.ensures.octets c.in_ok-note_reading.ensures.readings c.in_ok-note_leave.ensures.seconds
    c.in_ok-note_first_otherwise.ensures.first_otherwise c.in_ok-note_stop.ensures.stops
