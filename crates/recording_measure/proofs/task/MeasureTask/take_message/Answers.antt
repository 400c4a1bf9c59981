use Rattle.std.proofs.Common.{true, refl}
use Rattle.datagram_text.specs.Shown.{stamp_text}
use Rattle.event_codec.specs.Profile.{contents_of}
use Rattle.datagram_source.specs.Datagram.{DatagramOf, Line, datagram_of}
use Rattle.datagram_source.specs.Said.{reading_of}
use Rattle.recording_measure.proofs.OwnMessages.{adds_one, says_packet}
use Rattle.recording_measure.proofs.task.MeasureTask.take_message.Goals as goal

pub returns-clause-taken : goal.returns-clause-taken
returns-clause-taken g c = λ r at.
    let own = c.args.own.now in
    let d : DatagramOf = record {
      place = Line;
      number = c.args.told.now.number;
      time = c.join.result;
      written = stamp_text own.time;
      octets = c.octets_of-octets.result.now;
      said = reading_of c.message_in.result;
      own = true;
    } in
    adds_one c.take_row.result (datagram_of c.args.told.now) d own r c.take_row.new.self _ _ _ (record {
      numbered = refl;
      moment_is = c.join.ensures;
      written = refl;
      packet = c.octets_of-octets.ensures;
      said = says_packet (contents_of own.message) c.octets_of-octets.result.now (reading_of c.message_in.result) c.octets_of-octets.ensures
          c.message_in.ensures;
      own = refl;
    }) refl at.by at.passed (c.take_row.ensures.taken r at.measuring)
