use Rattle.std.proofs.Common.{◌≡◌, ◌<◌, length, rules}
use Rattle.datagram_source.specs.Datagram.{place_of}
use Rattle.recording_measure.specs.Places.{name_in, places_most}
use Rattle.recording_measure.proofs.Recordings.{added_one}
use Rattle.recording_measure.proofs.recording.Recordings.find_or_add.Goals as goal

pub returns : goal.returns
returns c =
    let room : length c.args.self.now.recordings.items < places_most = search rules in
    let count : c.len-index.result ≡ length c.args.self.now.recordings.items = search rules in
    (added_one c.args.wanted.now (name_in (place_of c.args.met.now)) c.args.self.now.recordings.items c.push.new.self.items
    c.in_ok-new.field-0 c.in_ok-new.ensures c.in_ok-push.ensures.items c.len-index.result count (rw c.in_default.is at c.find.ensures) room)
