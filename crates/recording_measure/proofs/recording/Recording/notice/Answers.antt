use Rattle.std.proofs.Common.{refl, ap}
use Rattle.datagram_source.specs.Said.{reading_of}
use Rattle.recording_measure.specs.Inner.Hearing.{recorded_of}
use Rattle.recording_measure.proofs.Recordings.{IsSought-said}
use Rattle.event_codec.specs.Packet.{contents}
use Rattle.recording_measure.proofs.recording.Recording.notice.Goals as goal

pub returns-in-Ok-clause-noticed : goal.returns-in-Ok-clause-noticed
returns-in-Ok-clause-noticed c = λ ds is.
    let said = ap reading_of c.in-Ok.is in record {
      watch = c.notice.ensures c.args.wanted.now (recorded_of c.args.datagram.now) ds said refl is.watch;
      met = IsSought-said c.args.wanted.now (recorded_of c.args.datagram.now) ds (contents c.in-Ok.message) c.args.self.now.sought
          c.notice-in-Ok.new.self said is.met c.notice-in-Ok.ensures.domain c.notice-in-Ok.ensures.master c.notice-in-Ok.ensures.slave;
    }
