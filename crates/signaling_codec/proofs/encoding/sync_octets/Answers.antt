use Rattle.std.proofs.Common.{rules}
use Rattle.signaling_codec.proofs.encoding.sync_octets.Goals as goal

pub returns : goal.returns
returns c =
    let origin = c.timestamp_octets.ensures in
    let ingress = c.timestamp_octets-2.ensures in
    record {
      sequence = search rules;
      origin = record { seconds = origin.seconds; nanoseconds = origin.nanoseconds; within_second = origin.within_second };
      correction = search rules;
      rate = search rules;
      ingress = record { seconds = ingress.seconds; nanoseconds = ingress.nanoseconds; within_second = ingress.within_second };
    }
