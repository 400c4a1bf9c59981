use Rattle.std.proofs.Common.{◌≡◌, ◌+◌, take, map}
use Rattle.std.specs.List.{sum_by}
use Rattle.signaling_codec.specs.EncodeRefusal.{octets_of}
use Rattle.signaling_codec.specs.Written.{tlv_written}
use Rattle.signaling_codec.proofs.encoding.message_length.Given as goal

abbrev pub invariant-loop-tlv : goal.invariant-loop-tlv
invariant-loop-tlv l = l.length ≡ 44 + sum_by octets_of (map tlv_written (take l.tlv-index l.tlvs))
