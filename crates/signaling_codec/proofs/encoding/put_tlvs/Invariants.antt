use Rattle.std.proofs.Common.{◌≡◌, ℕ, List, length, take, map}
use Rattle.std.specs.List.{sum_by}
use Rattle.signaling_codec.specs.Tlv.{AreTlvs}
use Rattle.signaling_codec.specs.EncodeRefusal.{octets_of}
use Rattle.signaling_codec.specs.Written.{tlv_written}
use Rattle.signaling_codec.specs.Inner.Puts.{Puts}
use Rattle.signaling_codec.proofs.encoding.put_tlvs.Given as goal

abbrev pub invariant-loop-tlv : goal.invariant-loop-tlv
invariant-loop-tlv l =
    (b : List ℕ) × Puts l.initial.buffer l.buffer l.at l.end b × AreTlvs (map tlv_written (take l.tlv-index l.tlvs)) b
    × (length b ≡ sum_by octets_of (map tlv_written (take l.tlv-index l.tlvs)))
