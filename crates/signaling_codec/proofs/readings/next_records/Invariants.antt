use Rattle.std.proofs.Common.{◌≡◌, length, None}
use Rattle.signaling_codec.specs.Tlv.{readings_of}
use Rattle.signaling_codec.specs.Refusal.{tlvs_refusal}
use Rattle.signaling_codec.specs.Inner.Parsed.{tlvs_in}
use Rattle.signaling_codec.proofs.readings.next_records.Given as goal

abbrev pub invariant-loop-tlv : goal.invariant-loop-tlv
invariant-loop-tlv l = record {
  sound : tlvs_refusal 0 l.rest ≡ None;
  same : readings_of (tlvs_in 0 l.tlvs) ≡ readings_of (tlvs_in 0 l.rest);
}

abbrev pub decreases-loop-tlv : goal.decreases-loop-tlv
decreases-loop-tlv l = length l.rest
