-- When octets are a Signaling message (IEEE 1588-2019, 13.3 and 13.12).
use Rattle.std.specs.Prelude.{◌≤◌, ◌<◌, ℕ, List, length, drop, EachIndex, slice_index}
use Rattle.event_codec.specs.Packet.{IsHeader, IsIdentityAt}
use Rattle.signaling_codec.specs.declared.signaling.Signaling.{Signaling}
use Rattle.signaling_codec.specs.Layout.{signaling_type, fields_length}
use Rattle.signaling_codec.specs.Tlv.{AreTlvs}

-- b is the message, octet for octet
pub record IsSignaling (m : Signaling) (b : List ℕ) : Type 0 where
  pub octets : EachIndex b (λ k. slice_index b k < 256)
  pub least : fields_length ≤ length b
  pub header : IsHeader m.header signaling_type (length b) b
  pub target : IsIdentityAt m.target b 34
  pub tlvs : AreTlvs m.tlvs (drop fields_length b)
