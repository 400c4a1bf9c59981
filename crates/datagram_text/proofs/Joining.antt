-- Texts that were appended in turn are the text as a whole.
use Rattle.std.proofs.Common.{◌≡◌, ℕ, List, ◌++◌, length, codes, append_assoc}
use Rattle.std.specs.Fmt.{decimal, signed_decimal}
use Rattle.hex.specs.Hex.{encode_lower}
use Rattle.event_codec.specs.declared.message.Header.{Header}
use Rattle.event_codec.specs.Layout.{stamp_in}
use Rattle.event_codec.specs.Packet.{Contents}
use Rattle.datagram_text.specs.Shown.{name_of, sdo_text, correction_text, identity_text, stamp_text, requesting_text, header_text, message_text}

-- ten labels, each with its value after it
joined : (text name l1 v1 l2 v2 l3 v3 l4 v4 l5 v5 l6 v6 l7 v7 l8 v8 l9 v9 l10 v10 : List ℕ)
    → ((text ++ (name ++ (l1 ++ (v1 ++ (l2 ++ (v2 ++ (l3 ++ (v3 ++ (l4 ++ v4))))))))) ++ (l5 ++ (v5 ++ (l6 ++ (v6 ++ (l7 ++ v7)))))) ++ (l8 ++ (v8 ++ (l9 ++ (v9 ++ (l10 ++ v10)))))
    ≡ text ++ (name ++ l1 ++ v1 ++ l2 ++ v2 ++ l3 ++ v3 ++ l4 ++ v4 ++ l5 ++ v5 ++ l6 ++ v6 ++ l7 ++ v7 ++ l8 ++ v8 ++ l9 ++ v9 ++ l10 ++ v10)
joined text name l1 v1 l2 v2 l3 v3 l4 v4 l5 v5 l6 v6 l7 v7 l8 v8 l9 v9 l10 v10 = simp append_assoc

pub header_joined : (text name : List ℕ) (header : Header)
    → ((text ++ (name ++ (codes " sdo=" ++ (sdo_text header ++ (codes " version=2." ++ (decimal header.minor_version ++ (codes " domain=" ++ (decimal header.domain ++ (codes " flags=" ++ encode_lower header.flags)))))))))
    ++ (codes " correction=" ++ (correction_text header.correction.0 ++ (codes " specific=" ++ (encode_lower header.specific ++ (codes " source=" ++ identity_text header.source))))))
    ++ (codes " seq=" ++ (decimal header.sequence.0 ++ (codes " control=" ++ (decimal header.control ++ (codes " log=" ++ signed_decimal header.log)))))
    ≡ text ++ header_text header name
header_joined text name header = joined text name _ _ _ _ _ _ _ _ _ _ _ _ _ _ _ _ _ _ _ _

behind : (text header l1 v1 v2 l3 v3 l4 v4 : List ℕ) → (text ++ header) ++ (l1 ++ (v1 ++ (v2 ++ (l3 ++ (v3 ++ (l4 ++ v4)))))) ≡ text ++ (header ++ l1 ++ v1 ++ v2 ++ l3 ++ v3 ++ l4 ++ v4)
behind text header l1 v1 v2 l3 v3 l4 v4 = simp append_assoc

pub message_joined : (text : List ℕ) (m : Contents) (used : ℕ)
    → (text ++ header_text m.header (name_of m.body)) ++ (codes " stamp=" ++ (stamp_text (stamp_in m.body) ++ (requesting_text m.body ++ (codes " suffix=" ++ (decimal (length m.suffix) ++ (codes " used=" ++ decimal used))))))
    ≡ text ++ message_text m used
message_joined text m used = behind text _ _ _ _ _ _ _ _
