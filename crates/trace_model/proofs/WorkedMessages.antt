-- The worked exchange with other octets for its Follow_Up: which fields they have otherwise, and what the two results
-- are by the messages.
use Rattle.std.proofs.Common.{◌≡◌, ℕ, pos, negsuc, refl, List, [], ◌∷◌, ◌++◌, reverse, true, false, Some, None}
use Rattle.event_codec.specs.Packet.{Contents}
use Rattle.event_codec.specs.Refusal.{decode_refusal}
use Rattle.master_port.specs.Written.{follow_up}
use Rattle.slave_port.specs.declared.heard.Report.{Report}
use Rattle.trace_model.specs.declared.field.Field.TheVariants as fields
use Rattle.trace_model.specs.declared.line.TraceLine.{TraceLine}
use Rattle.trace_model.specs.declared.line.TraceOut.TheVariants as outs
use Rattle.trace_model.specs.declared.verdict.Why.TheVariants.{WrongValue, Bytes}
use Rattle.trace_model.specs.Record.{line_place}
use Rattle.trace_model.specs.Verdict.{line_judgement}
use Rattle.trace_model.specs.Field.{differing, tells_same}
use Rattle.trace_model.specs.ByMessages.{by_messages}
use Rattle.trace_model.proofs.WorkedExchange.{s, config, network_with, at, line, report_with, before_with, reported}
use Rattle.trace_model.proofs.WorkedExchange.{follow_up_octets}
use Rattle.network_model.specs.declared.event.Event.TheVariants.{Hear}

-- these octets with this octet 1, and with this timestamp in seconds and in two octets of nanoseconds
abbrev follow_up_with : (version seconds high low : ℕ) → List ℕ
follow_up_with version seconds high low =
    8 ∷ version ∷ 0 ∷ 44 ∷ 0 ∷ 0 ∷ 0 ∷ 0 ∷ 0 ∷ 0 ∷ 0 ∷ 0 ∷ 0 ∷ 0 ∷ 0 ∷ 0 ∷ 0 ∷ 0 ∷ 0 ∷ 0 ∷ 0 ∷ 17 ∷ 34 ∷ 255 ∷ 254 ∷
    51 ∷ 68 ∷ 85 ∷ 0 ∷ 1 ∷ 0 ∷ 0 ∷ 2 ∷ 0 ∷ 0 ∷ 0 ∷ 0 ∷ 0 ∷ 0 ∷ seconds ∷ 0 ∷ 0 ∷ high ∷ low ∷ []

-- the message that the master sends
abbrev written : Contents
written = follow_up (config 0 (0 ∷ 17 ∷ 34 ∷ 255 ∷ 254 ∷ 51 ∷ 68 ∷ 85 ∷ [])) 0 (at 1 0 0)

none_differs : differing written follow_up_octets ≡ []
none_differs = refl

-- minorVersionPTP 0, as devices of IEEE 1588-2008 write it
abbrev old_version : List ℕ
old_version = follow_up_with 2 1 0 0

version_differs : differing written old_version ≡ fields.MinorVersion ∷ []
version_differs = refl

nobody_reads_it : tells_same written old_version ≡ true
nobody_reads_it = refl

-- two octets of padding behind messageLength
abbrev padded : List ℕ
padded = old_version ++ 0 ∷ 0 ∷ []

padding_differs : differing written padded ≡ fields.MinorVersion ∷ fields.Suffix ∷ []
padding_differs = refl

nobody_reads_padding : tells_same written padded ≡ true
nobody_reads_padding = refl

-- a timestamp that is 50,000 ns later
abbrev later : List ℕ
later = follow_up_with 18 1 195 80

timestamp_differs : differing written later ≡ fields.Timestamp ∷ []
timestamp_differs = refl

slave_reads_it : tells_same written later ≡ false
slave_reads_it = refl

-- two octets alone, which are 0: those that are not there count as 0
all_differ : differing written (0 ∷ 0 ∷ []) ≡ fields.MessageType ∷ fields.MinorVersion ∷ fields.Version
    ∷ fields.MessageLength ∷ fields.Whole ∷ fields.TypeSpecific ∷ fields.SourcePort ∷ fields.Control ∷ fields.Timestamp ∷ []
all_differ = refl

-- by the messages the results are those by the readings, where minorVersionPTP alone is other
told_as_read : by_messages (network_with 0) (line_place (reported (pos 131072000)) (reverse (before_with old_version)))
    (report_with (pos 131072000) 5 7 8 13) ≡ Some (record { offset2 = pos 131072000; path2 = pos 131072000 })
unfolding decode_refusal
told_as_read = refl

-- a device that computes right of what it was told
abbrev by_later : Report
by_later = record {
  offset2 = negsuc 3145727999;
  path2 = negsuc 3145727999;
  sync_tag = 5;
  follow_tag = Some 7;
  request_tag = 8;
  response_tag = 13;
}

abbrev reported_later : TraceLine
reported_later = line (Hear s 11) None (outs.Report by_later)

-- it is refused by the readings, with the octets of the Follow_Up beside
judged_by_readings : line_judgement (network_with 0) (line_place reported_later (reverse (before_with later)))
    ≡ Some (record {
      reasons = WrongValue ∷ Bytes ∷ [];
      by_readings = Some (record { offset2 = pos 131072000; path2 = pos 131072000 });
    })
judged_by_readings = refl

-- and right by the messages
right_by_messages : by_messages (network_with 0) (line_place reported_later (reverse (before_with later))) by_later
    ≡ Some (record { offset2 = by_later.offset2; path2 = by_later.path2 })
unfolding decode_refusal
right_by_messages = refl
