-- Which recorded message tells a message of the network: one that agrees with it in all that a slave's port reads, but for
-- what two-step transparent clocks moved, and of a Delay_Req in what tells which one it is. The rest is free:
-- versionPTP's minor part, sdoId, the flags but for the twoStepFlag of a Sync, controlField, logMessageInterval,
-- messageTypeSpecific, the correction of a Delay_Req, an originTimestamp that isn't read, and what stands behind the body.
use Rattle.std.specs.Prelude.{◌≡◌, ℕ, ℤ, pos, ◌+ℤ◌, Bool, true, false, ⊤}
use Rattle.std.specs.Option.{option_map_or}
use Rattle.ptp_units.specs.Moment.{Stamp}
use Rattle.event_codec.specs.declared.message.Body.{Body}
use Rattle.event_codec.specs.declared.message.Body.TheVariants.{Sync, DelayReq, FollowUp, DelayResp}
use Rattle.event_codec.specs.declared.message.Header.{Header}
use Rattle.event_codec.specs.Packet.{Contents}
use Rattle.slave_port.specs.Usable.{is_two_step, is_too_big}
use Rattle.network_model.specs.Run.{Place, tag_of}
use Rattle.network_model.specs.Truth.{origin_heard}

-- How much less a two-step Sync has in its correction than in the network, and its Follow_Up more, by the tag of the event
-- that drew the Sync: residences that two-step transparent clocks measured (IEEE 1588-2019, 10.2).
abbrev pub Moved : Type 0
Moved = (sync : ℕ) → ℤ

-- how much that is of the Sync of which something is heard at an event; 0 where nothing is
abbrev pub moved_at : Moved → Place → ℤ
moved_at moved p = option_map_or (λ origin. moved (tag_of origin)) (origin_heard p) (pos 0)

-- A two-step Sync has so much less in its correction, and where the network's is too big, so is it; a one-step Sync has the
-- same correction and originTimestamp.
abbrev pub AgreesInSync : (two_step : Bool) → (moved : ℤ) → (m said : Header) → (origin said_origin : Stamp) → Type 0
AgreesInSync true moved m said origin said_origin =
    (m.correction.0 ≡ said.correction.0 +ℤ moved) × (is_too_big m ≡ true → is_too_big said ≡ true)
AgreesInSync false moved m said origin said_origin = (said.correction.0 ≡ m.correction.0) × (said_origin ≡ origin)

-- bodies of one type, with what is read of them, of their corrections and of a Sync's twoStepFlag
abbrev pub AgreesInBody : (moved : ℤ) → (m said : Header) → (body said_body : Body) → Type 0
AgreesInBody moved m said (Sync origin) (Sync said_origin) =
    (is_two_step said ≡ is_two_step m) × AgreesInSync (is_two_step m) moved m said origin said_origin
AgreesInBody moved m said (DelayReq origin) (DelayReq said_origin) = ⊤
AgreesInBody moved m said (FollowUp precise) (FollowUp said_precise) =
    (said.correction.0 ≡ m.correction.0 +ℤ moved) × (said_precise ≡ precise)
AgreesInBody moved m said (DelayResp receive requesting) (DelayResp said_receive said_requesting) =
    (said.correction.0 ≡ m.correction.0) × (said_receive ≡ receive) × (said_requesting ≡ requesting)
AgreesInBody moved m said body said_body = ⊥

-- a recorded message agrees with one of the network
pub record Agrees (moved : ℤ) (m said : Contents) : Type 0 where
  pub domain : said.header.domain ≡ m.header.domain
  pub source : said.header.source ≡ m.header.source
  pub number : said.header.sequence.0 ≡ m.header.sequence.0
  pub body : AgreesInBody moved m.header said.header m.body said.body
