-- What an end-to-end one-step transparent clock does to an event message (IEEE 1588-2019, 10.2).
use Rattle.std.specs.Prelude.{ℕ, ◌-◌, Bool, true, false, nat_lt, if◌then◌else◌, Ok, Err, Result}
use Rattle.ptp_units.specs.Interval.{with_residence}
use Rattle.event_codec.specs.declared.message.Body.{Body}
use Rattle.event_codec.specs.declared.message.Body.TheVariants.{Sync, DelayReq, FollowUp, DelayResp}
use Rattle.event_codec.specs.Packet.{Contents}
use Rattle.event_codec.specs.Reading.{Reading}
use Rattle.event_codec.specs.Correction.{with_correction}
use Rattle.transparent_clock.specs.declared.refusal.ClockRefusal.{ClockRefusal}
use Rattle.transparent_clock.specs.declared.refusal.ClockRefusal.TheVariants.{Decode, NotEvent, NegativeResidence}

-- whether a message is an event message, which a clock times
abbrev pub is_event : Body → Bool
is_event (Sync origin) = true
is_event (DelayReq origin) = true
is_event (FollowUp precise) = false
is_event (DelayResp receive requesting) = false

-- the message with the residence added to its correction
abbrev pub resided : Contents → ℕ → Contents
resided m residence = with_correction m (record { 0 = with_residence m.header.correction.0 residence })

-- what a message becomes that entered at one reading of the clock and leaves at another
abbrev pub forwarded_message : Contents → ℕ → ℕ → Result Contents ClockRefusal
forwarded_message m entered left =
    if is_event m.body
    then (if nat_lt left entered then Err NegativeResidence else Ok (resided m (left - entered)))
    else Err NotEvent

-- what octets that say this become, or the first refusal that applies
abbrev pub forwarded : Reading → ℕ → ℕ → Result Contents ClockRefusal
forwarded (Err refusal) entered left = Err (Decode refusal)
forwarded (Ok m) entered left = forwarded_message m entered left
