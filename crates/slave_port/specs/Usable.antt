-- Which messages a slave port uses, what as, and the first reason for which it can't use another (IEEE 1588-2019,
-- 13.3.2).
use Rattle.std.specs.Prelude.{ℕ, ◌/◌, ◌%◌, Bool, true, false, not, ◌&&◌, List, [], ◌∷◌, ◌++◌, slice_index, ◌==◌}
use Rattle.std.specs.Prelude.{int_lt, is_none, option_and_then, if◌then◌else◌, Option, Some, None, Result, Ok, Err}
use Rattle.std.specs.Result.{result_ok, result_err}
use Rattle.ptp_units.specs.Interval.{too_big}
use Rattle.ptp_units.specs.Moment.{Stamp}
use Rattle.ptp_units.specs.Sequence.{is_newer}
use Rattle.event_codec.specs.declared.message.Header.{Header}
use Rattle.event_codec.specs.declared.message.Body.{Body}
use Rattle.event_codec.specs.declared.message.Body.TheVariants as bodies
use Rattle.event_codec.specs.declared.port.PortConfig.{PortConfig}
use Rattle.event_codec.specs.declared.port.PortIdentity.{PortIdentity}
use Rattle.event_codec.specs.Port.{is_same_port}
use Rattle.pairing.specs.Marked.{Entry, entry}
use Rattle.slave_port.specs.declared.reason.Reason.{Reason}
use Rattle.slave_port.specs.declared.reason.Reason.TheVariants as reasons
use Rattle.slave_port.specs.History.{Call, SetMaster, Tick, NextRequest, RequestLeft, Event, General}
use Rattle.slave_port.specs.declared.used.Used.{Used}
use Rattle.slave_port.specs.declared.used.Used.TheVariants.{TwoStepSync, OneStepSync, FollowUp, DelayResp}

-- by what a port judges a message: its configuration, its present master, and the sequenceId of the last completion of
-- a Sync in the window
pub record Criteria : Type 0 where
  pub config : PortConfig
  pub master : Option PortIdentity
  pub last : Option ℕ

-- a reason, and whether it applies
pub record Test : Type 0 where
  pub applies : Bool
  pub reason : Reason

-- the first reason that applies
abbrev pub first_reason : List Test → Option Reason
first_reason [] = None
first_reason (t ∷ tests) = if t.applies then Some t.reason else first_reason tests

-- twoStepFlag (IEEE 1588-2019, 13.3.2.8)
abbrev pub is_two_step : Header → Bool
is_two_step header = slice_index header.flags 0 / 2 % 2 == 1

-- correctionField says 'too big to be represented' (13.3.2.9)
abbrev pub is_too_big : Header → Bool
is_too_big header = not (int_lt header.correction.0 too_big)

-- not the present master
abbrev pub is_other : Option PortIdentity → PortIdentity → Bool
is_other None source = true
is_other (Some master) source = not (is_same_port source master)

-- another number than the last one, and not newer
abbrev pub is_not_newer : (last : Option ℕ) → ℕ → Bool
is_not_newer None number = false
is_not_newer (Some last) number = not (number == last) && not (is_newer number last)

-- what all messages are tested for, beside their type
abbrev pub common_tests : Criteria → Header → List Test
common_tests criteria header =
    record { applies = not (header.domain == criteria.config.domain); reason = reasons.OtherDomain }
    ∷ record { applies = is_none criteria.master; reason = reasons.NoMaster }
    ∷ record { applies = is_other criteria.master header.source; reason = reasons.OtherMaster }
    ∷ record { applies = is_too_big header; reason = reasons.TooBig }
    ∷ []

-- why a Sync or a Follow_Up can't be used
abbrev pub sync_reason : Criteria → Header → Option Reason
sync_reason criteria header = first_reason (common_tests criteria header
    ++ record { applies = is_not_newer criteria.last header.sequence.0; reason = reasons.NotNewer } ∷ [])

-- why a Delay_Resp to this port can't be used
abbrev pub response_reason : Criteria → Header → (requesting : PortIdentity) → Option Reason
response_reason criteria header requesting = first_reason (common_tests criteria header
    ++ record {
      applies = not (is_same_port requesting criteria.config.identity);
      reason = reasons.OtherRequester;
    } ∷ [])

-- it is used as this, unless a reason applies
abbrev pub used_unless : Option Reason → Entry Used → Result (Entry Used) Reason
used_unless None used = Ok used
used_unless (Some reason) used = Err reason

-- what a Sync with this header and this originTimestamp is used as
abbrev pub sync_use : Header → Stamp → (t2 tag : ℕ) → Used
sync_use header origin t2 tag =
    if is_two_step header
    then TwoStepSync (record { t2 = t2; correction = header.correction.0; tag = tag })
    else OneStepSync (record { t2 = t2; origin = origin; correction = header.correction.0; tag = tag })

-- what a message on the event port is used as, or the first reason for which it can't be
abbrev pub event_use : Criteria → Header → Body → (t2 tag : ℕ) → Result (Entry Used) Reason
event_use criteria header (bodies.Sync origin) t2 tag =
    used_unless (sync_reason criteria header) (entry header.sequence.0 (sync_use header origin t2 tag))
event_use criteria header (bodies.DelayReq origin) t2 tag = Err reasons.WrongType
event_use criteria header (bodies.FollowUp precise) t2 tag = Err reasons.WrongType
event_use criteria header (bodies.DelayResp receive requesting) t2 tag = Err reasons.WrongType

-- what a message on the general port is used as, or the first reason for which it can't be
abbrev pub general_use : Criteria → Header → Body → (tag : ℕ) → Result (Entry Used) Reason
general_use criteria header (bodies.Sync origin) tag = Err reasons.WrongType
general_use criteria header (bodies.DelayReq origin) tag = Err reasons.WrongType
general_use criteria header (bodies.FollowUp precise) tag =
    used_unless (sync_reason criteria header)
    (entry header.sequence.0 (FollowUp (record { precise = precise; correction = header.correction.0; tag = tag })))
general_use criteria header (bodies.DelayResp receive requesting) tag =
    used_unless (response_reason criteria header requesting)
    (entry header.sequence.0 (DelayResp (record { receive = receive; correction = header.correction.0; tag = tag })))

-- what a call's message is used as, or the first reason for which it can't be; None where a call hears no message
abbrev pub judged : Criteria → Call → Option (Result (Entry Used) Reason)
judged criteria (SetMaster master) = None
judged criteria Tick = None
judged criteria (NextRequest tag) = None
judged criteria (RequestLeft number t3) = None
judged criteria (Event (Ok m) t2 tag) = Some (event_use criteria m.header m.body t2 tag)
judged criteria (Event (Err refusal) t2 tag) = Some (Err (reasons.Decode refusal))
judged criteria (General (Ok m) tag) = Some (general_use criteria m.header m.body tag)
judged criteria (General (Err refusal) tag) = Some (Err (reasons.Decode refusal))

-- what a call's message is used as, if it is usable
abbrev pub usable_in : Criteria → Call → Option (Entry Used)
usable_in criteria call = option_and_then result_ok (judged criteria call)

-- the first reason for which a call's message isn't usable
abbrev pub unusable_in : Criteria → Call → Option Reason
unusable_in criteria call = option_and_then result_err (judged criteria call)
