-- What becomes of a message that a port hears, and what it replies.
use Rattle.std.specs.Prelude.{ℕ, Bool, true, false, not, ◌||◌, ◌==◌, nat_lt, ◌∷◌, if◌then◌else◌}
use Rattle.std.specs.Prelude.{Option, Some, None, Ok, option_map, option_and_then}
use Rattle.ptp_units.specs.Sequence.{ahead}
use Rattle.event_codec.specs.declared.message.Header.{Header}
use Rattle.event_codec.specs.declared.message.Body.{Body}
use Rattle.event_codec.specs.declared.message.Body.TheVariants as bodies
use Rattle.event_codec.specs.Packet.{Contents}
use Rattle.slave_port.specs.declared.heard.Heard.{Heard}
use Rattle.slave_port.specs.declared.exchange.LastExchange.{LastExchange}
use Rattle.slave_port.specs.Exchange.{last_exchange}
use Rattle.slave_port.specs.History.{Call, Event, General, next_number}
use Rattle.recording_model.specs.declared.watched.Watched.{Watched}
use Rattle.recording_model.specs.Listening.{Listening, setup_in, table_capacity, is_of, answer_in}
use Rattle.recording_model.specs.Listening.{ready_sync, ready_follow_up, ready_response}
use Rattle.recording_measure.specs.Begins.{sync_begins}
use Rattle.recording_measure.specs.declared.listener.Became.{Became}
use Rattle.recording_measure.specs.declared.listener.Became.TheVariants as fates
use Rattle.recording_measure.specs.declared.listener.Became.TheVariants.{HeardBefore, Asked, Repeated, Anew, Foreign}
use Rattle.recording_measure.specs.declared.listener.Reply.{Reply}

-- what a port replies to a call, by what it heard before: its answer, and the exchange of its last report then
abbrev pub reply_in : Watched → Listening → Call → Reply
reply_in w l call = record { heard = answer_in w l call; exchange = last_exchange (setup_in w l) (call ∷ l.calls) }

-- the reply to a message that the port heard
abbrev pub reply_by : Became → Option Reply
reply_by (fates.Heard reply) = Some reply
reply_by (fates.HeardAnew reply) = Some reply
reply_by _ = None

-- the answer to it
abbrev pub heard_by : Became → Option Heard
heard_by became = option_map (λ r. r.heard) (reply_by became)

-- the exchange of the last report then
abbrev pub exchange_by : Became → Option LastExchange
exchange_by became = option_and_then (λ r. r.exchange) (reply_by became)

-- what becomes of a Delay_Req of the slave
abbrev pub became_own_request : (number : ℕ) → Watched → Listening → Became
became_own_request number w l =
    if not l.asked || nat_lt (ahead number (next_number (setup_in w l) l.calls)) table_capacity then Asked
    else if ahead number (next_number (setup_in w l) l.calls) == 65535 then Repeated
    else Anew

-- what becomes of a Delay_Req
abbrev pub became_request : Header → Watched → Listening → Became
became_request header w l =
    if is_of w w.slave header then became_own_request header.sequence.0 w l else Foreign

-- what becomes of a message that was heard so, unless it came before, and by which the master began anew or didn't
abbrev pub became_by : (begins : Bool) → Option Reply → Became
became_by begins None = HeardBefore
became_by true (Some reply) = fates.HeardAnew reply
became_by false (Some reply) = fates.Heard reply

-- what becomes of a call, of the port that is to hear it
abbrev pub became_called : (begins : Bool) → Call → Watched → Option Listening → Became
became_called begins call w ready = became_by begins (option_map (λ l. reply_in w l call) ready)

-- what becomes of a message
abbrev pub became_of : Watched → (line time : ℕ) → Contents → Body → Listening → Became
became_of w line time m (bodies.Sync origin) l =
    became_called (sync_begins w time m l) (Event (Ok m) time line) w (ready_sync w line time m l)
became_of w line time m (bodies.DelayReq origin) l = became_request m.header w l
became_of w line time m (bodies.FollowUp precise) l =
    became_called false (General (Ok m) line) w (ready_follow_up w time m l)
became_of w line time m (bodies.DelayResp receive requesting) l =
    became_called false (General (Ok m) line) w (ready_response w time m requesting l)
