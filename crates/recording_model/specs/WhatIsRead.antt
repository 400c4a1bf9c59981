-- The law: what a slave's port answers to messages rests on what it reads of them (IEEE 1588-2019, 13.3 and 13.6 to
-- 13.8), and on nothing else in them. `laws::each_answer_rests_on_what_is_read` promises it.
use Rattle.std.specs.Prelude.{◌≡◌, pos, Bool, List, [], ◌∷◌, map, if◌then◌else◌, Ok, Err}
use Rattle.ptp_units.specs.Moment.{stamp}
use Rattle.event_codec.specs.declared.message.Body.{Body}
use Rattle.event_codec.specs.declared.message.Body.TheVariants.{Sync, DelayReq, FollowUp, DelayResp}
use Rattle.event_codec.specs.declared.message.Header.{Header}
use Rattle.event_codec.specs.declared.port.PortIdentity.{PortIdentity}
use Rattle.event_codec.specs.Packet.{Contents}
use Rattle.slave_port.specs.History.{Setup, Call, SetMaster, Tick, NextRequest, RequestLeft, Event, General}
use Rattle.slave_port.specs.Usable.{is_two_step}
use Rattle.slave_port.specs.Answer.{answer}

-- a port that no message is of, and a header in which nothing stands
abbrev pub no_port : PortIdentity
no_port = record { clock = []; port = 0 }

abbrev pub no_header : Header
no_header = record {
  major_sdo = 0;
  minor_version = 0;
  domain = 0;
  minor_sdo = 0;
  flags = 0 ∷ 0 ∷ [];
  correction = record { 0 = pos 0 };
  specific = [];
  source = no_port;
  sequence = record { 0 = 0 };
  control = 0;
  log = pos 0;
}

-- what is read of any header: domain, correction, source and number
abbrev pub header_read : Header → Header
header_read header = record no_header {
  domain = header.domain;
  correction = header.correction;
  source = header.source;
  sequence = header.sequence;
}

-- of a Sync's the twoStepFlag, too
abbrev pub sync_header_read : (two_step : Bool) → Header → Header
sync_header_read two_step header = record (header_read header) { flags = (if two_step then 2 else 0) ∷ 0 ∷ [] }

-- a message with this header and this body, and nothing behind them
abbrev pub bare : Header → Body → Contents
bare header body = record { header = header; body = body; suffix = [] }

-- what is read where Syncs are heard: of a Sync its header, and its originTimestamp where it is one-step; of others the
-- type
abbrev pub event_read : Header → Body → Contents
event_read header (Sync origin) =
    bare (sync_header_read (is_two_step header) header)
    (Sync (if is_two_step header then stamp 0 0 else origin))
event_read header (DelayReq origin) = bare no_header (DelayReq (stamp 0 0))
event_read header (FollowUp precise) = bare no_header (FollowUp (stamp 0 0))
event_read header (DelayResp receive requesting) = bare no_header (DelayResp (stamp 0 0) no_port)

-- what is read where Follow_Ups and Delay_Resps are heard: of these header and body, of others the type
abbrev pub general_read : Header → Body → Contents
general_read header (Sync origin) = bare no_header (Sync (stamp 0 0))
general_read header (DelayReq origin) = bare no_header (DelayReq (stamp 0 0))
general_read header (FollowUp precise) = bare (header_read header) (FollowUp precise)
general_read header (DelayResp receive requesting) = bare (header_read header) (DelayResp receive requesting)

-- a call that hears a message with nothing else in it
abbrev pub call_read : Call → Call
call_read (SetMaster master) = SetMaster master
call_read Tick = Tick
call_read (NextRequest tag) = NextRequest tag
call_read (RequestLeft number t3) = RequestLeft number t3
call_read (Event (Ok m) t2 tag) = Event (Ok (event_read m.header m.body)) t2 tag
call_read (Event (Err refusal) t2 tag) = Event (Err refusal) t2 tag
call_read (General (Ok m) tag) = General (Ok (general_read m.header m.body)) tag
call_read (General (Err refusal) tag) = General (Err refusal) tag

-- To messages that have nothing else in them a port answers as it does to those that were sent.
abbrev pub EachAnswerRestsOnWhatIsRead : Type 0
EachAnswerRestsOnWhatIsRead =
    (setup : Setup) (history : List Call) (call : Call)
    → answer setup (map call_read history) (call_read call) ≡ answer setup history call
