-- What a slave port is told that listens to a recording, and what it reports (IEEE 1588-2019, 7.3.7 and 11.3). A list
-- of datagrams has the newest in front.
use Rattle.std.specs.Prelude.{ℕ, zero, suc, ◌+◌, ◌/◌, ◌%◌, pos, Bool, true, false, ◌&&◌, ◌||◌, not, List, [], ◌∷◌, ◌++◌}
use Rattle.std.specs.Prelude.{◌==◌, nat_lt, slice_index, is_some, if◌then◌else◌, Option, Some, None, option_map}
use Rattle.std.specs.Prelude.{option_and_then, option_to_list, Ok}
use Rattle.std.specs.Option.{option_map_or}
use Rattle.std.specs.Result.{result_ok}
use Rattle.ptp_units.specs.Sequence.{ahead}
use Rattle.event_codec.specs.declared.message.Header.{Header}
use Rattle.event_codec.specs.declared.message.Body.{Body}
use Rattle.event_codec.specs.declared.message.Body.TheVariants as bodies
use Rattle.event_codec.specs.declared.port.PortIdentity.{PortIdentity}
use Rattle.event_codec.specs.Packet.{Contents}
use Rattle.event_codec.specs.Port.{is_same_port}
use Rattle.pairing.specs.Marked.{Entry, entry}
use Rattle.sync_watch.specs.declared.judgement.Judgement.{Judgement}
use Rattle.sync_watch.specs.declared.judgement.Judgement.TheVariants.{Newer, Repeated, BeganAnew}
use Rattle.sync_watch.specs.declared.arrival.Arrival.{Arrival}
use Rattle.sync_watch.specs.Told.{Told, Sync, FollowUp, known}
use Rattle.sync_watch.specs.Judged.{judged_sync, judged_follow_up}
use Rattle.slave_port.specs.declared.heard.Heard.{Heard}
use Rattle.slave_port.specs.declared.heard.Heard.TheVariants as answers
use Rattle.slave_port.specs.declared.heard.Report.{Report}
use Rattle.slave_port.specs.History as calls
use Rattle.slave_port.specs.History.{Setup, Call, setup_of, next_number}
use Rattle.slave_port.specs.Answer.{answer}
use Rattle.network_model.specs.Premises.{is_of_use}
use Rattle.recording_model.specs.declared.watched.Watched.{Watched}
use Rattle.recording_model.specs.Recorded.{Recorded}

-- how many messages of a kind the port holds
abbrev pub table_capacity : ℕ
table_capacity = 256

-- how the port is set up, with this number for its first request
abbrev pub setup_with : Watched → (first : ℕ) → Setup
setup_with w first =
    setup_of (record { identity = w.slave; domain = w.domain; log = pos 0 }) first table_capacity table_capacity
    table_capacity

-- The port: the number of its first request, and its calls, newest first; whether a Delay_Req of the slave came; how
-- many Syncs of the master it heard since the last tick that this count brought; what it heard of these and of the
-- Follow_Ups since the master began, and which Delay_Resps since the port began, newest first; and the line at which it
-- began, 0 for the start.
pub record Listening : Type 0 where
  pub first : ℕ
  pub calls : List Call
  pub asked : Bool
  pub syncs : ℕ
  pub heard : List Told
  pub responses : List (Entry ℕ)
  pub begun : ℕ

-- a port that was told its master and nothing else
abbrev pub start : Watched → Listening
start w = record {
  first = 0;
  calls = calls.SetMaster w.master ∷ [];
  asked = false;
  syncs = 0;
  heard = [];
  responses = [];
  begun = 0;
}

-- how the port is set up
abbrev pub setup_in : Watched → Listening → Setup
setup_in w l = setup_with w l.first

-- a message of the domain, from this port
abbrev pub is_of : Watched → PortIdentity → Header → Bool
is_of w port header = header.domain == w.domain && is_same_port header.source port

-- Syncs after which there is a tick
abbrev pub ticks_every : ℕ
ticks_every = 4096

-- one more Sync
abbrev pub with_count : Listening → Listening
with_count l =
    if l.syncs + 1 == ticks_every then record l { calls = calls.Tick ∷ l.calls; syncs = 0 }
    else record l { syncs = l.syncs + 1 }

-- one more call
abbrev pub told : Call → Listening → Listening
told call l = record l { calls = call ∷ l.calls }

-- what the port answers to a message
abbrev pub answer_in : Watched → Listening → Call → Heard
answer_in w l call = answer (setup_in w l) l.calls call

-- unicastFlag (IEEE 1588-2019, 13.3.2.8)
abbrev pub is_unicast : Header → Bool
is_unicast header = slice_index header.flags 0 / 4 % 2 == 1

-- a Sync or a Follow_Up with this header came
abbrev pub arrival_of : Header → (time : ℕ) → Arrival
arrival_of header time =
    record { number = header.sequence; is_unicast = is_unicast header; log = header.log; time = time }

-- the master began its numbers anew, with this Sync: the port is told it again, and forgets all that it heard
abbrev pub with_master_anew : Watched → (line : ℕ) → Arrival → Listening → Listening
with_master_anew w line a l = record l {
  calls = calls.SetMaster w.master ∷ l.calls;
  heard = Sync a ∷ [];
  responses = [];
  begun = line;
}

-- the port that is to hear a Sync of the master, by what its number says; none hears a repeat
abbrev pub ready_judged : Judgement → Watched → (line : ℕ) → Arrival → Listening → Option Listening
ready_judged Newer w line a l = Some (record l { heard = Sync a ∷ l.heard })
ready_judged Repeated w line a l = None
ready_judged BeganAnew w line a l = Some (with_master_anew w line a l)

-- the port that is to hear a Sync; what isn't the master's is heard by the port as it is
abbrev pub ready_sync : Watched → (line time : ℕ) → Contents → Listening → Option Listening
ready_sync w line time m l =
    if is_of w w.master m.header
    then ready_judged (judged_sync (arrival_of m.header time) table_capacity l.heard) w line
    (arrival_of m.header time) l
    else Some l

-- the port that is to hear a Follow_Up of the master, by what its number says
abbrev pub ready_followed : Judgement → Arrival → Listening → Option Listening
ready_followed Newer a l = Some (record l { heard = FollowUp a ∷ l.heard })
ready_followed Repeated a l = None
ready_followed BeganAnew a l = None

-- the port that is to hear a Follow_Up
abbrev pub ready_follow_up : Watched → (time : ℕ) → Contents → Listening → Option Listening
ready_follow_up w time m l =
    if is_of w w.master m.header
    then ready_followed (judged_follow_up (arrival_of m.header time) table_capacity l.heard) (arrival_of m.header time) l
    else Some l

-- the port that is to hear a Delay_Resp to this port
abbrev pub ready_response : Watched → (time : ℕ) → Contents → (requesting : PortIdentity) → Listening → Option Listening
ready_response w time m requesting l =
    if not (is_of w w.master m.header && is_same_port requesting w.slave) then Some l
    else if is_some (known table_capacity m.header.sequence.0 l.responses) then None
    else Some (record l { responses = entry m.header.sequence.0 time ∷ l.responses })

-- the port that is to hear a message
abbrev pub ready : Watched → (line time : ℕ) → Contents → Body → Listening → Option Listening
ready w line time m (bodies.Sync origin) l = ready_sync w line time m l
ready w line time m (bodies.DelayReq origin) l = None
ready w line time m (bodies.FollowUp precise) l = ready_follow_up w time m l
ready w line time m (bodies.DelayResp receive requesting) l = ready_response w time m requesting l

-- a port that is ready hears a message, and a Sync of the master counts
abbrev pub hears_ready : (counts : Bool) → Call → Option Listening → Listening → Listening
hears_ready counts call None l = l
hears_ready true call (Some ready) l = with_count (told call ready)
hears_ready false call (Some ready) l = told call ready

-- so many requests under this tag
abbrev pub draws : (count tag : ℕ) → List Call → List Call
draws zero tag earlier = earlier
draws (suc count) tag earlier = calls.NextRequest tag ∷ draws count tag earlier

-- requests are drawn up to this number, and this one departed
abbrev pub asks : Watched → (line time number : ℕ) → Listening → Listening
asks w line time number l = record l {
  calls = calls.RequestLeft number time ∷ draws (ahead number (next_number (setup_in w l) l.calls) + 1) line l.calls;
  asked = true;
}

-- the slave began anew: a new port, whose requests begin with this number; what is known of the master stays
abbrev pub anew : Watched → (line number : ℕ) → Listening → Listening
anew w line number l = record l {
  first = number;
  calls = calls.SetMaster w.master ∷ [];
  responses = [];
  begun = line;
}

-- A Delay_Req of the slave: the first, or one that is 1 to 256 ahead of the last, is asked for; the last one's number
-- again says nothing; any other says that the slave began anew.
abbrev pub hears_request : Watched → (line time number : ℕ) → Listening → Listening
hears_request w line time number l =
    if not l.asked || nat_lt (ahead number (next_number (setup_in w l) l.calls)) table_capacity
    then asks w line time number l
    else if ahead number (next_number (setup_in w l) l.calls) == 65535 then l
    else asks w line time number (anew w line number l)

-- the port after a datagram: a Sync is heard at its time, a Follow_Up and a Delay_Resp without one, whoever sent them
abbrev pub hears : Watched → (line time : ℕ) → Contents → Body → Listening → Listening
hears w line time m (bodies.Sync origin) l =
    hears_ready (is_of w w.master m.header) (calls.Event (Ok m) time line) (ready_sync w line time m l) l
hears w line time m (bodies.DelayReq origin) l =
    if is_of w w.slave m.header then hears_request w line time m.header.sequence.0 l else l
hears w line time m (bodies.FollowUp precise) l =
    hears_ready false (calls.General (Ok m) line) (ready_follow_up w time m l) l
hears w line time m (bodies.DelayResp receive requesting) l =
    hears_ready false (calls.General (Ok m) line) (ready_response w time m requesting l) l

-- the same of any datagram
abbrev pub hear : Watched → Recorded → Listening → Listening
hear w d l = option_map_or (λ m. hears w d.line d.time m m.body l) (result_ok d.said) l

-- the port after all datagrams
abbrev pub after_all : Watched → List Recorded → Listening
after_all w [] = start w
after_all w (d ∷ earlier) = hear w d (after_all w earlier)

-- the call that hears a message, where a slave's port hears such
abbrev pub hearing : (line time : ℕ) → Contents → Body → Option Call
hearing line time m (bodies.Sync origin) = Some (calls.Event (Ok m) time line)
hearing line time m (bodies.DelayReq origin) = None
hearing line time m (bodies.FollowUp precise) = Some (calls.General (Ok m) line)
hearing line time m (bodies.DelayResp receive requesting) = Some (calls.General (Ok m) line)

-- the report that an answer is
abbrev pub report_in : Heard → Option Report
report_in (answers.Report report) = Some report
report_in _ = None

-- what is answered to a message, by the port that is to hear it
abbrev pub answered : Watched → (line time : ℕ) → Contents → Body → Listening → Option Heard
answered w line time m body l = option_and_then
    (λ call. option_map (λ l. answer_in w l call) (ready w line time m body l))
    (hearing line time m body)

-- the same of any datagram
abbrev pub answered_to : Watched → Recorded → Listening → Option Heard
answered_to w d l = option_and_then (λ m. answered w d.line d.time m m.body l) (result_ok d.said)

-- the port uses what a datagram says, after these
abbrev pub is_used : Watched → List Recorded → Recorded → Bool
is_used w earlier d = option_map_or is_of_use (answered_to w d (after_all w earlier)) false

-- the report that a datagram brings, after these
abbrev pub report_at : Watched → List Recorded → Recorded → Option Report
report_at w earlier d = option_and_then report_in (answered_to w d (after_all w earlier))

-- all reports, newest first
abbrev pub reports : Watched → List Recorded → List Report
reports w [] = []
reports w (d ∷ earlier) = option_to_list (report_at w earlier d) ++ reports w earlier
