-- What became of a message says why it gave no report, and who began anew by it.
use Rattle.std.proofs.Common.{◌≡◌, ℕ, Bool, true, false, Option, Some, None, Ok, refl}
use Rattle.std.specs.Prelude.{if◌then◌else◌, ◌&&◌, not, ◌==◌, option_map}
use Rattle.std.specs.Option.{option_map_or}
use Rattle.event_codec.specs.declared.message.Header.{Header}
use Rattle.event_codec.specs.declared.message.Body.{Body}
use Rattle.event_codec.specs.declared.message.Body.TheVariants.{Sync, DelayReq}
use Rattle.event_codec.specs.Packet.{Contents}
use Rattle.sync_watch.specs.declared.judgement.Judgement.{Judgement}
use Rattle.sync_watch.specs.declared.judgement.Judgement.TheVariants.{Newer, Repeated, BeganAnew}
use Rattle.sync_watch.specs.declared.arrival.Arrival.{Arrival}
use Rattle.sync_watch.specs.Judged.{judged_sync}
use Rattle.slave_port.specs.History.{Call, Event, General}
use Rattle.recording_model.specs.declared.watched.Watched.{Watched}
use Rattle.recording_model.specs.Listening.{Listening, table_capacity, is_of, arrival_of, ready_judged, answer_in}
use Rattle.recording_measure.specs.declared.listener.Reply.{Reply}
use Rattle.recording_model.specs.Begins.{is_beginning}
use Rattle.recording_measure.specs.Begins.{sync_begins}
use Rattle.recording_measure.specs.Inner.Became.{became_by, became_called, became_of}
use Rattle.recording_measure.proofs.Replied.{own, asked}
use Rattle.recording_summary.specs.declared.no_report.NoReport.TheVariants as whys
use Rattle.recording_measure.specs.Counts.{why_answered, why_heard, is_next, is_last, slave_begins, master_begins}
use Rattle.recording_measure.specs.Inner.Counting.{why_by, is_slave_anew, is_master_anew}

-- ---- what became of a message that a port hears, or not
module _ (w : Watched) (call : Call) where
  why_called : (domain : ℕ) (header : Header) (begins : Bool) (ready : Option Listening)
      → why_by domain header (became_called begins call w ready)
      ≡ option_map_or why_answered (option_map (λ l. answer_in w l call) ready) (Some whys.Before)
  why_called domain header true None = refl
  why_called domain header false None = refl
  why_called domain header true (Some l) = refl
  why_called domain header false (Some l) = refl

slave_called : (begins : Bool) (reply : Option Reply) → is_slave_anew (became_by begins reply) ≡ false
slave_called true None = refl
slave_called false None = refl
slave_called true (Some reply) = refl
slave_called false (Some reply) = refl

master_called_not : (reply : Option Reply) → is_master_anew (became_by false reply) ≡ false
master_called_not None = refl
master_called_not (Some reply) = refl

-- by what the number of a Sync says
master_judged : (of : Bool) (j : Judgement) (w : Watched) (line : ℕ) (call : Call) (a : Arrival) (l : Listening)
    → is_master_anew (became_called (of && is_beginning j) call w
    (if of then ready_judged j w line a l else Some l)) ≡ (of && is_beginning j)
master_judged false j w line call a l = refl
master_judged true Newer w line call a l = refl
master_judged true Repeated w line call a l = refl
master_judged true BeganAnew w line call a l = refl

-- ---- a Delay_Req
own_why : (domain : ℕ) (header : Header) (next last : Bool) → why_by domain header (own next last)
    ≡ Some (if next then whys.OfSlave else if last then whys.Again else whys.OfSlave)
own_why domain header true last = refl
own_why domain header false true = refl
own_why domain header false false = refl

own_slave : (next last : Bool) → is_slave_anew (own next last) ≡ (not next && not last)
own_slave true last = refl
own_slave false true = refl
own_slave false false = refl

own_master : (next last : Bool) → is_master_anew (own next last) ≡ false
own_master true last = refl
own_master false true = refl
own_master false false = refl

asked_why : (domain : ℕ) (header : Header) (of next last same : Bool) → (header.domain == domain) ≡ same
    → why_by domain header (asked of next last)
    ≡ Some (if of then if next then whys.OfSlave else if last then whys.Again else whys.OfSlave
    else if header.domain == domain then whys.OtherSlave else whys.OtherDomain)
asked_why domain header true next last same is = own_why domain header next last
asked_why domain header false next last same is = refl

asked_slave : (of next last : Bool) → is_slave_anew (asked of next last) ≡ (of && (not next && not last))
asked_slave true next last = own_slave next last
asked_slave false next last = refl

asked_master : (of next last : Bool) → is_master_anew (asked of next last) ≡ false
asked_master true next last = own_master next last
asked_master false next last = refl

-- ---- any message
module _ (w : Watched) (line time : ℕ) (m : Contents) where
  pub why-became : (body : Body) (l : Listening)
      → why_by w.domain m.header (became_of w line time m body l) ≡ why_heard w line time m body l
  why-became (Sync origin) l = why_called w (Event (Ok m) time line) w.domain m.header (sync_begins w time m l) _
  why-became (DelayReq origin) l = asked_why w.domain m.header (is_of w w.slave m.header) (is_next w l m.header.sequence.0)
      (is_last w l m.header.sequence.0) (m.header.domain == w.domain) refl
  why-became _ l = why_called w (General (Ok m) line) w.domain m.header false _

  pub slave-became : (body : Body) (l : Listening) → is_slave_anew (became_of w line time m body l) ≡ slave_begins w m body l
  slave-became (Sync origin) l = slave_called (sync_begins w time m l) _
  slave-became (DelayReq origin) l =
      asked_slave (is_of w w.slave m.header) (is_next w l m.header.sequence.0) (is_last w l m.header.sequence.0)
  slave-became _ l = slave_called false _

  pub master-became : (body : Body) (l : Listening)
      → is_master_anew (became_of w line time m body l) ≡ master_begins w line time m body l
  master-became (Sync origin) l = master_judged (is_of w w.master m.header)
      (judged_sync (arrival_of m.header time) table_capacity l.heard) w line (Event (Ok m) time line) (arrival_of m.header time) l
  master-became (DelayReq origin) l =
      asked_master (is_of w w.slave m.header) (is_next w l m.header.sequence.0) (is_last w l m.header.sequence.0)
  master-became _ l = master_called_not _
