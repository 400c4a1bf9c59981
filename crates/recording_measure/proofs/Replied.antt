-- What became of a message says what the port answered, and the exchange of its last report then.
use Rattle.std.proofs.Common.{◌≡◌, ℕ, Bool, true, false, Option, Some, None, Ok, refl, ap}
use Rattle.std.specs.Prelude.{if◌then◌else◌, option_map, option_and_then}
use Rattle.event_codec.specs.declared.message.Body.{Body}
use Rattle.event_codec.specs.declared.message.Body.TheVariants.{Sync, DelayReq}
use Rattle.event_codec.specs.Packet.{Contents}
use Rattle.slave_port.specs.History.{Call, Event, General}
use Rattle.recording_model.specs.declared.watched.Watched.{Watched}
use Rattle.recording_model.specs.Listening.{Listening, is_of, answer_in, answered}
use Rattle.recording_measure.specs.declared.listener.Became.{Became}
use Rattle.recording_measure.specs.declared.listener.Became.TheVariants as became
use Rattle.recording_measure.specs.declared.listener.Reply.{Reply}
use Rattle.recording_measure.specs.Exchanged.{exchange_after, exchanged}
use Rattle.recording_measure.specs.Begins.{sync_begins}
use Rattle.recording_measure.specs.Inner.Became.{reply_by, heard_by, exchange_by, became_called, became_of}

-- ---- what became of a message that a port hears, or not
module _ (w : Watched) (call : Call) where
  heard_called : (begins : Bool) (ready : Option Listening)
      → heard_by (became_called begins call w ready) ≡ option_map (λ l. answer_in w l call) ready
  heard_called true None = refl
  heard_called false None = refl
  heard_called true (Some l) = refl
  heard_called false (Some l) = refl

  exchange_called : (begins : Bool) (ready : Option Listening)
      → exchange_by (became_called begins call w ready) ≡ option_and_then (exchange_after w call) ready
  exchange_called true None = refl
  exchange_called false None = refl
  exchange_called true (Some l) = refl
  exchange_called false (Some l) = refl

-- ---- a Delay_Req
abbrev pub own : (next last : Bool) → Became
own next last = if next then became.Asked else if last then became.Repeated else became.Anew

own_unheard : (next last : Bool) → reply_by (own next last) ≡ None
own_unheard true last = refl
own_unheard false true = refl
own_unheard false false = refl

abbrev pub asked : (of next last : Bool) → Became
asked of next last = if of then own next last else became.Foreign

asked_unheard : (of next last : Bool) → reply_by (asked of next last) ≡ None
asked_unheard true next last = own_unheard next last
asked_unheard false next last = refl

-- ---- any message
module _ (w : Watched) (line time : ℕ) (m : Contents) where
  pub heard-became : (body : Body) (l : Listening) → heard_by (became_of w line time m body l) ≡ answered w line time m body l
  heard-became (Sync origin) l = heard_called w (Event (Ok m) time line) (sync_begins w time m l) _
  heard-became (DelayReq origin) l = ap (option_map (λ (r : Reply). r.heard))
      (asked_unheard (is_of w w.slave m.header) _ _)
  heard-became _ l = heard_called w (General (Ok m) line) false _

  pub exchange-became : (body : Body) (l : Listening)
      → exchange_by (became_of w line time m body l) ≡ exchanged w line time m body l
  exchange-became (Sync origin) l = exchange_called w (Event (Ok m) time line) (sync_begins w time m l) _
  exchange-became (DelayReq origin) l = ap (option_and_then (λ (r : Reply). r.exchange))
      (asked_unheard (is_of w w.slave m.header) _ _)
  exchange-became _ l = exchange_called w (General (Ok m) line) false _
