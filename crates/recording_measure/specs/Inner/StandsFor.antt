-- What a listener keeps, and what it stands for.
use Rattle.std.specs.Prelude.{◌≡◌, ◌<◌, ℕ}
use Rattle.event_codec.specs.Packet.{Contents}
use Rattle.sync_watch.specs.StandsFor as watches
use Rattle.slave_port.specs.History.{next_number}
use Rattle.slave_port.specs.StandsFor as ports
use Rattle.recording_model.specs.declared.watched.Watched.{Watched}
use Rattle.recording_model.specs.Listening.{Listening, setup_in, table_capacity, ticks_every, answered}
use Rattle.recording_measure.specs.declared.listener.Became.{Became}
use Rattle.recording_measure.specs.declared.listener.Listener.{Listener}
use Rattle.recording_measure.specs.Exchanged.{exchanged}
use Rattle.recording_measure.specs.Inner.Became.{heard_by, exchange_by}

-- the listener's port stands for these calls, and its counts are those of the definition
pub record StandsFor (w : Watched) (listener : Listener) (l : Listening) : Type 0 where
  pub watched : listener.watched ≡ w
  pub port : ports.StandsFor (setup_in w l) listener.port l.calls
  pub next : listener.next.0 ≡ next_number (setup_in w l) l.calls
  pub asked : listener.asked ≡ l.asked
  pub syncs : listener.syncs ≡ l.syncs
  pub few_syncs : l.syncs < ticks_every
  pub heard : watches.StandsFor table_capacity listener.heard l.heard
  pub responses : watches.StandsForResponses table_capacity listener.responses l.responses

-- whatever a listener stood for, after this change it stands for what the definition makes of it
abbrev pub Listens : (Watched → Listening → Listening) → (old new : Listener) → Type 0
Listens change old new =
    (w : Watched) (l : Listening) → StandsFor w old l → StandsFor w new (change w l)

-- whatever a listener stands for, this became of a datagram
abbrev pub Becomes : (Watched → Listening → Became) → Listener → Became → Type 0
Becomes became listener result = (w : Watched) (l : Listening) → StandsFor w listener l → result ≡ became w l

-- whatever a listener stands for, this is answered to a message
abbrev pub IsAnswered : (line time : ℕ) → Contents → Listener → Became → Type 0
IsAnswered line time m listener result =
    (w : Watched) (l : Listening) → StandsFor w listener l → heard_by result ≡ answered w line time m m.body l

-- whatever a listener stands for, this is the exchange of its last report once it heard a message
abbrev pub IsExchanged : (line time : ℕ) → Contents → Listener → Became → Type 0
IsExchanged line time m listener result =
    (w : Watched) (l : Listening) → StandsFor w listener l → exchange_by result ≡ exchanged w line time m m.body l
