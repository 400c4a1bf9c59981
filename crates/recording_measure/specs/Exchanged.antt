-- What the reports of a recording are made of: the exchange of the port's last report once it heard a datagram. A list of datagrams has
-- the newest in front.
use Rattle.std.specs.Prelude.{ℕ, List, ◌∷◌, Option, option_and_then}
use Rattle.std.specs.Result.{result_ok}
use Rattle.event_codec.specs.declared.message.Body.{Body}
use Rattle.event_codec.specs.Packet.{Contents}
use Rattle.slave_port.specs.declared.exchange.LastExchange.{LastExchange}
use Rattle.slave_port.specs.Exchange.{last_exchange}
use Rattle.slave_port.specs.History.{Call}
use Rattle.recording_model.specs.declared.watched.Watched.{Watched}
use Rattle.recording_model.specs.Listening.{Listening, setup_in, ready, hearing, after_all}
use Rattle.recording_model.specs.Recorded.{Recorded}

-- after a call, by the port that hears it
abbrev pub exchange_after : Watched → Call → Listening → Option LastExchange
exchange_after w call l = last_exchange (setup_in w l) (call ∷ l.calls)

-- after a message, by the port that is to hear it
abbrev pub exchanged : Watched → (line time : ℕ) → Contents → Body → Listening → Option LastExchange
exchanged w line time m body l = option_and_then
    (λ call. option_and_then (exchange_after w call) (ready w line time m body l))
    (hearing line time m body)

-- the same of any datagram
abbrev pub exchanged_to : Watched → Recorded → Listening → Option LastExchange
exchanged_to w d l = option_and_then (λ m. exchanged w d.line d.time m m.body l) (result_ok d.said)

-- after a datagram, and those before it
abbrev pub exchange_at : Watched → List Recorded → Recorded → Option LastExchange
exchange_at w earlier d = exchanged_to w d (after_all w earlier)
