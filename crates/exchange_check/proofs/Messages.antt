-- The message that is kept to be written of a line is the one that the lines say it made.
use Rattle.std.proofs.Common.{◌≡◌, ◌∙◌, ℕ}
use Rattle.std.proofs.Common.{Option, Some, None, refl, ap}
use Rattle.std.specs.Prelude.{option_map, option_and_then}
use Rattle.std.specs.Option.{option_map_or}
use Rattle.event_codec.specs.Packet.{Contents}
use Rattle.network_model.specs.declared.event.Event.{Event}
use Rattle.network_model.specs.Network.{Network, PortSetup}
use Rattle.exchange_check.specs.declared.facts.Fact.{Fact}
use Rattle.trace_model.specs.Line.{Lines}
use Rattle.trace_model.specs.Record.{LinePlace, line_number, event_of, line_at, reading, sequence}
use Rattle.trace_model.specs.Journey.{LineJourney, line_residence}
use Rattle.transparent_clock.specs.Forwarding.{resided}
use Rattle.trace_model.specs.Octets.{drawing_port, message_sent, sent, sent_after}
use Rattle.exchange_check.specs.Exchange.{number_drawn}
use Rattle.exchange_check.specs.Inner.Kept.{sent_by, message_after_by}
use Rattle.exchange_check.proofs.Told.{kept_journey_of, fact_of, facts_at}

sent_with : (network : Network) (event : Event) (now : ℕ) (numbers : PortSetup → ℕ) (o : Option PortSetup)
    → option_and_then (λ port. message_sent port.config event (option_map_or numbers o 0) now) o
    ≡ option_and_then (λ port. message_sent port.config event (numbers port) now) o
sent_with network event now numbers None = refl
sent_with network event now numbers (Some port) = refl

-- what is kept of a line is enough to know what it sent
pub sent_is : (network : Network) (e : LinePlace)
    → sent_by network (event_of e) (number_drawn network e) (reading e) ≡ sent network e
sent_is network e = sent_with network (event_of e) (reading e) (λ port. sequence network port e)
    (drawing_port network (event_of e))

-- the message at the end of a journey, from what is kept of the journey
pub message_after_is : (network : Network) (lines : Lines) (j : LineJourney)
    → line_at network lines (line_number j.origin) ≡ Some j.origin
    → message_after_by network (facts_at network lines) (kept_journey_of network j) ≡ sent_after network j
message_after_is network lines j there =
    let at : facts_at network lines (line_number j.origin) ≡ Some (fact_of network j.origin) =
    ap (λ (o : Option LinePlace). option_map (fact_of network) o) there in
    ap (λ (o : Option Fact). option_and_then
    (λ origin. option_map (λ m. resided m (line_residence j))
    (sent_by network origin.event origin.number.0 origin.reading)) o) at
    ∙ ap (λ (o : Option Contents). option_map (λ m. resided m (line_residence j)) o) (sent_is network j.origin)
