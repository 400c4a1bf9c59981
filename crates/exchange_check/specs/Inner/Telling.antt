-- What the checker tells by what it keeps. Its own functions cite these; what its callers are told is said by the
-- lines alone, as proofs/Telling and proofs/Made show.
use Rattle.std.specs.Prelude.{ℕ, zero, suc, Bool, true, List, map, nat_lt, is_some, if◌then◌else◌, Option, None}
use Rattle.std.specs.Prelude.{option_map, option_and_then}
use Rattle.std.specs.List.{range_with_len}
use Rattle.std.specs.Option.{option_map_or}
use Rattle.event_codec.specs.Packet.{Contents}
use Rattle.slave_port.specs.declared.heard.Report.{Report}
use Rattle.network_model.specs.Network.{Network}
use Rattle.network_model.specs.Run.{site_of}
use Rattle.network_model.specs.Kinds.{draws_sync, is_request, entered_copy, heard_copy, named_transit}
use Rattle.exchange_check.specs.declared.exchange.Exchange.{Exchange}
use Rattle.exchange_check.specs.declared.exchange.ExchangeLine.{ExchangeLine}
use Rattle.exchange_check.specs.declared.exchange.Leg.{Leg}
use Rattle.exchange_check.specs.declared.exchange.Stay.{Stay}
use Rattle.exchange_check.specs.declared.facts.Fact.{Fact}
use Rattle.exchange_check.specs.declared.facts.Found.{Found}
use Rattle.exchange_check.specs.declared.facts.FoundJourney.{FoundJourney}
use Rattle.exchange_check.specs.declared.facts.Known.{Known}
use Rattle.exchange_check.specs.Inner.Kept.{Facts, Stamps, kept_journey_at, message_by}
use Rattle.copy_stays.specs.Leaves.{Once}
use Rattle.exchange_check.specs.Inner.Judged.{found_by, found_journey_to}

abbrev pub line_by : Fact → ExchangeLine
line_by fact = record { number = fact.line; event = fact.event; reading = fact.reading; sequence = fact.number }

abbrev pub stay_by : (entered left : Fact) → Stay
stay_by entered left = record { entered = line_by entered; left = line_by left }

abbrev pub stay_left : Facts → Fact → Option Stay
stay_left facts left =
    if is_some left.journey
    then option_and_then (λ transit. option_map (λ entered. stay_by entered left) (facts transit))
    (named_transit left.event)
    else None

-- the last stay of the copy that the line of this number made
abbrev pub last_stay_by : Facts → ℕ → Option Stay
last_stay_by facts copy = option_and_then (stay_left facts) (facts copy)

abbrev pub stay_of_copy : Facts → Option ℕ → Option Stay
stay_of_copy facts copy = option_and_then (last_stay_by facts) copy

-- the copy that entered at a stay
abbrev pub copy_at : Option Stay → Option ℕ
copy_at stay = option_and_then (λ stay. entered_copy stay.entered.event) stay

-- the copy that entered at the first of the last stays of a copy, of so many
unfoldable pub copy_before : Facts → ℕ → Option ℕ → Option ℕ
copy_before facts zero copy = copy
copy_before facts (suc count) copy = copy_at (stay_of_copy facts (copy_before facts count copy))

-- the last stays of a copy, the last one first
abbrev pub stays_by : Facts → Option ℕ → List (Option Stay)
stays_by facts copy = map (λ count. stay_of_copy facts (copy_before facts count copy)) (range_with_len 0 16)

-- how long a copy was in clocks, where it was in one
abbrev pub earlier_by : Facts → Option ℕ → Option ℕ
earlier_by facts copy =
    option_and_then (λ stay.
    option_and_then (λ number. option_map (λ journey. journey.residence) (kept_journey_at facts number)) copy)
    (stay_of_copy facts copy)

abbrev pub leg_by : Facts → (arrived : Fact) → FoundJourney → Leg
leg_by facts arrived journey = record {
  departed = line_by journey.origin;
  stays = stays_by facts (heard_copy arrived.event);
  earlier = earlier_by facts (copy_before facts 16 (heard_copy arrived.event));
  residence = journey.kept.residence;
  arrived = line_by arrived;
}

abbrev pub follow_by : Found → Option ℕ
follow_by found = option_map (λ fact. fact.line) found.follow

abbrev pub exchange_with : Facts → Stamps → Found → (sync request : FoundJourney) → Exchange
exchange_with facts stamps found sync request = record {
  sync = leg_by facts found.sync_arrival sync;
  follow = follow_by found;
  request = leg_by facts found.request_arrival request;
  stamped = stamps found.request.line;
}

abbrev pub exchange_found : Facts → Once → Stamps → Found → Option Exchange
exchange_found facts once stamps found =
    option_and_then (λ sync.
    option_map (λ request. exchange_with facts stamps found sync request)
    (found_journey_to facts once is_request found.request_arrival))
    (found_journey_to facts once draws_sync found.sync_arrival)

abbrev pub exchange_at : Facts → Once → Stamps → Report → Fact → Option Exchange
exchange_at facts once stamps report fact =
    option_and_then (exchange_found facts once stamps) (found_by facts stamps (site_of fact.event) fact.line report)

-- the lines of a report of the line of this number
abbrev pub exchange_by : Facts → Once → Stamps → ℕ → Report → Option Exchange
exchange_by facts once stamps number report = option_and_then (exchange_at facts once stamps report) (facts number)

-- what was known of a line
abbrev pub known_again : Fact → Known
known_again fact = record {
  line = fact.line;
  reading = fact.reading;
  number = fact.number;
  reads = fact.reads_right;
  last_sync = fact.last_sync;
}

-- the copy that a line hears, if any, was made before it
abbrev pub hears_earlier : Fact → Bool
hears_earlier fact = option_map_or (λ copy. nat_lt copy fact.line) (heard_copy fact.event) true

-- the message that a line made
abbrev pub message_again : Network → Facts → Fact → Option Contents
message_again network facts fact =
    if hears_earlier fact then message_by network facts (known_again fact) fact.journey fact.event else None

-- the message that the line of this number made
abbrev pub message_at_by : Network → Facts → ℕ → Option Contents
message_at_by network facts number = option_and_then (message_again network facts) (facts number)
