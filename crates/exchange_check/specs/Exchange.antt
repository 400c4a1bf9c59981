-- What a checker tells of a report's lines (IEEE 1588-2019, 11.3), and of the stays of a message in clocks (10.2).
use Rattle.std.specs.Prelude.{ℕ, List, [], ◌∷◌, map, drop, sum_by, slice_get, Option, None, option_map}
use Rattle.std.specs.Prelude.{option_and_then}
use Rattle.std.specs.List.{range_with_len}
use Rattle.std.specs.Option.{option_map_or}
use Rattle.slave_port.specs.declared.heard.Report.{Report}
use Rattle.network_model.specs.Network.{Network}
use Rattle.network_model.specs.Kinds.{draws_sync, is_request}
use Rattle.trace_model.specs.Line.{Lines}
use Rattle.trace_model.specs.Record.{LinePlace, line_place, line_number, event_of, site, first_stamp, reading, sequence}
use Rattle.trace_model.specs.Journey.{LineStay, LineJourney, line_stay_length, line_residence}
use Rattle.trace_model.specs.Octets.{drawing_port}
use Rattle.trace_model.specs.Sound.{Exchange as Found, exchange_of, lines_to, unbroken}
use Rattle.exchange_check.specs.declared.exchange.Exchange.{Exchange}
use Rattle.exchange_check.specs.declared.exchange.ExchangeLine.{ExchangeLine}
use Rattle.exchange_check.specs.declared.exchange.Leg.{Leg}
use Rattle.exchange_check.specs.declared.exchange.Stay.{Stay}

-- the sequenceId that a line draws, 0 where it draws none
abbrev pub number_drawn : Network → LinePlace → ℕ
number_drawn network e = option_map_or (λ port. sequence network port e) (drawing_port network (event_of e)) 0

-- a line
abbrev pub line_told : Network → LinePlace → ExchangeLine
line_told network e = record {
  number = line_number e;
  event = event_of e;
  reading = reading e;
  sequence = record { 0 = number_drawn network e };
}

-- a stay in a clock
abbrev pub stay_told : Network → LineStay → Stay
stay_told network stay = record { entered = line_told network stay.entered; left = line_told network stay.left }

-- a journey's last stays, the last one first
abbrev pub stays_told : Network → LineJourney → List (Option Stay)
stays_told network journey = map (λ k. option_map (stay_told network) (slice_get journey.stays k)) (range_with_len 0 16)

-- how long a message was in clocks before these stays, where there are more
abbrev pub earlier_told : LineJourney → Option ℕ
earlier_told journey =
    option_map (λ stay. sum_by line_stay_length (drop 16 journey.stays)) (slice_get journey.stays 16)

-- the journey of a message to its arrival
abbrev pub leg_told : Network → (arrival : LinePlace) → LineJourney → Leg
leg_told network arrival journey = record {
  departed = line_told network journey.origin;
  stays = stays_told network journey;
  earlier = earlier_told journey;
  residence = line_residence journey;
  arrived = line_told network arrival;
}

-- the lines of an exchange which is found at a line, and its journeys
abbrev pub exchange_lines : Network → LinePlace → Found → (sync request : LineJourney) → Exchange
exchange_lines network e x sync request = record {
  sync = leg_told network x.sync_arrival sync;
  follow = option_map line_number x.follow;
  request = leg_told network x.request_arrival request;
  stamped = first_stamp network (line_number x.request) (lines_to e);
}

-- the lines of a report at a line, where they are all there and its journeys can be followed: where 701 and 704 hold
abbrev pub exchange_told : Network → LinePlace → Report → Option Exchange
exchange_told network e report =
    option_and_then (λ x.
    option_and_then (λ sync.
    option_map (λ request. exchange_lines network e x sync request)
    (unbroken network e is_request x.request_arrival))
    (unbroken network e draws_sync x.sync_arrival))
    (exchange_of network (site e) e report)

-- the same at the last of these lines
abbrev pub last_exchange : Network → Lines → Report → Option Exchange
last_exchange network [] report = None
last_exchange network (line ∷ earlier) report = exchange_told network (line_place line earlier) report
