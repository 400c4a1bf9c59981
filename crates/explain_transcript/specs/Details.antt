-- What is told of the report of a line beside its judgement: its results by the messages, in which fields octets differ
-- that it rests on, and in which message first in one that is read, its four moments, and when it was.
use Rattle.std.specs.Prelude.{ℕ, [], ◌∷◌, nat_lt, if◌then◌else◌, Option, Some, None, option_map, option_and_then}
use Rattle.slave_port.specs.declared.heard.Report.{Report}
use Rattle.network_model.specs.Kinds.{draws_sync, is_request}
use Rattle.network_model.specs.Network.{Network}
use Rattle.trace_model.specs.declared.finding.Finding.{Finding}
use Rattle.trace_model.specs.declared.finding.Finding.TheVariants.{OtherOctets}
use Rattle.trace_model.specs.declared.verdict.Why.TheVariants.{Bytes}
use Rattle.trace_model.specs.Line.{Lines}
use Rattle.trace_model.specs.Record.{LinePlace, line_number, line_place, reading, site}
use Rattle.trace_model.specs.Sound.{Exchange, exchange_of, unbroken}
use Rattle.exchange_check.specs.declared.exchange.Exchange.{Exchange as Followed}
use Rattle.exchange_check.specs.Evidence.{last_by_messages, last_finding, last_otherwise}
use Rattle.exchange_check.specs.Exchange.{last_exchange}
use Rattle.explain_input.specs.declared.input.Input.{Input}
use Rattle.explain_input.specs.declared.input.Input.TheVariants.{Transcript, Schedule}
use Rattle.explain_transcript.specs.declared.details.Details.{Details}
use Rattle.explain_transcript.specs.declared.details.Moments.{Moments}
use Rattle.explain_transcript.specs.declared.details.Octets.{Octets}
use Rattle.explain_transcript.specs.declared.details.Octets.TheVariants.{Told, Other}

-- what the slave read at the last of the two event messages of an exchange: as the Sync came, or as the Delay_Req left
abbrev pub last_reading : Exchange → ℕ
last_reading x = if nat_lt (line_number x.request) (line_number x.sync_arrival) then reading x.sync_arrival
    else reading x.request

-- the same of a report at a line, where 701 and 704 hold
abbrev pub time_of : Network → LinePlace → Report → Option ℕ
time_of network e report =
    option_and_then (λ x.
    option_and_then (λ sync.
    option_map (λ request. last_reading x)
    (unbroken network e is_request x.request_arrival))
    (unbroken network e draws_sync x.sync_arrival))
    (exchange_of network (site e) e report)

-- the same of a report of the last of these lines
abbrev pub last_time : Network → Lines → Report → Option ℕ
last_time network [] report = None
last_time network (line ∷ earlier) report = time_of network (line_place line earlier) report

-- what the clocks read at the four moments of an exchange
abbrev pub moments_of : Followed → Moments
moments_of x = record {
  t1 = x.sync.departed.reading;
  t2 = x.sync.arrived.reading;
  t3 = x.request.departed.reading;
  t4 = x.request.arrived.reading;
}

-- the event that made the message whose octets were found to be others
abbrev pub made_by : Option Finding → Option ℕ
made_by (Some (OtherOctets event)) = Some event
made_by _ = None

-- in which fields octets differ that aren't right: in one that a slave or a master reads, where a message of the exchange
-- tells otherwise
abbrev pub fields_of : (otherwise : Option Finding) → Octets
fields_of None = Other
fields_of (Some otherwise) = Told

-- the same, by the first message whose octets aren't right, too; nothing where all are right
abbrev pub octets_of : (wrong otherwise : Option Finding) → Option Octets
octets_of wrong otherwise = option_map (λ finding. fields_of otherwise) wrong

-- what is told of a report of the last line of an input beside its judgement; nothing of a schedule
abbrev pub details_of : Input → Report → Details
details_of (Transcript state) report = record {
  by_messages = last_by_messages state.nodes state.lines report;
  octets = octets_of (last_finding state.nodes state.lines report Bytes) (last_otherwise state.nodes state.lines report);
  otherwise = made_by (last_otherwise state.nodes state.lines report);
  moments = option_map moments_of (last_exchange state.nodes state.lines report);
  time = last_time state.nodes state.lines report;
}
details_of (Schedule state) report =
    record { by_messages = None; octets = None; otherwise = None; moments = None; time = None }
