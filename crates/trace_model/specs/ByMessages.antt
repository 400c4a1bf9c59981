-- The two results by the messages: by what the octets say that came to the slave, and by its own readings of t2 and
-- t3. Where a device computes right of what it was told, these are its results, also where what it was told isn't so.
use Rattle.std.specs.Prelude.{◌≡◌, ℕ, ◌%◌, ℤ, pos, Bool, true, false, ◌&&◌, List, slice_index, ◌==◌, is_none, IsTrue}
use Rattle.std.specs.Prelude.{if◌then◌else◌, Option, Some, None, option_map, option_and_then}
use Rattle.std.specs.Int.{w64, cast_signed}
use Rattle.std.specs.Option.{option_map_or}
use Rattle.ptp_units.specs.Exchange.{sync_bracket, delay_bracket, offset2, path2}
use Rattle.ptp_units.specs.Moment.{Stamp, stamp}
use Rattle.event_codec.specs.Layout.{number}
use Rattle.event_codec.specs.Packet.{Contents}
use Rattle.event_codec.specs.Refusal.{decode_refusal}
use Rattle.slave_port.specs.declared.heard.Report.{Report}
use Rattle.network_model.specs.Network.{Network}
use Rattle.network_model.specs.Kinds.{draws_sync, is_request}
use Rattle.trace_model.specs.declared.judgement.Results.{Results}
use Rattle.trace_model.specs.declared.line.TraceOut.{TraceOut}
use Rattle.trace_model.specs.declared.line.TraceOut.TheVariants as outs
use Rattle.trace_model.specs.Line.{Lines}
use Rattle.trace_model.specs.Record.{LinePlace, event_of, site, reading}
use Rattle.trace_model.specs.Journey.{LineJourney}
use Rattle.trace_model.specs.Octets.{message_made}
use Rattle.trace_model.specs.Field.{tells_same}
use Rattle.trace_model.specs.Sound.{Exchange, lines_to, sender, exchange_of, unbroken, are_paired, fits, results_of}
use Rattle.trace_model.specs.Sound.{are_octets}

-- what a message says: its timestamp, and its correction in units of 2^-16 ns
pub record Said : Type 0 where
  pub timestamp : Stamp
  pub correction : ℤ

-- the messageTypes that a slave hears (IEEE 1588-2019, 13.3.2.3)
abbrev pub sync_type : ℕ
sync_type = 0

abbrev pub follow_up_type : ℕ
follow_up_type = 8

abbrev pub delay_resp_type : ℕ
delay_resp_type = 9

-- what octets of this messageType say; nothing where they can't be read, or are of another type
abbrev pub said_in : (kind : ℕ) → List ℕ → Option Said
said_in kind b =
    if is_none (decode_refusal b) && slice_index b 0 % 16 == kind
    then Some (record {
      timestamp = stamp (number b 34 6) (number b 40 4);
      correction = cast_signed w64 (number b 8 8);
    }) else None

-- what the octets say that a line made
abbrev pub said_out : (kind : ℕ) → TraceOut → Option Said
said_out kind (outs.Made octets) = said_in kind octets.items
said_out kind _ = None

-- what the message of a line says, where it is of this messageType
abbrev pub said_at : (kind : ℕ) → LinePlace → Option Said
said_at kind e = said_out kind e.line.out

-- what the Follow_Up says, where there is one; nothing is asked where there is none
abbrev pub follow_said : Option LinePlace → Option (Option Said)
follow_said None = Some None
follow_said (Some follow) = option_map Some (said_at follow_up_type follow)

-- what the slave's clock read at the arrival of a Sync, less the departure and the correction that it was told: by the
-- Follow_Up, or where there is none by the one-step Sync itself
abbrev pub sync_told : (t2 : ℕ) → (follow : Option Said) → (sync : Said) → ℤ
sync_told t2 None sync = sync_bracket t2 sync.timestamp (pos 0) sync.correction
sync_told t2 (Some follow) sync = sync_bracket t2 follow.timestamp follow.correction sync.correction

-- what the slave's clock read at the arrival of the Sync, less the departure and the corrections that it was told
abbrev pub sync_bracket_told : Network → Lines → Exchange → Option ℤ
sync_bracket_told network lines x =
    option_and_then (λ sync. option_map (λ follow. sync_told (reading x.sync_arrival) follow sync) (follow_said x.follow))
    (option_and_then (said_at sync_type) (sender network lines x.sync_arrival))

-- the arrival of the Delay_Req that the slave was told, less what its clock read at the departure
abbrev pub delay_bracket_told : Exchange → Option ℤ
delay_bracket_told x =
    option_map (λ response. delay_bracket response.timestamp response.correction (reading x.request))
    (said_at delay_resp_type x.request_arrival)

-- twice offsetFromMaster and twice meanPathDelay (IEEE 1588-2019, 11.2 and 11.3) by the messages of an exchange
abbrev pub results_told : Network → Lines → Exchange → Option Results
results_told network lines x =
    option_and_then (λ a. option_map (λ b. record { offset2 = offset2 a b; path2 = path2 a b }) (delay_bracket_told x))
    (sync_bracket_told network lines x)

-- the two results by the messages, where the report's lines and its journeys are there, so that 701 and 704 hold, and
-- where each message can be read
abbrev pub by_messages : Network → LinePlace → Report → Option Results
by_messages network e report =
    option_and_then (λ x.
    option_and_then (λ sync.
    option_and_then (λ request. results_told network (lines_to e) x)
    (unbroken network e is_request x.request_arrival))
    (unbroken network e draws_sync x.sync_arrival))
    (exchange_of network (site e) e report)

-- whether octets that a line made tell the same as this message
abbrev pub tells_message : Option Contents → TraceOut → Bool
tells_message (Some m) (outs.Made octets) = tells_same m octets.items
tells_message _ _ = false

-- the octets that a line made tell the same as those that its port or its clock writes: they may be other octets, but
-- in no field that a slave or a master reads
abbrev pub tells_right : Network → LinePlace → Bool
tells_right network e = tells_message (message_made network (event_of e) e) e.line.out

-- 701, 704, 702 and 707: a report has an exchange, of one Sync and of the slave's own request, and no correction of its
-- two event messages is too big. Its readings and results aren't asked for, nor its octets and its master.
pub record IsMeasured (network : Network) (e : LinePlace) (report : Report) (x : Exchange)
    (sync request : LineJourney) : Type 0 where
  pub lines : exchange_of network (site e) e report ≡ Some x
  pub sync_unbroken : unbroken network e draws_sync x.sync_arrival ≡ Some sync
  pub request_unbroken : unbroken network e is_request x.request_arrival ≡ Some request
  pub paired : IsTrue (are_paired network x sync request)
  pub sync_fits : IsTrue (fits sync)
  pub request_fits : IsTrue (fits request)

-- the three copies that came to the slave tell the same as those that ports and clocks write
pub record TellsRight (network : Network) (lines : Lines) (x : Exchange) : Type 0 where
  pub sync : IsTrue (option_map_or (tells_right network) (sender network lines x.sync_arrival) false)
  pub follow : IsTrue (option_map_or (tells_right network) x.follow true)
  pub response : IsTrue (tells_right network x.request_arrival)

-- The results by the messages are those by the readings, where the messages that came to the slave tell the same as
-- those that ports and clocks write: whatever else is wrong with their octets, and whatever the report says.
abbrev pub EachTellsTheReadings : Type 0
EachTellsTheReadings = (network : Network) (e : LinePlace) (report : Report) (x : Exchange) (sync request : LineJourney)
    → IsMeasured network e report x sync request → TellsRight network (lines_to e) x
    → by_messages network e report ≡ Some (results_of x sync request)

-- the same where all octets of the exchange are right, so that 708 holds
abbrev pub EachSoundTellsTheReadings : Type 0
EachSoundTellsTheReadings = (network : Network) (e : LinePlace) (report : Report) (x : Exchange)
    (sync request : LineJourney)
    → IsMeasured network e report x sync request → IsTrue (are_octets network x sync request)
    → by_messages network e report ≡ Some (results_of x sync request)
