-- What the checker keeps of lines, so that it searches for nothing. Its own functions cite these; what its callers
-- are told is said by the lines alone. A definition `x_by` says by what is kept what trace_model's `Record`, `Journey`
-- and `Octets` say by the lines, as proofs/Told, proofs/Messages and proofs/FactLines show.
use Rattle.std.specs.Prelude.{ℕ, ◌+◌, ◌-◌, ℤ, pos, ◌+ℤ◌, Bool, false, ◌&&◌, not, List, [], ◌∷◌, nat_lt}
use Rattle.std.specs.Prelude.{slice_get, unwrap_or, ◌==◌, is_some, if◌then◌else◌, Option, Some, None, option_map}
use Rattle.std.specs.Prelude.{option_and_then}
use Rattle.std.specs.Option.{option_or, option_map_or}
use Rattle.ptp_units.specs.Sequence.{of_count, next}
use Rattle.event_codec.specs.Packet.{Contents}
use Rattle.master_port.specs.Written.{follow_up, delay_resp}
use Rattle.transparent_clock.specs.Forwarding.{resided}
use Rattle.network_model.specs.declared.event.Event.{Event}
use Rattle.network_model.specs.declared.event.Event.TheVariants.{Sync, SyncOne, Follow, Leave, Arrive}
use Rattle.network_model.specs.declared.event.Event.TheVariants.{Request, SetMaster, StepClock}
use Rattle.network_model.specs.Network.{Network, NodeName, PortSetup, is_named, node_of}
use Rattle.network_model.specs.Run.{site_of, true_moment}
use Rattle.network_model.specs.Kinds.{entered_copy, named_transit, is_stamped}
use Rattle.network_model.specs.Truth.{master_at, slave_at}
use Rattle.copy_stays.specs.Leaves.{Leaves, left_again, Firsts, first_kept}
use Rattle.exchange_check.specs.declared.facts.Fact.{Fact}
use Rattle.exchange_check.specs.declared.facts.Known.{Known}
use Rattle.exchange_check.specs.declared.facts.Site.{Site}
use Rattle.exchange_check.specs.declared.facts.KeptJourney.{KeptJourney}
use Rattle.trace_model.specs.declared.line.TraceLine.{TraceLine}
use Rattle.exchange_check.specs.declared.octets.Port.{Port}
use Rattle.exchange_check.specs.declared.wrong_lines.WrongLines.{WrongLines}
use Rattle.exchange_check.specs.declared.wrong_lines.WrongLines.TheVariants.{Neither, Reading, Octets, Both}
use Rattle.trace_model.specs.Line.{counts, is_made, completes}
use Rattle.trace_model.specs.Record.{is_reading}
use Rattle.trace_model.specs.Octets.{drawing_port, message_sent, is_written}

-- a port's configuration and first number, as a network has them
abbrev pub port_setup : Port → PortSetup
port_setup port = record { config = port.config; first = port.first.0 }

-- what is kept of the line of each number, where it counts
abbrev pub Facts : Type 0
Facts = ℕ → Option Fact

-- what is kept of each node
abbrev pub Sites : Type 0
Sites = NodeName → Site

-- the fact of this number in a list, oldest first
abbrev pub fact_in : List (Option Fact) → ℕ → Option Fact
fact_in facts n = option_and_then (λ fact. fact) (slice_get facts n)

-- the sequenceId that an event draws, 0 where it draws none
abbrev pub number_by : Network → Sites → Event → ℕ
number_by network sites (Sync node at) =
    option_map_or (λ port. of_count (port.first + (sites node).syncs.0)) (master_at network node) 0
number_by network sites (SyncOne node at) =
    option_map_or (λ port. of_count (port.first + (sites node).syncs.0)) (master_at network node) 0
number_by network sites (Request node at) =
    option_map_or (λ port. of_count (port.first + (sites node).requests.0)) (slave_at network node) 0
number_by network sites _ = 0

-- what the clock shows at an event
abbrev pub shown_by : Site → Event → Option ℤ
shown_by site event = option_map (λ at. pos at +ℤ site.difference) (true_moment event)

abbrev pub known_by : Network → Sites → TraceLine → ℕ → Known
known_by network sites line n = record {
  line = n;
  reading = unwrap_or line.reading 0;
  number = record { 0 = number_by network sites line.event };
  reads = is_reading line.reading (shown_by (sites (site_of line.event)) line.event);
  last_sync = (sites (site_of line.event)).last_sync;
}

-- the journey of the copy that the line of this number made
abbrev pub kept_journey_at : Facts → ℕ → Option KeptJourney
kept_journey_at facts copy = option_and_then (λ fact. fact.journey) (facts copy)

-- the copy that entered at a line, where that is a line of this clock and the copy was made before it
abbrev pub copy_entered_by : NodeName → Fact → Option ℕ
copy_entered_by clock entered = option_and_then
    (λ copy. if is_named (site_of entered.event) clock && nat_lt copy entered.line then Some copy else None)
    (entered_copy entered.event)

-- the number of a line, where something of it isn't right
abbrev pub wrong_line : (right : Bool) → (number : ℕ) → Option ℕ
wrong_line right number = if right then None else Some number

-- the lines on a journey where the first thing is met that is wrong with readings, and that has the first wrong octets
abbrev pub wrong_lines : (reading octets : Option ℕ) → WrongLines
wrong_lines None None = Neither
wrong_lines (Some reading) None = Reading reading
wrong_lines None (Some octets) = Octets octets
wrong_lines (Some reading) (Some octets) = Both reading octets

abbrev pub wrong_reading_in : WrongLines → Option ℕ
wrong_reading_in (Reading reading) = Some reading
wrong_reading_in (Both reading octets) = Some reading
wrong_reading_in _ = None

abbrev pub wrong_octets_in : WrongLines → Option ℕ
wrong_octets_in (Octets octets) = Some octets
wrong_octets_in (Both reading octets) = Some octets
wrong_octets_in _ = None

-- the line of a stay where the first thing is met that is wrong with its readings
abbrev pub stay_line : Known → (entered : Fact) → Option ℕ
stay_line known entered = option_or
    (wrong_line entered.reads_right entered.line)
    (wrong_line (known.reads && not (nat_lt known.reading entered.reading)) known.line)

-- a journey and one more stay
abbrev pub stayed : Known → Fact → KeptJourney → KeptJourney
stayed known entered before = record {
  origin = before.origin;
  residence = before.residence + (known.reading - entered.reading);
  wrong = wrong_lines
      (option_or (wrong_reading_in before.wrong) (stay_line known entered))
      (wrong_octets_in before.wrong);
}

abbrev pub left_by : Facts → NodeName → Known → Fact → Option KeptJourney
left_by facts clock known entered =
    option_and_then (λ copy. option_map (stayed known entered) (kept_journey_at facts copy))
    (copy_entered_by clock entered)

-- the journey of a copy that leaves a clock by a stay that began at the line of this number
abbrev pub kept_journey_left : Facts → NodeName → ℕ → Known → Option KeptJourney
kept_journey_left facts clock transit known = option_and_then (left_by facts clock known) (facts transit)

-- the journey of a message that was just sent
abbrev pub begun_by : Known → KeptJourney
begun_by known = record {
  origin = known.line;
  residence = 0;
  wrong = wrong_lines (wrong_line known.reads known.line) None;
}

-- the journey of the copy that a line made, its own octets left out
abbrev pub kept_journey_by : Facts → Known → Event → Option KeptJourney
kept_journey_by facts known (Sync node at) = Some (begun_by known)
kept_journey_by facts known (SyncOne node at) = Some (begun_by known)
kept_journey_by facts known (Leave node transit at) = kept_journey_left facts node transit known
kept_journey_by facts known (Request node at) = Some (begun_by known)
kept_journey_by facts known _ = None

-- the message that an event sends
abbrev pub sent_by : Network → Event → (number now : ℕ) → Option Contents
sent_by network event number now =
    option_and_then (λ port. message_sent port.config event number now) (drawing_port network event)

-- the message at the end of a journey
abbrev pub message_after_by : Network → Facts → KeptJourney → Option Contents
message_after_by network facts journey = option_and_then
    (λ origin. option_map (λ m. resided m journey.residence)
    (sent_by network origin.event origin.number.0 origin.reading))
    (facts journey.origin)

abbrev pub followed_by : Facts → PortSetup → Option ℕ → Option Contents
followed_by facts port last =
    option_map (λ sync. follow_up port.config sync.number.0 sync.reading) (option_and_then facts last)

abbrev pub answered_by : Network → Facts → PortSetup → (now : ℕ) → Option KeptJourney → Option Contents
answered_by network facts port now journey =
    option_map (λ request. delay_resp port.config request.header now)
    (option_and_then (message_after_by network facts) journey)

-- the message that a line made
abbrev pub message_by : Network → Facts → Known → Option KeptJourney → Event → Option Contents
message_by network facts known journey (Sync node at) = sent_by network (Sync node at) known.number.0 known.reading
message_by network facts known journey (SyncOne node at) =
    sent_by network (SyncOne node at) known.number.0 known.reading
message_by network facts known journey (Follow node) =
    option_and_then (λ port. followed_by facts port known.last_sync) (master_at network node)
message_by network facts known journey (Leave node transit at) =
    option_and_then (message_after_by network facts) journey
message_by network facts known journey (Arrive node copy at) =
    option_and_then (λ port. answered_by network facts port known.reading (kept_journey_at facts copy))
    (master_at network node)
message_by network facts known journey (Request node at) =
    sent_by network (Request node at) known.number.0 known.reading
message_by network facts known journey _ = None

-- a journey with the octets of the line of this number, by which it goes on
abbrev pub written_journey : (writes : Bool) → (number : ℕ) → KeptJourney → KeptJourney
written_journey writes number journey = record {
  origin = journey.origin;
  residence = journey.residence;
  wrong = wrong_lines
      (wrong_reading_in journey.wrong)
      (option_or (wrong_octets_in journey.wrong) (wrong_line writes number));
}

-- what is kept of a line
abbrev pub fact_made : TraceLine → Known → (writes : Bool) → Option KeptJourney → Fact
fact_made line known writes journey = record {
  line = known.line;
  event = line.event;
  reading = known.reading;
  made = is_made line.out;
  completes = completes line.out;
  number = known.number;
  reads_right = known.reads;
  writes_right = writes;
  last_sync = known.last_sync;
  journey = option_map (written_journey writes known.line) journey;
}

abbrev pub fact_known : Network → Facts → TraceLine → Known → Option KeptJourney → Fact
fact_known network facts line known journey =
    fact_made line known (is_written (message_by network facts known journey line.event) line.out) journey

-- the same, where the line counts
abbrev pub fact_from : Network → Facts → TraceLine → Known → Option KeptJourney → Option Fact
fact_from network facts line known journey =
    if counts network line then Some (fact_known network facts line known journey) else None

abbrev pub fact_by : Network → Facts → Sites → TraceLine → ℕ → Option Fact
fact_by network facts sites line n =
    fact_from network facts line (known_by network sites line n)
    (kept_journey_by facts (known_by network sites line n) line.event)

-- what is kept of a node after an event of it at the line of this number
abbrev pub moved : Event → ℕ → Site → Site
moved (Sync node at) n site = record site { syncs = record { 0 = next site.syncs.0 }; last_sync = Some n }
moved (SyncOne node at) n site = record site { syncs = record { 0 = next site.syncs.0 } }
moved (Request node at) n site = record site { requests = record { 0 = next site.requests.0 }; last_request = Some n }
moved (SetMaster node master) n site = record site { set_master = Some (master, n) }
moved (StepClock node diff) n site = record site { difference = diff; last_step = Some n }
moved _ n site = site

-- a node of which no line told anything
abbrev pub new_site : Site
new_site = record {
  difference = pos 0;
  syncs = record { 0 = 0 };
  requests = record { 0 = 0 };
  last_sync = None;
  last_request = None;
  set_master = None;
  last_step = None;
}

-- what is kept of each node, where they stand as in the network; of the others no line told anything
abbrev pub site_in : List Site → Network → Sites
site_in [] network name = new_site
site_in (site ∷ sites) [] name = new_site
site_in (site ∷ sites) (node ∷ others) name = if is_named name node.name then site else site_in sites others name

-- whether an event's node is one of the network
abbrev pub has_site : Network → Event → Bool
has_site network event = is_some (node_of network (site_of event))

-- what is kept of each node, with one of them moved by an event
abbrev pub moved_at : Event → ℕ → Sites → Sites
moved_at event n sites name = if is_named (site_of event) name then moved event n (sites name) else sites name

-- what is kept of each node, after an event at the line of this number
abbrev pub sites_after : Event → ℕ → Sites → Sites
sites_after (Sync node at) n sites = moved_at (Sync node at) n sites
sites_after (SyncOne node at) n sites = moved_at (SyncOne node at) n sites
sites_after (Request node at) n sites = moved_at (Request node at) n sites
sites_after (SetMaster node master) n sites = moved_at (SetMaster node master) n sites
sites_after (StepClock node diff) n sites = moved_at (StepClock node diff) n sites
sites_after _ n sites = sites

-- whether each stay was left again, after one more event
abbrev pub leaves_after : Event → Leaves → Leaves
leaves_after event leaves = option_map_or (λ transit. left_again transit leaves) (named_transit event) leaves

-- the first Leave line of each stay, after an event at the line of this number
abbrev pub firsts_after : Event → ℕ → Firsts → Firsts
firsts_after event n firsts = option_map_or (λ transit. first_kept transit n firsts) (named_transit event) firsts

-- the line at which the departure of the request of each number was learned
abbrev pub Stamps : Type 0
Stamps = ℕ → Option ℕ

-- the line of this number tells when the last request of its node departed
abbrev pub stamped : (last : Option ℕ) → ℕ → Stamps → Stamps
stamped last n stamps request =
    option_or (stamps request) (if option_map_or (λ asked. asked == request) last false then Some n else None)

-- the same after an event at the line of this number
abbrev pub stamps_after : Event → ℕ → Sites → Stamps → Stamps
stamps_after event n sites stamps =
    if is_stamped event then stamped (sites (site_of event)).last_request n stamps else stamps
