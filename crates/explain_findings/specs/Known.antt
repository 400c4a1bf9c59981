-- Events of a transcript, as they are told: where they stand, what they are, and what came of those that don't count.
use Rattle.std.specs.Prelude.{ℕ, ◌+◌, ◌-◌, ◌^◌, min, List, [], ◌++◌, length, reverse, codes, Option, Some, None, option_map}
use Rattle.std.specs.Prelude.{option_and_then}
use Rattle.std.specs.Fmt.{decimal}
use Rattle.network_model.specs.declared.event.Event.{Event}
use Rattle.network_model.specs.declared.node.NodeKind.{NodeKind}
use Rattle.network_model.specs.declared.node.NodeKind.TheVariants.{Clock, Master, Slave}
use Rattle.network_model.specs.declared.node.NodeSpec.{NodeSpec}
use Rattle.network_model.specs.Network.{NodeName, node_of}
use Rattle.network_model.specs.Run.{site_of}
use Rattle.exchange_check.specs.declared.kept_line.KeptLine.{KeptLine}
use Rattle.exchange_check.specs.declared.kept_line.Uncounted.{Uncounted}
use Rattle.exchange_check.specs.declared.kept_line.Came.{Came}
use Rattle.exchange_check.specs.declared.kept_line.Came.TheVariants as cames
use Rattle.exchange_check.specs.Evidence.{Evidences, uncounted_at}
use Rattle.exchange_check.specs.KeptLine.{kept_line_at}
use Rattle.exchange_check.specs.Transcript.{Transcript}
use Rattle.explain_words.specs.Words.{event_words}
use Rattle.explain_findings.specs.declared.known.Known.{Known}
use Rattle.explain_findings.specs.declared.known.Named.{Named}
use Rattle.explain_findings.specs.declared.known.Place.{Place}
use Rattle.explain_findings.specs.declared.known.Port.{Port}

-- an event's number and its line
abbrev pub place_text : Place → List ℕ
place_text place = codes "event " ++ (decimal place.number ++ (codes ", line " ++ decimal place.line))

-- what came of an event that doesn't count
abbrev pub came_text : Came → List ℕ
came_text (cames.Refused code) = codes ", which was refused with " ++ decimal code
came_text (cames.Ignored code) = codes ", which was ignored with " ++ decimal code
came_text cames.Otherwise = codes ", which can't have come out so"

-- the same; nothing of one that counts
abbrev pub outcome_text : Option Came → List ℕ
outcome_text None = []
outcome_text (Some came) = came_text came

-- where an event stands, what it is, at which node, and what came of it
abbrev pub event_text : Place → Option Event → Option Came → List ℕ
event_text place None came =
    codes "event " ++ (decimal place.number ++ codes ", which comes behind the report or isn't there")
event_text place (Some event) came =
    place_text place ++ (codes ", " ++ (event_words event ++ (codes " at " ++ (site_of event ++ outcome_text came))))

abbrev pub named_text : Named → List ℕ
named_text named = event_text named.place named.event named.came

-- where the event of a number stands: behind the nodes and the events before it, counted from 1
abbrev pub place_at : Transcript → ℕ → Place
place_at transcript number = record {
  number = number;
  line = min (length transcript.network + number + 1) (2 ^ 64 - 1);
}

-- the line of a number, where it doesn't count
abbrev pub line_uncounted : Transcript → ℕ → Option Uncounted
line_uncounted transcript number = uncounted_at transcript.network (reverse transcript.lines) number

-- the event of a line, by what is known of it where it counts, and where it doesn't
abbrev pub event_in : Option KeptLine → Option Uncounted → Option Event
event_in (Some line) uncounted = Some line.event
event_in None (Some line) = Some line.event
event_in None None = None

-- the event of a number, whether it counts or not
abbrev pub event_at : Transcript → ℕ → Option Event
event_at transcript number = event_in
    (kept_line_at transcript.network (reverse transcript.lines) number)
    (line_uncounted transcript number)

-- what came of it, where it doesn't count
abbrev pub came_in : Option Uncounted → Option Came
came_in None = None
came_in (Some line) = Some line.came

abbrev pub came_at : Transcript → ℕ → Option Came
came_at transcript number = came_in (line_uncounted transcript number)

-- the event of a number, to be told
abbrev pub named_at : Transcript → ℕ → Named
named_at transcript number = record {
  place = place_at transcript number;
  event = event_at transcript number;
  came = came_at transcript number;
}

-- the same of what there may be
abbrev pub named_if_at : Transcript → Option ℕ → Option Named
named_if_at transcript number = option_map (named_at transcript) number

-- the same without what came of it
abbrev pub silent : Named → Named
silent named = record { place = named.place; event = named.event; came = None }

-- what a checker and its evidence know: the transcript, where they were fed and noted just the same lines
abbrev pub lines_of : Known → Transcript
lines_of known = known.checker.now

abbrev pub IsNoted : Known → Type 0
IsNoted known = Evidences known.evidence.now known.checker.now

-- the domain of a node's port; a transparent clock has none
abbrev pub domain_in : NodeKind → Option ℕ
domain_in (Master config first) = Some config.domain
domain_in (Slave config first) = Some config.domain
domain_in Clock = None

abbrev pub domain_of : NodeSpec → Option ℕ
domain_of node = domain_in node.kind

-- a port, by its name
abbrev pub port_at : Transcript → NodeName → Port
port_at transcript name =
    record { name = name; domain = option_and_then domain_of (node_of transcript.network name) }

-- its name, and its domain
abbrev pub port_text_of : NodeName → Option ℕ → List ℕ
port_text_of name None = name
port_text_of name (Some domain) = name ++ (codes ", domain " ++ decimal domain)

abbrev pub port_text : Port → List ℕ
port_text port = port_text_of port.name port.domain
