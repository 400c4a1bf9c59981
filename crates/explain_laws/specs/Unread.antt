-- What `"octets":"other"` says of a report. `laws::other_octets_tell_the_readings` promises it.
use Rattle.std.specs.Prelude.{◌≡◌, ◌∷◌, Option, Some}
use Rattle.slave_port.specs.declared.heard.Report.{Report}
use Rattle.network_model.specs.Network.{Network}
use Rattle.trace_model.specs.declared.line.TraceLine.{TraceLine}
use Rattle.trace_model.specs.declared.verdict.Why.TheVariants.{Bytes}
use Rattle.trace_model.specs.ByMessages.{IsMeasured}
use Rattle.trace_model.specs.Journey.{LineJourney}
use Rattle.trace_model.specs.Line.{Lines}
use Rattle.trace_model.specs.Record.{line_place}
use Rattle.trace_model.specs.Sound.{Exchange, results_of}
use Rattle.exchange_check.specs.Evidence.{last_by_messages, last_finding, last_otherwise}
use Rattle.explain_transcript.specs.declared.details.Octets.{Octets}
use Rattle.explain_transcript.specs.declared.details.Octets.TheVariants.{Other}
use Rattle.explain_transcript.specs.Details.{octets_of}

-- `octets` of a report of the last line of a transcript
abbrev pub octets_told : Network → TraceLine → Lines → Report → Option Octets
octets_told nodes line earlier report =
    octets_of (last_finding nodes (line ∷ earlier) report Bytes) (last_otherwise nodes (line ∷ earlier) report)

-- Against a report none of 701, 702, 704 and 707 stands, and only fields that nobody reads differ in its messages: then
-- its two results by the messages are those by the readings, whatever it says itself.
abbrev pub EachOtherTellsTheReadings : Type 0
EachOtherTellsTheReadings = (nodes : Network) (line : TraceLine) (earlier : Lines) (report : Report) (x : Exchange)
    (sync request : LineJourney) → IsMeasured nodes (line_place line earlier) report x sync request
    → octets_told nodes line earlier report ≡ Some Other
    → last_by_messages nodes (line ∷ earlier) report ≡ Some (results_of x sync request)
