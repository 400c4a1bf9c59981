-- The law of what `measure` writes of a capture: each report is exact for the events that its packets tell.
-- `laws::each_measurement_of_a_capture_is_exact` promises it.
use Rattle.std.specs.Prelude.{◌≡◌, ℕ, true, List, Some}
use Rattle.network_model.specs.Network.{Network, NodeName}
use Rattle.network_model.specs.Run.{Run}
use Rattle.network_model.specs.Premises.{IsAcceptedRun, exact_limits}
use Rattle.capture_file.specs.Packet.{PacketOf}
use Rattle.capture_file.specs.Task.{TakesPackets}
use Rattle.recording_model.specs.declared.watched.Watched.{Watched}
use Rattle.recording_model.specs.Agreement.{Moved}
use Rattle.recording_model.specs.Told.{Tells}
use Rattle.recording_model.specs.Premises.{IsFresh, IsTicked, MissesFew}
use Rattle.recording_model.specs.Exact.{Watches}
use Rattle.recording_measure.specs.declared.form.Form.{Form}
use Rattle.recording_measure.specs.declared.watch.WantedPorts.{WantedPorts}
use Rattle.recording_measure.specs.Row.{datagrams}
use Rattle.recording_measure.specs.Chosen.{input_watched, heard_at}
use Rattle.datagram_source.specs.Rules.{packet_rules}
use Rattle.recording_measure.specs.Measure.{Recording, begun, is_captured, measure_rules}
use Rattle.recording_laws.specs.Exact.{WritesExact}

-- Over any accepted run of a network, and packets of which those that are heard tell it at one of its slaves: what is
-- written of the packets is the texts of reports that are exact, by the premises that lines have.
abbrev pub EachMeasurementOfACaptureIsExact : Type 0
EachMeasurementOfACaptureIsExact =
    (network : Network) (run : Run) (slave master : NodeName) (w : Watched) (moved : Moved) (form : Form) (wanted : WantedPorts)
    (packets : List PacketOf) (read : Recording) (text : List ℕ)
    → IsAcceptedRun network run → Watches network slave master w
    → TakesPackets (packet_rules measure_rules) (begun form wanted) packets read text
    → is_captured read.by ≡ true
    → input_watched wanted read.rows ≡ Some w
    → (tells : Tells network slave w moved run (datagrams (heard_at wanted read.rows)))
    → IsFresh exact_limits.late tells → IsTicked exact_limits.between_ticks master tells
    → MissesFew exact_limits.late tells
    → WritesExact master w (heard_at wanted read.rows) tells form text
