-- What `measure` makes of the datagrams of an input.
use Rattle.std.specs.Prelude.{◌≡◌, ◌≢◌, ℕ, ◌+◌, Bool, true, false, not, ◌==◌, ◌&&◌, nat_lt, List, [], ◌∷◌, ◌++◌, length}
use Rattle.std.specs.Prelude.{Option, Some, None, is_some}
use Rattle.std.specs.Option.{option_map_or}
use Rattle.std.specs.Result.{is_ok}
use Rattle.std.specs.Str.{bytes_eq}
use Rattle.text_lines.specs.declared.line_fault.LineFault.{LineFault}
use Rattle.text_lines.specs.declared.line_fault.LineFault.TheVariants.{Write, Field, Memory}
use Rattle.text_lines.specs.Fault.{is_write}
use Rattle.event_codec.specs.declared.message.Header.{Header}
use Rattle.event_codec.specs.declared.port.PortIdentity.{PortIdentity}
use Rattle.event_codec.specs.Port.{is_same_port}
use Rattle.signaling_codec.specs.declared.signaling.Signaling.{Signaling}
use Rattle.signaling_codec.specs.Tlv.{readings_of}
use Rattle.recording_lines.specs.Measurement.{table_head}
use Rattle.recording_measure.specs.Exchange as full
use Rattle.datagram_source.specs.declared.lines.LineForm.TheVariants.{Timed}
use Rattle.datagram_source.specs.Datagram.{DatagramOf}
use Rattle.datagram_source.specs.Rules.{DatagramRules, is_field}
use Rattle.recording_measure.specs.Made.{Measured}
use Rattle.recording_measure.specs.declared.form.Form.{Form}
use Rattle.recording_measure.specs.declared.form.Form.TheVariants.{Json, Table, FullJson, FullTable, Sums, Completions}
use Rattle.recording_measure.specs.declared.watch.WantedPorts.{WantedPorts}
use Rattle.datagram_source.specs.declared.readings.Readings.{Readings}
use Rattle.datagram_source.specs.declared.readings.Readings.TheVariants as readings
use Rattle.recording_measure.specs.declared.readings.By.{By}
use Rattle.recording_measure.specs.declared.readings.By.TheVariants.{Any, Captured, Own}
use Rattle.recording_measure.specs.declared.own.OwnMessage.{OwnMessage}
use Rattle.recording_measure.specs.Own.{Begins, messages_in, IsOwn}
use Rattle.recording_measure.specs.Places.{PlacedRow, placed}
use Rattle.recording_measure.specs.Measured.{GoesWhole}
use Rattle.recording_measure.specs.Chosen.{settled, input_measured, input_written}

-- which readings are measured, by what is asked for
abbrev pub by_asked : Option Readings → By
by_asked None = Any
by_asked (Some readings.Captured) = Captured
by_asked (Some readings.Own) = Own None

-- what is asked for, which readings are measured, the rows that were read of these, newest first, and how many of the reports at these
-- were handed on; how many of the four messages were captured, and how many messages told readings that weren't taken
pub record Recording : Type 0 where
  pub form : Form
  pub wanted : WantedPorts
  pub by : By
  pub rows : List PlacedRow
  pub handed : ℕ
  pub captured : ℕ
  pub untaken : ℕ

-- before the first datagram
abbrev pub begun : Form → WantedPorts → Recording
begun form w = record { form = form; wanted = w; by = by_asked w.readings; rows = []; handed = 0; captured = 0; untaken = 0 }

-- all that is measured once these were read
abbrev pub measured_so_far : Recording → List Measured
measured_so_far r = input_measured r.wanted r.rows

-- all that is written of them
abbrev pub written_of : Recording → List ℕ
written_of r = input_written r.form r.wanted r.rows

-- all reports so far were handed on
abbrev pub handed_on : Recording → Recording
handed_on r = record r { handed = length (measured_so_far r) }

-- after one more row
abbrev pub with_row : PlacedRow → Recording → Recording
with_row row r = record r { rows = row ∷ r.rows }

-- ---- what was captured
-- what was captured is measured, and no slave's own readings
abbrev pub is_captured : By → Bool
is_captured Any = true
is_captured Captured = true
is_captured (Own slave) = false

-- after one more datagram that was captured: its row, where it belongs, unless a slave's own readings are measured
abbrev pub captured_by : By → DatagramOf → Recording → Recording
captured_by Any d r = with_row (placed (settled r.wanted r.rows d) d) r
captured_by Captured d r = with_row (placed (settled r.wanted r.rows d) d) r
captured_by (Own slave) d r = r

-- ---- a slave's own readings
-- They are of the domain that is asked for, and of the clock of the slave: linuxptp tells them from port 0 of it.
abbrev pub is_asked : WantedPorts → Header → Bool
is_asked w header = option_map_or (λ domain. header.domain == domain) w.domain true
    && option_map_or (λ slave. bytes_eq header.source.clock slave.clock) w.slave true

-- the slave that tells them: the one that is asked for, or that of their Signaling
abbrev pub slave_by : WantedPorts → Header → PortIdentity
slave_by w header = option_map_or (λ slave. slave) w.slave header.source

-- They are measured: where own ones are asked for, those of one slave, of which the first ones are; where nothing is, also, if they come
-- before the first report.
abbrev pub are_by : By → (slave : PortIdentity) → (reported : Bool) → Bool
are_by Any slave reported = not reported
are_by Captured slave reported = false
are_by (Own None) slave reported = true
are_by (Own (Some own)) slave reported = is_same_port slave own

-- a first report was measured
abbrev pub has_reported : Recording → Bool
has_reported r = nat_lt 0 (length (measured_so_far r))

-- a Signaling message tells readings that are measured
abbrev pub is_taken : Recording → Signaling → Bool
is_taken r m = nat_lt 0 (length (readings_of m.tlvs)) && (is_asked r.wanted m.header && are_by r.by (slave_by r.wanted m.header) (has_reported r))

-- from here on those of this slave are measured, and what was captured before isn't, at which there was no report
abbrev pub with_own : By → (slave : PortIdentity) → Recording → Recording
with_own Any slave r = record r { by = Own (Some slave); rows = []; handed = 0 }
with_own Captured slave r = r
with_own (Own own) slave r = record r { by = Own (Some slave) }

-- the messages that readings stand for are one more row each, one after the other, where the datagram belongs that tells them
abbrev pub TakesOwn : DatagramOf → List OwnMessage → Recording → Recording → Type 0
TakesOwn told [] r later = later ≡ r
TakesOwn told (m ∷ messages) r later =
    (d : DatagramOf) × IsOwn told m d × TakesOwn told messages (with_row (placed told.place d) r) later

-- ---- what is counted
-- octets begin with a Signaling message that tells readings, or don't
abbrev pub TellsReadings : List ℕ → Bool → Type 0
TellsReadings octets true = (m : Signaling) × Begins m octets × (nat_lt 0 (length (readings_of m.tlvs)) ≡ true)
TellsReadings octets false = (m : Signaling) → Begins m octets → nat_lt 0 (length (readings_of m.tlvs)) ≡ false

-- one more, where it counts
abbrev pub more_if : Bool → ℕ → ℕ
more_if true count = count + 1
more_if false count = count

-- once a datagram is counted: as one of the four messages, or as one that tells readings which aren't taken
abbrev pub counted_with : DatagramOf → (is_taken tells : Bool) → Recording → Recording
counted_with d is_taken tells r = record r {
  captured = more_if (is_ok d.said) r.captured;
  untaken = more_if (tells && not is_taken) r.untaken;
}

-- ---- a datagram
-- octets begin with a Signaling message that tells readings which are measured, or don't
abbrev pub IsTold : Recording → List ℕ → Option Signaling → Type 0
IsTold r octets (Some m) = Begins m octets × (is_taken r m ≡ true)
IsTold r octets None = (m : Signaling) → Begins m octets → is_taken r m ≡ false

-- some of these messages, the first of them, are one more row each
abbrev pub TakesSome : DatagramOf → List OwnMessage → Recording → Recording → Type 0
TakesSome told messages r upto =
    (some : List OwnMessage) × (others : List OwnMessage) × (messages ≡ some ++ others) × TakesOwn told some r upto

-- the datagram is read then, or the readings that it tells are
abbrev pub ReadsTold : DatagramOf → Option Signaling → Recording → Recording → Type 0
ReadsTold d None r later = later ≡ captured_by r.by d r
ReadsTold d (Some m) r later =
    let slave = slave_by r.wanted m.header in TakesOwn d (messages_in slave m) (with_own r.by slave r) later

-- the same, or of the readings some
abbrev pub ReadsSome : DatagramOf → Option Signaling → Recording → Recording → Type 0
ReadsSome d None r upto = upto ≡ captured_by r.by d r
ReadsSome d (Some m) r upto =
    let slave = slave_by r.wanted m.header in TakesSome d (messages_in slave m) (with_own r.by slave r) upto

-- after one more datagram, which is counted
abbrev pub Reads : DatagramOf → Recording → Recording → Type 0
Reads d r later = (told : Option Signaling) × IsTold r d.octets told × (tells : Bool) × TellsReadings d.octets tells
    × ReadsTold d told (counted_with d (is_some told) tells r) later

-- a datagram is read, and what this adds to all that is written goes out
abbrev pub Takes : DatagramOf → Recording → Recording → List ℕ → Type 0
Takes d r later out = Reads d r later × (written_of later ≡ written_of r ++ out)

-- where a datagram is read, or some of the readings that it tells, the texts of some reports that this adds go out, and these are left
abbrev pub GoesInPart : DatagramOf → Recording → (left : List Measured) → List ℕ → Type 0
GoesInPart d r left out = (told : Option Signaling) × IsTold r d.octets told × (tells : Bool) × TellsReadings d.octets tells
    × (upto : Recording) × ReadsSome d told (counted_with d (is_some told) tells r) upto
    × GoesWhole r.form (measured_so_far r) (measured_so_far upto) left out

-- Why a datagram isn't taken: memory failed, or the writer did, at a report. Before that some of its reports may have gone out,
-- each whole.
abbrev pub Stops : DatagramOf → Recording → LineFault → List ℕ → Type 0
Stops d r Write out = (left : List Measured) × (left ≢ []) × GoesInPart d r left out
Stops d r Field out = ⊥
Stops d r Memory out = (left : List Measured) × GoesInPart d r left out

-- lines tell a time and a datagram each, and the end changes nothing
abbrev pub measure_rules : DatagramRules Recording LineFault
measure_rules = record {
  line_form = Timed;
  asked = λ r. r.wanted.interface;
  Takes = Takes;
  Stops = Stops;
  Ends = λ r later out. (later ≡ r) × (out ≡ []);
  StopsAtEnd = λ r fault out. ⊥;
  is_of_writer = is_write;
  keeps = is_field;
  fault_of = λ fault. fault;
}

-- what goes out before anything is read
abbrev pub head_text : Form → List ℕ
head_text Json = []
head_text Table = table_head
head_text FullJson = []
head_text FullTable = full.table_head
head_text Sums = []
head_text Completions = []
