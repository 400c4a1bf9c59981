-- The laws of a slave's own readings (IEEE 1588-2019, 16.11): these are measured alone, and each report that is made of them is of records
-- that the slave told. `laws::own_readings_are_measured_alone` and `laws::each_own_report_is_of_its_records` promise them.
use Rattle.std.specs.Prelude.{◌≡◌, ◌≢◌, ◌⊎◌, ℕ, pos, true, false, not, List, [], ◌∷◌, Some}
use Rattle.std.specs.List.{All, Contains}
use Rattle.ptp_units.specs.Moment.{moment}
use Rattle.event_codec.specs.declared.message.Header.{Header}
use Rattle.event_codec.specs.declared.port.PortIdentity.{PortIdentity}
use Rattle.slave_port.specs.declared.exchange.LastExchange.{LastExchange}
use Rattle.slave_port.specs.Exchange.{IsReportOf}
use Rattle.signaling_codec.specs.declared.reading.DelayReading.{DelayReading}
use Rattle.signaling_codec.specs.declared.reading.OwnReading.{OwnReading}
use Rattle.signaling_codec.specs.declared.reading.Reading.TheVariants.{Sync, Delay}
use Rattle.signaling_codec.specs.declared.reading.SyncReading.{SyncReading}
use Rattle.signaling_codec.specs.declared.signaling.Signaling.{Signaling}
use Rattle.signaling_codec.specs.Tlv.{readings_of}
use Rattle.text_lines.specs.Task.{TakesLines}
use Rattle.capture_file.specs.Packet.{PacketOf}
use Rattle.capture_file.specs.Task.{TakesPackets}
use Rattle.datagram_source.specs.Datagram.{DatagramOf}
use Rattle.datagram_source.specs.Rules.{LinesRead, nothing_read, line_rules, packet_rules}
use Rattle.recording_model.specs.declared.watched.Watched.{Watched}
use Rattle.recording_measure.specs.declared.form.Form.{Form}
use Rattle.recording_measure.specs.declared.watch.WantedPorts.{WantedPorts}
use Rattle.recording_measure.specs.Chosen.{input_watched}
use Rattle.recording_measure.specs.Made.{Measured}
use Rattle.recording_measure.specs.Measure.{Recording, Reads, begun, is_asked, is_captured, measure_rules, measured_so_far, slave_by}
use Rattle.recording_measure.specs.Own.{Begins}

-- What datagrams made of a recording, newest first, each of which a line or a packet tells.
pub data IsReadOf (form : Form) (w : WantedPorts) : List DatagramOf → Recording → Type 0 where
  Begun : IsReadOf form w [] (begun form w)
  One : (d : DatagramOf) (ds : List DatagramOf) (r later : Recording) → d.own ≡ false → IsReadOf form w ds r → Reads d r later
      → IsReadOf form w (d ∷ ds) later

-- ---- they are measured alone
-- What is read is own readings alone, or none of them, and so are all reports of it; once own ones are measured, they are from then on. Lines
-- and packets that are taken are read so.
pub record OwnReadingsAreMeasuredAlone : Type 0 where
  pub rows : (form : Form) (w : WantedPorts) (ds : List DatagramOf) (r : Recording) → IsReadOf form w ds r
      → All (λ x. x.row.own ≡ not (is_captured r.by)) r.rows
  pub reports : (form : Form) (w : WantedPorts) (ds : List DatagramOf) (r : Recording) → IsReadOf form w ds r
      → All (λ m. m.own ≡ not (is_captured r.by)) (measured_so_far r)
  pub stays : (d : DatagramOf) (r later : Recording) → Reads d r later → is_captured later.by ≡ true → is_captured r.by ≡ true
  pub lines : (form : Form) (w : WantedPorts) (lines : List (List ℕ)) (read : LinesRead Recording) (text : List ℕ)
      → TakesLines (line_rules measure_rules) 1 lines (nothing_read (begun form w)) read text
      → (ds : List DatagramOf) × IsReadOf form w ds read.state
  pub packets : (form : Form) (w : WantedPorts) (packets : List PacketOf) (read : Recording) (text : List ℕ)
      → TakesPackets (packet_rules measure_rules) (begun form w) packets read text
      → (ds : List DatagramOf) × IsReadOf form w ds read

-- ---- each report is of records
-- one of these datagrams tells a record, under this header, of a slave
pub record IsToldBy (w : WantedPorts) (ds : List DatagramOf) (slave : PortIdentity) (header : Header) (own : OwnReading) : Type 0 where
  pub told : DatagramOf
  pub there : Contains ds told
  pub signaling : Signaling
  pub begins : Begins signaling told.octets
  pub among : Contains (readings_of signaling.tlvs) own
  pub under : signaling.header ≡ header
  pub asked : is_asked w header ≡ true
  pub by : slave_by w header ≡ slave

-- the watched slave tells a record of this master, in the watched domain
pub record TellsRecord (w : WantedPorts) (ds : List DatagramOf) (watched : Watched) (own : OwnReading) : Type 0 where
  pub header : Header
  pub told : IsToldBy w ds watched.slave header own
  pub domain : header.domain ≡ watched.domain

-- the exchange of a record of a Sync and of one of an exchange, with the Delay_Req of the second or of a third one
abbrev pub exchange_told : SyncReading → (request response : DelayReading) → LastExchange
exchange_told sync request response = record {
  t1 = moment sync.origin 0;
  t2 = moment sync.ingress 0;
  t3 = moment request.departure 0;
  t4 = moment response.receipt 0;
  sync_correction = sync.correction.0;
  follow_correction = pos 0;
  response_correction = response.correction.0;
  sync_number = sync.sequence;
  request_number = response.sequence;
}

-- A report is of a record of a Sync and of one of an exchange, both of the watched master, that the watched slave told, and has their two
-- results. Its Delay_Req is that of the same record; or it is that of an exchange with another master, which has the same number, since the
-- port takes a Delay_Req of the last one's number for the last one again.
pub record IsOfRecords (w : WantedPorts) (ds : List DatagramOf) (watched : Watched) (m : Measured) : Type 0 where
  pub sync : SyncReading
  pub sync_told : TellsRecord w ds watched (record { master = watched.master; reading = Sync sync })
  pub response : DelayReading
  pub response_told : TellsRecord w ds watched (record { master = watched.master; reading = Delay response })
  pub master : PortIdentity
  pub request : DelayReading
  pub request_told : TellsRecord w ds watched (record { master = master; reading = Delay request })
  pub number : request.sequence.0 ≡ response.sequence.0
  pub one : (request ≡ response) ⊎ (master ≢ watched.master)
  pub exchange : m.exchange ≡ Some (exchange_told sync request response)
  pub results : IsReportOf (exchange_told sync request response) m.report

-- Whatever is read, where own readings are measured: each report that was made until then is of records that were told until then.
abbrev pub EachOwnReportIsOfItsRecords : Type 0
EachOwnReportIsOfItsRecords =
    (form : Form) (w : WantedPorts) (ds : List DatagramOf) (r : Recording) (watched : Watched)
    → IsReadOf form w ds r → is_captured r.by ≡ false → input_watched w r.rows ≡ Some watched
    → All (IsOfRecords w ds watched) (measured_so_far r)
