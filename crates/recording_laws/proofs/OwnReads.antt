-- Lines and packets that are taken are datagrams that are read, one after the other.
use Rattle.std.proofs.Common.{◌≡◌, inl, inr, ℕ, ◌+◌, false, List, [], ◌∷◌, sym, subst}
use Rattle.capture_file.specs.Packet.{PacketOf, Captured, Timeless, Simple}
use Rattle.capture_file.specs.Task.{TakesPackets}
use Rattle.text_lines.specs.Task.{TakesLines}
use Rattle.datagram_source.specs.Datagram.{DatagramOf, IsDatagramPacket}
use Rattle.datagram_source.specs.Rules.{LinesRead, nothing_read, line_rules, packet_rules}
use Rattle.recording_measure.specs.declared.form.Form.{Form}
use Rattle.recording_measure.specs.declared.watch.WantedPorts.{WantedPorts}
use Rattle.recording_measure.specs.Measure.{Recording, begun, measure_rules}
use Rattle.recording_measure.proofs.ReadOne.{one_read}
use Rattle.recording_laws.specs.OwnReadings.{IsReadOf, Begun, One, OwnReadingsAreMeasuredAlone}
use Rattle.recording_laws.proofs.OwnHeard.{own_alone}
use Rattle.recording_laws.proofs.OwnRows.{own_rows}

module _ (form : Form) (w : WantedPorts) where
  lines_more : (number : ℕ) (lines : List (List ℕ)) (r read : LinesRead Recording) (text : List ℕ)
      → TakesLines (line_rules measure_rules) number lines r read text → (ds : List DatagramOf) → IsReadOf form w ds r.state
      → (ds : List DatagramOf) × IsReadOf form w ds read.state
  lines_more number [] r read text (same, nothing) ds is =
      (ds, subst (λ (x : LinesRead Recording). IsReadOf form w ds x.state) (sym same) is)
  lines_more number (line ∷ lines) r read text (next, first, others, whole, (d, told, count, (on, out)), rest, all) ds is =
      lines_more (number + 1) lines next read others rest (d ∷ ds) (One d ds r.state next.state told.captured is on)

  packet_captured : (number : ℕ) (packet : PacketOf) (d : DatagramOf) → IsDatagramPacket number packet d → d.own ≡ false
  packet_captured number (Captured interface time link octets) d is = is.6
  packet_captured number Timeless d is = absurd is
  packet_captured number Simple d is = absurd is

  packets_read : (packets : List PacketOf) (read : Recording) (text : List ℕ)
      → TakesPackets (packet_rules measure_rules) (begun form w) packets read text → (ds : List DatagramOf) × IsReadOf form w ds read
  packets_read [] read text (same, nothing) = ([], subst (IsReadOf form w []) (sym same) Begun)
  packets_read (packet ∷ earlier) read text (state, before, out, taken, inl (d, given, (on, added)), all) =
      let (ds, is) = packets_read earlier state before taken in
      (d ∷ ds, One d ds state read (packet_captured _ packet d given.0) is on)
  packets_read (packet ∷ earlier) read text (state, before, out, taken, inr (none, same, nothing), all) =
      let (ds, is) = packets_read earlier state before taken in (ds, subst (IsReadOf form w ds) (sym same) is)

pub measured_alone : OwnReadingsAreMeasuredAlone
measured_alone = record {
  rows = own_rows;
  reports = λ form w ds r is. own_alone r _ (own_rows form w ds r is);
  stays = λ d r later reads. (one_read d r later reads).before;
  lines = λ form w lines read text taken. lines_more form w 1 lines (nothing_read (begun form w)) read text taken [] Begun;
  packets = λ form w packets read text taken. packets_read form w packets read text taken;
}
