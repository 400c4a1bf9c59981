-- Packets that were read took a recording on, and the numbers of their rows rise.
use Rattle.std.proofs.Common.{◌≡◌, ◌∙◌, inl, inr, ℕ, suc, ◌+◌, ◌-◌, ◌≤◌, true, List, [], ◌∷◌, ◌++◌, length, sym, ap, subst, arith}
use Rattle.std.specs.Prelude.{⊤}
use Rattle.std.proofs.lemmas.List.{append-nil}
use Rattle.capture_file.specs.Packet.{PacketOf, Captured, Timeless, Simple}
use Rattle.capture_file.specs.Task.{TakesPackets}
use Rattle.recording_measure.specs.declared.form.Form.{Form}
use Rattle.recording_measure.specs.declared.watch.WantedPorts.{WantedPorts}
use Rattle.recording_measure.specs.Places.{PlacedRow, placed}
use Rattle.datagram_source.specs.Datagram.{DatagramOf, IsDatagramPacket}
use Rattle.datagram_source.specs.Rules.{packet_rules}
use Rattle.recording_measure.specs.Chosen.{settled}
use Rattle.recording_measure.specs.Measure.{Recording, begun, is_captured, written_of, measure_rules}
use Rattle.recording_measure.proofs.ReadOne.{one_read}

abbrev pub ArePackets : (most : ℕ) → List PlacedRow → Type 0
ArePackets most [] = ⊤
ArePackets most (r ∷ rows) = (r.row.datagram.line ≤ most) × (1 ≤ r.row.datagram.line) × ArePackets (r.row.datagram.line - 1) rows

pub packets_more : (n m : ℕ) (rows : List PlacedRow) → n ≤ m → ArePackets n rows → ArePackets m rows
packets_more n m [] less rising = tt
packets_more n m (r ∷ rows) less rising = (omega (arith, less, rising.0), rising.1, rising.2)

-- packets that were read took a recording on
pub record HasReadOn (k read : Recording) (text : List ℕ) (most : ℕ) : Type 0 where
  pub form : read.form ≡ k.form
  pub wanted : read.wanted ≡ k.wanted
  pub written : written_of read ≡ written_of k ++ text
  pub before : is_captured read.by ≡ true → is_captured k.by ≡ true
  pub rising : is_captured read.by ≡ true → ArePackets most read.rows

row_number : (number : ℕ) (packet : PacketOf) (d : DatagramOf) → IsDatagramPacket number packet d → d.number ≡ number
row_number number (Captured interface time link octets) d is = is.2
row_number number Timeless d is = absurd is
row_number number Simple d is = absurd is

pub read_on : (form : Form) (wanted : WantedPorts) (packets : List PacketOf) (read : Recording) (text : List ℕ)
    → TakesPackets (packet_rules measure_rules) (begun form wanted) packets read text
    → HasReadOn (begun form wanted) read text (length packets)
read_on form wanted [] read text (same, nothing) = record {
  form = ap (λ (x : Recording). x.form) same;
  wanted = ap (λ (x : Recording). x.wanted) same;
  written = ap written_of same ∙ sym nothing;
  before = λ captured. ap (λ (x : Recording). is_captured x.by) (sym same) ∙ captured;
  rising = λ captured. subst (λ (x : Recording). ArePackets 0 x.rows) (sym same) tt;
}
read_on form wanted (packet ∷ earlier) read text (state, before, out, taken, inl (d, given, (on, added)), all) =
    let so_far = read_on form wanted earlier state before taken in
    let r : PlacedRow = placed (settled state.wanted state.rows d) d in
    let one = one_read d state read on in
    let number : r.row.datagram.line ≡ length earlier + 1 = row_number (length earlier + 1) packet d given.0 in record {
      form = one.form ∙ so_far.form;
      wanted = one.wanted ∙ so_far.wanted;
      written = added ∙ ap (λ (t : List ℕ). t ++ out) so_far.written ∙ sym all;
      before = λ captured. so_far.before (one.before captured);
      rising = λ captured. subst (ArePackets (suc (length earlier))) (sym (one.row captured)) (
        omega (arith, number),
        omega (arith, number),
        packets_more (length earlier) (r.row.datagram.line - 1) state.rows
            (omega (arith, number)) (so_far.rising (one.before captured)),
      );
    }
read_on form wanted (packet ∷ earlier) read text (state, before, out, taken, inr (none, same, nothing), all) =
    let so_far = read_on form wanted earlier state before taken in record {
      form = ap (λ (x : Recording). x.form) same ∙ so_far.form;
      wanted = ap (λ (x : Recording). x.wanted) same ∙ so_far.wanted;
      written = ap written_of same ∙ so_far.written ∙ sym (append-nil before) ∙ ap (λ (t : List ℕ). before ++ t) (sym nothing) ∙ sym all;
      before = λ captured. so_far.before (ap (λ (x : Recording). is_captured x.by) (sym same) ∙ captured);
      rising = λ captured. subst (λ (x : Recording). ArePackets (suc (length earlier)) x.rows) (sym same)
          (packets_more (length earlier) (suc (length earlier)) state.rows (omega arith)
          (so_far.rising (ap (λ (x : Recording). is_captured x.by) (sym same) ∙ captured)));
    }
