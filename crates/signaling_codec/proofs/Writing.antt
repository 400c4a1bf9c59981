-- Octets that are written: records, TLVs and messages, one behind the other.
use Rattle.std.proofs.Common.{◌≡◌, ℕ, ◌+◌, ◌*◌, ◌<◌, ◌≤◌, List, [], ◌∷◌, ◌++◌, length, take, drop, map, get_or, slice_range, refl, sym, ap, subst, ◌∙◌, arith, append_assoc, append-nil}
use Rattle.std.specs.Prelude.{slice_set}
use Rattle.std.specs.Int.{w32, w64, cast_signed}
use Rattle.std.specs.List.{sum_by}
use Rattle.std.proofs.lemmas.List.{length-append, length-drop, take-append-le, drop-append-le, take_at, drop_at, take_all, drop_all, take_more, map-append, take-map, take-take, drop-take}
use Rattle.std.proofs.lemmas.List.Sums.{sum_by-append, sum_by-take-le}
use Rattle.std.proofs.lemmas.Slice.{between_is}
use Rattle.event_codec.specs.declared.message.Header.{Header}
use Rattle.event_codec.specs.declared.port.PortIdentity.{PortIdentity}
use Rattle.event_codec.specs.Layout.{number}
use Rattle.event_codec.specs.Packet.{IsHeader, IsIdentityAt}
use Rattle.event_codec.proofs.Numbers.{cells, cells_all}
use Rattle.event_codec.proofs.Agreement.{number_agrees, IsIdentityAt-agrees, IsTimestampAt-agrees, IsHeader-agrees, drop_further}
use Rattle.signaling_codec.specs.declared.encoding.Tlv.{Tlv}
use Rattle.signaling_codec.specs.declared.reading.SyncReading.{SyncReading}
use Rattle.signaling_codec.specs.declared.reading.DelayReading.{DelayReading}
use Rattle.signaling_codec.specs.declared.signaling.Signaling.{Signaling}
use Rattle.signaling_codec.specs.Record.{IsSyncReading, IsDelayReading, AreRecords}
use Rattle.signaling_codec.specs.Tlv.{TlvOf, tlv_type, tlv_length, IsValue, IsTlv, AreTlvs}
use Rattle.signaling_codec.specs.Packet.{IsSignaling}
use Rattle.signaling_codec.specs.EncodeRefusal.{octets_of}
use Rattle.signaling_codec.specs.Written.{tlv_written}
use Rattle.signaling_codec.specs.Inner.Puts.{Puts}

-- what is put, and more behind it
pub puts_none : (a : List ℕ) (at : ℕ) → Puts a a at at []
puts_none a at = record { ends = omega arith; front = sym (append-nil (take at a)); behind = refl }

pub puts_join : (a b d : List ℕ) (at m e : ℕ) (x y : List ℕ) → Puts a b at m x → Puts b d m e y → Puts a d at e (x ++ y)
puts_join a b d at m e x y p q = record {
  ends = omega (arith, p.ends, q.ends, length-append x y);
  front = q.front ∙ ap (λ (z : List ℕ). z ++ y) p.front ∙ append_assoc (take at a) x y;
  behind = q.behind ∙ drop_further m e b a (omega (arith, q.ends)) p.behind;
}

-- a record, whatever follows it
pub sync_agrees : (r : SyncReading) (a b : List ℕ) → take 34 a ≡ take 34 b → IsSyncReading r b → IsSyncReading r a
sync_agrees r a b agree h = record {
  sequence = h.sequence ∙ sym (number_agrees 34 0 0 a b agree 0 2 (omega arith));
  origin = IsTimestampAt-agrees 34 0 0 a b agree r.origin 2 (omega arith) h.origin;
  correction = h.correction ∙ ap (cast_signed w64) (sym (number_agrees 34 0 0 a b agree 12 8 (omega arith)));
  rate = h.rate ∙ ap (cast_signed w32) (sym (number_agrees 34 0 0 a b agree 20 4 (omega arith)));
  ingress = IsTimestampAt-agrees 34 0 0 a b agree r.ingress 24 (omega arith) h.ingress;
}

pub delay_agrees : (r : DelayReading) (a b : List ℕ) → take 30 a ≡ take 30 b → IsDelayReading r b → IsDelayReading r a
delay_agrees r a b agree h = record {
  sequence = h.sequence ∙ sym (number_agrees 30 0 0 a b agree 0 2 (omega arith));
  departure = IsTimestampAt-agrees 30 0 0 a b agree r.departure 2 (omega arith) h.departure;
  correction = h.correction ∙ ap (cast_signed w64) (sym (number_agrees 30 0 0 a b agree 12 8 (omega arith)));
  receipt = IsTimestampAt-agrees 30 0 0 a b agree r.receipt 20 (omega arith) h.receipt;
}

-- one more record
module _ {R : Type 0} (size : ℕ) (Is : R → List ℕ → Type 0) (agrees : (r : R) (a b : List ℕ) → take size a ≡ take size b → Is r b → Is r a) where
  pub records_more : (rs : List R) (r : R) (b c : List ℕ) → AreRecords size Is rs b → Is r c → length c ≡ size → AreRecords size Is (rs ++ r ∷ []) (b ++ c)
  records_more [] r b c none is len =
      subst (λ (x : List ℕ). AreRecords size Is (r ∷ []) (x ++ c)) (sym none) (omega arith, is, drop_all size c (omega arith))
  records_more (first ∷ rs) r b c h is len = (
    omega (arith, h.0, length-append b c),
    agrees first (b ++ c) b (take-append-le size b c h.0) h.1,
    subst (AreRecords size Is (rs ++ r ∷ [])) (sym (drop-append-le size b c h.0)) (records_more rs r (drop size b) c h.2 is len),
  )

-- a TLV of its head and its records
pub record IsHead (kind size : ℕ) (master : PortIdentity) (head : List ℕ) : Type 0 where
  pub whole : length head ≡ 14
  pub kind_is : number head 0 2 ≡ kind
  pub size_is : number head 2 2 ≡ size
  pub master_is : IsIdentityAt master head 4

module _ (kind : ℕ) (master : PortIdentity) (head records : List ℕ) (h : IsHead kind (10 + length records) master head) where
  same_head : take 14 (head ++ records) ≡ take 14 head
  same_head = take-append-le 14 head records (omega (arith, h.whole))

  pub tlv_kind : number (head ++ records) 0 2 ≡ kind
  tlv_kind = number_agrees 14 0 0 (head ++ records) head same_head 0 2 (omega arith) ∙ h.kind_is

  pub tlv_whole : tlv_length (head ++ records) ≡ length (head ++ records)
  tlv_whole = let e : number (head ++ records) 2 2 ≡ 10 + length records = number_agrees 14 0 0 (head ++ records) head same_head 2 2 (omega arith) ∙ h.size_is in omega (arith, h.whole, length-append head records)

  pub tlv_value : slice_range (head ++ records) 4 (tlv_length (head ++ records)) ≡ drop 4 head ++ records
  tlv_value =
      between_is (head ++ records) 4 (tlv_length (head ++ records))
      ∙ ap (drop 4) (take_all (tlv_length (head ++ records)) (head ++ records) (omega (arith, tlv_whole)))
      ∙ drop-append-le 4 head records (omega (arith, h.whole))

  front : length (drop 4 head) ≡ 10
  front = omega (arith, h.whole, length-drop 4 head)

  pub value_long : 10 ≤ length (drop 4 head ++ records)
  value_long = omega (arith, front, length-append (drop 4 head) records)

  pub value_master : IsIdentityAt master (drop 4 head ++ records) 0
  value_master =
      IsIdentityAt-agrees 10 0 4 (drop 4 head ++ records) head (take-append-le 10 (drop 4 head) records (omega (arith, front))) master 0 (omega arith) h.master_is

  pub value_records : drop 10 (drop 4 head ++ records) ≡ records
  value_records = drop_at (drop 4 head) records 10 front

  pub tlv_written_is : (tlv : TlvOf) → kind ≡ tlv_type tlv → IsValue tlv (drop 4 head ++ records) → IsTlv tlv (head ++ records)
  tlv_written_is tlv its_kind value = record {
    head = omega (arith, h.whole, length-append head records);
    whole = omega (arith, tlv_whole);
    kind = tlv_kind ∙ its_kind;
    value = subst (IsValue tlv) (sym tlv_value) value;
  }

-- one more TLV
tlv_further : (tlv : TlvOf) (b c : List ℕ) → IsTlv tlv b → (tlv_length (b ++ c) ≡ tlv_length b) × IsTlv tlv (b ++ c)
tlv_further tlv b c h =
    let n : ℕ = tlv_length b in
    let agree : take 4 (b ++ c) ≡ take 4 b = take-append-le 4 b c h.head in
    let size : tlv_length (b ++ c) ≡ n = ap (λ (k : ℕ). 4 + k) (number_agrees 4 0 0 (b ++ c) b agree 2 2 (omega arith)) in
    let value : slice_range (b ++ c) 4 (tlv_length (b ++ c)) ≡ slice_range b 4 n =
    ap (slice_range (b ++ c) 4) size ∙ between_is (b ++ c) 4 n ∙ ap (drop 4) (take-append-le n b c h.whole) ∙ sym (between_is b 4 n) in (
      size,
      record {
        head = omega (arith, h.head, length-append b c);
        whole = omega (arith, h.whole, size, length-append b c);
        kind = number_agrees 4 0 0 (b ++ c) b agree 0 2 (omega arith) ∙ h.kind;
        value = subst (IsValue tlv) (sym value) h.value;
      },
    )

pub tlvs_more : (ts : List TlvOf) (t : TlvOf) (b c : List ℕ) → AreTlvs ts b → IsTlv t c → tlv_length c ≡ length c → AreTlvs (ts ++ t ∷ []) (b ++ c)
tlvs_more [] t b c none is len =
    subst (λ (x : List ℕ). AreTlvs (t ∷ []) (x ++ c)) (sym none) (is, drop_all (tlv_length c) c (omega (arith, len)))
tlvs_more (first ∷ ts) t b c h is len =
    let further = tlv_further first b c h.0 in
    let rest : drop (tlv_length (b ++ c)) (b ++ c) ≡ drop (tlv_length b) b ++ c =
    ap (λ (n : ℕ). drop n (b ++ c)) further.0 ∙ drop-append-le (tlv_length b) b c h.0.whole in
    (further.1, subst (AreTlvs (ts ++ t ∷ [])) (sym rest) (tlvs_more ts t (drop (tlv_length b) b) c h.1 is len))

-- a slice of TLVs, one further
pub written_more : (xs : List Tlv) (i : ℕ) (d : Tlv) → i < length xs → map tlv_written (take (i + 1) xs) ≡ map tlv_written (take i xs) ++ tlv_written (get_or xs i d) ∷ []
written_more xs i d lt = ap (map tlv_written) (take_more xs i d lt) ∙ map-append tlv_written (take i xs) (get_or xs i d ∷ [])

pub sum_more : (xs : List Tlv) (i : ℕ) (d : Tlv) → i < length xs
    → sum_by octets_of (map tlv_written (take (i + 1) xs)) ≡ sum_by octets_of (map tlv_written (take i xs)) + octets_of (tlv_written (get_or xs i d))
sum_more xs i d lt =
    let t : TlvOf = tlv_written (get_or xs i d) in
    let one : sum_by octets_of (t ∷ []) ≡ octets_of t = omega arith in
    ap (sum_by octets_of) (written_more xs i d lt) ∙ sum_by-append octets_of (map tlv_written (take i xs)) (t ∷ [])
    ∙ ap (λ (k : ℕ). sum_by octets_of (map tlv_written (take i xs)) + k) one

pub sum_within : (xs : List Tlv) (i : ℕ) (d : Tlv) → i < length xs
    → sum_by octets_of (map tlv_written (take i xs)) + octets_of (tlv_written (get_or xs i d)) ≤ sum_by octets_of (map tlv_written xs)
sum_within xs i d lt =
    subst (λ (k : ℕ). k ≤ sum_by octets_of (map tlv_written xs))
    (ap (sum_by octets_of) (take-map tlv_written (i + 1) xs) ∙ sum_more xs i d lt)
    (sum_by-take-le octets_of (map tlv_written xs) (i + 1))

-- a header with another messageType and messageLength
pub header_retyped : (h : Header) (size length_field l0 l1 : ℕ) (x : List ℕ) → length x ≡ 34 → number (l0 ∷ l1 ∷ []) 0 2 ≡ length_field
    → IsHeader h 0 size x → IsHeader h 12 length_field (slice_set (slice_set (slice_set x 0 (get_or x 0 0 + 12)) 2 l0) 3 l1)
unfolding cells
header_retyped h size length_field l0 l1 x len field p =
    let e : x ≡ cells x 0 34 = cells_all x 0 34 len in
    let q : IsHeader h 0 size (cells x 0 34) = subst (IsHeader h 0 size) e p in
    let first : get_or x 0 0 ≡ 16 * h.major_sdo + 0 = p.major_sdo_and_type in
    subst (λ (y : List ℕ). IsHeader h 12 length_field (slice_set (slice_set (slice_set y 0 (get_or x 0 0 + 12)) 2 l0) 3 l1)) (sym e)
    (record {
      major_sdo_and_type = omega arith;
      minor_version_and_version = q.minor_version_and_version;
      message_length = field;
      domain = q.domain;
      minor_sdo = q.minor_sdo;
      flags = q.flags;
      correction = q.correction;
      specific = q.specific;
      source = record { clock = q.source.clock; port = q.source.port };
      sequence = q.sequence;
      control = q.control;
      log = q.log;
    })

-- the whole message
pub message_written : (m : Signaling) (n : ℕ) (x head target tlvs : List ℕ) → x ≡ (head ++ target) ++ tlvs → n ≡ length x → ((k : ℕ) → k < length x → get_or x k 0 < 256)
    → length head ≡ 34 → length target ≡ 10 → IsHeader m.header 12 n head → IsIdentityAt m.target target 0 → AreTlvs m.tlvs tlvs → IsSignaling m x
message_written m n x head target tlvs parts whole fits head_len target_len header its_target its_tlvs =
    let front : length (head ++ target) ≡ 44 = omega (arith, length-append head target) in
    let all : length x ≡ 44 + length tlvs = ap (length {A = ℕ}) parts ∙ length-append (head ++ target) tlvs ∙ omega arith in
    let first : take 44 x ≡ head ++ target = ap (take 44) parts ∙ take_at (head ++ target) tlvs 44 front in
    let there : take 10 (drop 34 x) ≡ take 10 (drop 0 target) =
    sym (drop-take 34 10 x) ∙ ap (drop 34) first ∙ drop_at head target 34 head_len ∙ sym (take_all 10 target (omega arith)) in
    let here : take 34 x ≡ take 34 head = sym (take-take 34 44 x (omega arith)) ∙ ap (take 34) first ∙ take_at head target 34 head_len ∙ sym (take_all 34 head (omega arith)) in
    record {
      octets = fits;
      least = omega arith;
      header = subst (λ (size : ℕ). IsHeader m.header 12 size x) whole (IsHeader-agrees m.header 12 n x head here header);
      target = IsIdentityAt-agrees 10 34 0 x target there m.target 0 (omega arith) its_target;
      tlvs = subst (AreTlvs m.tlvs) (sym (ap (drop 44) parts ∙ drop_at (head ++ target) tlvs 44 front)) its_tlvs;
    }
