-- The readings that are left, as TLVs and records are taken.
use Rattle.std.proofs.Common.{◌≡◌, ℕ, suc, ◌-◌, ◌/◌, ◌%◌, ◌^◌, ◌<◌, ◌≤◌, true, List, [], ◌∷◌, ◌++◌, length, drop, slice_range, Option, Some, None, refl, sym, ap, ◌∙◌, arith, ltb}
use Rattle.std.proofs.lemmas.Bool.{ltb-false, ltb-true}
use Rattle.std.proofs.lemmas.List.{length-drop}
use Rattle.event_codec.specs.declared.port.PortIdentity.{PortIdentity}
use Rattle.event_codec.specs.Layout.{number}
use Rattle.signaling_codec.specs.declared.reading.Reading.TheVariants.{Sync, Delay}
use Rattle.signaling_codec.specs.declared.reading.OwnReading.{OwnReading}
use Rattle.signaling_codec.specs.declared.readings.Left.{Left}
use Rattle.signaling_codec.specs.declared.refusal.SignalingRefusal.TheVariants.{TlvLength}
use Rattle.signaling_codec.specs.declared.tlv_type.TlvType.{TlvType}
use Rattle.signaling_codec.specs.declared.tlv_type.TlvType.TheVariants.{SyncTiming, DelayTiming}
use Rattle.signaling_codec.specs.Layout.{record_length}
use Rattle.signaling_codec.specs.Tlv.{type_numbered, tlv_length, readings_in, readings_of}
use Rattle.signaling_codec.specs.Refusal.{times_fit, all_times_fit, records_refusal, value_refusal, tlv_refusal, tlvs_refusal}
use Rattle.signaling_codec.specs.Inner.Left.{left_readings}
use Rattle.signaling_codec.specs.Inner.Parsed.{identity_at, sync_reading, delay_reading, tlv_of, tlv_with, tlv_at, tlvs_in}
use Rattle.signaling_codec.proofs.Choice.{both, none_if_false, none_of_both}
use Rattle.signaling_codec.proofs.Records.{times_step}
use Rattle.signaling_codec.proofs.Sound.{records_none, records_sound, value_none}
use Rattle.signaling_codec.proofs.Walk.{tlvs_refusal-first, tlvs_in-first, tlvs_in-end}

-- the next TLV: its type, its value and the octets behind it
pub record HasNext (b : List ℕ) (n : ℕ) (v rest : List ℕ) : Type 0 where
  pub sound : value_refusal (type_numbered n) v ≡ None
  pub rest_sound : tlvs_refusal 0 rest ≡ None
  pub readings : readings_of (tlvs_in 0 b) ≡ readings_in (tlv_with (type_numbered n) n v) ++ readings_of (tlvs_in 0 rest)

pub has_next : (b : List ℕ) (n : ℕ) (v rest : List ℕ) → 0 < length b → tlvs_refusal 0 b ≡ None
    → n ≡ number b 0 2 → v ≡ slice_range b 4 (tlv_length b) → rest ≡ drop (tlv_length b) b → HasNext b n v rest
unfolding tlv_at
has_next b n v rest some none n_is v_is rest_is =
    let each = none_of_both (tlv_refusal b) (tlvs_refusal 0 (drop (tlv_length b) b)) (sym (tlvs_refusal-first b some) ∙ none) in
    record {
      sound = (λ j. value_refusal (type_numbered (n_is j)) (v_is j)) ∙ value_none b each.0;
      rest_sound = ap (tlvs_refusal 0) rest_is ∙ each.1;
      readings = ap readings_of (tlvs_in-first b some)
          ∙ sym (λ j. readings_in (tlv_with (type_numbered (n_is j)) (n_is j) (v_is j)) ++ readings_of (tlvs_in 0 (rest_is j)));
    }

-- where the next isn't there, none is
pub no_next : (b : List ℕ) → tlvs_refusal 0 b ≡ None → tlv_refusal b ≡ Some TlvLength → readings_of (tlvs_in 0 b) ≡ []
no_next [] none cut = ap readings_of (tlvs_in-end [] refl)
no_next (octet ∷ b) none cut =
    let some : 0 < length (octet ∷ b) = omega arith in
    let each = none_of_both (tlv_refusal (octet ∷ b)) (tlvs_refusal 0 (drop (tlv_length (octet ∷ b)) (octet ∷ b))) (sym (tlvs_refusal-first (octet ∷ b) some) ∙ none) in
    let clash : Some TlvLength ≡ None = sym cut ∙ each.0 in
    absurd cc

-- a TLV without records
pub no_records : (kind : TlvType) (master : PortIdentity) (b : List ℕ) → length b ≡ 0 → readings_in (tlv_of kind master b) ≡ []
unfolding tlv_of
no_records SyncTiming master [] none = refl
no_records DelayTiming master [] none = refl
no_records kind master (octet ∷ b) none = absurd (omega arith)

-- what is read of a value
pub record IsRead (kind : TlvType) (n : ℕ) (v : List ℕ) : Type 0 where
  pub long : 10 ≤ length v
  pub records : records_refusal (record_length kind) (drop 10 v) ≡ None
  pub same : tlv_with (type_numbered n) n v ≡ tlv_of kind (identity_at v 0) (drop 10 v)

pub is_read : (kind : TlvType) (n : ℕ) (v : List ℕ) → type_numbered n ≡ Some kind → value_refusal (type_numbered n) v ≡ None → IsRead kind n v
unfolding value_refusal tlv_with
is_read kind n v numbered none =
    let of : value_refusal (Some kind) v ≡ None = sym (ap (λ (t : Option TlvType). value_refusal t v) numbered) ∙ none in
    let each = none_if_false (ltb (length v) 10) TlvLength (records_refusal (record_length kind) (drop 10 v)) of in
    record {
      long = ltb-false (length v) 10 each.0;
      records = each.1;
      same = ap (λ (t : Option TlvType). tlv_with t n v) numbered;
    }

pub nothing_read : (n : ℕ) (v : List ℕ) → type_numbered n ≡ None → readings_in (tlv_with (type_numbered n) n v) ≡ []
unfolding tlv_with
nothing_read n v other = ap (λ (t : Option TlvType). readings_in (tlv_with t n v)) other

-- the first of the records that are left
pub record HasFirst (kind : TlvType) (b : List ℕ) : Type 0 where
  pub whole : record_length kind ≤ length b
  pub fit : times_fit (record_length kind) b ≡ true
  pub rest : records_refusal (record_length kind) (drop (record_length kind) b) ≡ None

has_first_of : (size : ℕ) (b : List ℕ) (count : ℕ) → length b % size ≡ 0 → length b / size ≡ count → 0 < count → all_times_fit size count b ≡ true
    → size ≤ length b → length (drop size b) % size ≡ 0 → length (drop size b) / size ≡ count - 1 → (times_fit size b ≡ true) × (records_refusal size (drop size b) ≡ None)
has_first_of size b count whole many some fit long rest fewer =
    let each = both (times_fit size b) (all_times_fit size (count - 1) (drop size b)) (sym (times_step size count b some) ∙ fit) in
    (each.0, records_sound size (count - 1) (drop size b) rest fewer each.1)

pub has_first : (kind : TlvType) (b : List ℕ) → 0 < length b → records_refusal (record_length kind) b ≡ None → HasFirst kind b
has_first SyncTiming b some none =
    let h = records_none 34 b none in
    let n = length-drop 34 b in
    let whole : length b % 34 ≡ 0 = h.0 in
    let r = has_first_of 34 b (length b / 34) whole refl (omega arith) h.1 (omega arith) (omega arith) (omega arith) in
    record { whole = omega arith; fit = r.0; rest = r.1 }
has_first DelayTiming b some none =
    let h = records_none 30 b none in
    let n = length-drop 30 b in
    let whole : length b % 30 ≡ 0 = h.0 in
    let r = has_first_of 30 b (length b / 30) whole refl (omega arith) h.1 (omega arith) (omega arith) (omega arith) in
    record { whole = omega arith; fit = r.0; rest = r.1 }

pub sync_first : (master : PortIdentity) (b : List ℕ) → 34 ≤ length b
    → readings_in (tlv_of SyncTiming master b) ≡ record { master = master; reading = Sync (sync_reading b) } ∷ readings_in (tlv_of SyncTiming master (drop 34 b))
unfolding tlv_of
sync_first master b whole =
    let n = length-drop 34 b in
    let many : length b / 34 ≡ suc (length (drop 34 b) / 34) = omega arith in
    rw many refl

pub delay_first : (master : PortIdentity) (b : List ℕ) → 30 ≤ length b
    → readings_in (tlv_of DelayTiming master b) ≡ record { master = master; reading = Delay (delay_reading b) } ∷ readings_in (tlv_of DelayTiming master (drop 30 b))
unfolding tlv_of
delay_first master b whole =
    let n = length-drop 30 b in
    let many : length b / 30 ≡ suc (length (drop 30 b) / 30) = omega arith in
    rw many refl

pub fits_front : (size : ℕ) (b : List ℕ) → times_fit size b ≡ true → (number b 8 4 < 10 ^ 9) × (number b (size - 4) 4 < 10 ^ 9)
fits_front size b fit =
    let each = both (ltb (number b 8 4) (10 ^ 9)) (ltb (number b (size - 4) 4) (10 ^ 9)) fit in
    (ltb-true (number b 8 4) (10 ^ 9) each.0, ltb-true (number b (size - 4) 4) (10 ^ 9) each.1)

-- nothing is left of a TLV
pub left_none : (left : Left) → length left.records.now ≡ 0 → left_readings left ≡ readings_of (tlvs_in 0 left.tlvs.now)
left_none left none =
    ap (λ (x : List OwnReading). x ++ readings_of (tlvs_in 0 left.tlvs.now)) (no_records left.kind left.master left.records.now none)

pub nothing_sound : records_refusal 34 [] ≡ None
unfolding records_refusal all_times_fit
nothing_sound = refl
