-- Octets to which no refusal applies are the TLVs that are computed of them, and no others.
use Rattle.std.proofs.Common.{◌≡◌, ℕ, zero, suc, ◌*◌, ◌/◌, ◌%◌, ◌<◌, ◌≤◌, true, List, [], ◌∷◌, length, drop, slice_range, Option, Some, None, refl, sym, ap, subst, ◌∙◌, arith, cond, ltb, eqb}
use Rattle.std.specs.Option.{option_or}
use Rattle.std.proofs.lemmas.Bool.{ltb-false, le-ltb, eqb-true, eq-eqb}
use Rattle.std.proofs.lemmas.Bool.Decides.{nat_tests}
use Rattle.std.proofs.lemmas.List.{length-drop}
use Rattle.event_codec.specs.Layout.{number}
use Rattle.signaling_codec.specs.declared.refusal.SignalingRefusal.{SignalingRefusal}
use Rattle.signaling_codec.specs.declared.refusal.SignalingRefusal.TheVariants.{TlvLength, Nanoseconds}
use Rattle.signaling_codec.specs.declared.tlv_type.TlvType.{TlvType}
use Rattle.signaling_codec.specs.declared.tlv_type.TlvType.TheVariants as types
use Rattle.signaling_codec.specs.Record.{IsSyncReading, IsDelayReading}
use Rattle.signaling_codec.specs.Layout.{type_number}
use Rattle.signaling_codec.specs.Tlv.{TlvOf, SyncTiming, DelayTiming, Other, type_numbered, tlv_type, tlv_length, IsValue, IsTlv, AreTlvs}
use Rattle.signaling_codec.specs.Refusal.{all_times_fit, records_refusal, value_refusal, tlv_refusal, tlvs_refusal}
use Rattle.signaling_codec.specs.Inner.Parsed.{sync_reading, delay_reading, records_in, tlv_of, tlv_with, tlv_at, tlvs_in}
use Rattle.signaling_codec.proofs.Choice.{none_if_true, none_if_false, none_then, none_of_both}
use Rattle.signaling_codec.proofs.Records.{identity_is, is_sync, sync_is, sync_fits, is_delay, delay_is, delay_fits, are_records, records_are}
use Rattle.signaling_codec.proofs.Walk.{tlvs_refusal-first, tlvs_in-first, tlvs_refusal-end, tlvs_in-end}

-- records
pub records_none : (size : ℕ) (b : List ℕ) → records_refusal size b ≡ None → (length b % size ≡ 0) × (all_times_fit size (length b / size) b ≡ true)
unfolding records_refusal
records_none size b none =
    let whole = none_then (eqb (length b % size) 0) TlvLength (cond (all_times_fit size (length b / size) b) None (Some Nanoseconds)) none in
    (eqb-true (length b % size) 0 whole.0, none_if_true (all_times_fit size (length b / size) b) Nanoseconds whole.1)

pub records_sound : (size count : ℕ) (b : List ℕ) → length b % size ≡ 0 → length b / size ≡ count → all_times_fit size count b ≡ true → records_refusal size b ≡ None
unfolding records_refusal
records_sound size count b whole many fit =
    let all : all_times_fit size (length b / size) b ≡ true = ap (λ (k : ℕ). all_times_fit size k b) many ∙ fit in
    rw (eq-eqb (length b % size) 0 whole, all) refl

-- types
numbered_is : (kind : ℕ) (t : TlvType) → type_numbered kind ≡ Some t → kind ≡ type_number t
numbered_is kind types.SyncTiming e = grind (arith, nat_tests)
numbered_is kind types.DelayTiming e = grind (arith, nat_tests)

tlv_type-with : (t : Option TlvType) (kind : ℕ) (v : List ℕ) → type_numbered kind ≡ t → kind ≡ tlv_type (tlv_with t kind v)
unfolding tlv_with tlv_of
tlv_type-with None kind v e = refl
tlv_type-with (Some types.SyncTiming) kind v e = numbered_is kind types.SyncTiming e
tlv_type-with (Some types.DelayTiming) kind v e = numbered_is kind types.DelayTiming e

-- values
value_sound : (t : Option TlvType) (kind : ℕ) (v : List ℕ) → type_numbered kind ≡ t → value_refusal t v ≡ None → IsValue (tlv_with t kind v) v
unfolding value_refusal tlv_with tlv_of
value_sound None kind v numbered none = (numbered, refl)
value_sound (Some types.SyncTiming) kind v numbered none =
    let long = none_if_false (ltb (length v) 10) TlvLength (records_refusal 34 (drop 10 v)) none in
    let records = records_none 34 (drop 10 v) long.1 in
    let all : length (drop 10 v) ≡ 34 * (length (drop 10 v) / 34) = omega (arith, records.0) in
    (ltb-false (length v) 10 long.0, record { clock = refl; port = refl }, are_records 34 IsSyncReading sync_reading is_sync (length (drop 10 v) / 34) (drop 10 v) all records.1)
value_sound (Some types.DelayTiming) kind v numbered none =
    let long = none_if_false (ltb (length v) 10) TlvLength (records_refusal 30 (drop 10 v)) none in
    let records = records_none 30 (drop 10 v) long.1 in
    let all : length (drop 10 v) ≡ 30 * (length (drop 10 v) / 30) = omega (arith, records.0) in
    (ltb-false (length v) 10 long.0, record { clock = refl; port = refl }, are_records 30 IsDelayReading delay_reading is_delay (length (drop 10 v) / 30) (drop 10 v) all records.1)

record IsOnly (tlv : TlvOf) (v : List ℕ) : Type 0 where
  none : value_refusal (type_numbered (tlv_type tlv)) v ≡ None
  same : tlv ≡ tlv_with (type_numbered (tlv_type tlv)) (tlv_type tlv) v

value_only : (tlv : TlvOf) (v : List ℕ) → IsValue tlv v → IsOnly tlv v
unfolding value_refusal tlv_with tlv_of
value_only (SyncTiming master rs) v h =
    let of = records_are 34 IsSyncReading sync_reading sync_is sync_fits rs (drop 10 v) h.2 in
    let many : length (drop 10 v) / 34 ≡ length rs = omega (arith, of.all) in
    let whole : length (drop 10 v) % 34 ≡ 0 = omega (arith, of.all) in
    let same : rs ≡ records_in sync_reading 34 (length (drop 10 v) / 34) (drop 10 v) =
    of.same ∙ ap (λ (k : ℕ). records_in sync_reading 34 k (drop 10 v)) (sym many) in
    record {
      none = rw (le-ltb (length v) 10 h.0) (records_sound 34 (length rs) (drop 10 v) whole many of.fit);
      same = λ j. SyncTiming (identity_is master v 0 h.1 j) (same j);
    }
value_only (DelayTiming master rs) v h =
    let of = records_are 30 IsDelayReading delay_reading delay_is delay_fits rs (drop 10 v) h.2 in
    let many : length (drop 10 v) / 30 ≡ length rs = omega (arith, of.all) in
    let whole : length (drop 10 v) % 30 ≡ 0 = omega (arith, of.all) in
    let same : rs ≡ records_in delay_reading 30 (length (drop 10 v) / 30) (drop 10 v) =
    of.same ∙ ap (λ (k : ℕ). records_in delay_reading 30 k (drop 10 v)) (sym many) in
    record {
      none = rw (le-ltb (length v) 10 h.0) (records_sound 30 (length rs) (drop 10 v) whole many of.fit);
      same = λ j. DelayTiming (identity_is master v 0 h.1 j) (same j);
    }
value_only (Other kind octets) v h = record {
  none = ap (λ (t : Option TlvType). value_refusal t v) h.0;
  same = ap (Other kind) h.1 ∙ sym (ap (λ (t : Option TlvType). tlv_with t kind v) h.0);
}

-- the TLV at the front
tlv_sound : (b : List ℕ) → tlv_refusal b ≡ None → IsTlv (tlv_at b) b
unfolding tlv_refusal tlv_at
tlv_sound b none =
    let v : List ℕ = slice_range b 4 (tlv_length b) in
    let rest : Option TlvType = type_numbered (number b 0 2) in
    let head = none_if_false (ltb (length b) 4) TlvLength _ none in
    let whole = none_if_false (ltb (length b) (tlv_length b)) TlvLength _ head.1 in
    record {
      head = ltb-false (length b) 4 head.0;
      whole = ltb-false (length b) (tlv_length b) whole.0;
      kind = tlv_type-with (type_numbered (number b 0 2)) (number b 0 2) v refl;
      value = value_sound (type_numbered (number b 0 2)) (number b 0 2) v refl whole.1;
    }

pub value_none : (b : List ℕ) → tlv_refusal b ≡ None → value_refusal (type_numbered (number b 0 2)) (slice_range b 4 (tlv_length b)) ≡ None
unfolding tlv_refusal
value_none b none =
    let head = none_if_false (ltb (length b) 4) TlvLength _ none in
    let whole = none_if_false (ltb (length b) (tlv_length b)) TlvLength _ head.1 in
    whole.1

tlv_none : (tlv : TlvOf) (b : List ℕ) → IsTlv tlv b → tlv_refusal b ≡ None
unfolding tlv_refusal
tlv_none tlv b h =
    let v : List ℕ = slice_range b 4 (tlv_length b) in
    rw (le-ltb (length b) 4 h.head, le-ltb (length b) (tlv_length b) h.whole)
    (ap (λ (k : ℕ). value_refusal (type_numbered k) v) h.kind ∙ (value_only tlv v h.value).none)

tlv_only : (tlv : TlvOf) (b : List ℕ) → IsTlv tlv b → tlv ≡ tlv_at b
unfolding tlv_at
tlv_only tlv b h =
    let v : List ℕ = slice_range b 4 (tlv_length b) in
    (value_only tlv v h.value).same ∙ sym (ap (λ (k : ℕ). tlv_with (type_numbered k) k v) h.kind)

-- all of them
tlvs_sound_to : (n : ℕ) (b : List ℕ) → length b ≤ n → tlvs_refusal 0 b ≡ None → AreTlvs (tlvs_in 0 b) b
tlvs_sound_to n [] few none = subst (λ (ts : List TlvOf). AreTlvs ts []) (sym (tlvs_in-end [] refl)) refl
tlvs_sound_to zero (octet ∷ b) few none = absurd (omega arith)
tlvs_sound_to (suc n) (octet ∷ b) few none =
    let some : 0 < length (octet ∷ b) = omega arith in
    let rest : List ℕ = drop (tlv_length (octet ∷ b)) (octet ∷ b) in
    let each = none_of_both (tlv_refusal (octet ∷ b)) (tlvs_refusal 0 rest) (sym (tlvs_refusal-first (octet ∷ b) some) ∙ none) in
    let fewer : length rest ≤ n = omega (arith, length-drop (tlv_length (octet ∷ b)) (octet ∷ b)) in
    subst (λ (ts : List TlvOf). AreTlvs ts (octet ∷ b)) (sym (tlvs_in-first (octet ∷ b) some)) (tlv_sound (octet ∷ b) each.0, tlvs_sound_to n rest fewer each.1)

pub tlvs_sound : (b : List ℕ) → tlvs_refusal 0 b ≡ None → AreTlvs (tlvs_in 0 b) b
tlvs_sound b none = tlvs_sound_to (length b) b (omega arith) none

pub tlvs_none : (tlvs : List TlvOf) (b : List ℕ) → AreTlvs tlvs b → tlvs_refusal 0 b ≡ None
tlvs_none [] b none = tlvs_refusal-end b (ap (length {A = ℕ}) none)
tlvs_none (tlv ∷ tlvs) b h =
    let head : 4 ≤ length b = h.0.head in
    let rest : List ℕ = drop (tlv_length b) b in
    tlvs_refusal-first b (omega arith)
    ∙ ap (λ (o : Option SignalingRefusal). option_or o (tlvs_refusal 0 rest)) (tlv_none tlv b h.0)
    ∙ tlvs_none tlvs rest h.1

pub tlvs_only : (tlvs : List TlvOf) (b : List ℕ) → AreTlvs tlvs b → tlvs ≡ tlvs_in 0 b
tlvs_only [] b none = sym (tlvs_in-end b (ap (length {A = ℕ}) none))
tlvs_only (tlv ∷ tlvs) b h =
    let head : 4 ≤ length b = h.0.head in
    let rest : List ℕ = drop (tlv_length b) b in
    let front : tlv ≡ tlv_at b = tlv_only tlv b h.0 in
    let behind : tlvs ≡ tlvs_in 0 rest = tlvs_only tlvs rest h.1 in
    (λ j. front j ∷ behind j) ∙ sym (tlvs_in-first b (omega arith))
