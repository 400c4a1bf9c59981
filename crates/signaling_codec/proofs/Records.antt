-- Records: what they say is computed from their octets, and their nanoseconds fit.
use Rattle.std.proofs.Common.{◌≡◌, ℕ, zero, suc, ◌+◌, ◌-◌, ◌*◌, ◌^◌, ◌<◌, true, ◌&&◌, List, [], ◌∷◌, length, drop, refl, ap, ◌∙◌, arith}
use Rattle.std.proofs.lemmas.Bool.{ltb-true, lt-ltb}
use Rattle.std.proofs.lemmas.List.{length-drop}
use Rattle.event_codec.specs.declared.port.PortIdentity.{PortIdentity}
use Rattle.event_codec.specs.Layout.{number}
use Rattle.event_codec.specs.Packet.{IsIdentityAt}
use Rattle.signaling_codec.specs.declared.reading.SyncReading.{SyncReading}
use Rattle.signaling_codec.specs.declared.reading.DelayReading.{DelayReading}
use Rattle.signaling_codec.specs.Record.{IsSyncReading, IsDelayReading, AreRecords}
use Rattle.signaling_codec.specs.Refusal.{times_fit, all_times_fit}
use Rattle.signaling_codec.specs.Inner.Parsed.{identity_at, sync_reading, delay_reading, records_in}
use Rattle.signaling_codec.proofs.Choice.{both}

pub identity_is : (p : PortIdentity) (b : List ℕ) (i : ℕ) → IsIdentityAt p b i → p ≡ identity_at b i
identity_is p b i h = λ j. record { clock = h.clock j; port = h.port j }

-- one record
pub is_sync : (b : List ℕ) → times_fit 34 b ≡ true → IsSyncReading (sync_reading b) b
unfolding sync_reading
is_sync b fit =
    let two = both _ _ fit in
    record {
      sequence = refl;
      origin = record { seconds = refl; nanoseconds = refl; within_second = ltb-true (number b 8 4) (10 ^ 9) two.0 };
      correction = refl;
      rate = refl;
      ingress = record { seconds = refl; nanoseconds = refl; within_second = ltb-true (number b 30 4) (10 ^ 9) two.1 };
    }

pub sync_is : (r : SyncReading) (b : List ℕ) → IsSyncReading r b → r ≡ sync_reading b
unfolding sync_reading
sync_is r b h = λ j. record {
  sequence = record { 0 = h.sequence j };
  origin = record { seconds = h.origin.seconds j; nanos = h.origin.nanoseconds j };
  correction = record { 0 = h.correction j };
  rate = h.rate j;
  ingress = record { seconds = h.ingress.seconds j; nanos = h.ingress.nanoseconds j };
}

pub sync_fits : (r : SyncReading) (b : List ℕ) → IsSyncReading r b → times_fit 34 b ≡ true
sync_fits r b h = rw (lt-ltb (number b 8 4) (10 ^ 9) h.origin.within_second, lt-ltb (number b 30 4) (10 ^ 9) h.ingress.within_second) refl

pub is_delay : (b : List ℕ) → times_fit 30 b ≡ true → IsDelayReading (delay_reading b) b
unfolding delay_reading
is_delay b fit =
    let two = both _ _ fit in
    record {
      sequence = refl;
      departure = record { seconds = refl; nanoseconds = refl; within_second = ltb-true (number b 8 4) (10 ^ 9) two.0 };
      correction = refl;
      receipt = record { seconds = refl; nanoseconds = refl; within_second = ltb-true (number b 26 4) (10 ^ 9) two.1 };
    }

pub delay_is : (r : DelayReading) (b : List ℕ) → IsDelayReading r b → r ≡ delay_reading b
unfolding delay_reading
delay_is r b h = λ j. record {
  sequence = record { 0 = h.sequence j };
  departure = record { seconds = h.departure.seconds j; nanos = h.departure.nanoseconds j };
  correction = record { 0 = h.correction j };
  receipt = record { seconds = h.receipt.seconds j; nanos = h.receipt.nanoseconds j };
}

pub delay_fits : (r : DelayReading) (b : List ℕ) → IsDelayReading r b → times_fit 30 b ≡ true
delay_fits r b h = rw (lt-ltb (number b 8 4) (10 ^ 9) h.departure.within_second, lt-ltb (number b 26 4) (10 ^ 9) h.receipt.within_second) refl

-- many records of one size
module _ {R : Type 0} (size : ℕ) (Is : R → List ℕ → Type 0) (at : List ℕ → R) where
  pub are_records : ((b : List ℕ) → times_fit size b ≡ true → Is (at b) b)
      → (count : ℕ) (b : List ℕ) → length b ≡ size * count → all_times_fit size count b ≡ true → AreRecords size Is (records_in at size count b) b
  unfolding all_times_fit
  are_records is zero [] len fit = refl
  are_records is zero (octet ∷ b) len fit = absurd (omega arith)
  are_records is (suc count) b len fit =
      let two : (times_fit size b ≡ true) × (all_times_fit size count (drop size b) ≡ true) = both (times_fit size b) (all_times_fit size count (drop size b)) fit in
      let rest : length (drop size b) ≡ size * count = omega (arith, length-drop size b) in
      (omega arith, is b two.0, are_records is count (drop size b) rest two.1)

  pub record IsOf (readings : List R) (b : List ℕ) : Type 0 where
    pub all : length b ≡ size * length readings
    pub same : readings ≡ records_in at size (length readings) b
    pub fit : all_times_fit size (length readings) b ≡ true

  pub records_are : ((r : R) (b : List ℕ) → Is r b → r ≡ at b) → ((r : R) (b : List ℕ) → Is r b → times_fit size b ≡ true)
      → (readings : List R) (b : List ℕ) → AreRecords size Is readings b → IsOf readings b
  unfolding all_times_fit
  records_are is fits [] b none = record { all = ap (length {A = ℕ}) none ∙ omega arith; same = refl; fit = refl }
  records_are is fits (r ∷ rs) b h =
      let rest : IsOf rs (drop size b) = records_are is fits rs (drop size b) h.2 in
      record {
        all = omega (arith, h.0, rest.all, length-drop size b);
        same = λ j. is r b h.1 j ∷ rest.same j;
        fit = rw (fits r b h.1) rest.fit;
      }

-- the first of some records, and the others
pub times_step : (size n : ℕ) (b : List ℕ) → 0 < n → all_times_fit size n b ≡ (times_fit size b && all_times_fit size (n - 1) (drop size b))
unfolding all_times_fit
times_step size zero b some = absurd (omega arith)
times_step size (suc n) b some = let e : suc n - 1 ≡ n = omega arith in rw e refl

pub mul_step : (size n : ℕ) → 0 < n → size * n ≡ size + size * (n - 1)
mul_step size zero some = absurd (omega arith)
mul_step size (suc n) some = let e : suc n - 1 ≡ n = omega arith in rw e (omega arith)

pub times_none : (size n : ℕ) (b : List ℕ) → n ≡ 0 → all_times_fit size n b ≡ true
unfolding all_times_fit
times_none size n b none = ap (λ (k : ℕ). all_times_fit size k b) none
