-- Parts of two lists that agree, and what stands in both of them.
use Rattle.std.proofs.Common.{◌≡◌, ℕ, zero, suc, ◌+◌, ◌-◌, ◌<◌, ◌≤◌, List, take, drop, get_or, slice_range, refl, sym, ap, subst, ◌∙◌, arith, ◌^◌}
use Rattle.std.specs.Int.{w8, w64, cast_signed}
use Rattle.std.proofs.lemmas.List.{get_or-drop, get_or-take, drop-drop, drop-take, take-take}
use Rattle.std.proofs.lemmas.Slice.{between_is}
use Rattle.ptp_units.specs.Moment.{Stamp}
use Rattle.ptp_units.specs.declared.interval.Interval.{Interval}
use Rattle.event_codec.specs.declared.message.Header.{Header}
use Rattle.event_codec.specs.declared.message.Body.{Body}
use Rattle.event_codec.specs.declared.message.Body.TheVariants.{Sync, DelayReq, FollowUp, DelayResp}
use Rattle.event_codec.specs.declared.port.PortIdentity.{PortIdentity}
use Rattle.event_codec.specs.Layout.{number, type_of, fields_length}
use Rattle.event_codec.specs.Packet.{IsHeader, IsIdentityAt, IsTimestampAt, IsRequesting}

-- a part of what comes after the first s octets
octet_after : (n : ℕ) (x : List ℕ) (s k : ℕ) → k < n → get_or (take n (drop s x)) k 0 ≡ get_or x (s + k) 0
octet_after n x s k lt = get_or-take n (drop s x) k 0 lt ∙ get_or-drop s x k 0

range_after : (n : ℕ) (x : List ℕ) (s k count : ℕ) → k + count ≤ n → slice_range x (s + k) ((s + k) + count) ≡ drop k (take (k + count) (take n (drop s x)))
range_after n x s k count le =
    let all : ((s + k) + count) - (s + k) ≡ (k + count) - k = omega arith in
    ap (λ (m : ℕ). take m (drop (s + k) x)) all
    ∙ ap (take ((k + count) - k)) (sym (drop-drop k s x))
    ∙ between_is (drop s x) k (k + count)
    ∙ ap (drop k) (sym (take-take (k + count) n (drop s x) le))

-- n octets of one list from octet i on are those of another from octet j on
module _ (n i j : ℕ) (a b : List ℕ) (agree : take n (drop i a) ≡ take n (drop j b)) where
  pub octet_agrees : (k : ℕ) → k < n → get_or a (i + k) 0 ≡ get_or b (j + k) 0
  octet_agrees k lt = sym (octet_after n a i k lt) ∙ ap (λ (x : List ℕ). get_or x k 0) agree ∙ octet_after n b j k lt

  pub number_agrees : (k count : ℕ) → k + count ≤ n → number a (i + k) count ≡ number b (j + k) count
  number_agrees k zero le = refl
  number_agrees k (suc count) le =
      let front : number a (i + k) count ≡ number b (j + k) count = number_agrees k count (omega arith) in
      let here : i + (k + count) ≡ (i + k) + count = omega arith in
      let there : j + (k + count) ≡ (j + k) + count = omega arith in
      let last : get_or a ((i + k) + count) 0 ≡ get_or b ((j + k) + count) 0 =
      ap (λ (m : ℕ). get_or a m 0) (sym here) ∙ octet_agrees (k + count) (omega arith) ∙ ap (λ (m : ℕ). get_or b m 0) there in
      omega arith

  pub range_agrees : (k count : ℕ) → k + count ≤ n → slice_range a (i + k) ((i + k) + count) ≡ slice_range b (j + k) ((j + k) + count)
  range_agrees k count le =
      range_after n a i k count le ∙ ap (λ (x : List ℕ). drop k (take (k + count) x)) agree ∙ sym (range_after n b j k count le)

  pub IsIdentityAt-agrees : (p : PortIdentity) (k : ℕ) → k + 10 ≤ n → IsIdentityAt p b (j + k) → IsIdentityAt p a (i + k)
  IsIdentityAt-agrees p k le h =
      let here : i + (k + 8) ≡ (i + k) + 8 = omega arith in
      let there : j + (k + 8) ≡ (j + k) + 8 = omega arith in
      record {
        clock = h.clock ∙ sym (range_agrees k 8 (omega arith));
        port = h.port ∙ ap (λ (m : ℕ). number b m 2) (sym there) ∙ sym (number_agrees (k + 8) 2 (omega arith)) ∙ ap (λ (m : ℕ). number a m 2) here;
      }

  pub IsTimestampAt-agrees : (t : Stamp) (k : ℕ) → k + 10 ≤ n → IsTimestampAt t b (j + k) → IsTimestampAt t a (i + k)
  IsTimestampAt-agrees t k le h =
      let here : i + (k + 6) ≡ (i + k) + 6 = omega arith in
      let there : j + (k + 6) ≡ (j + k) + 6 = omega arith in
      let nanoseconds : number b ((j + k) + 6) 4 ≡ number a ((i + k) + 6) 4 =
      ap (λ (m : ℕ). number b m 4) (sym there) ∙ sym (number_agrees (k + 6) 4 (omega arith)) ∙ ap (λ (m : ℕ). number a m 4) here in
      record {
        seconds = h.seconds ∙ sym (number_agrees k 6 (omega arith));
        nanoseconds = h.nanoseconds ∙ nanoseconds;
        within_second = subst (λ (m : ℕ). m < 10 ^ 9) nanoseconds h.within_second;
      }

-- less of what agrees in front
pub take_agrees : (n m : ℕ) (a b : List ℕ) → take n a ≡ take n b → m ≤ n → take m a ≡ take m b
take_agrees n m a b agree le = sym (take-take m n a le) ∙ ap (take m) agree ∙ take-take m n b le

-- less of what agrees from there on
pub drop_further : (m n : ℕ) (xs ys : List ℕ) → m ≤ n → drop m xs ≡ drop m ys → drop n xs ≡ drop n ys
drop_further m n xs ys le e =
    let k : n ≡ m + (n - m) = omega arith in
    ap (λ (i : ℕ). drop i xs) k ∙ sym (drop-drop (n - m) m xs) ∙ ap (drop (n - m)) e ∙ drop-drop (n - m) m ys ∙ ap (λ (i : ℕ). drop i ys) (sym k)

-- what agrees in front agrees from an octet there on
pub after : (n count : ℕ) (a b : List ℕ) → take (n + count) a ≡ take (n + count) b → take count (drop n a) ≡ take count (drop n b)
after n count a b agree = sym (drop-take n count a) ∙ ap (drop n) agree ∙ drop-take n count b

-- the header with another correction, where all but octets 8 to 15 agrees
pub IsHeader-corrected : (h : Header) (c : Interval) (kind size : ℕ) (a b : List ℕ) → take 8 a ≡ take 8 b → take 18 (drop 16 a) ≡ take 18 (drop 16 b)
    → c.0 ≡ cast_signed w64 (number a 8 8) → IsHeader h kind size b → IsHeader (record h { correction = c }) kind size a
IsHeader-corrected h c kind size a b front back correction p = record {
  major_sdo_and_type = octet_agrees 8 0 0 a b front 0 (omega arith) ∙ p.major_sdo_and_type;
  minor_version_and_version = octet_agrees 8 0 0 a b front 1 (omega arith) ∙ p.minor_version_and_version;
  message_length = number_agrees 8 0 0 a b front 2 2 (omega arith) ∙ p.message_length;
  domain = p.domain ∙ sym (octet_agrees 8 0 0 a b front 4 (omega arith));
  minor_sdo = p.minor_sdo ∙ sym (octet_agrees 8 0 0 a b front 5 (omega arith));
  flags = p.flags ∙ sym (range_agrees 8 0 0 a b front 6 2 (omega arith));
  correction = correction;
  specific = p.specific ∙ sym (range_agrees 18 16 16 a b back 0 4 (omega arith));
  source = IsIdentityAt-agrees 18 16 16 a b back h.source 4 (omega arith) p.source;
  sequence = p.sequence ∙ sym (number_agrees 18 16 16 a b back 14 2 (omega arith));
  control = p.control ∙ sym (octet_agrees 18 16 16 a b back 16 (omega arith));
  log = p.log ∙ ap (cast_signed w8) (sym (octet_agrees 18 16 16 a b back 17 (omega arith)));
}

pub IsHeader-agrees : (h : Header) (kind size : ℕ) (a b : List ℕ) → take 34 a ≡ take 34 b → IsHeader h kind size b → IsHeader h kind size a
IsHeader-agrees h kind size a b agree p =
    let correction = ap (cast_signed w64) (number_agrees 34 0 0 a b agree 8 8 (omega arith)) in
    IsHeader-corrected h h.correction kind size a b (take_agrees 34 8 a b agree (omega arith)) (after 16 18 a b agree) (p.correction ∙ sym correction) p

-- of a Delay_Resp, whose fields end with octet 53
pub IsRequesting-agrees : (x : Body) (a b : List ℕ) → take (fields_length (type_of x) - 16) (drop 16 a) ≡ take (fields_length (type_of x) - 16) (drop 16 b) → IsRequesting x b → IsRequesting x a
IsRequesting-agrees (Sync s) a b agree h = tt
IsRequesting-agrees (DelayReq s) a b agree h = tt
IsRequesting-agrees (FollowUp s) a b agree h = tt
IsRequesting-agrees (DelayResp s p) a b agree h = IsIdentityAt-agrees 38 16 16 a b agree p 28 (omega arith) h
