-- Captures that are written are read.
use Rattle.std.proofs.Common.{◌≡◌, ◌≢◌, ◌⊎◌, inl, inr, ℕ, zero, suc, ◌+◌, ◌*◌, ◌/◌, ◌%◌, ◌^◌, ◌<◌, List, [], ◌∷◌, ◌++◌, length, drop, true, refl, sym, ap, ◌∙◌, subst, arith, Option, Some, None}
use Rattle.std.proofs.Common.{append_assoc, append-nil}
use Rattle.std.specs.Prelude.{All, map, reverse, option_to_list}
use Rattle.std.specs.List.{flat_map}
use Rattle.std.specs.Int.{w16, w32, byte_at, bytes_high_first, bytes_low_first}
use Rattle.std.proofs.lemmas.Bool.{lt-ltb}
use Rattle.std.proofs.lemmas.List.{reverse-append, append_cancel_left}
use Rattle.std.proofs.lemmas.List.Elements.{All-head, All-tail}
use Rattle.std.proofs.lemmas.Nat.{from_be_bytes-to_be_bytes_2, from_le_bytes-to_le_bytes_2, from_be_bytes-to_be_bytes_4, from_le_bytes-to_le_bytes_4}
use Rattle.capture_file.specs.declared.fault.CaptureFault.{CaptureFault}
use Rattle.capture_file.specs.declared.order.ByteOrder.{ByteOrder}
use Rattle.capture_file.specs.declared.order.ByteOrder.TheVariants.{Big, Little}
use Rattle.capture_file.specs.declared.pcap.FractionUnit.{FractionUnit}
use Rattle.capture_file.specs.declared.pcap.FractionUnit.TheVariants.{Microseconds, Nanoseconds}
use Rattle.ptp_units.specs.Moment.{stamp}
use Rattle.capture_file.specs.Order.{AreOctets, number_of, number32}
use Rattle.capture_file.specs.Packet.{PacketOf, packet_at}
use Rattle.capture_file.specs.Parts.{Form, Start, Pcap, Part, IsPart, AreParts, form_behind, octets_of, packets_of}
use Rattle.capture_file.specs.Pcap.{PcapOf, IsPcapHead, IsPcapPacket, pcap_time, pcap_interface, unit_of, is_pcap_version}
use Rattle.capture_laws.specs.Writing.{in_two, in_four, WrittenPacket, AreReadAs, magic_of, unit_size, PcapIgnored, pcap_head_octets}
use Rattle.capture_laws.specs.Writing.{pcap_packet_octets, pcap_octets, FitsPcapHead, FitsPcap, pcap_packet, PcapIsRead}
use Rattle.capture_file.specs.Wrong.{IsFault}
use Rattle.capture_laws.proofs.OneReading.{part_or_fault, no_part, no_fault_at_end, oldest, octets_behind, meet, one_chain}

-- ---- octets

pub no_octets : AreOctets []
no_octets k within = absurd (omega (arith, within))

pub one_octet : (x : ℕ) (xs : List ℕ) → x < 256 → AreOctets xs → AreOctets (x ∷ xs)
one_octet x xs less are zero within = less
one_octet x xs less are (suc k) within = are k (omega (arith, within))

pub both_octets : (xs ys : List ℕ) → AreOctets xs → AreOctets ys → AreOctets (xs ++ ys)
both_octets [] ys are are' = are'
both_octets (x ∷ xs) ys are are' = one_octet x (xs ++ ys) (are 0 (omega arith)) (both_octets xs ys (λ k within. are (suc k) (omega (arith, within))) are')

byte_less : (i n : ℕ) → byte_at i n < 256
byte_less zero n = omega arith
byte_less (suc i) n = omega arith

high_octets : (k n : ℕ) → AreOctets (bytes_high_first k n)
high_octets zero n = no_octets
high_octets (suc k) n = one_octet (byte_at k n) (bytes_high_first k n) (byte_less k n) (high_octets k n)

low_octets : (k i n : ℕ) → AreOctets (bytes_low_first i k n)
low_octets zero i n = no_octets
low_octets (suc k) i n = one_octet (byte_at i n) (bytes_low_first (suc i) k n) (byte_less i n) (low_octets k (suc i) n)

pub two_octets : (order : ByteOrder) (n : ℕ) → AreOctets (in_two order n)
two_octets Big n = high_octets 2 n
two_octets Little n = low_octets 2 0 n

pub four_octets : (order : ByteOrder) (n : ℕ) → AreOctets (in_four order n)
four_octets Big n = high_octets 4 n
four_octets Little n = low_octets 4 0 n

-- ---- numbers that are written are read

pub two_read : (order : ByteOrder) (n : ℕ) → n < 2 ^ 16 → number_of order w16 (in_two order n) ≡ n
two_read Big n fits = from_be_bytes-to_be_bytes_2 n fits
two_read Little n fits = from_le_bytes-to_le_bytes_2 n fits

pub four_read : (order : ByteOrder) (n : ℕ) → n < 2 ^ 32 → number_of order w32 (in_four order n) ≡ n
four_read Big n fits = from_be_bytes-to_be_bytes_4 n fits
four_read Little n fits = from_le_bytes-to_le_bytes_4 n fits

-- ---- a packet of a pcap

-- the numbers in front of its octets
seconds_at : (order : ByteOrder) (seconds fraction captured original : ℕ) (octets : List ℕ) → seconds < 2 ^ 32
    → number32 order (in_four order seconds ++ in_four order fraction ++ in_four order captured ++ in_four order original ++ octets) 0 ≡ seconds
seconds_at Big seconds fraction captured original octets fits = four_read Big seconds fits
seconds_at Little seconds fraction captured original octets fits = four_read Little seconds fits

fraction_at : (order : ByteOrder) (seconds fraction captured original : ℕ) (octets : List ℕ) → fraction < 2 ^ 32
    → number32 order (in_four order seconds ++ in_four order fraction ++ in_four order captured ++ in_four order original ++ octets) 4 ≡ fraction
fraction_at Big seconds fraction captured original octets fits = four_read Big fraction fits
fraction_at Little seconds fraction captured original octets fits = four_read Little fraction fits

captured_at : (order : ByteOrder) (seconds fraction captured original : ℕ) (octets : List ℕ) → captured < 2 ^ 32
    → number32 order (in_four order seconds ++ in_four order fraction ++ in_four order captured ++ in_four order original ++ octets) 8 ≡ captured
captured_at Big seconds fraction captured original octets fits = four_read Big captured fits
captured_at Little seconds fraction captured original octets fits = four_read Little captured fits

behind_head : (order : ByteOrder) (seconds fraction captured original : ℕ) (octets : List ℕ)
    → drop 16 (in_four order seconds ++ in_four order fraction ++ in_four order captured ++ in_four order original ++ octets) ≡ octets
behind_head Big seconds fraction captured original octets = refl
behind_head Little seconds fraction captured original octets = refl

packet_length : (order : ByteOrder) (seconds fraction captured original : ℕ) (octets : List ℕ)
    → length (in_four order seconds ++ in_four order fraction ++ in_four order captured ++ in_four order original ++ octets) ≡ 16 + length octets
packet_length Big seconds fraction captured original octets = omega arith
packet_length Little seconds fraction captured original octets = omega arith

-- the time
fraction_fits : (unit : FractionUnit) (nanos : ℕ) → nanos < 10 ^ 9 → nanos / unit_size unit < 2 ^ 32
fraction_fits Microseconds nanos less = omega arith
fraction_fits Nanoseconds nanos less = omega arith

time_read : (unit : FractionUnit) (seconds nanos : ℕ) → nanos < 10 ^ 9 → nanos % unit_size unit ≡ 0
    → pcap_time unit seconds (nanos / unit_size unit) ≡ Some (stamp seconds nanos)
time_read Microseconds seconds nanos less whole =
    let small : nanos / 1000 < 10 ^ 6 = omega arith in
    let back : nanos / 1000 * 1000 ≡ nanos = omega arith in
    rw (lt-ltb (nanos / 1000) (10 ^ 6) small, back) refl
time_read Nanoseconds seconds nanos less whole =
    let same : nanos / 1 ≡ nanos = omega arith in
    rw (same, lt-ltb nanos (10 ^ 9) less) refl

packet_read : (pcap : PcapOf) (packet : WrittenPacket) → FitsPcap pcap.unit packet → IsPcapPacket pcap (pcap_packet_octets pcap packet) (pcap_packet pcap packet)
packet_read pcap packet fits =
    let seconds = packet.time.seconds in
    let fraction = packet.time.nanos / unit_size pcap.unit in
    let captured = length packet.octets in
    let long : length (pcap_packet_octets pcap packet) ≡ 16 + captured = packet_length pcap.order seconds fraction captured packet.original_length packet.octets in
    record {
      least = omega (arith, long);
      captured_length = long ∙ ap (λ n. 16 + n) (sym (captured_at pcap.order seconds fraction captured packet.original_length packet.octets fits.captured_length));
      packet_is = sym (
          (λ i. packet_at
          (pcap_time pcap.unit
          (seconds_at pcap.order seconds fraction captured packet.original_length packet.octets fits.seconds i)
          (fraction_at pcap.order seconds fraction captured packet.original_length packet.octets (fraction_fits pcap.unit packet.time.nanos fits.nanos) i))
          pcap_interface pcap.link (behind_head pcap.order seconds fraction captured packet.original_length packet.octets i))
          ∙ ap (λ t. packet_at t pcap_interface pcap.link packet.octets) (time_read pcap.unit seconds packet.time.nanos fits.nanos fits.whole)
          );
    }

packet_octets : (pcap : PcapOf) (packet : WrittenPacket) → FitsPcap pcap.unit packet → AreOctets (pcap_packet_octets pcap packet)
packet_octets pcap packet fits =
    both_octets _ packet.octets
    (both_octets _ (in_four pcap.order packet.original_length)
    (both_octets _ (in_four pcap.order (length packet.octets))
    (both_octets (in_four pcap.order packet.time.seconds) (in_four pcap.order (packet.time.nanos / unit_size pcap.unit))
    (four_octets pcap.order packet.time.seconds) (four_octets pcap.order (packet.time.nanos / unit_size pcap.unit)))
    (four_octets pcap.order (length packet.octets)))
    (four_octets pcap.order packet.original_length))
    fits.octets

-- ---- the head of a pcap

-- of its numbers only the magic, the version and the last are looked at
head_length : (order : ByteOrder) (magic reserved reserved' snap_length last : ℕ)
    → length (in_four order magic ++ in_two order 2 ++ in_two order 4 ++ in_four order reserved ++ in_four order reserved' ++ in_four order snap_length ++ in_four order last) ≡ 24
head_length Big magic reserved reserved' snap_length last = refl
head_length Little magic reserved reserved' snap_length last = refl

magic_at : (order : ByteOrder) (unit : FractionUnit) (reserved reserved' snap_length last : ℕ)
    → unit_of (number32 order (in_four order (magic_of unit) ++ in_two order 2 ++ in_two order 4 ++ in_four order reserved ++ in_four order reserved' ++ in_four order snap_length ++ in_four order last) 0)
    ≡ Some unit
magic_at Big Microseconds reserved reserved' snap_length last = refl
magic_at Big Nanoseconds reserved reserved' snap_length last = refl
magic_at Little Microseconds reserved reserved' snap_length last = refl
magic_at Little Nanoseconds reserved reserved' snap_length last = refl

version_at : (order : ByteOrder) (magic reserved reserved' snap_length last : ℕ)
    → is_pcap_version order (in_four order magic ++ in_two order 2 ++ in_two order 4 ++ in_four order reserved ++ in_four order reserved' ++ in_four order snap_length ++ in_four order last) ≡ true
version_at Big magic reserved reserved' snap_length last = refl
version_at Little magic reserved reserved' snap_length last = refl

last_at : (order : ByteOrder) (magic reserved reserved' snap_length last : ℕ) → last < 2 ^ 32
    → number32 order (in_four order magic ++ in_two order 2 ++ in_two order 4 ++ in_four order reserved ++ in_four order reserved' ++ in_four order snap_length ++ in_four order last) 20 ≡ last
last_at Big magic reserved reserved' snap_length last fits = four_read Big last fits
last_at Little magic reserved reserved' snap_length last fits = four_read Little last fits

head_read : (pcap : PcapOf) (ignored : PcapIgnored) → FitsPcapHead pcap ignored → IsPcapHead pcap (pcap_head_octets pcap ignored)
head_read pcap ignored fits =
    let last = ignored.above_link * 2 ^ 16 + pcap.link in
    let within : last < 2 ^ 32 = let a = fits.link in let b = fits.above_link in omega arith in
    let low : last % 2 ^ 16 ≡ pcap.link = let a = fits.link in omega arith in
    record {
      size = head_length pcap.order (magic_of pcap.unit) ignored.first_reserved ignored.second_reserved ignored.snap_length last;
      magic = magic_at pcap.order pcap.unit ignored.first_reserved ignored.second_reserved ignored.snap_length last;
      version = version_at pcap.order (magic_of pcap.unit) ignored.first_reserved ignored.second_reserved ignored.snap_length last;
      link_type = sym (ap (λ n. n % 2 ^ 16) (last_at pcap.order (magic_of pcap.unit) ignored.first_reserved ignored.second_reserved ignored.snap_length last within) ∙ low);
    }

head_octets : (pcap : PcapOf) (ignored : PcapIgnored) → AreOctets (pcap_head_octets pcap ignored)
head_octets pcap ignored =
    both_octets _ (in_four pcap.order (ignored.above_link * 2 ^ 16 + pcap.link))
    (both_octets _ (in_four pcap.order ignored.snap_length)
    (both_octets _ (in_four pcap.order ignored.second_reserved)
    (both_octets _ (in_four pcap.order ignored.first_reserved)
    (both_octets _ (in_two pcap.order 4)
    (both_octets (in_four pcap.order (magic_of pcap.unit)) (in_two pcap.order 2)
    (four_octets pcap.order (magic_of pcap.unit)) (two_octets pcap.order 2))
    (two_octets pcap.order 4))
    (four_octets pcap.order ignored.first_reserved))
    (four_octets pcap.order ignored.second_reserved))
    (four_octets pcap.order ignored.snap_length))
    (four_octets pcap.order (ignored.above_link * 2 ^ 16 + pcap.link))

-- ---- parts one behind the other

-- behind parts there are others, with these octets, these packets and this form behind them
pub record AreMore (before : List Part) (octets : List ℕ) (packets : List PacketOf) (form : Form) : Type 0 where
  pub parts : List Part
  pub are : AreParts parts
  pub all : octets_of before ++ octets ≡ octets_of parts
  pub packets_are : packets_of parts ≡ packets ++ packets_of before
  pub behind : form_behind parts ≡ form

pub none_more : (before : List Part) (form : Form) → AreParts before → form_behind before ≡ form → AreMore before [] [] form
none_more before form are behind = record { parts = before; are = are; all = append-nil (octets_of before); packets_are = refl; behind = behind }

-- one more
pub one_more : (before : List Part) (old : Form) (octets : List ℕ) (packet : Option PacketOf) (new : Form) → AreParts before → form_behind before ≡ old
    → IsPart old octets packet new → AreMore before octets (option_to_list packet) new
one_more before old octets packet new are behind is = record {
  parts = record { octets = octets; packet = packet; later = new } ∷ before;
  are = (are, subst (λ (f : Form). IsPart f octets packet new) (sym behind) is);
  all = refl;
  packets_are = refl;
  behind = refl;
}

-- and more behind these
pub then_more : (before : List Part) (octets octets' : List ℕ) (packets packets' : List PacketOf) (form form' : Form) → AreMore before octets packets form
    → ((parts : List Part) → AreParts parts → form_behind parts ≡ form → AreMore parts octets' packets' form')
    → AreMore before (octets ++ octets') (packets' ++ packets) form'
then_more before octets octets' packets packets' form form' first next =
    let second = next first.parts first.are first.behind in
    record {
      parts = second.parts;
      are = second.are;
      all = sym (append_assoc (octets_of before) octets octets') ∙ ap (λ o. o ++ octets') first.all ∙ second.all;
      packets_are = second.packets_are ∙ ap (λ p. packets' ++ p) first.packets_are ∙ sym (append_assoc packets' packets (packets_of before));
      behind = second.behind;
    }

-- packets of one form
pub packets_more : {X : Type 0} (form : Form) (fits : X → Type 0) (octets : X → List ℕ) (packet : X → PacketOf)
    → ((x : X) → fits x → IsPart form (octets x) (Some (packet x)) form)
    → (xs : List X) → All fits xs → (before : List Part) → AreParts before → form_behind before ≡ form
    → AreMore before (flat_map octets xs) (reverse (map packet xs)) form
packets_more form fits octets packet each [] all before are behind = none_more before form are behind
packets_more form fits octets packet each (x ∷ xs) all before are behind =
    subst (λ (p : List PacketOf). AreMore before (octets x ++ flat_map octets xs) p form) (sym (reverse-append (packet x ∷ []) (map packet xs)))
    (then_more before (octets x) (flat_map octets xs) (packet x ∷ []) (reverse (map packet xs)) form form
    (one_more before form (octets x) (Some (packet x)) form are behind (each x (All-head fits x xs all)))
    (packets_more form fits octets packet each xs (All-tail fits x xs all)))

pub flat_octets : {X : Type 0} (fits : X → Type 0) (octets : X → List ℕ) → ((x : X) → fits x → AreOctets (octets x)) → (xs : List X) → All fits xs → AreOctets (flat_map octets xs)
flat_octets fits octets each [] all = no_octets
flat_octets fits octets each (x ∷ xs) all =
    both_octets (octets x) (flat_map octets xs) (each x (All-head fits x xs all)) (flat_octets fits octets each xs (All-tail fits x xs all))

-- no fault is found in octets that are parts from the first on
no_fault_in : (octets : List ℕ) (parts : List Part) → AreOctets octets → AreParts parts → form_behind parts ≢ Start → octets ≡ octets_of parts
    → (before : List Part) (rest : List ℕ) (fault : CaptureFault) (place : ℕ) → AreParts before → octets ≡ octets_of before ++ rest
    → IsFault (form_behind before) rest fault place → ⊥
no_fault_in octets parts are p other all before rest fault place b split wrong =
    go (meet octets before parts rest [] are b p split (all ∙ sym (append-nil (octets_of parts))))
  where
    at_end : before ≡ parts → ⊥
    at_end same =
        let nothing : rest ≡ [] =
        append_cancel_left (octets_of before) rest [] (sym split ∙ all ∙ ap octets_of (sym same) ∙ sym (append-nil (octets_of before))) in
        no_fault_at_end (form_behind before) fault place (λ start. other (ap form_behind (sym same) ∙ start))
        (subst (λ (o : List ℕ). IsFault (form_behind before) o fault place) nothing wrong)

    go : ((newer : List Part) × (parts ≡ newer ++ before)) ⊎ ((newer : List Part) × (before ≡ newer ++ parts)) → ⊥
    go (inl ([], same)) = at_end (sym same)
    go (inl (newest ∷ newer, same)) =
        let o = oldest newest newer before (subst AreParts same p) in
        let next : rest ≡ o.part.octets ++ o.more =
        append_cancel_left (octets_of before) rest (o.part.octets ++ o.more) (sym split ∙ all ∙ ap octets_of same ∙ o.octets) in
        part_or_fault (form_behind before) rest o.part o.more fault place (octets_behind (octets_of before) rest (subst AreOctets split are)) next o.are.1 wrong
    go (inr ([], same)) = at_end same
    go (inr (newest ∷ newer, same)) =
        let o = oldest newest newer parts (subst AreParts same b) in
        let nothing : o.part.octets ++ (o.more ++ rest) ≡ [] =
        append_cancel_left (octets_of parts) (o.part.octets ++ (o.more ++ rest)) []
        (ap (λ l. octets_of parts ++ l) (sym (append_assoc o.part.octets o.more rest)) ∙ sym (append_assoc (octets_of parts) (o.part.octets ++ o.more) rest)
        ∙ ap (λ l. l ++ rest) (sym o.octets ∙ ap octets_of (sym same)) ∙ sym split ∙ all ∙ sym (append-nil (octets_of parts))) in
        no_part (form_behind parts) (o.part.octets ++ (o.more ++ rest)) o.part (o.more ++ rest) o.are.1 nothing refl

-- octets that are parts from the first on are read so, and as nothing else
pub more_read : (octets : List ℕ) (packets : List PacketOf) (form : Form) → AreOctets octets → form ≢ Start → AreMore [] octets packets form → AreReadAs octets packets
more_read octets packets form are other m = record {
  are_octets = are;
  parts = m.parts;
  some = λ none. other (sym m.behind ∙ ap form_behind none);
  are = m.are;
  all = m.all;
  packets_are = m.packets_are ∙ append-nil packets;
  only = λ others are' all'. ap packets_of (one_chain octets m.parts others are m.are m.all are' all') ∙ m.packets_are ∙ append-nil packets;
  no_fault = no_fault_in octets m.parts are m.are (λ start. other (sym m.behind ∙ start)) m.all;
}

-- ---- a whole pcap

pub pcap_is_read : PcapIsRead
pcap_is_read pcap ignored packets fits all =
    more_read (pcap_octets pcap ignored packets) (reverse (map (pcap_packet pcap) packets)) (Pcap pcap)
    (both_octets (pcap_head_octets pcap ignored) (flat_map (pcap_packet_octets pcap) packets) (head_octets pcap ignored)
    (flat_octets (FitsPcap pcap.unit) (pcap_packet_octets pcap) (packet_octets pcap) packets all))
    (λ start. absurd cc)
    (subst (λ (p : List PacketOf). AreMore [] (pcap_octets pcap ignored packets) p (Pcap pcap)) (append-nil (reverse (map (pcap_packet pcap) packets)))
    (then_more [] (pcap_head_octets pcap ignored) (flat_map (pcap_packet_octets pcap) packets) [] (reverse (map (pcap_packet pcap) packets)) (Pcap pcap) (Pcap pcap)
    (one_more [] Start (pcap_head_octets pcap ignored) None (Pcap pcap) tt refl (head_read pcap ignored fits))
    (packets_more (Pcap pcap) (FitsPcap pcap.unit) (pcap_packet_octets pcap) (pcap_packet pcap) (λ packet fits'. (refl, packet_read pcap packet fits')) packets all)))
