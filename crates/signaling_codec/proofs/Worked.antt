-- Two messages that ptp4l 3.1.1 sent as a slave, and what is refused of them once they are bent, worked by hand.
use Rattle.std.proofs.Common.{◌≡◌, ℕ, pos, List, [], ◌∷◌, ◌++◌, take, drop, Some, None, refl, lit<, lit≤}
use Rattle.ptp_units.specs.Moment.{stamp}
use Rattle.event_codec.specs.declared.message.Header.{Header}
use Rattle.event_codec.specs.declared.port.PortIdentity.{PortIdentity}
use Rattle.event_codec.proofs.Lengths.{all_octets}
use Rattle.signaling_codec.specs.declared.reading.SyncReading.{SyncReading}
use Rattle.signaling_codec.specs.declared.reading.DelayReading.{DelayReading}
use Rattle.signaling_codec.specs.declared.reading.Reading.TheVariants.{Sync, Delay}
use Rattle.signaling_codec.specs.declared.refusal.SignalingRefusal.TheVariants.{TlvLength, Nanoseconds}
use Rattle.signaling_codec.specs.declared.signaling.Signaling.{Signaling}
use Rattle.signaling_codec.specs.Tlv.{SyncTiming, DelayTiming, readings_of}
use Rattle.signaling_codec.specs.Packet.{IsSignaling}
use Rattle.signaling_codec.specs.Refusal.{signaling_refusal, tlvs_refusal, tlv_refusal, value_refusal, records_refusal, all_times_fit}

abbrev slave_header : ℕ → Header
slave_header number = record {
  major_sdo = 0;
  minor_version = 0;
  domain = 0;
  minor_sdo = 0;
  flags = 0 ∷ 0 ∷ [];
  correction = record { 0 = pos 0 };
  specific = 0 ∷ 0 ∷ 0 ∷ 0 ∷ [];
  source = record { clock = 2 ∷ 0 ∷ 0 ∷ 255 ∷ 254 ∷ 170 ∷ 187 ∷ 204 ∷ []; port = 0 };
  sequence = record { 0 = number };
  control = 5;
  log = pos 127;
}

abbrev all_ports : PortIdentity
all_ports = record { clock = 255 ∷ 255 ∷ 255 ∷ 255 ∷ 255 ∷ 255 ∷ 255 ∷ 255 ∷ []; port = 65535 }

abbrev master : PortIdentity
master = record { clock = 2 ∷ 0 ∷ 0 ∷ 255 ∷ 254 ∷ 17 ∷ 34 ∷ 51 ∷ []; port = 1 }

-- a Sync: t1, 22.515 us in a transparent clock, and t2 22.955 us after t1
abbrev sync_reading : SyncReading
sync_reading = record {
  sequence = record { 0 = 9 };
  origin = stamp 1795329065 191882517;
  correction = record { 0 = pos 1475543040 };
  rate = pos 0;
  ingress = stamp 1795329065 191905472;
}

abbrev sync_octets : List ℕ
sync_octets =
    12 ∷ 2 ∷ 0 ∷ 92 ∷ 0 ∷ 0 ∷ 0 ∷ 0 ∷ 0 ∷ 0 ∷ 0 ∷ 0 ∷ 0 ∷ 0 ∷ 0 ∷ 0 ∷ 0 ∷ 0 ∷ 0 ∷ 0 ∷
    2 ∷ 0 ∷ 0 ∷ 255 ∷ 254 ∷ 170 ∷ 187 ∷ 204 ∷ 0 ∷ 0 ∷ 0 ∷ 2 ∷ 5 ∷ 127 ∷ 255 ∷ 255 ∷ 255 ∷ 255 ∷ 255 ∷ 255 ∷
    255 ∷ 255 ∷ 255 ∷ 255 ∷ 128 ∷ 4 ∷ 0 ∷ 44 ∷ 2 ∷ 0 ∷ 0 ∷ 255 ∷ 254 ∷ 17 ∷ 34 ∷ 51 ∷ 0 ∷ 1 ∷ 0 ∷ 9 ∷
    0 ∷ 0 ∷ 107 ∷ 2 ∷ 140 ∷ 41 ∷ 11 ∷ 111 ∷ 229 ∷ 21 ∷ 0 ∷ 0 ∷ 0 ∷ 0 ∷ 87 ∷ 243 ∷ 0 ∷ 0 ∷ 0 ∷ 0 ∷
    0 ∷ 0 ∷ 0 ∷ 0 ∷ 107 ∷ 2 ∷ 140 ∷ 41 ∷ 11 ∷ 112 ∷ 62 ∷ 192 ∷ []

abbrev sync_message : Signaling
sync_message = record { header = slave_header 2; target = all_ports; tlvs = SyncTiming master (sync_reading ∷ []) ∷ [] }

is_sync_message : IsSignaling sync_message sync_octets
is_sync_message = record {
  octets = all_octets sync_octets refl;
  least = lit≤ tt;
  header = record {
    major_sdo_and_type = refl;
    minor_version_and_version = refl;
    message_length = refl;
    domain = refl;
    minor_sdo = refl;
    flags = refl;
    correction = refl;
    specific = refl;
    source = record { clock = refl; port = refl };
    sequence = refl;
    control = refl;
    log = refl;
  };
  target = record { clock = refl; port = refl };
  tlvs = (
    record {
      head = lit≤ tt;
      whole = lit≤ tt;
      kind = refl;
      value = (
        lit≤ tt,
        record { clock = refl; port = refl },
        (
          lit≤ tt,
          record {
            sequence = refl;
            origin = record { seconds = refl; nanoseconds = refl; within_second = lit< tt };
            correction = refl;
            rate = refl;
            ingress = record { seconds = refl; nanoseconds = refl; within_second = lit< tt };
          },
          refl,
        ),
      );
    },
    refl,
  );
}

tells_sync : readings_of sync_message.tlvs ≡ record { master = master; reading = Sync sync_reading } ∷ []
tells_sync = refl

-- a Delay_Req: t3, 30.017 us in a transparent clock, and t4 30.957 us after t3
abbrev delay_reading : DelayReading
delay_reading = record {
  sequence = record { 0 = 0 };
  departure = stamp 1795329064 967346294;
  correction = record { 0 = pos 1967194112 };
  receipt = stamp 1795329064 967377251;
}

abbrev delay_octets : List ℕ
delay_octets =
    12 ∷ 2 ∷ 0 ∷ 88 ∷ 0 ∷ 0 ∷ 0 ∷ 0 ∷ 0 ∷ 0 ∷ 0 ∷ 0 ∷ 0 ∷ 0 ∷ 0 ∷ 0 ∷ 0 ∷ 0 ∷ 0 ∷ 0 ∷
    2 ∷ 0 ∷ 0 ∷ 255 ∷ 254 ∷ 170 ∷ 187 ∷ 204 ∷ 0 ∷ 0 ∷ 0 ∷ 0 ∷ 5 ∷ 127 ∷ 255 ∷ 255 ∷ 255 ∷ 255 ∷ 255 ∷ 255 ∷
    255 ∷ 255 ∷ 255 ∷ 255 ∷ 127 ∷ 0 ∷ 0 ∷ 40 ∷ 2 ∷ 0 ∷ 0 ∷ 255 ∷ 254 ∷ 17 ∷ 34 ∷ 51 ∷ 0 ∷ 1 ∷ 0 ∷ 0 ∷
    0 ∷ 0 ∷ 107 ∷ 2 ∷ 140 ∷ 40 ∷ 57 ∷ 168 ∷ 136 ∷ 118 ∷ 0 ∷ 0 ∷ 0 ∷ 0 ∷ 117 ∷ 65 ∷ 0 ∷ 0 ∷ 0 ∷ 0 ∷
    107 ∷ 2 ∷ 140 ∷ 40 ∷ 57 ∷ 169 ∷ 1 ∷ 99 ∷ []

abbrev delay_message : Signaling
delay_message = record { header = slave_header 0; target = all_ports; tlvs = DelayTiming master (delay_reading ∷ []) ∷ [] }

is_delay_message : IsSignaling delay_message delay_octets
is_delay_message = record {
  octets = all_octets delay_octets refl;
  least = lit≤ tt;
  header = record {
    major_sdo_and_type = refl;
    minor_version_and_version = refl;
    message_length = refl;
    domain = refl;
    minor_sdo = refl;
    flags = refl;
    correction = refl;
    specific = refl;
    source = record { clock = refl; port = refl };
    sequence = refl;
    control = refl;
    log = refl;
  };
  target = record { clock = refl; port = refl };
  tlvs = (
    record {
      head = lit≤ tt;
      whole = lit≤ tt;
      kind = refl;
      value = (
        lit≤ tt,
        record { clock = refl; port = refl },
        (
          lit≤ tt,
          record {
            sequence = refl;
            departure = record { seconds = refl; nanoseconds = refl; within_second = lit< tt };
            correction = refl;
            receipt = record { seconds = refl; nanoseconds = refl; within_second = lit< tt };
          },
          refl,
        ),
      );
    },
    refl,
  );
}

tells_delay : readings_of delay_message.tlvs ≡ record { master = master; reading = Delay delay_reading } ∷ []
tells_delay = refl

-- nothing is wrong with them; a length that is one less, and nanoseconds that are 10^9 in the second timestamp
none_of_sync : signaling_refusal sync_octets ≡ None
unfolding signaling_refusal tlvs_refusal tlv_refusal value_refusal records_refusal all_times_fit
none_of_sync = refl

none_of_delay : signaling_refusal delay_octets ≡ None
unfolding signaling_refusal tlvs_refusal tlv_refusal value_refusal records_refusal all_times_fit
none_of_delay = refl

one_less : tlvs_refusal 0 (127 ∷ 0 ∷ 0 ∷ 39 ∷ drop 48 delay_octets) ≡ Some TlvLength
unfolding tlvs_refusal tlv_refusal value_refusal records_refusal all_times_fit
one_less = refl

a_second : tlvs_refusal 0 (take 40 (drop 44 delay_octets) ++ 59 ∷ 154 ∷ 202 ∷ 0 ∷ []) ≡ Some Nanoseconds
unfolding tlvs_refusal tlv_refusal value_refusal records_refusal all_times_fit
a_second = refl
