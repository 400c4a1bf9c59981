-- The first two messages in which a slave told its readings, in a run of ptp4l 3.1.1 (tests/monitor, tc-l2): of an exchange, and of a
-- Sync. What they are read as, whom they are of, and the report that they bring, worked by hand.
use Rattle.std.proofs.Common.{◌≡◌, ℕ, pos, List, [], ◌∷◌, codes, true, false, Some, Ok, Err, refl, lit<, lit≤}
use Rattle.std.specs.Fmt.{digits}
use Rattle.std.specs.Prelude.{option_map}
use Rattle.std.specs.List.{All}
use Rattle.ptp_units.specs.Moment.{stamp, moment}
use Rattle.ptp_units.specs.Nanoseconds.{decimals}
use Rattle.event_codec.specs.declared.message.Body.{Body}
use Rattle.event_codec.specs.declared.message.Body.TheVariants as bodies
use Rattle.event_codec.specs.declared.message.Header.{Header}
use Rattle.event_codec.specs.declared.port.PortIdentity.{PortIdentity}
use Rattle.event_codec.specs.declared.refusal.DecodeRefusal.TheVariants.{OtherType}
use Rattle.event_codec.proofs.Lengths.{all_octets}
use Rattle.signaling_codec.specs.declared.reading.SyncReading.{SyncReading}
use Rattle.signaling_codec.specs.declared.reading.DelayReading.{DelayReading}
use Rattle.signaling_codec.specs.declared.signaling.Signaling.{Signaling}
use Rattle.signaling_codec.specs.Packet.{IsSignaling}
use Rattle.signaling_codec.specs.Tlv.{SyncTiming, DelayTiming}
use Rattle.datagram_source.specs.Datagram.{DatagramOf, Line}
use Rattle.datagram_text.specs.Shown.{stamp_text}
use Rattle.recording_model.specs.declared.watched.Watched.{Watched}
use Rattle.recording_model.specs.Listening.{is_used}
use Rattle.recording_model.specs.Recorded.{Recorded}
use Rattle.recording_measure.specs.declared.form.Form.TheVariants.{Table}
use Rattle.recording_measure.specs.Chosen.{input_watched}
use Rattle.recording_measure.specs.Measure.{Recording, Reads, begun, counted_with, is_captured, measured_so_far, with_own, with_row, written_of}
use Rattle.recording_measure.specs.Own.{IsOwn, messages_in, own_message}
use Rattle.recording_measure.specs.Exchanged.{exchange_at}
use Rattle.recording_measure.specs.Places.{placed}
use Rattle.recording_measure.specs.Row.{datagrams, row_of}
use Rattle.recording_measure.proofs.Worked.{anybody}
use Rattle.recording_laws.specs.OwnReadings.{Begun, IsOfRecords, IsReadOf, One}
use Rattle.recording_laws.specs.OwnReported.{IsMeasuredAt}
use Rattle.recording_laws.proofs.OwnReported.{each_used}
use Rattle.recording_laws.proofs.OwnReports.{each_own}

abbrev slave : PortIdentity
slave = record { clock = 2 ∷ 0 ∷ 0 ∷ 255 ∷ 254 ∷ 170 ∷ 187 ∷ 204 ∷ []; port = 0 }

abbrev master : PortIdentity
master = record { clock = 2 ∷ 0 ∷ 0 ∷ 255 ∷ 254 ∷ 17 ∷ 34 ∷ 51 ∷ []; port = 1 }

abbrev header : (number : ℕ) → Header
header number = record {
  major_sdo = 0;
  minor_version = 0;
  domain = 0;
  minor_sdo = 0;
  flags = 0 ∷ 0 ∷ [];
  correction = record { 0 = pos 0 };
  specific = 0 ∷ 0 ∷ 0 ∷ 0 ∷ [];
  source = slave;
  sequence = record { 0 = number };
  control = 5;
  log = pos 127;
}

abbrev all_ports : PortIdentity
all_ports = record { clock = 255 ∷ 255 ∷ 255 ∷ 255 ∷ 255 ∷ 255 ∷ 255 ∷ 255 ∷ []; port = 65535 }

-- ---- an exchange
abbrev delay : DelayReading
delay = record {
  sequence = record { 0 = 0 };
  departure = stamp 1795329064 967346294;
  correction = record { 0 = pos 1967194112 };
  receipt = stamp 1795329064 967377251;
}

abbrev delay_message : Signaling
delay_message = record { header = header 0; target = all_ports; tlvs = DelayTiming master (delay ∷ []) ∷ [] }

abbrev delay_octets : List ℕ
delay_octets =
    12 ∷ 2 ∷ 0 ∷ 88 ∷ 0 ∷ 0 ∷ 0 ∷ 0 ∷ 0 ∷ 0 ∷ 0 ∷ 0 ∷ 0 ∷ 0 ∷ 0 ∷ 0 ∷ 0 ∷ 0 ∷ 0 ∷ 0 ∷
    2 ∷ 0 ∷ 0 ∷ 255 ∷ 254 ∷ 170 ∷ 187 ∷ 204 ∷ 0 ∷ 0 ∷ 0 ∷ 0 ∷ 5 ∷ 127 ∷ 255 ∷ 255 ∷ 255 ∷ 255 ∷ 255 ∷ 255 ∷
    255 ∷ 255 ∷ 255 ∷ 255 ∷ 127 ∷ 0 ∷ 0 ∷ 40 ∷ 2 ∷ 0 ∷ 0 ∷ 255 ∷ 254 ∷ 17 ∷ 34 ∷ 51 ∷ 0 ∷ 1 ∷ 0 ∷ 0 ∷
    0 ∷ 0 ∷ 107 ∷ 2 ∷ 140 ∷ 40 ∷ 57 ∷ 168 ∷ 136 ∷ 118 ∷ 0 ∷ 0 ∷ 0 ∷ 0 ∷ 117 ∷ 65 ∷ 0 ∷ 0 ∷ 0 ∷ 0 ∷
    107 ∷ 2 ∷ 140 ∷ 40 ∷ 57 ∷ 169 ∷ 1 ∷ 99 ∷ []

abbrev request_octets : List ℕ
request_octets =
    1 ∷ 2 ∷ 0 ∷ 44 ∷ 0 ∷ 0 ∷ 0 ∷ 0 ∷ 0 ∷ 0 ∷ 0 ∷ 0 ∷ 0 ∷ 0 ∷ 0 ∷ 0 ∷ 0 ∷ 0 ∷ 0 ∷ 0 ∷
    2 ∷ 0 ∷ 0 ∷ 255 ∷ 254 ∷ 170 ∷ 187 ∷ 204 ∷ 0 ∷ 0 ∷ 0 ∷ 0 ∷ 1 ∷ 127 ∷ 0 ∷ 0 ∷ 107 ∷ 2 ∷ 140 ∷ 40 ∷
    57 ∷ 168 ∷ 136 ∷ 118 ∷ []

abbrev response_octets : List ℕ
response_octets =
    9 ∷ 2 ∷ 0 ∷ 54 ∷ 0 ∷ 0 ∷ 0 ∷ 0 ∷ 0 ∷ 0 ∷ 0 ∷ 0 ∷ 117 ∷ 65 ∷ 0 ∷ 0 ∷ 0 ∷ 0 ∷ 0 ∷ 0 ∷
    2 ∷ 0 ∷ 0 ∷ 255 ∷ 254 ∷ 17 ∷ 34 ∷ 51 ∷ 0 ∷ 1 ∷ 0 ∷ 0 ∷ 3 ∷ 127 ∷ 0 ∷ 0 ∷ 107 ∷ 2 ∷ 140 ∷ 40 ∷
    57 ∷ 169 ∷ 1 ∷ 99 ∷ 2 ∷ 0 ∷ 0 ∷ 255 ∷ 254 ∷ 170 ∷ 187 ∷ 204 ∷ 0 ∷ 0 ∷ []

-- ---- a Sync
abbrev sync : SyncReading
sync = record {
  sequence = record { 0 = 8 };
  origin = stamp 1795329065 66838145;
  correction = record { 0 = pos 3611688960 };
  rate = pos 0;
  ingress = stamp 1795329065 66895518;
}

abbrev sync_message : Signaling
sync_message = record { header = header 1; target = all_ports; tlvs = SyncTiming master (sync ∷ []) ∷ [] }

abbrev sync_octets : List ℕ
sync_octets =
    12 ∷ 2 ∷ 0 ∷ 92 ∷ 0 ∷ 0 ∷ 0 ∷ 0 ∷ 0 ∷ 0 ∷ 0 ∷ 0 ∷ 0 ∷ 0 ∷ 0 ∷ 0 ∷ 0 ∷ 0 ∷ 0 ∷ 0 ∷
    2 ∷ 0 ∷ 0 ∷ 255 ∷ 254 ∷ 170 ∷ 187 ∷ 204 ∷ 0 ∷ 0 ∷ 0 ∷ 1 ∷ 5 ∷ 127 ∷ 255 ∷ 255 ∷ 255 ∷ 255 ∷ 255 ∷ 255 ∷
    255 ∷ 255 ∷ 255 ∷ 255 ∷ 128 ∷ 4 ∷ 0 ∷ 44 ∷ 2 ∷ 0 ∷ 0 ∷ 255 ∷ 254 ∷ 17 ∷ 34 ∷ 51 ∷ 0 ∷ 1 ∷ 0 ∷ 8 ∷
    0 ∷ 0 ∷ 107 ∷ 2 ∷ 140 ∷ 41 ∷ 3 ∷ 251 ∷ 222 ∷ 129 ∷ 0 ∷ 0 ∷ 0 ∷ 0 ∷ 215 ∷ 70 ∷ 0 ∷ 0 ∷ 0 ∷ 0 ∷
    0 ∷ 0 ∷ 0 ∷ 0 ∷ 107 ∷ 2 ∷ 140 ∷ 41 ∷ 3 ∷ 252 ∷ 190 ∷ 158 ∷ []

abbrev own_sync_octets : List ℕ
own_sync_octets =
    0 ∷ 2 ∷ 0 ∷ 44 ∷ 0 ∷ 0 ∷ 0 ∷ 0 ∷ 0 ∷ 0 ∷ 0 ∷ 0 ∷ 215 ∷ 70 ∷ 0 ∷ 0 ∷ 0 ∷ 0 ∷ 0 ∷ 0 ∷
    2 ∷ 0 ∷ 0 ∷ 255 ∷ 254 ∷ 17 ∷ 34 ∷ 51 ∷ 0 ∷ 1 ∷ 0 ∷ 8 ∷ 0 ∷ 127 ∷ 0 ∷ 0 ∷ 107 ∷ 2 ∷ 140 ∷ 41 ∷
    3 ∷ 251 ∷ 222 ∷ 129 ∷ []

-- ---- they are Signaling messages
is_delay : IsSignaling delay_message delay_octets
is_delay = record {
  octets = all_octets delay_octets refl;
  least = lit≤ tt;
  header = record {
    major_sdo_and_type = refl;
    minor_version_and_version = refl;
    message_length = refl;
    domain = refl;
    minor_sdo = refl;
    flags = refl;
    correction = refl;
    specific = refl;
    source = record { clock = refl; port = refl };
    sequence = refl;
    control = refl;
    log = refl;
  };
  target = record { clock = refl; port = refl };
  tlvs = (
    record {
      head = lit≤ tt;
      whole = lit≤ tt;
      kind = refl;
      value = (
        lit≤ tt,
        record { clock = refl; port = refl },
        (
          lit≤ tt,
          record {
            sequence = refl;
            departure = record { seconds = refl; nanoseconds = refl; within_second = lit< tt };
            correction = refl;
            receipt = record { seconds = refl; nanoseconds = refl; within_second = lit< tt };
          },
          refl,
        ),
      );
    },
    refl,
  );
}

is_sync : IsSignaling sync_message sync_octets
is_sync = record {
  octets = all_octets sync_octets refl;
  least = lit≤ tt;
  header = record {
    major_sdo_and_type = refl;
    minor_version_and_version = refl;
    message_length = refl;
    domain = refl;
    minor_sdo = refl;
    flags = refl;
    correction = refl;
    specific = refl;
    source = record { clock = refl; port = refl };
    sequence = refl;
    control = refl;
    log = refl;
  };
  target = record { clock = refl; port = refl };
  tlvs = (
    record {
      head = lit≤ tt;
      whole = lit≤ tt;
      kind = refl;
      value = (
        lit≤ tt,
        record { clock = refl; port = refl },
        (
          lit≤ tt,
          record {
            sequence = refl;
            origin = record { seconds = refl; nanoseconds = refl; within_second = lit< tt };
            correction = refl;
            rate = refl;
            ingress = record { seconds = refl; nanoseconds = refl; within_second = lit< tt };
          },
          refl,
        ),
      );
    },
    refl,
  );
}

-- ---- the lines that carry them, and the messages that these stand for
abbrev first : DatagramOf
first = record {
  place = Line;
  number = 1;
  time = 0;
  written = codes "0";
  octets = delay_octets;
  said = Err (OtherType 12);
  own = false;
}

abbrev second : DatagramOf
second = record {
  place = Line;
  number = 2;
  time = 0;
  written = codes "0";
  octets = sync_octets;
  said = Err (OtherType 12);
  own = false;
}

abbrev request_header : Header
request_header = record (header 0) { source = slave; sequence = delay.sequence; control = 1 }

abbrev response_header : Header
response_header = record (header 0) { correction = delay.correction; source = master; sequence = delay.sequence; control = 3 }

abbrev sync_header : Header
sync_header = record (header 0) { correction = sync.correction; source = master; sequence = sync.sequence; control = 0 }

stand_for_exchange : messages_in slave delay_message
    ≡ own_message delay.departure request_header (bodies.DelayReq delay.departure)
    ∷ own_message delay.departure response_header (bodies.DelayResp delay.receipt slave) ∷ []
stand_for_exchange = refl

stand_for_sync : messages_in slave sync_message ≡ own_message sync.ingress sync_header (bodies.Sync sync.origin) ∷ []
stand_for_sync = refl

abbrev request_read : DatagramOf
request_read = record {
  place = Line;
  number = 1;
  time = moment delay.departure 0;
  written = stamp_text delay.departure;
  octets = request_octets;
  said = Ok (record { header = request_header; body = bodies.DelayReq delay.departure; suffix = [] });
  own = true;
}

abbrev response_read : DatagramOf
response_read = record {
  place = Line;
  number = 1;
  time = moment delay.departure 0;
  written = stamp_text delay.departure;
  octets = response_octets;
  said = Ok (record { header = response_header; body = bodies.DelayResp delay.receipt slave; suffix = [] });
  own = true;
}

abbrev sync_read : DatagramOf
sync_read = record {
  place = Line;
  number = 2;
  time = moment sync.ingress 0;
  written = stamp_text sync.ingress;
  octets = own_sync_octets;
  said = Ok (record { header = sync_header; body = bodies.Sync sync.origin; suffix = [] });
  own = true;
}

request_read_is : IsOwn first (own_message delay.departure request_header (bodies.DelayReq delay.departure)) request_read
request_read_is = record {
  numbered = refl;
  moment_is = refl;
  written = refl;
  packet = record {
    octets = all_octets request_octets refl;
    least = lit≤ tt;
    header = record {
      major_sdo_and_type = refl;
      minor_version_and_version = refl;
      message_length = refl;
      domain = refl;
      minor_sdo = refl;
      flags = refl;
      correction = refl;
      specific = refl;
      source = record { clock = refl; port = refl };
      sequence = refl;
      control = refl;
      log = refl;
    };
    timestamp = record { seconds = refl; nanoseconds = refl; within_second = lit< tt };
    requesting = tt;
    suffix = refl;
  };
  said = refl;
  own = refl;
}

response_read_is : IsOwn first (own_message delay.departure response_header (bodies.DelayResp delay.receipt slave)) response_read
response_read_is = record {
  numbered = refl;
  moment_is = refl;
  written = refl;
  packet = record {
    octets = all_octets response_octets refl;
    least = lit≤ tt;
    header = record {
      major_sdo_and_type = refl;
      minor_version_and_version = refl;
      message_length = refl;
      domain = refl;
      minor_sdo = refl;
      flags = refl;
      correction = refl;
      specific = refl;
      source = record { clock = refl; port = refl };
      sequence = refl;
      control = refl;
      log = refl;
    };
    timestamp = record { seconds = refl; nanoseconds = refl; within_second = lit< tt };
    requesting = record { clock = refl; port = refl };
    suffix = refl;
  };
  said = refl;
  own = refl;
}

sync_read_is : IsOwn second (own_message sync.ingress sync_header (bodies.Sync sync.origin)) sync_read
sync_read_is = record {
  numbered = refl;
  moment_is = refl;
  written = refl;
  packet = record {
    octets = all_octets own_sync_octets refl;
    least = lit≤ tt;
    header = record {
      major_sdo_and_type = refl;
      minor_version_and_version = refl;
      message_length = refl;
      domain = refl;
      minor_sdo = refl;
      flags = refl;
      correction = refl;
      specific = refl;
      source = record { clock = refl; port = refl };
      sequence = refl;
      control = refl;
      log = refl;
    };
    timestamp = record { seconds = refl; nanoseconds = refl; within_second = lit< tt };
    requesting = tt;
    suffix = refl;
  };
  said = refl;
  own = refl;
}

-- ---- what is read
abbrev start : Recording
start = begun Table anybody

abbrev after_first : Recording
after_first = with_row (placed Line response_read) (with_row (placed Line request_read) (with_own start.by slave (counted_with first true true start)))

abbrev after_second : Recording
after_second = with_row (placed Line sync_read) (with_own after_first.by slave (counted_with second true true after_first))

reads_first : Reads first start after_first
reads_first = (Some delay_message, ((lit≤ tt, is_delay), refl), true, (delay_message, (lit≤ tt, is_delay), refl), (request_read, request_read_is, (response_read, response_read_is, refl)))

reads_second : Reads second after_first after_second
reads_second = (Some sync_message, ((lit≤ tt, is_sync), refl), true, (sync_message, (lit≤ tt, is_sync), refl), (sync_read, sync_read_is, refl))

abbrev lines : List DatagramOf
lines = second ∷ first ∷ []

read : IsReadOf Table anybody lines after_second
read = One second (first ∷ []) after_first after_second refl (One first [] start after_first refl Begun reads_first) reads_second

-- they are measured, and of this slave and master
own : is_captured after_second.by ≡ false
own = refl

abbrev watched : Watched
watched = record { slave = slave; master = master; domain = 0 }

known : input_watched anybody after_second.rows ≡ Some watched
known = refl

-- 661.5 ns and 1,601.5 ns: half of 2,263 ns of the Sync less and plus 940 ns of the exchange
written : written_of after_second ≡ codes "1795329065.066895518,661.5,1601.5,own sync,2\n"
unfolding digits decimals
written = refl

-- so the law speaks of this report
pub of_records : All (IsOfRecords anybody lines watched) (measured_so_far after_second)
of_records = each_own Table anybody lines after_second watched read own known

-- ---- the Sync is reported, since the Delay_Resp stands in front
sync_used : is_used watched (datagrams (row_of response_read ∷ row_of request_read ∷ [])) (row_of sync_read).datagram ≡ true
sync_used = refl

response_used : is_used watched (datagrams (row_of request_read ∷ [])) (row_of response_read).datagram ≡ true
response_used = refl

pub is_reported : IsMeasuredAt watched (row_of response_read ∷ row_of request_read ∷ []) (row_of sync_read)
is_reported = each_used.sync watched (row_of response_read ∷ row_of request_read ∷ []) (row_of sync_read) (record {
  m = record { header = sync_header; body = bodies.Sync sync.origin; suffix = [] };
  said = refl;
  origin = sync.origin;
  body = refl;
  one_step = refl;
}) sync_used (record {
  later = [];
  last = row_of response_read;
  before = row_of request_read ∷ [];
  there = refl;
  is = record {
    m = record { header = response_header; body = bodies.DelayResp delay.receipt slave; suffix = [] };
    said = refl;
    receive = delay.receipt;
    requesting = slave;
    body = refl;
  };
  used = response_used;
  one_life = (refl, tt);
  few = lit< tt;
})

-- ---- the exception: another master's exchange of this number stands in front, and its Delay_Req left a second before
abbrev other_master : PortIdentity
other_master = record { clock = 2 ∷ 0 ∷ 0 ∷ 255 ∷ 254 ∷ 17 ∷ 34 ∷ 68 ∷ []; port = 1 }

abbrev a_row : (number time : ℕ) → Header → Body → Recorded
a_row number time header body = record { line = number; time = time; said = Ok (record { header = header; body = body; suffix = [] }) }

abbrev both_exchanges : List Recorded
both_exchanges =
    a_row 2 (moment delay.departure 0) response_header (bodies.DelayResp delay.receipt slave)
    ∷ a_row 2 (moment delay.departure 0) request_header (bodies.DelayReq delay.departure)
    ∷ a_row 1 (moment (stamp 1795329063 967346294) 0) (record response_header { source = other_master }) (bodies.DelayResp (stamp 1795329063 967377251) slave)
    ∷ a_row 1 (moment (stamp 1795329063 967346294) 0) request_header (bodies.DelayReq (stamp 1795329063 967346294)) ∷ []

-- so t3 is that of the first, and t4 that of the second
earlier_departure : option_map (λ x. x.t3) (exchange_at watched both_exchanges (row_of sync_read).datagram)
    ≡ Some (moment (stamp 1795329063 967346294) 0)
earlier_departure = refl

later_receipt : option_map (λ x. x.t4) (exchange_at watched both_exchanges (row_of sync_read).datagram)
    ≡ Some (moment delay.receipt 0)
later_receipt = refl
