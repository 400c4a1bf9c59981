-- The rows of a slave's own readings: each is a message of a record that a datagram tells, and no row is of anything else.
use Rattle.std.proofs.Common.{◌≡◌, ◌∙◌, inl, inr, ℕ, ◌<◌, ◌≤◌, Bool, true, false, List, [], ◌∷◌, ◌++◌, length, Some, None, refl, sym, ap, subst, arith}
use Rattle.std.specs.Prelude.{◌⊎◌, not, nat_lt, ◌&&◌, pos}
use Rattle.std.specs.List.{All, Contains, flat_map}
use Rattle.std.proofs.lemmas.Bool.{and_parts}
use Rattle.std.proofs.lemmas.List.Elements.{All-nil, All-cons, All-head, All-tail, All-weaker, All-contains_itself}
use Rattle.std.proofs.lemmas.List.Elements.{Contains-append_right}
use Rattle.ptp_units.specs.Moment.{Stamp, moment}
use Rattle.event_codec.specs.Layout.{fields_length, type_of}
use Rattle.event_codec.specs.declared.message.Body.{Body}
use Rattle.event_codec.specs.declared.message.Body.TheVariants as bodies
use Rattle.event_codec.specs.declared.message.Header.{Header}
use Rattle.event_codec.specs.declared.port.PortIdentity.{PortIdentity}
use Rattle.event_codec.specs.Packet.{Contents, Packet}
use Rattle.slave_port.specs.Usable.{is_two_step}
use Rattle.slave_port.proofs.Uses.{same_port}
use Rattle.signaling_codec.specs.declared.reading.DelayReading.{DelayReading}
use Rattle.signaling_codec.specs.declared.reading.OwnReading.{OwnReading}
use Rattle.signaling_codec.specs.declared.reading.Reading.{Reading}
use Rattle.signaling_codec.specs.declared.reading.Reading.TheVariants.{Sync, Delay}
use Rattle.signaling_codec.specs.declared.reading.SyncReading.{SyncReading}
use Rattle.signaling_codec.specs.declared.signaling.Signaling.{Signaling}
use Rattle.signaling_codec.specs.Tlv.{readings_of}
use Rattle.recording_model.specs.Recorded.{Recorded}
use Rattle.datagram_source.specs.Datagram.{DatagramOf}
use Rattle.recording_measure.specs.declared.form.Form.{Form}
use Rattle.recording_measure.specs.declared.readings.By.{By}
use Rattle.recording_measure.specs.declared.readings.By.TheVariants.{Any, Captured, Own}
use Rattle.recording_measure.specs.declared.watch.WantedPorts.{WantedPorts}
use Rattle.recording_measure.specs.Chosen.{settled}
use Rattle.recording_measure.specs.Measure.{Recording, Reads, TakesOwn, begun, by_asked, captured_by, counted_with, with_own, with_row, is_asked, is_captured, slave_by, are_by, has_reported}
use Rattle.recording_measure.specs.Own.{Begins, IsOwn, own_header, own_message, messages_of}
use Rattle.recording_measure.specs.Places.{PlacedRow, PlaceName, name_in, placed}
use Rattle.recording_measure.specs.Row.{Row, row_of}
use Rattle.recording_measure.proofs.ReadOne.{one_read}
use Rattle.recording_laws.specs.OwnReadings.{IsReadOf, Begun, One, IsToldBy}
use Rattle.recording_laws.proofs.OwnListening.{Kinds, Says, IsOfKind, OfSync, OfRequest, OfResponse}
use Rattle.recording_laws.proofs.OwnPairs.{Joins}
use Rattle.recording_laws.proofs.OwnRecords.{AreMessages}

-- ---- the messages of a record
abbrev pub sync_of : Header → (master : PortIdentity) → SyncReading → Contents
sync_of header master r = record {
  header = own_header header master r.correction r.sequence 0;
  body = bodies.Sync r.origin;
  suffix = [];
}

abbrev pub request_of : Header → (slave : PortIdentity) → DelayReading → Contents
request_of header slave r = record {
  header = own_header header slave (record { 0 = pos 0 }) r.sequence 1;
  body = bodies.DelayReq r.departure;
  suffix = [];
}

abbrev pub response_of : Header → (slave master : PortIdentity) → DelayReading → Contents
response_of header slave master r = record {
  header = own_header header master r.correction r.sequence 3;
  body = bodies.DelayResp r.receipt slave;
  suffix = [];
}

module _ (w : WantedPorts) (ds : List DatagramOf) (slave : PortIdentity) where
  -- a message of a record of a Sync that is told
  pub record IsOwnSync (m : Contents) (time : ℕ) : Type 0 where
    pub header : Header
    pub master : PortIdentity
    pub reading : SyncReading
    pub told : IsToldBy w ds slave header (record { master = master; reading = Sync reading })
    pub is : m ≡ sync_of header master reading
    pub timed : time ≡ moment reading.ingress 0

  -- the Delay_Req of one of an exchange
  pub record IsOwnRequest (m : Contents) (time : ℕ) : Type 0 where
    pub header : Header
    pub master : PortIdentity
    pub reading : DelayReading
    pub told : IsToldBy w ds slave header (record { master = master; reading = Delay reading })
    pub is : m ≡ request_of header slave reading
    pub timed : time ≡ moment reading.departure 0

  -- and its Delay_Resp
  pub record IsOwnResponse (m : Contents) (time : ℕ) : Type 0 where
    pub header : Header
    pub master : PortIdentity
    pub reading : DelayReading
    pub told : IsToldBy w ds slave header (record { master = master; reading = Delay reading })
    pub is : m ≡ response_of header slave master reading

  abbrev pub own_kinds : Kinds
  own_kinds = record { Sync = IsOwnSync; Request = IsOwnRequest; Response = IsOwnResponse }

  -- a Delay_Req and a Delay_Resp of one record
  pub record AreOfOne (q m : Contents) : Type 0 where
    pub header : Header
    pub master : PortIdentity
    pub reading : DelayReading
    pub told : IsToldBy w ds slave header (record { master = master; reading = Delay reading })
    pub request : q ≡ request_of header slave reading
    pub response : m ≡ response_of header slave master reading

  pub joins : Joins AreOfOne
  joins = record {
    number = λ q m one. ap (λ (m : Contents). m.header.sequence.0) one.response ∙ ap (λ (q : Contents). q.header.sequence.0) (sym one.request);
    domain = λ q m one. ap (λ (m : Contents). m.header.domain) one.response ∙ ap (λ (q : Contents). q.header.domain) (sym one.request);
    to = λ q m receive requesting one body.
        let same : bodies.DelayResp receive requesting ≡ bodies.DelayResp one.reading.receipt slave =
        sym body ∙ ap (λ (m : Contents). m.body) one.response in
        let to : requesting ≡ slave = cc in to ∙ ap (λ (q : Contents). q.header.source) (sym one.request);
  }

  pub are_messages : AreMessages own_kinds
  are_messages = record {
    one_step = λ m t2 is. ap (λ (m : Contents). is_two_step m.header) is.is;
    response = λ m time is. (is.reading.receipt, slave, ap (λ (m : Contents). m.body) is.is);
  }

  -- the row of a Sync
  pub record IsSyncRow (row : Row) : Type 0 where
    pub says : Says own_kinds row.datagram
    pub origin : Stamp
    pub body : says.m.body ≡ bodies.Sync origin
    pub own : row.own ≡ true

  -- those of a Delay_Req and of its Delay_Resp
  pub record AreExchangeRows (q d : Row) : Type 0 where
    pub request : Says own_kinds q.datagram
    pub origin : Stamp
    pub asks : request.m.body ≡ bodies.DelayReq origin
    pub response : Says own_kinds d.datagram
    pub receive : Stamp
    pub requesting : PortIdentity
    pub answers : response.m.body ≡ bodies.DelayResp receive requesting
    pub one : AreOfOne request.m response.m
    pub q_own : q.own ≡ true
    pub d_own : d.own ≡ true

  -- rows of records, newest first
  pub data AreOwnRows : List PlacedRow → Type 0 where
    NoRow : AreOwnRows []
    SyncRow : (x : PlacedRow) (xs : List PlacedRow) → IsSyncRow x.row → AreOwnRows xs → AreOwnRows (x ∷ xs)
    ExchangeRows : (place : PlaceName) (q d : Row) (xs : List PlacedRow) → AreExchangeRows q d → AreOwnRows xs
        → AreOwnRows (record { place = place; row = d } ∷ record { place = place; row = q } ∷ xs)

-- ---- more datagrams
more_told : (w : WantedPorts) (d : DatagramOf) (ds : List DatagramOf) (slave : PortIdentity) (header : Header) (own : OwnReading)
    → IsToldBy w ds slave header own → IsToldBy w (d ∷ ds) slave header own
more_told w d ds slave header own told = record {
  told = told.told;
  there = Contains-append_right (d ∷ []) ds told.told told.there;
  signaling = told.signaling;
  begins = told.begins;
  among = told.among;
  under = told.under;
  asked = told.asked;
  by = told.by;
}

more_kind : (w : WantedPorts) (d : DatagramOf) (ds : List DatagramOf) (slave : PortIdentity) (m : Contents) (time : ℕ)
    → IsOfKind (own_kinds w ds slave) m time → IsOfKind (own_kinds w (d ∷ ds) slave) m time
more_kind w d ds slave m time (OfSync origin body is) = OfSync origin body (record {
  header = is.header;
  master = is.master;
  reading = is.reading;
  told = more_told w d ds slave is.header (record { master = is.master; reading = Sync is.reading }) is.told;
  is = is.is;
  timed = is.timed;
})
more_kind w d ds slave m time (OfRequest origin body is) = OfRequest origin body (record {
  header = is.header;
  master = is.master;
  reading = is.reading;
  told = more_told w d ds slave is.header (record { master = is.master; reading = Delay is.reading }) is.told;
  is = is.is;
  timed = is.timed;
})
more_kind w d ds slave m time (OfResponse receive requesting body is) = OfResponse receive requesting body (record {
  header = is.header;
  master = is.master;
  reading = is.reading;
  told = more_told w d ds slave is.header (record { master = is.master; reading = Delay is.reading }) is.told;
  is = is.is;
})

module _ (w : WantedPorts) (d : DatagramOf) (ds : List DatagramOf) (slave : PortIdentity) where
  more_says : (x : Recorded) → Says (own_kinds w ds slave) x → Says (own_kinds w (d ∷ ds) slave) x
  more_says x says = record {
    m = says.m;
    said = says.said;
    kind = more_kind w d ds slave says.m x.time says.kind;
    low = says.low;
  }

  more_rows : {xs : List PlacedRow} → AreOwnRows w ds slave xs → AreOwnRows w (d ∷ ds) slave xs
  unfolding more_says
  more_rows NoRow = NoRow
  more_rows (SyncRow x xs is are) = SyncRow x xs (record {
    says = more_says x.row.datagram is.says;
    origin = is.origin;
    body = is.body;
    own = is.own;
  }) (more_rows are)
  more_rows (ExchangeRows place q r xs is are) = ExchangeRows place q r xs (record {
    request = more_says q.datagram is.request;
    origin = is.origin;
    asks = is.asks;
    response = more_says r.datagram is.response;
    receive = is.receive;
    requesting = is.requesting;
    answers = is.answers;
    one = record {
      header = is.one.header;
      master = is.one.master;
      reading = is.one.reading;
      told = more_told w d ds slave is.one.header (record { master = is.one.master; reading = Delay is.one.reading }) is.one.told;
      request = is.one.request;
      response = is.one.response;
    };
    q_own = is.q_own;
    d_own = is.d_own;
  }) (more_rows are)

-- octets have numbers below 65,536
low_number : (m : Contents) (octets : List ℕ) → Packet m octets → m.header.sequence.0 < 65536
low_number m octets packet =
    let long : 44 ≤ length octets = least m.body packet.least in
    omega (arith, packet.header.sequence, packet.octets 30 (omega (arith, long)), packet.octets 31 (omega (arith, long)))
  where
    least : (body : Body) → fields_length (type_of body) ≤ length octets → 44 ≤ length octets
    least (bodies.Sync origin) long = omega (arith, long)
    least (bodies.DelayReq origin) long = omega (arith, long)
    least (bodies.FollowUp precise) long = omega (arith, long)
    least (bodies.DelayResp receive requesting) long = omega (arith, long)

-- ---- what was read
-- Own readings are one slave's, and nothing else is read beside them; nor are they beside anything else.
abbrev AreOf : WantedPorts → List DatagramOf → By → List PlacedRow → Type 0
AreOf w ds Any rows = All (λ x. x.row.own ≡ false) rows
AreOf w ds Captured rows = All (λ x. x.row.own ≡ false) rows
AreOf w ds (Own None) rows = rows ≡ []
AreOf w ds (Own (Some slave)) rows = AreOwnRows w ds slave rows

pub record Stands (w : WantedPorts) (ds : List DatagramOf) (r : Recording) : Type 0 where
  pub wanted : r.wanted ≡ w
  pub rows : AreOf w ds r.by r.rows

module _ (w : WantedPorts) (ds : List DatagramOf) (told : DatagramOf) (slave : PortIdentity) (header : Header) where
  -- the row of a message
  row_says : (time : Stamp) (header : Header) (body : Body) (d : DatagramOf) → IsOwn told (own_message time header body) d
      → IsOfKind (own_kinds w (told ∷ ds) slave) (record { header = header; body = body; suffix = [] }) (moment time 0)
      → Says (own_kinds w (told ∷ ds) slave) (row_of d).datagram
  row_says time header body d is kind = record {
    m = record { header = header; body = body; suffix = [] };
    said = is.said;
    kind = subst (IsOfKind (own_kinds w (told ∷ ds) slave) (record { header = header; body = body; suffix = [] })) (sym is.moment_is) kind;
    low = low_number (record { header = header; body = body; suffix = [] }) d.octets is.packet;
  }

  takes_readings : (readings : List OwnReading) (r later : Recording) → All (IsToldBy w (told ∷ ds) slave header) readings
      → AreOwnRows w (told ∷ ds) slave r.rows
      → TakesOwn told (flat_map (λ it. messages_of header slave it.master it.reading) readings) r later
      → AreOwnRows w (told ∷ ds) slave later.rows
  unfolding row_says
  takes_readings [] r later known rows same = subst (λ (x : Recording). AreOwnRows w (told ∷ ds) slave x.rows) (sym same) rows
  takes_readings (own ∷ readings) r later known rows takes =
      by own.master own.reading (All-head (IsToldBy w (told ∷ ds) slave header) own readings known)
      (λ mid rows takes. takes_readings readings mid later (All-tail (IsToldBy w (told ∷ ds) slave header) own readings known) rows takes)
      takes
    where
      by : (master : PortIdentity) (reading : Reading) → IsToldBy w (told ∷ ds) slave header (record { master = master; reading = reading })
          → ((mid : Recording) → AreOwnRows w (told ∷ ds) slave mid.rows
          → TakesOwn told (flat_map (λ it. messages_of header slave it.master it.reading) readings) mid later
          → AreOwnRows w (told ∷ ds) slave later.rows)
          → TakesOwn told (messages_of header slave master reading
          ++ flat_map (λ it. messages_of header slave it.master it.reading) readings) r later
          → AreOwnRows w (told ∷ ds) slave later.rows
      by master (Sync reading) is others (d, one, takes) = others (with_row (placed told.place d) r)
          (SyncRow (placed told.place d) r.rows (record {
            says = row_says reading.ingress (own_header header master reading.correction reading.sequence 0) (bodies.Sync reading.origin)
                d one (OfSync reading.origin refl (record {
                  header = header;
                  master = master;
                  reading = reading;
                  told = is;
                  is = refl;
                  timed = refl;
                }));
            origin = reading.origin;
            body = refl;
            own = one.own;
          }) rows) takes
      by master (Delay reading) is others (q, first, (d, one, takes)) =
          others (with_row (placed told.place d) (with_row (placed told.place q) r))
          (ExchangeRows (name_in told.place) (row_of q) (row_of d) r.rows (record {
            request = row_says reading.departure (own_header header slave (record { 0 = pos 0 }) reading.sequence 1)
                (bodies.DelayReq reading.departure) q first (OfRequest reading.departure refl (record {
                  header = header;
                  master = master;
                  reading = reading;
                  told = is;
                  is = refl;
                  timed = refl;
                }));
            origin = reading.departure;
            asks = refl;
            response = row_says reading.departure (own_header header master reading.correction reading.sequence 3)
                (bodies.DelayResp reading.receipt slave) d one (OfResponse reading.receipt slave refl (record {
                  header = header;
                  master = master;
                  reading = reading;
                  told = is;
                  is = refl;
                }));
            receive = reading.receipt;
            requesting = slave;
            answers = refl;
            one = record { header = header; master = master; reading = reading; told = is; request = refl; response = refl };
            q_own = first.own;
            d_own = one.own;
          }) rows) takes

-- the records that a datagram tells
told_records : (w : WantedPorts) (ds : List DatagramOf) (told : DatagramOf) (slave : PortIdentity) (m : Signaling) → Begins m told.octets
    → is_asked w m.header ≡ true → slave_by w m.header ≡ slave → All (IsToldBy w (told ∷ ds) slave m.header) (readings_of m.tlvs)
told_records w ds told slave m begins asked by =
    All-weaker (Contains (readings_of m.tlvs)) (IsToldBy w (told ∷ ds) slave m.header) (λ own among. record {
      told = told;
      there = (0, omega arith, refl);
      signaling = m;
      begins = begins;
      among = among;
      under = refl;
      asked = asked;
      by = by;
    }) (readings_of m.tlvs) (All-contains_itself (readings_of m.tlvs))

-- ---- one more datagram
captured_stands : (w : WantedPorts) (d : DatagramOf) (ds : List DatagramOf) (by : By) (r : Recording) → d.own ≡ false → r.by ≡ by
    → AreOf w ds by r.rows → AreOf w (d ∷ ds) (captured_by by d r).by (captured_by by d r).rows
captured_stands w d ds Any r captured is rows =
    subst (λ (b : By). AreOf w (d ∷ ds) b (captured_by Any d r).rows) (sym is)
    (All-cons (λ (x : PlacedRow). x.row.own ≡ false) (placed (settled r.wanted r.rows d) d) r.rows captured rows)
captured_stands w d ds Captured r captured is rows =
    subst (λ (b : By). AreOf w (d ∷ ds) b (captured_by Captured d r).rows) (sym is)
    (All-cons (λ (x : PlacedRow). x.row.own ≡ false) (placed (settled r.wanted r.rows d) d) r.rows captured rows)
captured_stands w d ds (Own None) r captured is rows =
    subst (λ (b : By). AreOf w (d ∷ ds) b r.rows) (sym is) rows
captured_stands w d ds (Own (Some slave)) r captured is rows =
    subst (λ (b : By). AreOf w (d ∷ ds) b r.rows) (sym is)
    (more_rows w d ds slave rows)

-- from here on those of this slave are measured
record BeginsOwn (w : WantedPorts) (ds : List DatagramOf) (slave : PortIdentity) (r : Recording) : Type 0 where
  by : r.by ≡ Own (Some slave)
  rows : AreOwnRows w ds slave r.rows

own_begins : (w : WantedPorts) (d : DatagramOf) (ds : List DatagramOf) (slave : PortIdentity) (by : By) (r : Recording) (reported : Bool)
    → are_by by slave reported ≡ true → AreOf w ds by r.rows → BeginsOwn w (d ∷ ds) slave (with_own by slave r)
own_begins w d ds slave Any r reported are rows = record { by = refl; rows = NoRow }
own_begins w d ds slave Captured r reported are rows = absurd cc
own_begins w d ds slave (Own None) r reported are rows = record {
  by = refl;
  rows = subst (AreOwnRows w (d ∷ ds) slave) (sym rows) NoRow;
}
own_begins w d ds slave (Own (Some own)) r reported are rows = record {
  by = refl;
  rows = subst (λ (s : PortIdentity). AreOwnRows w (d ∷ ds) s r.rows) (sym (same_port slave own are)) (more_rows w d ds own rows);
}

-- messages leave it as it is whose they are
takes_by : (told : DatagramOf) (header : Header) (slave : PortIdentity) (readings : List OwnReading) (r later : Recording)
    → TakesOwn told (flat_map (λ it. messages_of header slave it.master it.reading) readings) r later → later.by ≡ r.by
takes_by told header slave [] r later same = ap (λ (x : Recording). x.by) same
takes_by told header slave (own ∷ readings) r later takes =
    by own.master own.reading takes (λ mid takes. takes_by told header slave readings mid later takes)
  where
    by : (master : PortIdentity) (reading : Reading)
        → TakesOwn told (messages_of header slave master reading
        ++ flat_map (λ it. messages_of header slave it.master it.reading) readings) r later
        → ((mid : Recording) → TakesOwn told (flat_map (λ it. messages_of header slave it.master it.reading) readings) mid later
        → later.by ≡ mid.by) → later.by ≡ r.by
    by master (Sync reading) (d, is, takes) others = others (with_row (placed told.place d) r) takes
    by master (Delay reading) (q, first, (d, is, takes)) others =
        others (with_row (placed told.place d) (with_row (placed told.place q) r)) takes

reads_stands : (w : WantedPorts) (d : DatagramOf) (ds : List DatagramOf) (r later : Recording) → d.own ≡ false → Stands w ds r
    → Reads d r later → AreOf w (d ∷ ds) later.by later.rows
reads_stands w d ds r later captured stands (None, told, tells, tell, same) =
    subst (λ (x : Recording). AreOf w (d ∷ ds) x.by x.rows) (sym same)
    (captured_stands w d ds r.by (counted_with d false tells r) captured refl stands.rows)
reads_stands w d ds r later captured stands (Some m, told, tells, tell, takes) =
    let counted = counted_with d true tells r in
    let slave : PortIdentity = slave_by r.wanted m.header in
    let rest = and_parts (nat_lt 0 (length (readings_of m.tlvs)))
    (is_asked r.wanted m.header && are_by r.by slave (has_reported r)) told.1 in
    let by = and_parts (is_asked r.wanted m.header) (are_by r.by slave (has_reported r)) rest.1 in
    let begins = own_begins w d ds slave r.by counted (has_reported r) by.1 stands.rows in
    let known = told_records w ds d slave m told.0 (ap (λ (x : WantedPorts). is_asked x m.header) (sym stands.wanted) ∙ by.0)
    (ap (λ (x : WantedPorts). slave_by x m.header) (sym stands.wanted)) in
    let rows = takes_readings w ds d slave m.header (readings_of m.tlvs) (with_own r.by slave counted) later known begins.rows takes in
    subst (λ (b : By). AreOf w (d ∷ ds) b later.rows)
    (sym (takes_by d m.header slave (readings_of m.tlvs) (with_own r.by slave counted) later takes ∙ begins.by)) rows

begun_stands : (form : Form) (w : WantedPorts) → Stands w [] (begun form w)
begun_stands form w = record { wanted = refl; rows = by (by_asked w.readings) }
  where
    by : (by : By) → AreOf w [] by []
    by Any = All-nil (λ (x : PlacedRow). x.row.own ≡ false)
    by Captured = All-nil (λ (x : PlacedRow). x.row.own ≡ false)
    by (Own None) = refl
    by (Own (Some slave)) = NoRow

pub read_stands : (form : Form) (w : WantedPorts) {ds : List DatagramOf} {r : Recording} → IsReadOf form w ds r → Stands w ds r
read_stands form w Begun = begun_stands form w
read_stands form w (One d earlier before later captured is reads) =
    let stands = read_stands form w is in record {
      wanted = (one_read d before later reads).wanted ∙ stands.wanted;
      rows = reads_stands w d earlier before later captured stands reads;
    }

-- ---- they are alone
all_own : (w : WantedPorts) (ds : List DatagramOf) (slave : PortIdentity) {xs : List PlacedRow} → AreOwnRows w ds slave xs
    → All (λ (x : PlacedRow). x.row.own ≡ true) xs
all_own w ds slave NoRow = All-nil (λ (x : PlacedRow). x.row.own ≡ true)
all_own w ds slave (SyncRow x xs is are) = All-cons (λ (x : PlacedRow). x.row.own ≡ true) x xs is.own (all_own w ds slave are)
all_own w ds slave (ExchangeRows place q d xs is are) =
    All-cons (λ (x : PlacedRow). x.row.own ≡ true) (record { place = place; row = d }) (record { place = place; row = q } ∷ xs) is.d_own
    (All-cons (λ (x : PlacedRow). x.row.own ≡ true) (record { place = place; row = q }) xs is.q_own (all_own w ds slave are))

rows_alone : (w : WantedPorts) (ds : List DatagramOf) (by : By) (rows : List PlacedRow) → AreOf w ds by rows
    → All (λ x. x.row.own ≡ not (is_captured by)) rows
rows_alone w ds Any rows are = are
rows_alone w ds Captured rows are = are
rows_alone w ds (Own None) rows are =
    subst (All (λ (x : PlacedRow). x.row.own ≡ true)) (sym are) (All-nil (λ (x : PlacedRow). x.row.own ≡ true))
rows_alone w ds (Own (Some slave)) rows are = all_own w ds slave are

pub own_rows : (form : Form) (w : WantedPorts) (ds : List DatagramOf) (r : Recording) → IsReadOf form w ds r
    → All (λ x. x.row.own ≡ not (is_captured r.by)) r.rows
own_rows form w ds r is = rows_alone w ds r.by r.rows (read_stands form w is).rows

-- where own readings are measured, and something is known of them, they are one slave's
pub own_of : (w : WantedPorts) (ds : List DatagramOf) (by : By) (rows : List PlacedRow) → AreOf w ds by rows → is_captured by ≡ false
    → (rows ≡ []) ⊎ ((slave : PortIdentity) × AreOwnRows w ds slave rows)
own_of w ds Any rows are own = absurd cc
own_of w ds Captured rows are own = absurd cc
own_of w ds (Own None) rows are own = inl are
own_of w ds (Own (Some slave)) rows are own = inr (slave, are)
