-- Each report of own readings is of a record of a Sync and of one of an exchange.
use Rattle.std.proofs.Common.{◌≡◌, ◌≢◌, ◌∙◌, inl, inr, ℕ, true≢false, List, [], ◌∷◌, ◌++◌, Option, Some, None, Ok, Err, refl, sym, ap, subst}
use Rattle.std.specs.Prelude.{◌⊎◌, ◌==◌, pos, option_map, option_and_then, option_to_list}
use Rattle.std.specs.List.{All}
use Rattle.std.specs.Option.{option_map_or}
use Rattle.std.specs.Result.{result_ok}
use Rattle.std.proofs.lemmas.Bool.{and_parts, eqb-true}
use Rattle.std.proofs.lemmas.List.Elements.{All-nil, All-cons}
use Rattle.ptp_units.specs.Moment.{Stamp, moment}
use Rattle.event_codec.specs.declared.message.Body.TheVariants as bodies
use Rattle.event_codec.specs.declared.message.Header.{Header}
use Rattle.event_codec.specs.declared.port.PortIdentity.{PortIdentity}
use Rattle.event_codec.specs.Packet.{Contents}
use Rattle.event_codec.specs.Port.{is_same_port}
use Rattle.event_codec.specs.Reading.{Reading}
use Rattle.slave_port.specs.Completion.{SyncCompletion, DelayCompletion}
use Rattle.slave_port.specs.declared.exchange.LastExchange.{LastExchange}
use Rattle.slave_port.specs.declared.heard.Report.{Report}
use Rattle.slave_port.specs.Exchange.{exchange_of, exchanged as exchanged_of, IsReportOf}
use Rattle.slave_port.specs.History.{Call}
use Rattle.slave_port.specs.Kept.{last_sync_completion, last_delay_completion}
use Rattle.slave_port.proofs.Options.{some_step}
use Rattle.signaling_codec.specs.declared.reading.DelayReading.{DelayReading}
use Rattle.signaling_codec.specs.declared.reading.OwnReading.{OwnReading}
use Rattle.signaling_codec.specs.declared.reading.Reading.TheVariants.{Sync, Delay}
use Rattle.datagram_source.specs.Datagram.{DatagramOf}
use Rattle.recording_model.specs.declared.watched.Watched.{Watched}
use Rattle.recording_model.specs.Finds.{is_delay_req}
use Rattle.recording_model.specs.Listening.{Listening, after_all, hearing, is_of, ready, report_at, setup_in}
use Rattle.recording_model.specs.Recorded.{Recorded}
use Rattle.recording_measure.specs.declared.watch.WantedPorts.{WantedPorts}
use Rattle.recording_measure.specs.Chosen.{heard_at, input_watched}
use Rattle.recording_measure.specs.Exchanged.{exchange_after, exchange_at}
use Rattle.recording_measure.specs.Made.{Measured}
use Rattle.recording_measure.specs.Measure.{measured_so_far}
use Rattle.recording_measure.specs.Measured.{measured_at, measurements}
use Rattle.recording_measure.specs.Row.{Row, datagrams}
use Rattle.recording_laws.specs.OwnReadings.{EachOwnReportIsOfItsRecords, IsOfRecords, IsToldBy, TellsRecord, exchange_told}
use Rattle.recording_laws.proofs.Exchanged.{each_is_of_its_exchange, made_with}
use Rattle.recording_laws.proofs.OwnCalls.{IsOfResponse, IsOfSync}
use Rattle.recording_laws.proofs.OwnInput.{are_heard}
use Rattle.recording_laws.proofs.OwnListening.{Kinds, Left}
use Rattle.recording_laws.proofs.OwnPairs.{Answers, OfOther, Responds, is_of_port}
use Rattle.recording_laws.proofs.OwnRecords.{EachStep, Step, each_step, halves_at}
use Rattle.recording_laws.proofs.OwnRows.{AreOfOne, AreOwnRows, are_messages, joins, own_kinds, own_of, read_stands}
use Rattle.recording_laws.proofs.OwnRows.{IsOwnRequest, IsOwnResponse, IsOwnSync, request_of, response_of}

-- ---- the exchange of what is measured
-- the call at which an exchange is there, and its two halves
record IsExchanged (w : Watched) (earlier : List Recorded) (d : Recorded) (x : LastExchange) : Type 0 where
  m : Contents
  said : d.said ≡ Ok m
  call : Call
  hearing_is : hearing d.line d.time m m.body ≡ Some call
  r : Listening
  ready_is : ready w d.line d.time m m.body (after_all w earlier) ≡ Some r
  sync : SyncCompletion
  synced : last_sync_completion (setup_in w r) (call ∷ r.calls) ≡ Some sync
  delay : DelayCompletion
  delayed : last_delay_completion (setup_in w r) (call ∷ r.calls) ≡ Some delay
  is : x ≡ exchange_of sync delay

halves_there : (sync : Option SyncCompletion) (delay : Option DelayCompletion) (x : LastExchange) → exchanged_of sync delay ≡ Some x
    → (s : SyncCompletion) × (d : DelayCompletion) × (sync ≡ Some s) × (delay ≡ Some d) × (x ≡ exchange_of s d)
halves_there None delay x is = cc
halves_there (Some sync) None x is = cc
halves_there (Some sync) (Some delay) x is =
    let same : exchange_of sync delay ≡ x = cc in (sync, delay, refl, refl, sym same)

exchanged_at : (w : Watched) (earlier : List Recorded) (d : Recorded) (x : LastExchange) → exchange_at w earlier d ≡ Some x
    → IsExchanged w earlier d x
exchanged_at w earlier d x is = by d.said refl is
  where
    by : (said : Reading) → d.said ≡ said
        → option_and_then (λ (m : Contents). option_and_then
        (λ (call : Call). option_and_then (exchange_after w call) (ready w d.line d.time m m.body (after_all w earlier)))
        (hearing d.line d.time m m.body)) (result_ok said) ≡ Some x → IsExchanged w earlier d x
    by (Err refusal) said is = cc
    by (Ok m) said is =
        let heard = some_step (λ (call : Call). option_and_then (exchange_after w call) (ready w d.line d.time m m.body (after_all w earlier)))
        (hearing d.line d.time m m.body) is in
        let port = some_step (exchange_after w heard.0) (ready w d.line d.time m m.body (after_all w earlier)) heard.2 in
        let parts = halves_there (last_sync_completion (setup_in w port.0) (heard.0 ∷ port.0.calls))
        (last_delay_completion (setup_in w port.0) (heard.0 ∷ port.0.calls)) x port.2 in record {
          m = m;
          said = said;
          call = heard.0;
          hearing_is = heard.1;
          r = port.0;
          ready_is = port.1;
          sync = parts.0;
          synced = parts.2;
          delay = parts.1;
          delayed = parts.3;
          is = parts.4;
        }

-- ---- the records of the two halves
module _ (w : WantedPorts) (ds : List DatagramOf) (watched : Watched) (slave : PortIdentity) where
  abbrev kinds : Kinds
  kinds = own_kinds w ds slave

  -- a record that the slave tells
  tells : (header : Header) (own : OwnReading) → IsToldBy w ds slave header own → slave ≡ watched.slave → header.domain ≡ watched.domain
      → TellsRecord w ds watched own
  tells header own told same domain = record {
    header = header;
    told = subst (λ (s : PortIdentity). IsToldBy w ds s header own) same told;
    domain = domain;
  }

  -- the Delay_Req and the Delay_Resp of a report
  record IsOfDelay (m : Contents) (receive : Stamp) (t3 : ℕ) : Type 0 where
    response : DelayReading
    response_told : TellsRecord w ds watched (record { master = watched.master; reading = Delay response })
    master : PortIdentity
    request : DelayReading
    request_told : TellsRecord w ds watched (record { master = master; reading = Delay request })
    number : request.sequence.0 ≡ response.sequence.0
    one : (request ≡ response) ⊎ (master ≢ watched.master)
    left : t3 ≡ moment request.departure 0
    received : receive ≡ response.receipt
    correction : m.header.correction.0 ≡ response.correction.0
    numbered : m.header.sequence.0 ≡ response.sequence.0

  departed : (q : Contents) (t3 : ℕ) (header : Header) (reading : DelayReading) → IsOwnRequest w ds slave q t3 → q ≡ request_of header slave reading
      → t3 ≡ moment reading.departure 0
  departed q t3 header reading is same =
      let bodies_same : bodies.DelayReq is.reading.departure ≡ bodies.DelayReq reading.departure =
      ap (λ (q : Contents). q.body) (sym is.is ∙ same) in
      let one : is.reading.departure ≡ reading.departure = cc in is.timed ∙ ap (λ (s : Stamp). moment s 0) one

  of_delay : (m : Contents) (receive : Stamp) (requesting : PortIdentity) (t3 time : ℕ) → IsOwnResponse w ds slave m time
      → m.body ≡ bodies.DelayResp receive requesting → m.header.source ≡ watched.master → m.header.domain ≡ watched.domain
      → requesting ≡ watched.slave
      → Answers watched kinds (AreOfOne w ds slave) (joins w ds slave) m t3 → IsOfDelay m receive t3
  of_delay m receive requesting t3 time is body source domain to answers = by answers.one
    where
      received_by : (header : Header) (master : PortIdentity) (reading : DelayReading) → m ≡ response_of header slave master reading
          → (receive ≡ reading.receipt) × (requesting ≡ slave)
      received_by header master reading same =
          let alike : bodies.DelayResp receive requesting ≡ bodies.DelayResp reading.receipt slave =
          sym body ∙ ap (λ (m : Contents). m.body) same in (cc, cc)

      by : AreOfOne w ds slave answers.q m ⊎ OfOther watched kinds (AreOfOne w ds slave) (joins w ds slave) answers.q → IsOfDelay m receive t3
      by (inl one) =
          let at = received_by one.header one.master one.reading one.response in
          let own : slave ≡ watched.slave = sym at.1 ∙ to in
          let of_master : one.master ≡ watched.master = ap (λ (m : Contents). m.header.source) (sym one.response) ∙ source in
          let in_domain : one.header.domain ≡ watched.domain = ap (λ (m : Contents). m.header.domain) (sym one.response) ∙ domain in
          let told = tells one.header (record { master = one.master; reading = Delay one.reading }) one.told own in_domain in
          let of_it = subst (λ (p : PortIdentity). TellsRecord w ds watched (record { master = p; reading = Delay one.reading })) of_master told in
          record {
            response = one.reading;
            response_told = of_it;
            master = watched.master;
            request = one.reading;
            request_told = of_it;
            number = refl;
            one = inl refl;
            left = departed answers.q t3 one.header one.reading answers.request one.request;
            received = at.0;
            correction = ap (λ (m : Contents). m.header.correction.0) one.response;
            numbered = ap (λ (m : Contents). m.header.sequence.0) one.response;
          }
      by (inr (other, one, none)) =
          let at = received_by is.header is.master is.reading is.is in
          let own : slave ≡ watched.slave = sym at.1 ∙ to in
          let of_master : is.master ≡ watched.master = ap (λ (m : Contents). m.header.source) (sym is.is) ∙ source in
          let in_domain : is.header.domain ≡ watched.domain = ap (λ (m : Contents). m.header.domain) (sym is.is) ∙ domain in
          let told = tells is.header (record { master = is.master; reading = Delay is.reading }) is.told own in_domain in
          let asked = and_parts (is_of watched watched.slave answers.q.header) (is_delay_req answers.q.body) answers.own in
          let asked_domain = and_parts (answers.q.header.domain == watched.domain) (is_same_port answers.q.header.source watched.slave) asked.0 in
          let q_domain : one.header.domain ≡ watched.domain =
          ap (λ (q : Contents). q.header.domain) (sym one.request) ∙ eqb-true answers.q.header.domain watched.domain asked_domain.0 in
          record {
            response = is.reading;
            response_told = subst (λ (p : PortIdentity). TellsRecord w ds watched (record { master = p; reading = Delay is.reading })) of_master told;
            master = one.master;
            request = one.reading;
            request_told = tells one.header (record { master = one.master; reading = Delay one.reading }) one.told own q_domain;
            number = ap (λ (q : Contents). q.header.sequence.0) (sym one.request) ∙ sym answers.number
                ∙ ap (λ (m : Contents). m.header.sequence.0) is.is;
            one = inr (λ same. true≢false (sym (is_of_port watched watched.master other.header
                (ap (λ (m : Contents). m.header.source) one.response ∙ same)
                (ap (λ (m : Contents). m.header.domain) one.response ∙ q_domain)) ∙ none));
            left = departed answers.q t3 one.header one.reading answers.request one.request;
            received = at.0;
            correction = ap (λ (m : Contents). m.header.correction.0) is.is;
            numbered = ap (λ (m : Contents). m.header.sequence.0) is.is;
          }

  abbrev R : Listening → List Call → Contents → Type 0
  R r = Responds watched kinds (AreOfOne w ds slave) (joins w ds slave) (setup_in watched r)

  abbrev L : (number t3 : ℕ) → Type 0
  L = Left watched kinds (Responds watched kinds (AreOfOne w ds slave) (joins w ds slave))

  -- what is measured at a message of a record
  of_records : (earlier : List Row) (row : Row) (m : Measured) (x : LastExchange)
      → Step watched kinds (AreOfOne w ds slave) (joins w ds slave) (are_messages w ds slave) (datagrams earlier) row.datagram
      → m.exchange ≡ Some x → IsReportOf x m.report → exchange_at watched (datagrams earlier) row.datagram ≡ Some x
      → IsOfRecords w ds watched m
  of_records earlier row m x step there report at =
      let e = exchanged_at watched (datagrams earlier) row.datagram x at in
      let halves = halves_at watched kinds (AreOfOne w ds slave) (joins w ds slave) (are_messages w ds slave) (datagrams earlier) row.datagram
      step e.m e.call e.r e.said e.hearing_is e.ready_is e.sync e.delay e.synced e.delayed in
      by e.r e.sync e.delay e.is halves.0 halves.1
    where
      by : (r : Listening) (sync : SyncCompletion) (delay : DelayCompletion) → x ≡ exchange_of sync delay
          → IsOfSync watched.master (IsOwnSync w ds slave) (R r) L (setup_in watched r) sync
          → IsOfResponse watched.master (IsOwnSync w ds slave) (R r) L (setup_in watched r) delay → IsOfRecords w ds watched m
      by r sync delay is s d =
          let own = s.sync in
          let of_master : own.master ≡ watched.master = ap (λ (m : Contents). m.header.source) (sym own.is) ∙ s.source in
          let in_domain : own.header.domain ≡ watched.domain = ap (λ (m : Contents). m.header.domain) (sym own.is) ∙ s.domain in
          let same_body : bodies.Sync s.origin ≡ bodies.Sync own.reading.origin = sym s.body ∙ ap (λ (m : Contents). m.body) own.is in
          let origin : s.origin ≡ own.reading.origin = cc in
          let to : (receive : Stamp) (requesting : PortIdentity) → d.m.body ≡ bodies.DelayResp receive requesting → requesting ≡ watched.slave =
          λ receive requesting body.
          let alike : bodies.DelayResp receive requesting ≡ bodies.DelayResp d.receive d.requesting = sym body ∙ d.body in
          let one : requesting ≡ d.requesting = cc in one ∙ d.own in
          let pair = of_delay d.m d.receive d.requesting d.t3 d.response.time d.response.response d.body d.source d.domain d.own
          (d.response.answers d.source d.domain to d.request d.t3 d.found d.left_at) in
          let own_slave : slave ≡ watched.slave =
          let alike : bodies.DelayResp d.receive d.requesting ≡ bodies.DelayResp d.response.response.reading.receipt slave =
          sym d.body ∙ ap (λ (m : Contents). m.body) d.response.response.is in
          let one : d.requesting ≡ slave = cc in sym one ∙ d.own in
          let whole : x ≡ exchange_told own.reading pair.request pair.response =
          is ∙ (λ i. exchange_of (s.is i) (d.is i)) ∙ (λ i. record {
            t1 = moment (origin i) 0;
            t2 = own.timed i;
            t3 = pair.left i;
            t4 = moment (pair.received i) 0;
            sync_correction = (own.is i).header.correction.0;
            follow_correction = pos 0;
            response_correction = pair.correction i;
            sync_number = record { 0 = (own.is i).header.sequence.0 };
            request_number = record { 0 = pair.numbered i };
          }) in
          record {
            sync = own.reading;
            sync_told = subst (λ (p : PortIdentity). TellsRecord w ds watched (record { master = p; reading = Sync own.reading })) of_master
                (tells own.header (record { master = own.master; reading = Sync own.reading }) own.told own_slave in_domain);
            response = pair.response;
            response_told = pair.response_told;
            master = pair.master;
            request = pair.request;
            request_told = pair.request_told;
            number = pair.number;
            one = pair.one;
            exchange = there ∙ ap Some whole;
            results = subst (λ (x : LastExchange). IsReportOf x m.report) whole report;
          }

  of_measured : (earlier : List Row) (row : Row) (m : Measured)
      → Step watched kinds (AreOfOne w ds slave) (joins w ds slave) (are_messages w ds slave) (datagrams earlier) row.datagram
      → measured_at watched earlier row ≡ Some m → IsOfRecords w ds watched m
  of_measured earlier row m step is =
      let its = each_is_of_its_exchange watched earlier row m is in
      of_records earlier row m its.0 step its.1 its.2 (sym (same (report_at watched (datagrams earlier) row.datagram) is) ∙ its.1)
    where
      same : (report : Option Report) → option_map (made_with watched earlier row) report ≡ Some m
          → m.exchange ≡ exchange_at watched (datagrams earlier) row.datagram
      same None is = cc
      same (Some report) is = let one : made_with watched earlier row report ≡ m = cc in ap (λ (m : Measured). m.exchange) (sym one)

  one_more : (o : Option Measured) (ms : List Measured) → ((m : Measured) → o ≡ Some m → IsOfRecords w ds watched m)
      → All (IsOfRecords w ds watched) ms → All (IsOfRecords w ds watched) (option_to_list o ++ ms)
  one_more None ms each all = all
  one_more (Some m) ms each all = All-cons (IsOfRecords w ds watched) m ms (each m refl) all

  all_of : (rows : List Row)
      → EachStep watched kinds (AreOfOne w ds slave) (joins w ds slave) (are_messages w ds slave) (datagrams rows)
      → All (IsOfRecords w ds watched) (measurements watched rows)
  all_of [] steps = All-nil (IsOfRecords w ds watched)
  all_of (row ∷ rows) steps = one_more (measured_at watched rows row) (measurements watched rows)
      (λ m is. of_measured rows row m steps.0 is) (all_of rows steps.1)

pub each_own : EachOwnReportIsOfItsRecords
each_own form w ds r watched is own known =
    let stands = read_stands form w is in
    subst (All (IsOfRecords w ds watched)) (sym (so_far stands.wanted)) (by (own_of w ds r.by r.rows stands.rows own))
  where
    so_far : r.wanted ≡ w → measured_so_far r ≡ measurements watched (heard_at w r.rows)
    so_far same =
        ap (λ (w : WantedPorts). option_map_or (λ v. measurements v (heard_at w r.rows)) (input_watched w r.rows) []) same
        ∙ ap (λ (o : Option Watched). option_map_or (λ v. measurements v (heard_at w r.rows)) o []) known

    by : (r.rows ≡ []) ⊎ ((slave : PortIdentity) × AreOwnRows w ds slave r.rows) → All (IsOfRecords w ds watched) (measurements watched (heard_at w r.rows))
    by (inl none) = subst (λ rows. All (IsOfRecords w ds watched) (measurements watched (heard_at w rows))) (sym none)
        (All-nil (IsOfRecords w ds watched))
    by (inr (slave, rows)) = all_of w ds watched slave (heard_at w r.rows)
        (each_step watched (own_kinds w ds slave) (AreOfOne w ds slave) (joins w ds slave) (are_messages w ds slave)
        (are_heard watched w ds slave rows)).0
