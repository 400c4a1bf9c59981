-- A datagram that tells an event: what holds of the listening port holds after it, and what it reports then is made of
-- events that lines tell.
use Rattle.std.proofs.Common.{◌≡◌, ◌∙◌, ℕ, ◌+◌, ◌<◌, ◌≤◌, true, false, List, ◌∷◌, Some, None, Ok, refl, sym, ap, subst}
use Rattle.std.proofs.Common.{ℤ, arith, Bool, option_and_then, if◌then◌else◌}
use Rattle.std.specs.Prelude.{◌==◌, count_by, IfSome, IsTrue, Option, option_map}
use Rattle.std.specs.Option.{option_map_or, option_or}
use Rattle.std.specs.Result.{result_ok}
use Rattle.std.proofs.lemmas.Bool.{and_from, eq-eqb}
use Rattle.ptp_units.specs.Moment.{Stamp, stamp}
use Rattle.ptp_units.specs.Sequence.{of_count, next}
use Rattle.event_codec.specs.declared.message.Body.{Body}
use Rattle.event_codec.specs.declared.message.Body.TheVariants as bodies
use Rattle.event_codec.specs.declared.port.PortIdentity.{PortIdentity}
use Rattle.event_codec.specs.Packet.{Contents}
use Rattle.event_codec.specs.Port.{is_same_port}
use Rattle.event_codec.specs.Reading.{Reading}
use Rattle.slave_port.specs.declared.heard.Heard.{Heard}
use Rattle.slave_port.specs.declared.heard.Heard.TheVariants as answers
use Rattle.slave_port.specs.declared.heard.Report.{Report}
use Rattle.slave_port.specs.History as calls
use Rattle.slave_port.specs.History.{Call, next_number}
use Rattle.slave_port.specs.Written.{delay_req}
use Rattle.network_model.specs.declared.event.Event.{Event}
use Rattle.network_model.specs.declared.event.Event.TheVariants.{Arrive, Hear, Request}
use Rattle.network_model.specs.Network.{Network, NodeName, PortSetup, IsNetwork, is_named}
use Rattle.network_model.specs.Run.{Run, Place, place}
use Rattle.network_model.specs.Kinds.{is_at, draws_sync, is_request, heard_copy}
use Rattle.network_model.specs.Clock.{reading}
use Rattle.network_model.specs.Numbering.{number_of, drawn_later}
use Rattle.network_model.specs.Truth.{slave_at, copy_of, origin_heard}
use Rattle.network_model.specs.Outcome.{IsRun}
use Rattle.network_model.specs.Premises.{is_of_use}
use Rattle.network_model.proofs.Sequences.{count-yes, count-no}
use Rattle.network_model.proofs.Sites.{named-self}
use Rattle.network_model.proofs.Reach.{draws_with-request}
use Rattle.network_model.proofs.Hearing.{used_of_use}
use Rattle.recording_model.specs.declared.watched.Watched.{Watched}
use Rattle.recording_model.specs.Recorded.{Recorded}
use Rattle.recording_model.specs.Listening.{Listening, setup_in, is_of, hears, hear, hears_ready, hears_request, told}
use Rattle.recording_model.specs.Listening.{ready_sync, ready_follow_up, ready_response, after_all, answer_in}
use Rattle.recording_model.specs.Listening.{answered, answered_to, report_in, is_used, report_at}
use Rattle.recording_model.specs.Agreement.{Moved, moved_at}
use Rattle.recording_model.specs.Told.{IsToldBy, own_request, last_request, IsTimed}
use Rattle.recording_model.specs.Premises.{ticks_in}
use Rattle.recording_model.specs.Exact.{Watches}
use Rattle.recording_model.proofs.Lines.{Lines, Extends, AreIn}
use Rattle.recording_model.proofs.Agreeing.{tells_sync, tells_request, tells_follow_up, tells_response}
use Rattle.recording_model.proofs.Near.{Reach}
use Rattle.recording_model.proofs.ToldEvents as events
use Rattle.recording_model.proofs.ToldEvents.{IsTold, IsGeneral, told_is}
use Rattle.recording_model.proofs.Holding.{Holds, holds-later}
use Rattle.recording_model.proofs.Messages.{IsFreshUse, arrived, heard}
use Rattle.recording_model.proofs.Standing.{Stands, StandsAfter, IsReady, since_tick, since-no_tick, since-low}
use Rattle.recording_model.proofs.Standing.{sync-ready, follow_up-ready, response-ready, heard-stands, heard-asked}
use Rattle.recording_model.proofs.Standing.{told-event, told-general, asked-stands}
use Rattle.recording_model.proofs.Reported.{IsMadeOf, made_of}

-- how far behind what is held may be
abbrev pub within : Reach
within = record { late = 32768; between = 16384 }

-- a port is of one identity
pub same_identity : (identity : PortIdentity) → is_same_port identity identity ≡ true
same_identity identity =
    and_from (is_named identity.clock identity.clock) (identity.port == identity.port) (named-self identity.clock)
    (eq-eqb identity.port identity.port refl)

-- an answer that is a report
pub report-in : (heard : Heard) (report : Report) → report_in heard ≡ Some report → heard ≡ answers.Report report
report-in (answers.Report given) report is = let same : given ≡ report = cc in ap (λ (r : Report). answers.Report r)
    same
report-in _ report is = cc

module _ (network : Network) (slave master : NodeName) (moved : Moved) (w : Watched) (apart : IsNetwork network)
    (watches : Watches network slave master w) where
  -- how many Syncs the master drew, and how many requests the slave
  abbrev pub syncs_in : Run → ℕ
  syncs_in run = count_by (is_at draws_sync master) run

  abbrev pub sent_in : Run → ℕ
  sent_in run = count_by (is_at is_request slave) run

  -- the number of the last Delay_Req that datagrams say is the last one that the port knows of
  abbrev pub FollowsLast : List Recorded → (known : ℕ) → Listening → Type 0
  FollowsLast ds known l =
      (n : ℕ) → last_request w ds ≡ Some n
      → (l.asked ≡ true) × (n < 65536) × (next n ≡ of_count (watches.own.first + known))

  -- over a datagram that tells an event: what holds of the port, how many requests of the slave it knows of and how
  -- many are missing, and what a report is made of
  pub record IsStep (lines : Lines) (event : Event) (earlier : Run) (missing slack : ℕ) (ds : List Recorded)
      (d : Recorded) : Type 0 where
    pub known : ℕ
    pub counted : known + (if is_request event then 0 else missing) ≡ sent_in (event ∷ earlier)
    pub stands : Stands network slave master moved w watches within lines (syncs_in (event ∷ earlier)) known
        (since_tick (ticks_in (after_all w ds)) slack (hear w d (after_all w ds))) (hear w d (after_all w ds))
    pub last : FollowsLast (d ∷ ds) known (hear w d (after_all w ds))
    pub reported : (report : Report) → report_at w ds d ≡ Some report → IsMadeOf lines slave master report

  module _ (event : Event) (earlier : Run) (d : Recorded) (ds : List Recorded)
      (accepted : IsRun network (event ∷ earlier))
      (lines more : Lines) (extends : Extends lines more) (inside : AreIn more (event ∷ earlier))
      (now : more d.line ≡ Some (place event earlier))
      (one : IsToldBy network slave moved event earlier d) (slack : ℕ) (few : slack ≤ 16384)
      (known missing : ℕ) (few_missing : missing < 32768)
      (counted : known + missing ≡ sent_in earlier)
      (before : Stands network slave master moved w watches within lines (syncs_in earlier) known slack (after_all w ds))
      (last_before : FollowsLast ds known (after_all w ds))
      (fresh : IsTrue (is_used w ds d) → IfSome (origin_heard (place event earlier))
      (λ origin. drawn_later origin earlier < 32768)) where
    -- what held before, with the lines of now
    lifted : is_at draws_sync master event ≡ false
        → Stands network slave master moved w watches within more (syncs_in (event ∷ earlier)) known slack (after_all w ds)
    lifted none = record {
      holds = holds-later network slave master moved watches.own watches.other w.master within lines more (syncs_in earlier)
          (syncs_in (event ∷ earlier)) known known
          slack slack (setup_in w (after_all w ds)) (after_all w ds).calls extends
          (omega (arith, count-no (is_at draws_sync master) event earlier none))
          (omega arith) before.holds;
      next = before.next;
      none = before.none;
    }

    -- what a port answers that is ready to hear a message
    module _ (call : Call) (ready : Listening)
        (answer_is : answered_to w d (after_all w ds) ≡ Some (answer_in w ready call)) where
      -- what is used is fresh
      fresh_use : IsFreshUse (setup_in w ready) ready.calls 32768 (place event earlier) call
      fresh_use uses origin is =
          let of_use : is_used w ds d ≡ true =
          ap (λ (h : Option Heard). option_map_or is_of_use h false) answer_is
          ∙ ap is_of_use uses ∙ used_of_use (setup_in w ready) ready.calls call in
          subst (λ (o : Option Place). IfSome o (λ origin. drawn_later origin earlier < 32768)) is (fresh of_use)

      -- a report that is answered is made of events that lines tell
      reported_by : (syncs sent since : ℕ)
          → Holds network slave master moved watches.own watches.other w.master within more syncs sent since
          (setup_in w ready) (call ∷ ready.calls)
          → (report : Report) → report_at w ds d ≡ Some report → IsMadeOf more slave master report
      reported_by syncs sent since holds report is =
          made_of network slave master moved watches.own watches.other w.master within more syncs sent since
          (setup_in w ready) ready.calls call report holds
          (report-in (answer_in w ready call) report (sym (ap (option_and_then report_in) answer_is) ∙ is))

    -- what is heard of a message
    hears_it : (body : Body) → one.said.body ≡ body
        → hear w d (after_all w ds) ≡ hears w d.line d.time one.said body (after_all w ds)
    hears_it body is =
        ap (λ (r : Reading). option_map_or (λ m. hears w d.line d.time m m.body (after_all w ds)) (result_ok r)
        (after_all w ds)) one.says
        ∙ ap (λ (b : Body). hears w d.line d.time one.said b (after_all w ds)) is

    answers_it : (body : Body) → one.said.body ≡ body
        → answered_to w d (after_all w ds) ≡ answered w d.line d.time one.said body (after_all w ds)
    answers_it body is =
        ap (λ (r : Reading). option_and_then (λ m. answered w d.line d.time m m.body (after_all w ds)) (result_ok r))
        one.says
        ∙ ap (λ (b : Body). answered w d.line d.time one.said b (after_all w ds)) is

    -- no more requests are missing where the event is none
    still_counted : is_request event ≡ false → is_at is_request slave event ≡ false
        → known + (if is_request event then 0 else missing) ≡ sent_in (event ∷ earlier)
    still_counted none asks_none =
        ap (λ (b : Bool). known + (if b then 0 else missing)) none ∙ counted
        ∙ sym (count-no (is_at is_request slave) event earlier asks_none)

    -- what is no Delay_Req leaves the last one as it was
    still_last : (body : Body) → one.said.body ≡ body → own_request w one.said.header body ≡ None → (after : Listening)
        → after.asked ≡ (after_all w ds).asked → hear w d (after_all w ds) ≡ after
        → FollowsLast (d ∷ ds) known (hear w d (after_all w ds))
    still_last body is none after same heard_is n last =
        let own : option_and_then (λ m. own_request w m.header m.body) (result_ok d.said) ≡ None =
        ap (λ (r : Reading). option_and_then (λ m. own_request w m.header m.body) (result_ok r)) one.says
        ∙ ap (own_request w one.said.header) is ∙ none in
        let before = last_before n (sym (ap (λ (o : Option ℕ). option_or o (last_request w ds)) own)
        ∙ last) in
        (ap (λ (l : Listening). l.asked) heard_is ∙ same ∙ before.0, before.1, before.2)

    -- a message that a port hears, where one is ready
    message_step : (body : Body) (counts : Bool) (call : Call) (ready : Option Listening) → one.said.body ≡ body
        → own_request w one.said.header body ≡ None
        → is_at is_request slave event ≡ false → is_request event ≡ false → is_at draws_sync master event ≡ false
        → hear w d (after_all w ds) ≡ hears_ready counts call ready (after_all w ds)
        → answered_to w d (after_all w ds) ≡ option_map (λ l. answer_in w l call) ready
        → ((l : Listening) → ready ≡ Some l
        → IsReady network slave master moved w watches within more (syncs_in (event ∷ earlier)) known slack (after_all w ds) l)
        → ((l : Listening) → answered_to w d (after_all w ds) ≡ Some (answer_in w l call)
        → Holds network slave master moved watches.own watches.other w.master within more (syncs_in (event ∷ earlier)) known
        (since_tick (ticks_in (after_all w ds)) slack l) (setup_in w l) l.calls
        → Holds network slave master moved watches.own watches.other w.master within more (syncs_in (event ∷ earlier)) known
        (since_tick (ticks_in (after_all w ds)) slack l) (setup_in w l) (call ∷ l.calls))
        → ((l : Listening)
        → Holds network slave master moved watches.own watches.other w.master within more (syncs_in (event ∷ earlier)) known
        (since_tick (ticks_in (after_all w ds)) slack l) (setup_in w l) (call ∷ l.calls)
        → StandsAfter network slave master moved w watches within more (ticks_in (after_all w ds)) (syncs_in (event ∷ earlier))
        known slack l
        → StandsAfter network slave master moved w watches within more (ticks_in (after_all w ds)) (syncs_in (event ∷ earlier))
        known slack (told call l))
        → IsStep more event earlier missing slack ds d
    message_step body counts call None body_is no_request asks_none no_asking draws_none heard_is answer_is is_ready
        hears tells = record {
          known = known;
          counted = still_counted no_asking asks_none;
          stands = subst (λ (after : Listening). Stands network slave master moved w watches within more
              (syncs_in (event ∷ earlier)) known (since_tick (ticks_in (after_all w ds)) slack after) after)
              (sym heard_is)
              (subst (λ (s : ℕ). Stands network slave master moved w watches within more (syncs_in (event ∷ earlier)) known s
              (after_all w ds)) (sym (since-no_tick (ticks_in (after_all w ds)) slack (after_all w ds) refl))
              (lifted draws_none));
          last = still_last body body_is no_request (after_all w ds) refl heard_is;
          reported = λ report is.
              let none : report_at w ds d ≡ None = ap (option_and_then report_in) answer_is in
              let same : Some report ≡ None = sym is ∙ none in cc;
        }
    message_step body counts call (Some ready) body_is no_request asks_none no_asking draws_none heard_is answer_is
        is_ready hears tells =
        let l : Listening = after_all w ds in
        let syncs : ℕ = syncs_in (event ∷ earlier) in
        let readied = is_ready ready refl in
        let holds = hears ready answer_is readied.after.stands.holds in
        record {
          known = known;
          counted = still_counted no_asking asks_none;
          stands = subst (λ (after : Listening). Stands network slave master moved w watches within more syncs known
              (since_tick (ticks_in l) slack after) after)
              (sym heard_is)
              (heard-stands network slave master moved w watches within more (ticks_in l) syncs known slack few counts call
              ready l (tells ready holds readied.after)).stands;
          last = still_last body body_is no_request (hears_ready counts call (Some ready) l)
              (heard-asked network slave master moved w watches within more counts call ready l ∙ readied.asked) heard_is;
          reported = reported_by call ready answer_is syncs known (since_tick (ticks_in l) slack ready) holds;
        }

    -- so many are few
    few_since : (l : Listening) → 32768 + 16384 + since_tick (ticks_in (after_all w ds)) slack l ≤ 65536
    few_since l = omega (arith, since-low (ticks_in (after_all w ds)) slack l)

    -- a Sync
    sync_step : (copy moment : ℕ) (origin : Stamp) → event ≡ Arrive slave copy moment
        → copy_of network earlier copy ≡ Some one.m → one.m.body ≡ bodies.Sync origin
        → IsStep more event earlier missing slack ds d
    sync_step copy moment origin event_is copy_is body =
        let l : Listening = after_all w ds in
        let syncs : ℕ = syncs_in (event ∷ earlier) in
        let draws_none : is_at draws_sync master event ≡ false = ap (is_at draws_sync master) event_is in
        let asks_none : is_at is_request slave event ≡ false = ap (is_at is_request slave) event_is in
        let call : Call = calls.Event (Ok one.said) d.time d.line in
        let time : d.time ≡ reading (place event earlier) =
        subst (λ (e : Event). IsTimed e earlier d.time) event_is one.timed
        ∙ ap (λ (e : Event). reading (place e earlier)) (sym event_is) in
        let read = tells_sync (moved_at moved (place event earlier)) one.m one.said one.agrees origin body in
        message_step (bodies.Sync read.0) (is_of w w.master one.said.header) call
        (ready_sync w d.line d.time one.said l) read.1 refl
        asks_none (ap is_request event_is) draws_none (hears_it (bodies.Sync read.0) read.1)
        (answers_it (bodies.Sync read.0) read.1)
        (sync-ready network slave master moved w watches within more syncs known slack l (lifted draws_none) d.line
        d.time one.said)
        (λ ready answer_is holds.
        subst (λ (t : ℕ). Holds network slave master moved watches.own watches.other w.master within more syncs known
        (since_tick (ticks_in l) slack ready) (setup_in w ready) (calls.Event (Ok one.said) t d.line ∷ ready.calls))
        (sym time)
        (arrived network slave master moved w apart watches within event earlier accepted more inside d.line now syncs
        known (since_tick (ticks_in l) slack ready) (count-no (is_at draws_sync master) event earlier draws_none) refl
        (setup_in w ready) refl
        (omega (arith, counted, count-no (is_at is_request slave) event earlier asks_none)) ready.calls holds
        (few_since ready) one.m one.said one.agrees copy (ap heard_copy event_is) copy_is moment event_is
        (subst (λ (t : ℕ). IsFreshUse (setup_in w ready) ready.calls 32768 (place event earlier)
        (calls.Event (Ok one.said) t d.line)) time (fresh_use call ready answer_is))))
        (λ ready holds after.
        told-event network slave master moved w watches within more (ticks_in l) syncs known slack ready (Ok one.said)
        d.time d.line holds after)

    -- a Follow_Up or a Delay_Resp
    general_step : (copy : ℕ) (body : Body) (ready : Option Listening) → one.said.body ≡ body
        → own_request w one.said.header body ≡ None
        → event ≡ Hear slave copy → copy_of network earlier copy ≡ Some one.m
        → hear w d (after_all w ds) ≡ hears_ready false (calls.General (Ok one.said) d.line) ready (after_all w ds)
        → answered_to w d (after_all w ds) ≡ option_map (λ l. answer_in w l (calls.General (Ok one.said) d.line)) ready
        → (Stands network slave master moved w watches within more (syncs_in (event ∷ earlier)) known slack (after_all w ds)
        → (l : Listening) → ready ≡ Some l
        → IsReady network slave master moved w watches within more (syncs_in (event ∷ earlier)) known slack (after_all w ds) l)
        → IsStep more event earlier missing slack ds d
    general_step copy body ready body_is no_request event_is copy_is heard_is answer_is is_ready =
        let l : Listening = after_all w ds in
        let syncs : ℕ = syncs_in (event ∷ earlier) in
        let draws_none : is_at draws_sync master event ≡ false = ap (is_at draws_sync master) event_is in
        let asks_none : is_at is_request slave event ≡ false = ap (is_at is_request slave) event_is in
        let call : Call = calls.General (Ok one.said) d.line in
        message_step body false call ready body_is no_request asks_none (ap is_request event_is) draws_none heard_is
        answer_is (is_ready (lifted draws_none))
        (λ ready answer_is holds.
        heard network slave master moved w apart watches within event earlier accepted more inside d.line now syncs known
        (since_tick (ticks_in l) slack ready) (count-no (is_at draws_sync master) event earlier draws_none) refl
        (setup_in w ready) refl
        (omega (arith, counted, count-no (is_at is_request slave) event earlier asks_none)) ready.calls holds
        (few_since ready) one.m one.said one.agrees copy (ap heard_copy event_is) copy_is event_is
        (fresh_use call ready answer_is))
        (λ ready holds after.
        told-general network slave master moved w watches within more (ticks_in l) syncs known slack ready (Ok one.said)
        d.line
        holds after)

    -- a Delay_Req
    request_step : (moment : ℕ) (port : PortSetup) → event ≡ Request slave moment → slave_at network slave ≡ Some port
        → one.m ≡ delay_req port.config (of_count (number_of port (place event earlier)))
        → IsStep more event earlier missing slack ds d
    request_step moment port event_is port_is m_is =
        let l : Listening = after_all w ds in
        let syncs : ℕ = syncs_in (event ∷ earlier) in
        let ports : Some port ≡ Some watches.own = sym port_is ∙ watches.slave_port in
        let own : port ≡ watches.own = cc in
        let asks : is_at is_request slave event ≡ true = ap (is_at is_request slave) event_is ∙ named-self slave in
        let heard : Contents = one.said in
        let number : ℕ = heard.header.sequence.0 in
        let drawn_is : Contents = delay_req port.config (of_count (number_of port (place event earlier))) in
        let number_is : number ≡ of_count (watches.own.first + sent_in earlier) =
        one.agrees.number ∙ ap (λ (m : Contents). m.header.sequence.0) m_is
        ∙ ap (λ (o : PortSetup). of_count (number_of o (place event earlier))) own
        ∙ ap (λ (kind : Event → Bool). of_count (watches.own.first + count_by kind earlier))
        (draws_with-request slave event asks) in
        let time : d.time ≡ reading (place event earlier) =
        subst (λ (e : Event). IsTimed e earlier d.time) event_is one.timed
        ∙ ap (λ (e : Event). reading (place e earlier)) (sym event_is) in
        let read = tells_request (moved_at moved (place event earlier)) one.m heard one.agrees (stamp 0 0)
        (ap (λ (m : Contents). m.body) m_is) in
        let body : Body = bodies.DelayReq read.0 in
        let identity : heard.header.source ≡ w.slave =
        one.agrees.source ∙ ap (λ (m : Contents). m.header.source) m_is
        ∙ ap (λ (o : PortSetup). o.config.identity) own ∙ sym watches.slave_is in
        let domain : heard.header.domain ≡ w.domain =
        one.agrees.domain ∙ ap (λ (m : Contents). m.header.domain) m_is
        ∙ ap (λ (o : PortSetup). o.config.domain) own ∙ sym watches.domain_is in
        let of_slave : is_of w w.slave heard.header ≡ true =
        and_from (heard.header.domain == w.domain) (is_same_port heard.header.source w.slave)
        (eq-eqb heard.header.domain w.domain domain)
        (ap (λ (i : PortIdentity). is_same_port i w.slave) identity ∙ same_identity w.slave) in
        let heard_is : hear w d l ≡ hears_request w d.line d.time number l =
        hears_it body read.1 ∙ ap (λ (b : Bool). if b then hears_request w d.line d.time number l else l) of_slave in
        let none : report_at w ds d ≡ None = ap (option_and_then report_in) (answers_it body read.1) in
        let own_number : option_and_then (λ m. own_request w m.header m.body) (result_ok d.said) ≡ Some number =
        ap (λ (r : Reading). option_and_then (λ m. own_request w m.header m.body) (result_ok r)) one.says
        ∙ ap (own_request w heard.header) read.1 ∙ ap (λ (b : Bool). if b then Some number else None) of_slave in
        let asked = asked-stands network slave master moved w watches within more syncs (place event earlier) d.line
        d.time number
        now asks number_is time known missing slack l (lifted (ap (is_at draws_sync master) event_is)) counted
        few_missing in
        record {
          known = sent_in earlier + 1;
          counted = ap (λ (b : Bool). sent_in earlier + 1 + (if b then 0 else missing)) (ap is_request event_is)
              ∙ omega (arith, count-yes (is_at is_request slave) event earlier asks);
          stands = subst (λ (after : Listening). Stands network slave master moved w watches within more syncs
              (sent_in earlier + 1) (since_tick (ticks_in l) slack after) after)
              (sym heard_is)
              asked.0;
          last = λ n last.
              let same : Some number ≡ Some n =
              sym (ap (λ (o : Option ℕ). option_or o (last_request w ds)) own_number) ∙ last in
              let same_number : number ≡ n = cc in (
                ap (λ (l : Listening). l.asked) heard_is ∙ asked.1,
                omega (arith, same_number, number_is),
                omega (arith, same_number, number_is),
              );
          reported = λ report is. let same : Some report ≡ None = sym is ∙ none in cc;
        }

    -- each of them
    pub step : IsStep more event earlier missing slack ds d
    step = by (told_is network slave earlier one.m event one.made)
      where
        amount : ℤ
        amount = moved_at moved (place event earlier)

        general : (copy : ℕ) → event ≡ Hear slave copy → copy_of network earlier copy ≡ Some one.m
            → IsGeneral one.m.body → IsStep more event earlier missing slack ds d
        general copy event_is copy_is (events.FollowUp precise body) =
            let read = tells_follow_up amount one.m one.said one.agrees precise body in
            general_step copy (bodies.FollowUp precise) (ready_follow_up w d.time one.said (after_all w ds)) read refl
            event_is copy_is (hears_it (bodies.FollowUp precise) read) (answers_it (bodies.FollowUp precise) read)
            (λ stands. follow_up-ready network slave master moved w watches within more (syncs_in (event ∷ earlier))
            known slack (after_all w ds) stands d.time one.said)
        general copy event_is copy_is (events.DelayResp receive requesting body) =
            let read = tells_response amount one.m one.said one.agrees receive requesting body in
            general_step copy (bodies.DelayResp receive requesting)
            (ready_response w d.time one.said requesting (after_all w ds)) read refl event_is copy_is
            (hears_it (bodies.DelayResp receive requesting) read)
            (answers_it (bodies.DelayResp receive requesting) read)
            (λ stands. response-ready network slave master moved w watches within more (syncs_in (event ∷ earlier))
            known slack (after_all w ds) stands d.time one.said requesting)

        by : IsTold network slave event earlier one.m → IsStep more event earlier missing slack ds d
        by (events.Arrived copy moment origin event_is copy_is body) = sync_step copy moment origin event_is copy_is
            body
        by (events.Heard copy event_is copy_is body) = general copy event_is copy_is body
        by (events.Asked moment port event_is port_is m_is) = request_step moment port event_is port_is m_is
