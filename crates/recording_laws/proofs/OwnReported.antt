-- A one-step Sync or a Delay_Resp that a port uses brings a report, where one of the other kind stands in front.
use Rattle.std.proofs.Common.{◌≡◌, ◌∙◌, ℕ, ◌+◌, ◌<◌, Bool, true, false, true≢false, List, [], ◌∷◌, ◌++◌, Option, Some, None, Ok, refl, sym, ap, subst, arith}
use Rattle.std.specs.Prelude.{◌&&◌, ◌==◌, count_by, is_none, option_to_list, if◌then◌else◌, option_map, option_and_then}
use Rattle.std.specs.Option.{option_map_or}
use Rattle.std.specs.Result.{result_ok}
use Rattle.std.proofs.lemmas.List.{map-append}
use Rattle.std.proofs.lemmas.List.Sums.{sum_by-cons}
use Rattle.event_codec.specs.declared.message.Body.{Body}
use Rattle.event_codec.specs.declared.message.Body.TheVariants as bodies
use Rattle.event_codec.specs.Reading.{Reading}
use Rattle.slave_port.specs.declared.heard.Heard.{Heard}
use Rattle.slave_port.specs.declared.heard.Heard.TheVariants as answers
use Rattle.slave_port.specs.declared.heard.Report.{Report}
use Rattle.slave_port.specs.Answer.{answer, completed, report_of}
use Rattle.slave_port.specs.Completion.{SyncCompletion, DelayCompletion}
use Rattle.slave_port.specs.History as calls
use Rattle.slave_port.specs.History.{Call, Setup}
use Rattle.slave_port.specs.Kept.{delay_completion, delay_completions, kept, last_delay_completion, last_sync_completion, sync_completion}
use Rattle.slave_port.specs.Window.{Window, after, last}
use Rattle.slave_port.proofs.Uses.{delay_completion_of, sync_completion_of}
use Rattle.network_model.specs.Premises.{is_of_use}
use Rattle.recording_model.specs.declared.watched.Watched.{Watched}
use Rattle.recording_model.specs.Finds.{EachAfter, is_master_sync, says}
use Rattle.recording_model.specs.Listening.{Listening, after_all, answer_in, answered, answered_to, hears, hears_ready, is_of, is_used}
use Rattle.recording_model.specs.Listening.{ready_response, ready_sync, report_at, report_in, setup_in, ticks_every}
use Rattle.recording_model.specs.Recorded.{Recorded}
use Rattle.recording_measure.specs.Row.{Row, datagrams}
use Rattle.recording_laws.specs.OwnReported.{EachUsedRecordIsReported, IsDelayResp, IsMeasuredAt, IsOneStepSync, begins_at, begins_by}
use Rattle.recording_laws.proofs.Exchanged.{made_with}
use Rattle.recording_laws.proofs.OwnUsed.{response_completes, sync_completes}
use Rattle.recording_laws.proofs.OwnWindow.{Before, In, IsThere, There, Since, hear_in, holds-event, holds-general, holds-last, ready_sync_in, response_in}

-- the windows of the completions of both kinds
abbrev sync_window : Setup → List Call → Window SyncCompletion
sync_window setup history = (kept setup history).completions

abbrev SyncIn : Watched → (most : ℕ) → Listening → Type 0
SyncIn w = In sync_window sync_completion (λ setup call earlier. refl) w

abbrev DelayIn : Watched → (most : ℕ) → Listening → Type 0
DelayIn w = In delay_completions delay_completion (λ setup call earlier. refl) w

module _ (w : Watched) where
  -- ---- a message that is used
  -- the port that hears it, and what it answers
  record IsHeard (ds : List Recorded) (d : Recorded) (call : Call) (ready : Option Listening) : Type 0 where
    r : Listening
    ready_is : ready ≡ Some r
    useful : is_of_use (answer (setup_in w r) r.calls call) ≡ true
    answers : answered_to w d (after_all w ds) ≡ Some (answer_in w r call)

  heard_by : (ds : List Recorded) (d : Recorded) (call : Call) (ready : Option Listening) → is_used w ds d ≡ true
      → answered_to w d (after_all w ds) ≡ option_map (λ l. answer_in w l call) ready → IsHeard ds d call ready
  heard_by ds d call None used is = absurd (true≢false (sym used ∙ ap (λ (o : Option Heard). option_map_or is_of_use o false) is))
  heard_by ds d call (Some r) used is = record {
    r = r;
    ready_is = refl;
    useful = sym (ap (λ (o : Option Heard). option_map_or is_of_use o false) is) ∙ used;
    answers = is;
  }

  heard_sync : (ds : List Recorded) (d : Recorded) (is : IsOneStepSync d) → is_used w ds d ≡ true
      → IsHeard ds d (calls.Event (Ok is.m) d.time d.line) (ready_sync w d.line d.time is.m (after_all w ds))
  heard_sync ds d is used = heard_by ds d (calls.Event (Ok is.m) d.time d.line) (ready_sync w d.line d.time is.m (after_all w ds)) used
      (ap (λ (s : Reading). option_and_then (λ m. answered w d.line d.time m m.body (after_all w ds)) (result_ok s)) is.said
      ∙ ap (λ (b : Body). answered w d.line d.time is.m b (after_all w ds)) is.body)

  heard_response : (ds : List Recorded) (d : Recorded) (is : IsDelayResp d) → is_used w ds d ≡ true
      → IsHeard ds d (calls.General (Ok is.m) d.line) (ready_response w d.time is.m is.requesting (after_all w ds))
  heard_response ds d is used = heard_by ds d (calls.General (Ok is.m) d.line) (ready_response w d.time is.m is.requesting (after_all w ds)) used
      (ap (λ (s : Reading). option_and_then (λ m. answered w d.line d.time m m.body (after_all w ds)) (result_ok s)) is.said
      ∙ ap (λ (b : Body). answered w d.line d.time is.m b (after_all w ds)) is.body)

  -- ---- what it leaves
  sync_left : (ds : List Recorded) (d : Recorded) → IsOneStepSync d → is_used w ds d ≡ true → SyncIn w 0 (after_all w (d ∷ ds))
  sync_left ds d is used =
      let heard = heard_sync ds d is used in
      let c = sync_completes (setup_in w heard.r) heard.r.calls is.m d.time d.line is.origin is.body is.one_step heard.useful in
      subst (λ (s : Reading). SyncIn w 0 (option_map_or (λ m. hears w d.line d.time m m.body (after_all w ds)) (result_ok s) (after_all w ds)))
      (sym is.said)
      (subst (λ (b : Body). SyncIn w 0 (hears w d.line d.time is.m b (after_all w ds))) (sym is.body)
      (subst (λ (o : Option Listening). SyncIn w 0 (hears_ready (is_of w w.master is.m.header) (calls.Event (Ok is.m) d.time d.line) o (after_all w ds)))
      (sym heard.ready_is) (by (is_of w w.master is.m.header) heard.r c.0 c.1)))
    where
      there : (r : Listening) (c : SyncCompletion)
          → sync_completion (setup_in w r) r.calls (calls.Event (Ok is.m) d.time d.line) ≡ Some c
          → IsThere (sync_window (setup_in w r) (calls.Event (Ok is.m) d.time d.line ∷ r.calls)).since
      there r c completes = subst (λ (o : Option SyncCompletion). IsThere (option_to_list o ++ (sync_window (setup_in w r) r.calls).since))
          (sym completes) (There c (sync_window (setup_in w r) r.calls).since)

      by : (of_master : Bool) (r : Listening) (c : SyncCompletion)
          → sync_completion (setup_in w r) r.calls (calls.Event (Ok is.m) d.time d.line) ≡ Some c
          → SyncIn w 0 (hears_ready of_master (calls.Event (Ok is.m) d.time d.line) (Some r) (after_all w ds))
      by false r c completes = Since (there r c completes)
      by true r c completes = counted (r.syncs + 1 == ticks_every) (there r c completes)
        where
          counted : (full : Bool) → IsThere (sync_window (setup_in w r) (calls.Event (Ok is.m) d.time d.line ∷ r.calls)).since
              → SyncIn w 0 (if full then record r { calls = calls.Tick ∷ calls.Event (Ok is.m) d.time d.line ∷ r.calls; syncs = 0 }
              else record r { calls = calls.Event (Ok is.m) d.time d.line ∷ r.calls; syncs = r.syncs + 1 })
          counted true there = Before there (omega arith)
          counted false there = Since there

  response_left : (ds : List Recorded) (d : Recorded) → IsDelayResp d → is_used w ds d ≡ true → DelayIn w 0 (after_all w (d ∷ ds))
  response_left ds d is used =
      let heard = heard_response ds d is used in
      let c = response_completes (setup_in w heard.r) heard.r.calls is.m d.line is.receive is.requesting is.body heard.useful in
      subst (λ (s : Reading). DelayIn w 0 (option_map_or (λ m. hears w d.line d.time m m.body (after_all w ds)) (result_ok s) (after_all w ds)))
      (sym is.said)
      (subst (λ (b : Body). DelayIn w 0 (hears w d.line d.time is.m b (after_all w ds))) (sym is.body)
      (subst (λ (o : Option Listening). DelayIn w 0 (hears_ready false (calls.General (Ok is.m) d.line) o (after_all w ds)))
      (sym heard.ready_is) (Since (there heard.r c.0 c.1))))
    where
      there : (r : Listening) (c : DelayCompletion) → delay_completion (setup_in w r) r.calls (calls.General (Ok is.m) d.line) ≡ Some c
          → IsThere (delay_completions (setup_in w r) (calls.General (Ok is.m) d.line ∷ r.calls)).since
      there r c completes = subst (λ (o : Option DelayCompletion). IsThere (option_to_list o ++ (delay_completions (setup_in w r) r.calls).since))
          (sym completes) (There c (delay_completions (setup_in w r) r.calls).since)

  -- ---- it stays
  abbrev GoesOn : List Recorded → Recorded → Type 0
  GoesOn ds d = begins_at w d (after_all w ds) ≡ false

  module _ {E : Type 0} (F : Setup → List Call → Window E) (B : Setup → List Call → Call → Option E)
      (step : (setup : Setup) (call : Call) (earlier : List Call) → F setup (call ∷ earlier) ≡ after call (B setup earlier call) (F setup earlier))
    where
      stays : (later ds : List Recorded) → EachAfter GoesOn later ds → count_by (says (is_master_sync w)) later < ticks_every
          → In F B step w 0 (after_all w ds) → In F B step w (count_by (says (is_master_sync w)) later) (after_all w (later ++ ds))
      stays [] ds each few holds = holds
      stays (d ∷ later) ds each few holds =
          let more : count_by (says (is_master_sync w)) (d ∷ later)
          ≡ (if says (is_master_sync w) d then 1 else 0) + count_by (says (is_master_sync w)) later =
          sum_by-cons (λ (d : Recorded). if says (is_master_sync w) d then 1 else 0) d later in
          hear_in F B step w d (after_all w (later ++ ds)) (count_by (says (is_master_sync w)) later)
          (count_by (says (is_master_sync w)) (d ∷ later)) (
            omega (arith, more),
            λ is. omega (arith, more, ap {B = ℕ} (λ (b : Bool). if b then 1 else 0) is),
            few,
          )
          (stays later ds each.1 (omega (arith, more, few)) holds) each.0

  -- ---- the report
  and_false : (b : Bool) → (b && false) ≡ false
  and_false true = refl
  and_false false = refl

  -- both halves are there, and one of them completes: a report
  reported : (setup : Setup) (earlier : List Call) (call : Call) (sync : SyncCompletion) (delay : DelayCompletion)
      → answer setup earlier call
      ≡ (if is_none (sync_completion setup earlier call) && is_none (delay_completion setup earlier call) then answers.Held
      else completed (last_sync_completion setup (call ∷ earlier)) (last_delay_completion setup (call ∷ earlier)))
      → (is_none (sync_completion setup earlier call) && is_none (delay_completion setup earlier call)) ≡ false
      → last_sync_completion setup (call ∷ earlier) ≡ Some sync → last_delay_completion setup (call ∷ earlier) ≡ Some delay
      → answer setup earlier call ≡ answers.Report (report_of sync delay)
  reported setup earlier call sync delay is completes synced delayed =
      is ∙ ap (λ (b : Bool). if b then answers.Held
      else completed (last_sync_completion setup (call ∷ earlier)) (last_delay_completion setup (call ∷ earlier))) completes
      ∙ (λ i. completed (synced i) (delayed i))

  sync_report : (ds : List Recorded) (d : Recorded) (most : ℕ) → IsOneStepSync d → is_used w ds d ≡ true → begins_at w d (after_all w ds) ≡ false
      → DelayIn w most (after_all w ds) → (report : Report) × (report_at w ds d ≡ Some report)
  sync_report ds d most is used goes_on holds =
      let heard = heard_sync ds d is used in
      let call : Call = calls.Event (Ok is.m) d.time d.line in
      let c = sync_completes (setup_in w heard.r) heard.r.calls is.m d.time d.line is.origin is.body is.one_step heard.useful in
      let on : begins_by w d.time is.m (bodies.Sync is.origin) (after_all w ds) ≡ false =
      sym (ap (λ (s : Reading). option_map_or (λ m. begins_by w d.time m m.body (after_all w ds)) (result_ok s) false) is.said
      ∙ ap (λ (b : Body). begins_by w d.time is.m b (after_all w ds)) is.body) ∙ goes_on in
      let ready = ready_sync_in delay_completions delay_completion (λ setup call earlier. refl) w d (after_all w ds) most holds
      is.m heard.r on heard.ready_is in
      let delay = holds-last heard.r.syncs most (delay_completions (setup_in w heard.r) (call ∷ heard.r.calls))
      (holds-event delay_completions delay_completion (λ setup call earlier. refl) w (setup_in w heard.r) (Ok is.m) d.time d.line heard.r.calls
      heard.r.syncs most ready) in
      let answer_is = reported (setup_in w heard.r) heard.r.calls call c.0 delay.0
      (sync_completion_of (setup_in w heard.r) heard.r.calls call c.0 c.1).1
      (ap (λ (o : Option SyncCompletion). is_none o && is_none (delay_completion (setup_in w heard.r) heard.r.calls call)) c.1)
      (ap (λ (o : Option SyncCompletion). last (after call o (sync_window (setup_in w heard.r) heard.r.calls))) c.1) delay.1 in (
        report_of c.0 delay.0,
        ap (option_and_then report_in) heard.answers ∙ ap report_in answer_is,
      )

  response_report : (ds : List Recorded) (d : Recorded) (most : ℕ) → IsDelayResp d → is_used w ds d ≡ true
      → SyncIn w most (after_all w ds) → (report : Report) × (report_at w ds d ≡ Some report)
  response_report ds d most is used holds =
      let heard = heard_response ds d is used in
      let call : Call = calls.General (Ok is.m) d.line in
      let c = response_completes (setup_in w heard.r) heard.r.calls is.m d.line is.receive is.requesting is.body heard.useful in
      let ready = response_in sync_window sync_completion (λ setup call earlier. refl) w d (after_all w ds) most holds
      is.m is.requesting heard.r heard.ready_is in
      let sync = holds-last heard.r.syncs most (sync_window (setup_in w heard.r) (call ∷ heard.r.calls))
      (holds-general sync_window sync_completion (λ setup call earlier. refl) w (setup_in w heard.r) (Ok is.m) d.line heard.r.calls
      heard.r.syncs most ready) in
      let answer_is = reported (setup_in w heard.r) heard.r.calls call sync.0 c.0
      (delay_completion_of (setup_in w heard.r) heard.r.calls call c.0 c.1).used
      (ap (λ (o : Option DelayCompletion). is_none (sync_completion (setup_in w heard.r) heard.r.calls call) && is_none o) c.1
      ∙ and_false (is_none (sync_completion (setup_in w heard.r) heard.r.calls call)))
      sync.1 (ap (λ (o : Option DelayCompletion). last (after call o (delay_completions (setup_in w heard.r) heard.r.calls))) c.1) in (
        report_of sync.0 c.0,
        ap (option_and_then report_in) heard.answers ∙ ap report_in answer_is,
      )

  -- what stands in front of a row, by what a port takes of them
  in_front : (later : List Row) (last : Row) (before earlier : List Row) → earlier ≡ later ++ last ∷ before
      → datagrams earlier ≡ datagrams later ++ datagrams (last ∷ before)
  in_front later last before earlier there = ap (λ (rows : List Row). datagrams rows) there ∙ map-append (λ (r : Row). r.datagram) later (last ∷ before)

  measured : (earlier : List Row) (row : Row) (report : Report) → report_at w (datagrams earlier) row.datagram ≡ Some report
      → IsMeasuredAt w earlier row
  measured earlier row report is = (made_with w earlier row report, ap (option_map (made_with w earlier row)) is)

pub each_used : EachUsedRecordIsReported
each_used = record {
  sync = λ w earlier row is used front.
      let ds : List Recorded = datagrams front.later ++ datagrams (front.last ∷ front.before) in
      let same = in_front w front.later front.last front.before earlier front.there in
      let there = stays w delay_completions delay_completion (λ setup call earlier. refl) (datagrams front.later)
      (datagrams (front.last ∷ front.before)) front.one_life.1 front.few
      (response_left w (datagrams front.before) front.last.datagram front.is front.used) in
      let report = sync_report w ds row.datagram (count_by (says (is_master_sync w)) (datagrams front.later)) is
      (ap (λ (ds : List Recorded). is_used w ds row.datagram) (sym same) ∙ used) front.one_life.0 there in
      measured w earlier row report.0 (ap (λ (ds : List Recorded). report_at w ds row.datagram) same ∙ report.1);
  response = λ w earlier row is used front.
      let ds : List Recorded = datagrams front.later ++ datagrams (front.last ∷ front.before) in
      let same = in_front w front.later front.last front.before earlier front.there in
      let there = stays w sync_window sync_completion (λ setup call earlier. refl) (datagrams front.later)
      (datagrams (front.last ∷ front.before)) front.one_life.1 front.few
      (sync_left w (datagrams front.before) front.last.datagram front.is front.used) in
      let report = response_report w ds row.datagram (count_by (says (is_master_sync w)) (datagrams front.later)) is
      (ap (λ (ds : List Recorded). is_used w ds row.datagram) (sym same) ∙ used) there in
      measured w earlier row report.0 (ap (λ (ds : List Recorded). report_at w ds row.datagram) same ∙ report.1);
}
