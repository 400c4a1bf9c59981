-- What a listening port holds, and so each of its reports, is of lines since it began last.
use Rattle.std.proofs.Common.{◌≡◌, ℕ, zero, suc, ◌+◌, ◌<◌, ◌≤◌, Bool, true, false, List, [], ◌∷◌, Option, Some, None}
use Rattle.std.proofs.Common.{Ok, Err, refl, sym, ap, subst, arith, is_some, option_map, option_and_then, if◌then◌else◌}
use Rattle.std.specs.Prelude.{◌==◌, ◌&&◌, ◌||◌, not, nat_lt}
use Rattle.std.specs.Option.{option_map_or}
use Rattle.std.specs.Result.{result_ok}
use Rattle.std.specs.List.{All}
use Rattle.ptp_units.specs.Sequence.{ahead}
use Rattle.event_codec.specs.declared.message.Body.{Body}
use Rattle.event_codec.specs.declared.message.Body.TheVariants as bodies
use Rattle.event_codec.specs.declared.port.PortIdentity.{PortIdentity}
use Rattle.event_codec.specs.Packet.{Contents}
use Rattle.event_codec.specs.Port.{is_same_port}
use Rattle.event_codec.specs.Reading.{Reading}
use Rattle.pairing.specs.Marked.{Entry, entry}
use Rattle.sync_watch.specs.declared.judgement.Judgement.{Judgement}
use Rattle.sync_watch.specs.declared.judgement.Judgement.TheVariants.{Newer, Repeated, BeganAnew}
use Rattle.sync_watch.specs.declared.arrival.Arrival.{Arrival}
use Rattle.sync_watch.specs.Told.{Told, Sync, FollowUp, known}
use Rattle.sync_watch.specs.Judged.{judged_sync, judged_follow_up}
use Rattle.slave_port.specs.declared.heard.Report.{Report}
use Rattle.slave_port.specs.History as calls
use Rattle.slave_port.specs.History.{Call, Setup, next_number}
use Rattle.recording_model.specs.declared.watched.Watched.{Watched}
use Rattle.recording_model.specs.Recorded.{Recorded}
use Rattle.recording_model.specs.Listening.{Listening, start, setup_in, table_capacity, is_of, ticks_every}
use Rattle.recording_model.specs.Listening.{with_count, told, answer_in, arrival_of, with_master_anew}
use Rattle.recording_model.specs.Listening.{ready_judged, ready_sync, ready_followed, ready_follow_up}
use Rattle.recording_model.specs.Listening.{ready_response, hears_ready, draws, asks, anew, hears_request, hears}
use Rattle.recording_model.specs.Listening.{hear, after_all, answered, report_in}
use Rattle.recording_model.specs.Told.{AreNumbered}
use Rattle.recording_model.specs.Lives.{lines_of, NoReportMixesLives}
use Rattle.recording_model.proofs.Tags.{AreTagged, tagged-master, tagged-tick, tagged-request, tagged-left, tagged-event}
use Rattle.recording_model.proofs.Tags.{tagged-general, tagged-report}
use Rattle.recording_model.proofs.Steps.{report-in}

-- all lines so far, and so that at which the port began, are this one or one before it, and the port holds nothing from
-- before its beginning
record IsOfLife (w : Watched) (line : ℕ) (l : Listening) : Type 0 where
  pub begun : l.begun ≤ line
  pub tagged : AreTagged (λ n. l.begun ≤ n) (setup_in w l) l.calls

module _ (w : Watched) (line : ℕ) where
  -- at a later line
  later : (l : Listening) (next : ℕ) → line ≤ next → IsOfLife w line l → IsOfLife w next l
  later l next more is = record { begun = (let begun = is.begun in omega arith); tagged = is.tagged }

  heard_is : (l : Listening) (heard : List Told) (responses : List (Entry ℕ)) → IsOfLife w line l
      → IsOfLife w line (record l { heard = heard; responses = responses })
  heard_is l heard responses is = record { begun = is.begun; tagged = is.tagged }

  -- the port is told its master at this line
  anew_is : (l : Listening) → l.begun ≡ line → (earlier : List Call) → l.calls ≡ calls.SetMaster w.master ∷ earlier
      → IsOfLife w line l
  anew_is l begun earlier is = record {
    begun = omega (arith, begun);
    tagged = subst (λ (calls : List Call). AreTagged (λ n. l.begun ≤ n) (setup_in w l) calls) (sym is)
        (tagged-master (λ n. l.begun ≤ n) (setup_in w l) w.master earlier);
  }

  told_event : (l : Listening) (said : Reading) (t2 : ℕ) → IsOfLife w line l
      → IsOfLife w line (told (calls.Event said t2 line) l)
  told_event l said t2 is = record {
    begun = is.begun;
    tagged = tagged-event (λ n. l.begun ≤ n) (setup_in w l) l.calls is.tagged said t2 line is.begun;
  }

  told_general : (l : Listening) (said : Reading) → IsOfLife w line l
      → IsOfLife w line (told (calls.General said line) l)
  told_general l said is = record {
    begun = is.begun;
    tagged = tagged-general (λ n. l.begun ≤ n) (setup_in w l) l.calls is.tagged said line is.begun;
  }

  counted_is : (l : Listening) → IsOfLife w line l → IsOfLife w line (with_count l)
  counted_is l is = by (l.syncs + 1 == ticks_every)
    where
      by : (full : Bool) → IsOfLife w line
          (if full then record l { calls = calls.Tick ∷ l.calls; syncs = 0 } else record l { syncs = l.syncs + 1 })
      by true = record {
        begun = is.begun;
        tagged = tagged-tick (λ n. l.begun ≤ n) (setup_in w l) l.calls is.tagged;
      }
      by false = record { begun = is.begun; tagged = is.tagged }

  -- the port that is to hear a Sync
  module _ (l : Listening) (is : IsOfLife w line l) where
    judged_is : (j : Judgement) (a : Arrival) (r : Listening) → ready_judged j w line a l ≡ Some r → IsOfLife w line r
    judged_is Newer a r same =
        let one : record l { heard = Sync a ∷ l.heard } ≡ r = cc in
        subst (IsOfLife w line) one (heard_is l (Sync a ∷ l.heard) l.responses is)
    judged_is Repeated a r same = cc
    judged_is BeganAnew a r same =
        let one : with_master_anew w line a l ≡ r = cc in
        subst (IsOfLife w line) one (anew_is (with_master_anew w line a l) refl l.calls refl)

    same_is : (r : Listening) → Some l ≡ Some r → IsOfLife w line r
    same_is r same = let one : l ≡ r = cc in subst (IsOfLife w line) one is

    sync_is : (time : ℕ) (m : Contents) (r : Listening) → ready_sync w line time m l ≡ Some r → IsOfLife w line r
    sync_is time m r same = by (is_of w w.master m.header) same
      where
        by : (of_master : Bool)
            → (if of_master
            then ready_judged (judged_sync (arrival_of m.header time) table_capacity l.heard) w line
            (arrival_of m.header time) l
            else Some l) ≡ Some r
            → IsOfLife w line r
        by true same = judged_is (judged_sync (arrival_of m.header time) table_capacity l.heard)
            (arrival_of m.header time) r same
        by false same = same_is r same

    followed_is : (j : Judgement) (a : Arrival) (r : Listening) → ready_followed j a l ≡ Some r → IsOfLife w line r
    followed_is Newer a r same =
        let one : record l { heard = FollowUp a ∷ l.heard } ≡ r = cc in
        subst (IsOfLife w line) one (heard_is l (FollowUp a ∷ l.heard) l.responses is)
    followed_is _ a r same = cc

    follow_up_is : (time : ℕ) (m : Contents) (r : Listening) → ready_follow_up w time m l ≡ Some r → IsOfLife w line r
    follow_up_is time m r same = by (is_of w w.master m.header) same
      where
        by : (of_master : Bool)
            → (if of_master
            then ready_followed (judged_follow_up (arrival_of m.header time) table_capacity l.heard)
            (arrival_of m.header time) l
            else Some l) ≡ Some r
            → IsOfLife w line r
        by true same = followed_is (judged_follow_up (arrival_of m.header time) table_capacity l.heard)
            (arrival_of m.header time) r same
        by false same = same_is r same

    response_is : (time : ℕ) (m : Contents) (requesting : PortIdentity) (r : Listening)
        → ready_response w time m requesting l ≡ Some r → IsOfLife w line r
    response_is time m requesting r same =
        by (not (is_of w w.master m.header && is_same_port requesting w.slave))
        (is_some (known table_capacity m.header.sequence.0 l.responses)) same
      where
        by : (others again : Bool)
            → (if others then Some l else if again then None
            else Some (record l { responses = entry m.header.sequence.0 time ∷ l.responses })) ≡ Some r
            → IsOfLife w line r
        by true again same = same_is r same
        by false true same = cc
        by false false same =
            let one : record l { responses = entry m.header.sequence.0 time ∷ l.responses } ≡ r = cc in
            subst (IsOfLife w line) one (heard_is l l.heard (entry m.header.sequence.0 time ∷ l.responses) is)

  -- a port that heard a message
  heard_event : (counts : Bool) (said : Reading) (t2 : ℕ) (r : Option Listening) (l : Listening) → IsOfLife w line l
      → ((one : Listening) → r ≡ Some one → IsOfLife w line one)
      → IsOfLife w line (hears_ready counts (calls.Event said t2 line) r l)
  heard_event counts said t2 None l is each = is
  heard_event true said t2 (Some r) l is each =
      counted_is (told (calls.Event said t2 line) r) (told_event r said t2 (each r refl))
  heard_event false said t2 (Some r) l is each = told_event r said t2 (each r refl)

  heard_general : (said : Reading) (r : Option Listening) (l : Listening) → IsOfLife w line l
      → ((one : Listening) → r ≡ Some one → IsOfLife w line one)
      → IsOfLife w line (hears_ready false (calls.General said line) r l)
  heard_general said None l is each = is
  heard_general said (Some r) l is each = told_general r said (each r refl)

  -- a Delay_Req of the slave
  drawn_is : (begun : ℕ) (setup : Setup) (count : ℕ) (history : List Call) → begun ≤ line
      → AreTagged (λ n. begun ≤ n) setup history → AreTagged (λ n. begun ≤ n) setup (draws count line history)
  drawn_is begun setup zero history low are = are
  drawn_is begun setup (suc count) history low are =
      tagged-request (λ n. begun ≤ n) setup (draws count line history) (drawn_is begun setup count history low are) line
      low

  asks_is : (time number : ℕ) (l : Listening) → IsOfLife w line l → IsOfLife w line (asks w line time number l)
  asks_is time number l is =
      let count : ℕ = ahead number (next_number (setup_in w l) l.calls) + 1 in
      record {
        begun = is.begun;
        tagged = tagged-left (λ n. l.begun ≤ n) (setup_in w l) (draws count line l.calls)
            (drawn_is l.begun (setup_in w l) count l.calls is.begun is.tagged) number time;
      }

  request_is : (time number : ℕ) (l : Listening) → IsOfLife w line l
      → IsOfLife w line (hears_request w line time number l)
  request_is time number l is =
      by (not l.asked || nat_lt (ahead number (next_number (setup_in w l) l.calls)) table_capacity)
      (ahead number (next_number (setup_in w l) l.calls) == 65535)
    where
      by : (near same : Bool) → IsOfLife w line
          (if near then asks w line time number l else if same then l
          else asks w line time number (anew w line number l))
      by true same = asks_is time number l is
      by false true = is
      by false false =
          asks_is time number (anew w line number l) (anew_is (anew w line number l) refl [] refl)

  hears_is : (time : ℕ) (m : Contents) (body : Body) (l : Listening) → IsOfLife w line l
      → IsOfLife w line (hears w line time m body l)
  hears_is time m (bodies.Sync origin) l is =
      heard_event (is_of w w.master m.header) (Ok m) time (ready_sync w line time m l) l is (sync_is l is time m)
  hears_is time m (bodies.DelayReq origin) l is = by (is_of w w.slave m.header)
    where
      by : (own : Bool) → IsOfLife w line (if own then hears_request w line time m.header.sequence.0 l else l)
      by true = request_is time m.header.sequence.0 l is
      by false = is
  hears_is time m (bodies.FollowUp precise) l is =
      heard_general (Ok m) (ready_follow_up w time m l) l is (follow_up_is l is time m)
  hears_is time m (bodies.DelayResp receive requesting) l is =
      heard_general (Ok m) (ready_response w time m requesting l) l is (response_is l is time m requesting)

module _ (w : Watched) where
  -- a port after a datagram, and after all
  hear_is : (d : Recorded) (l : Listening) → IsOfLife w d.line l → IsOfLife w d.line (hear w d l)
  hear_is d l is = by d.said
    where
      by : (said : Reading) → IsOfLife w d.line (option_map_or (λ m. hears w d.line d.time m m.body l) (result_ok said) l)
      by (Ok m) = hears_is w d.line d.time m m.body l is
      by (Err refusal) = is

  after_is : (ds : List Recorded) → AreNumbered ds → (line : ℕ)
      → ((d : Recorded) (earlier : List Recorded) → ds ≡ d ∷ earlier → d.line ≤ line)
      → IsOfLife w line (after_all w ds)
  after_is [] numbered line least = record {
    begun = omega arith;
    tagged = tagged-master (λ n. 0 ≤ n) (setup_in w (start w)) w.master [];
  }
  after_is (d ∷ []) numbered line least =
      later w d.line (after_all w (d ∷ [])) line (least d [] refl)
      (hear_is d (start w) (after_is [] tt d.line (λ e earlier is. cc)))
  after_is (d ∷ (before ∷ earlier)) numbered line least =
      let lower : before.line < d.line = numbered.0 in
      later w d.line (after_all w (d ∷ (before ∷ earlier))) line (least d (before ∷ earlier) refl)
      (hear_is d (after_all w (before ∷ earlier))
      (after_is (before ∷ earlier) numbered.1 d.line
      (λ e others is. let same : before ≡ e = cc in omega (arith, ap (λ (r : Recorded). r.line) same))))

  -- a port that is ready began where the port is said to have begun after it heard
  begun-ready : (counts : Bool) (call : Call) (r l : Listening) → (hears_ready counts call (Some r) l).begun ≡ r.begun
  begun-ready false call r l = refl
  begun-ready true call r l = by (r.syncs + 1 == ticks_every)
    where
      by : (full : Bool)
          → (if full then record (told call r) { calls = calls.Tick ∷ (call ∷ r.calls); syncs = 0 }
          else record (told call r) { syncs = r.syncs + 1 }).begun ≡ r.begun
      by true = refl
      by false = refl

  -- the port before a datagram
  before_is : (earlier : List Recorded) (d : Recorded) → AreNumbered (d ∷ earlier)
      → IsOfLife w d.line (after_all w earlier)
  before_is [] d numbered = after_is [] tt d.line (λ e earlier is. cc)
  before_is (before ∷ earlier) d numbered =
      let lower : before.line < d.line = numbered.0 in
      after_is (before ∷ earlier) numbered.1 d.line
      (λ e others is. let same : before ≡ e = cc in omega (arith, ap (λ (r : Recorded). r.line) same))

  -- what is reported of a message
  module _ (line : ℕ) (l : Listening) (is : IsOfLife w line l) where
    reported_event : (counts : Bool) (said : Reading) (t2 : ℕ) (r : Option Listening) (report : Report)
        → ((one : Listening) → r ≡ Some one → IsOfLife w line one)
        → option_and_then report_in (option_map (λ l. answer_in w l (calls.Event said t2 line)) r) ≡ Some report
        → All (λ n. (hears_ready counts (calls.Event said t2 line) r l).begun ≤ n) (lines_of report)
    reported_event counts said t2 None report each same = cc
    reported_event counts said t2 (Some r) report each same =
        let call : Call = calls.Event said t2 line in
        subst (λ (begun : ℕ). All (λ n. begun ≤ n) (lines_of report)) (sym (begun-ready counts call r l))
        (tagged-report (λ n. r.begun ≤ n) (setup_in w r) r.calls call report
        (told_event w line r said t2 (each r refl)).tagged (report-in (answer_in w r call) report same))

    reported_general : (said : Reading) (r : Option Listening) (report : Report)
        → ((one : Listening) → r ≡ Some one → IsOfLife w line one)
        → option_and_then report_in (option_map (λ l. answer_in w l (calls.General said line)) r) ≡ Some report
        → All (λ n. (hears_ready false (calls.General said line) r l).begun ≤ n) (lines_of report)
    reported_general said None report each same = cc
    reported_general said (Some r) report each same =
        let call : Call = calls.General said line in
        tagged-report (λ n. r.begun ≤ n) (setup_in w r) r.calls call report
        (told_general w line r said (each r refl)).tagged (report-in (answer_in w r call) report same)

    reported_by : (time : ℕ) (m : Contents) (body : Body) (report : Report)
        → option_and_then report_in (answered w line time m body l) ≡ Some report
        → All (λ n. (hears w line time m body l).begun ≤ n) (lines_of report)
    reported_by time m (bodies.Sync origin) report same =
        reported_event (is_of w w.master m.header) (Ok m) time (ready_sync w line time m l) report
        (sync_is w line l is time m) same
    reported_by time m (bodies.DelayReq origin) report same = cc
    reported_by time m (bodies.FollowUp precise) report same =
        reported_general (Ok m) (ready_follow_up w time m l) report (follow_up_is w line l is time m) same
    reported_by time m (bodies.DelayResp receive requesting) report same =
        reported_general (Ok m) (ready_response w time m requesting l) report
        (response_is w line l is time m requesting) same

-- the law
pub no_report : NoReportMixesLives
no_report w earlier d report numbered same = by d.said same
  where
    l : Listening
    l = after_all w earlier

    by : (said : Reading)
        → option_and_then report_in (option_and_then (λ m. answered w d.line d.time m m.body l) (result_ok said))
        ≡ Some report
        → All (λ n. (option_map_or (λ m. hears w d.line d.time m m.body l) (result_ok said) l).begun ≤ n)
        (lines_of report)
    by (Ok m) same = reported_by w d.line l (before_is w earlier d numbered) d.time m m.body report same
    by (Err refusal) same = cc
