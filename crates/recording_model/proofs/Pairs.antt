-- Over a whole recording, what a listening port pairs is less than a second apart, and so is the pair of each report.
use Rattle.std.proofs.Common.{◌≡◌, ◌∙◌, ℕ, ◌+◌, ◌<◌, Bool, true, false, List, [], ◌∷◌, Option, Some, None, Ok, Err, refl}
use Rattle.std.proofs.Common.{sym, ap, subst, is_some, option_map, option_and_then, if◌then◌else◌}
use Rattle.std.specs.Prelude.{◌==◌, ◌&&◌, ◌||◌, not, nat_lt}
use Rattle.std.specs.Option.{option_map_or}
use Rattle.std.specs.Result.{result_ok}
use Rattle.std.specs.List.{All}
use Rattle.std.proofs.lemmas.Bool.{both_ways, or_parts}
use Rattle.ptp_units.specs.Moment.{Stamp}
use Rattle.ptp_units.specs.Sequence.{ahead}
use Rattle.event_codec.specs.declared.message.Body.{Body}
use Rattle.event_codec.specs.declared.message.Body.TheVariants as bodies
use Rattle.event_codec.specs.declared.port.PortIdentity.{PortIdentity}
use Rattle.event_codec.specs.Packet.{Contents}
use Rattle.event_codec.specs.Port.{is_same_port}
use Rattle.event_codec.specs.Reading.{Reading}
use Rattle.pairing.specs.Marked.{Entry, entry}
use Rattle.sync_watch.specs.declared.judgement.Judgement.{Judgement}
use Rattle.sync_watch.specs.declared.judgement.Judgement.TheVariants.{Newer, Repeated, BeganAnew}
use Rattle.sync_watch.specs.declared.arrival.Arrival.{Arrival}
use Rattle.sync_watch.specs.Told.{Told, Sync, FollowUp, known, syncs, follow_ups}
use Rattle.sync_watch.specs.Life.{is_apart, is_far, newest}
use Rattle.sync_watch.specs.Judged.{by_newest, sync_judgement, is_repeat, judged_sync, is_repeated, judged_follow_up}
use Rattle.slave_port.specs.declared.heard.Report.{Report}
use Rattle.slave_port.specs.History as calls
use Rattle.slave_port.specs.History.{Call, next_number}
use Rattle.slave_port.specs.Window.{all}
use Rattle.slave_port.specs.Kept.{kept}
use Rattle.slave_port.proofs.Options.{some_step}
use Rattle.slave_port.proofs.Uses.{report_parts}
use Rattle.network_model.proofs.Reports.{first_of}
use Rattle.recording_model.specs.declared.watched.Watched.{Watched}
use Rattle.recording_model.specs.Recorded.{Recorded}
use Rattle.recording_model.specs.Listening.{Listening, start, setup_in, table_capacity, is_of, is_unicast}
use Rattle.recording_model.specs.Listening.{ticks_every, with_count, told, answer_in, arrival_of, with_master_anew}
use Rattle.recording_model.specs.Listening.{ready_judged, ready_sync, ready_followed}
use Rattle.recording_model.specs.Listening.{ready_follow_up, ready_response, hears_ready, asks, anew, hears_request, hears}
use Rattle.recording_model.specs.Listening.{hear, after_all, answered, answered_to, report_in}
use Rattle.recording_model.specs.Told.{is_sync, AreNumbered}
use Rattle.recording_model.specs.Pairs.{at_line, flag_of, is_heard, heard_between, NoReportedPairIsApart}
use Rattle.recording_model.proofs.Lines.{numbered-below, numbered-rest}
use Rattle.recording_model.proofs.Steps.{report-in}
use Rattle.recording_model.proofs.Tags.{all-in}
use Rattle.recording_model.proofs.Known.{known-arrival}
use Rattle.recording_model.proofs.HeldPairs.{is_follow_up, Same, grows-arrival, IsPair, IsOfPair, Knows, knows-later}
use Rattle.recording_model.proofs.HeldPairs.{knows-master, knows-tick, knows-event, knows-general, knows-asked, IsNear}
use Rattle.recording_model.proofs.HeldPairs.{brings-sync, brings-follow_up, brings-response}

-- a Sync is heard whose number no Sync is known by, and where a Follow_Up is known by it, this came near
newer-sync : (a : Arrival) (sync follow_up : Option ℕ) (n : Option (Entry ℕ)) → sync_judgement a sync follow_up n ≡ Newer
    → (sync ≡ None) × ((other : ℕ) → follow_up ≡ Some other → is_apart a.time other ≡ false)
newer-sync a None None n is = (refl, λ other same. cc)
newer-sync a None (Some follow_up) n is = (refl, λ other same. by (is_apart a.time follow_up) refl is other same)
  where
    by : (apart : Bool) → is_apart a.time follow_up ≡ apart → (if apart then BeganAnew else by_newest a n) ≡ Newer
        → (other : ℕ) → Some follow_up ≡ Some other → is_apart a.time other ≡ false
    by true e is other same = cc
    by false e is other same =
        let one : follow_up ≡ other = cc in subst (λ (t : ℕ). is_apart a.time t ≡ false) one e
newer-sync a (Some sync) follow_up n is = by (is_apart a.time sync) is
  where
    by : {A : Type 0} (apart : Bool) → (if apart then BeganAnew else Repeated) ≡ Newer → A
    by true is = cc
    by false is = cc

-- a Follow_Up is heard whose number no Follow_Up is known by, and where a Sync is known by it, this came near
newer-follow_up : (a : Arrival) (sync follow_up : Option ℕ) (n : Option (Entry ℕ)) → is_repeat a sync follow_up n ≡ false
    → (follow_up ≡ None) × ((other : ℕ) → sync ≡ Some other → is_apart a.time other ≡ false)
newer-follow_up a None None n is = (refl, λ other same. cc)
newer-follow_up a (Some sync) None n is = (
  refl,
  λ other same. let one : sync ≡ other = cc in
      subst (λ (t : ℕ). is_apart a.time t ≡ false) one
      (or_parts (is_apart a.time sync) (option_map_or (λ n. is_far a.number.0 n.number) n false) is).0,
)
newer-follow_up a sync (Some follow_up) n is = cc

judged-newer : (repeated : Bool) → (if repeated then Repeated else Newer) ≡ Newer → repeated ≡ false
judged-newer true is = cc
judged-newer false is = refl

module _ (w : Watched) where
  -- what holds of a listening port after these
  abbrev KnowsIn : List Recorded → Listening → Type 0
  KnowsIn ds l = Knows w ds l.heard (setup_in w l) l.calls

  counted_knows : (ds : List Recorded) (l : Listening) → KnowsIn ds l → KnowsIn ds (with_count l)
  counted_knows ds l knows = by (l.syncs + 1 == ticks_every)
    where
      by : (full : Bool) → KnowsIn ds
          (if full then record l { calls = calls.Tick ∷ l.calls; syncs = 0 } else record l { syncs = l.syncs + 1 })
      by true = knows-tick w ds l.heard (setup_in w l) l.calls knows
      by false = knows

  -- a Delay_Req of the slave
  asks_knows : (ds : List Recorded) (line time number : ℕ) (l : Listening) → KnowsIn ds l
      → KnowsIn ds (asks w line time number l)
  asks_knows ds line time number l knows =
      let count : ℕ = ahead number (next_number (setup_in w l) l.calls) + 1 in
      knows-asked w ds l.heard (setup_in w l) l.calls knows count line number time

  request_knows : (ds : List Recorded) (line time number : ℕ) (l : Listening) → KnowsIn ds l
      → KnowsIn ds (hears_request w line time number l)
  request_knows ds line time number l knows =
      by (not l.asked || nat_lt (ahead number (next_number (setup_in w l) l.calls)) table_capacity)
      (ahead number (next_number (setup_in w l) l.calls) == 65535)
    where
      by : (near same : Bool) → KnowsIn ds
          (if near then asks w line time number l else if same then l
          else asks w line time number (anew w line number l))
      by true same = asks_knows ds line time number l knows
      by false true = knows
      by false false =
          asks_knows ds line time number (anew w line number l)
          (knows-master w ds l.heard (setup_in w (anew w line number l)) [])

  -- the port after these, and a line behind them
  module _ (ds : List Recorded) (d : Recorded) (below : All (λ (e : Recorded). e.line < d.line) ds)
      (knows : KnowsIn ds (after_all w ds)) where
    -- the port as it was
    as_it_was : KnowsIn (d ∷ ds) (after_all w ds)
    as_it_was =
        let l : Listening = after_all w ds in
        knows-later w ds d below l.heard l.heard (setup_in w l) l.calls (λ flag. Same refl) (λ flag. Same refl) knows

    module _ (m : Contents) (said : d.said ≡ Ok m) where
      -- the port is ready to hear a message of a kind
      record IsReady (own others : Bool → List Told → List (Entry ℕ)) (r : Listening) : Type 0 where
        pub stands : KnowsIn (d ∷ ds) r
        pub near : IsNear w ds d m (λ (flag : Bool). own flag r.heard) (λ (flag : Bool). others flag r.heard)

      -- the message isn't the master's
      not_of_master : (own others : Bool → List Told → List (Entry ℕ)) → is_of w w.master m.header ≡ false
          → IsReady own others (after_all w ds)
      not_of_master own others other = record {
        stands = as_it_was;
        near = record {
          known_now = λ is. absurd (both_ways (is_of w w.master m.header) other is);
          near = λ is time same. absurd (both_ways (is_of w w.master m.header) other is);
        };
      }

      -- when and under which number and flag it came
      abbrev came : Arrival
      came = arrival_of m.header d.time

      -- the answer to it
      answers_it : (body : Body) → m.body ≡ body
          → answered_to w d (after_all w ds) ≡ answered w d.line d.time m body (after_all w ds)
      answers_it body is =
          ap (λ (r : Reading). option_and_then (λ m. answered w d.line d.time m m.body (after_all w ds)) (result_ok r))
          said
          ∙ ap (λ (b : Body). answered w d.line d.time m b (after_all w ds)) is

      -- a Sync
      module _ (kind_is : is_sync m.body ≡ true) where
        master_ready : (before : Listening) → IsReady syncs follow_ups (with_master_anew w d.line came before)
        master_ready before = record {
          stands = knows-master w (d ∷ ds) (Sync came ∷ []) (setup_in w before) before.calls;
          near = record {
            known_now = λ is. known-arrival came [];
            near = λ is time same. let none : None ≡ Some time = same in cc;
          };
        }

        -- of the master, newer, and heard
        module _ (of_master : is_of w w.master m.header ≡ true) (heard : is_heard w ds d ≡ true)
            (newer : judged_sync came table_capacity (after_all w ds).heard ≡ Newer) where
          newer_ready : IsReady syncs follow_ups (record (after_all w ds) { heard = Sync came ∷ (after_all w ds).heard })
          newer_ready =
              let l : Listening = after_all w ds in
              let number : ℕ = m.header.sequence.0 in
              let flag : Bool = is_unicast m.header in
              let facts = newer-sync came (known table_capacity number (syncs flag l.heard))
              (known table_capacity number (follow_ups flag l.heard)) (newest (syncs flag l.heard)) newer in
              record {
                stands = knows-later w ds d below l.heard (Sync came ∷ l.heard) (setup_in w l) l.calls
                    (grows-arrival w is_sync ds d m came (λ (flag : Bool). syncs flag l.heard) said kind_is refl of_master
                    heard facts.0)
                    (λ (flag : Bool). Same refl) knows;
                near = record {
                  known_now = λ is. known-arrival came (syncs flag l.heard);
                  near = λ is time same. facts.1 time same;
                };
              }

        judged_ready : is_of w w.master m.header ≡ true → is_heard w ds d ≡ true → (j : Judgement)
            → judged_sync came table_capacity (after_all w ds).heard ≡ j → (r : Listening)
            → ready_judged j w d.line came (after_all w ds) ≡ Some r
            → IsReady syncs follow_ups r
        judged_ready of_master heard Newer judged r same =
            let one : record (after_all w ds) { heard = Sync came ∷ (after_all w ds).heard } ≡ r = cc in
            subst (IsReady syncs follow_ups) one (newer_ready of_master heard judged)
        judged_ready of_master heard Repeated judged r same = cc
        judged_ready of_master heard BeganAnew judged r same =
            let one : with_master_anew w d.line came (after_all w ds) ≡ r = cc in
            subst (IsReady syncs follow_ups) one (master_ready (after_all w ds))

        sync_ready : (r : Listening) → is_heard w ds d ≡ true
            → ready_sync w d.line d.time m (after_all w ds) ≡ Some r → IsReady syncs follow_ups r
        sync_ready r heard same = by (is_of w w.master m.header) refl same
          where
            by : (of_master : Bool) → is_of w w.master m.header ≡ of_master
                → (if of_master
                then ready_judged (judged_sync came table_capacity (after_all w ds).heard) w d.line
                came (after_all w ds)
                else Some (after_all w ds)) ≡ Some r
                → IsReady syncs follow_ups r
            by true is same =
                judged_ready is heard (judged_sync came table_capacity (after_all w ds).heard) refl r same
            by false is same =
                let one : after_all w ds ≡ r = cc in
                subst (IsReady syncs follow_ups) one (not_of_master syncs follow_ups is)

        sync_told : (r : Listening) → IsReady syncs follow_ups r
            → KnowsIn (d ∷ ds) (told (calls.Event (Ok m) d.time d.line) r)
        sync_told r ready =
            knows-event w (d ∷ ds) r.heard (setup_in w r) r.calls ready.stands (Ok m) d.time d.line
            (brings-sync w ds d below m said r.heard r.first r.calls ready.stands kind_is ready.near)

      sync_heard : (origin : Stamp) → m.body ≡ bodies.Sync origin → (r : Listening)
          → ready_sync w d.line d.time m (after_all w ds) ≡ Some r → is_heard w ds d ≡ true
      sync_heard origin body r same =
          ap is_some
          (answers_it (bodies.Sync origin) body
          ∙ ap (option_map (λ (l : Listening). answer_in w l (calls.Event (Ok m) d.time d.line))) same)

      -- a Follow_Up
      module _ (kind_is : is_follow_up m.body ≡ true) where
        followed_ready : is_of w w.master m.header ≡ true → is_heard w ds d ≡ true → (j : Judgement)
            → judged_follow_up came table_capacity (after_all w ds).heard ≡ j → (r : Listening)
            → ready_followed j came (after_all w ds) ≡ Some r → IsReady follow_ups syncs r
        followed_ready of_master heard Newer judged r same =
            let l : Listening = after_all w ds in
            let number : ℕ = m.header.sequence.0 in
            let flag : Bool = is_unicast m.header in
            let facts = newer-follow_up came (known table_capacity number (syncs flag l.heard))
            (known table_capacity number (follow_ups flag l.heard)) (newest (syncs flag l.heard))
            (judged-newer (is_repeated came table_capacity l.heard) judged) in
            let one : record l { heard = FollowUp came ∷ l.heard } ≡ r = cc in
            subst (IsReady follow_ups syncs) one (record {
              stands = knows-later w ds d below l.heard (FollowUp came ∷ l.heard) (setup_in w l) l.calls
                  (λ (flag : Bool). Same refl)
                  (grows-arrival w is_follow_up ds d m came (λ (flag : Bool). follow_ups flag l.heard) said kind_is refl
                  of_master heard facts.0) knows;
              near = record {
                known_now = λ is. known-arrival came (follow_ups flag l.heard);
                near = λ is time same. facts.1 time same;
              };
            })
        followed_ready of_master heard _ judged r same = cc

        follow_up_ready : (r : Listening) → is_heard w ds d ≡ true
            → ready_follow_up w d.time m (after_all w ds) ≡ Some r → IsReady follow_ups syncs r
        follow_up_ready r heard same = by (is_of w w.master m.header) refl same
          where
            by : (of_master : Bool) → is_of w w.master m.header ≡ of_master
                → (if of_master
                then ready_followed (judged_follow_up came table_capacity (after_all w ds).heard) came (after_all w ds)
                else Some (after_all w ds)) ≡ Some r
                → IsReady follow_ups syncs r
            by true is same =
                followed_ready is heard (judged_follow_up came table_capacity (after_all w ds).heard) refl r same
            by false is same =
                let one : after_all w ds ≡ r = cc in
                subst (IsReady follow_ups syncs) one (not_of_master follow_ups syncs is)

        follow_up_told : (r : Listening) → IsReady follow_ups syncs r
            → KnowsIn (d ∷ ds) (told (calls.General (Ok m) d.line) r)
        follow_up_told r ready =
            knows-general w (d ∷ ds) r.heard (setup_in w r) r.calls ready.stands (Ok m) d.line
            (brings-follow_up w ds d below m said r.heard r.first r.calls ready.stands kind_is ready.near)

      follow_up_heard : (precise : Stamp) → m.body ≡ bodies.FollowUp precise → (r : Listening)
          → ready_follow_up w d.time m (after_all w ds) ≡ Some r → is_heard w ds d ≡ true
      follow_up_heard precise body r same =
          ap is_some
          (answers_it (bodies.FollowUp precise) body
          ∙ ap (option_map (λ (l : Listening). answer_in w l (calls.General (Ok m) d.line))) same)

      -- a Delay_Resp
      response_ready : (requesting : PortIdentity) (r : Listening)
          → ready_response w d.time m requesting (after_all w ds) ≡ Some r → KnowsIn (d ∷ ds) r
      response_ready requesting r same =
          by (not (is_of w w.master m.header && is_same_port requesting w.slave))
          (is_some (known table_capacity m.header.sequence.0 (after_all w ds).responses)) same
        where
          by : (others again : Bool)
              → (if others then Some (after_all w ds) else if again then None
              else Some (record (after_all w ds) {
                responses = entry m.header.sequence.0 d.time ∷ (after_all w ds).responses;
              })) ≡ Some r
              → KnowsIn (d ∷ ds) r
          by true again same = let one : after_all w ds ≡ r = cc in subst (KnowsIn (d ∷ ds)) one as_it_was
          by false true same = cc
          by false false same =
              let one : record (after_all w ds) {
                responses = entry m.header.sequence.0 d.time ∷ (after_all w ds).responses;
              } ≡ r = cc in
              subst (KnowsIn (d ∷ ds)) one as_it_was

      response_told : is_follow_up m.body ≡ false → (r : Listening) → KnowsIn (d ∷ ds) r
          → KnowsIn (d ∷ ds) (told (calls.General (Ok m) d.line) r)
      response_told other r ready =
          knows-general w (d ∷ ds) r.heard (setup_in w r) r.calls ready (Ok m) d.line
          (brings-response w ds d below m said r.heard r.first r.calls ready other)

      -- what the port is told that is to hear a message of each kind
      sync_knows : (origin : Stamp) → m.body ≡ bodies.Sync origin → (r : Listening)
          → ready_sync w d.line d.time m (after_all w ds) ≡ Some r
          → KnowsIn (d ∷ ds) (told (calls.Event (Ok m) d.time d.line) r)
      sync_knows origin body r same =
          sync_told (ap is_sync body) r (sync_ready (ap is_sync body) r (sync_heard origin body r same) same)

      follow_up_knows : (precise : Stamp) → m.body ≡ bodies.FollowUp precise → (r : Listening)
          → ready_follow_up w d.time m (after_all w ds) ≡ Some r
          → KnowsIn (d ∷ ds) (told (calls.General (Ok m) d.line) r)
      follow_up_knows precise body r same =
          follow_up_told (ap is_follow_up body) r
          (follow_up_ready (ap is_follow_up body) r (follow_up_heard precise body r same) same)

      response_knows : (receive : Stamp) (requesting : PortIdentity) → m.body ≡ bodies.DelayResp receive requesting
          → (r : Listening)
          → ready_response w d.time m requesting (after_all w ds) ≡ Some r
          → KnowsIn (d ∷ ds) (told (calls.General (Ok m) d.line) r)
      response_knows receive requesting body r same =
          response_told (ap is_follow_up body) r (response_ready requesting r same)

      -- a port that hears it, and one that doesn't
      ready_knows : (counts : Bool) (call : Call) (r : Option Listening)
          → ((one : Listening) → r ≡ Some one → KnowsIn (d ∷ ds) (told call one))
          → KnowsIn (d ∷ ds) (hears_ready counts call r (after_all w ds))
      ready_knows counts call None each = as_it_was
      ready_knows true call (Some r) each = counted_knows (d ∷ ds) (told call r) (each r refl)
      ready_knows false call (Some r) each = each r refl

      hears_knows : (body : Body) → m.body ≡ body → KnowsIn (d ∷ ds) (hears w d.line d.time m body (after_all w ds))
      hears_knows (bodies.Sync origin) body =
          ready_knows (is_of w w.master m.header) (calls.Event (Ok m) d.time d.line)
          (ready_sync w d.line d.time m (after_all w ds)) (sync_knows origin body)
      hears_knows (bodies.DelayReq origin) body = by (is_of w w.slave m.header)
        where
          by : (own : Bool) → KnowsIn (d ∷ ds)
              (if own then hears_request w d.line d.time m.header.sequence.0 (after_all w ds) else after_all w ds)
          by true = request_knows (d ∷ ds) d.line d.time m.header.sequence.0 (after_all w ds) as_it_was
          by false = as_it_was
      hears_knows (bodies.FollowUp precise) body =
          ready_knows false (calls.General (Ok m) d.line) (ready_follow_up w d.time m (after_all w ds))
          (follow_up_knows precise body)
      hears_knows (bodies.DelayResp receive requesting) body =
          ready_knows false (calls.General (Ok m) d.line) (ready_response w d.time m requesting (after_all w ds))
          (response_knows receive requesting body)

    hear_knows : KnowsIn (d ∷ ds) (hear w d (after_all w ds))
    hear_knows = by d.said refl
      where
        by : (said : Reading) → d.said ≡ said → KnowsIn (d ∷ ds)
            (option_map_or (λ m. hears w d.line d.time m m.body (after_all w ds)) (result_ok said) (after_all w ds))
        by (Ok m) is = hears_knows m is m.body refl
        by (Err refusal) is = as_it_was

    -- the pair of a report
    abbrev IsReported : Report → Type 0
    IsReported report = (line : ℕ) → report.follow_tag ≡ Some line → IsPair w (d ∷ ds) report.sync_tag line

    pair_told : (call : Call) (r : Option Listening) (report : Report)
        → ((one : Listening) → r ≡ Some one → KnowsIn (d ∷ ds) (told call one))
        → option_and_then report_in (option_map (λ l. answer_in w l call) r) ≡ Some report → IsReported report
    pair_told call None report each same = cc
    pair_told call (Some r) report each same =
        let parts = report_parts (setup_in w r) r.calls call report (report-in (answer_in w r call) report same) in
        let completions = (kept (setup_in w r) (call ∷ r.calls)).completions in
        let of_pair : IsOfPair w (d ∷ ds) parts.0 =
        first_of (IsOfPair w (d ∷ ds)) (all completions) parts.0
        (all-in (IsOfPair w (d ∷ ds)) completions (each r refl).completed) parts.2 in
        subst IsReported (sym parts.4) of_pair

    pair_reported : (m : Contents) → d.said ≡ Ok m → (body : Body) → m.body ≡ body → (report : Report)
        → option_and_then report_in (answered w d.line d.time m body (after_all w ds)) ≡ Some report
        → IsReported report
    pair_reported m said (bodies.Sync origin) body report same =
        pair_told (calls.Event (Ok m) d.time d.line) (ready_sync w d.line d.time m (after_all w ds)) report
        (sync_knows m said origin body) same
    pair_reported m said (bodies.DelayReq origin) body report same = cc
    pair_reported m said (bodies.FollowUp precise) body report same =
        pair_told (calls.General (Ok m) d.line) (ready_follow_up w d.time m (after_all w ds)) report
        (follow_up_knows m said precise body) same
    pair_reported m said (bodies.DelayResp receive requesting) body report same =
        pair_told (calls.General (Ok m) d.line) (ready_response w d.time m requesting (after_all w ds)) report
        (response_knows m said receive requesting body) same

    reported_pair : (report : Report) → option_and_then report_in (answered_to w d (after_all w ds)) ≡ Some report
        → IsReported report
    reported_pair report same = by d.said refl same
      where
        by : (said : Reading) → d.said ≡ said
            → option_and_then report_in
            (option_and_then (λ m. answered w d.line d.time m m.body (after_all w ds)) (result_ok said)) ≡ Some report
            → IsReported report
        by (Ok m) is same = pair_reported m is m.body refl report same
        by (Err refusal) is same = cc

  -- the port after all
  after_knows : (ds : List Recorded) → AreNumbered ds → KnowsIn ds (after_all w ds)
  after_knows [] numbered = knows-master w [] [] (setup_in w (start w)) []
  after_knows (d ∷ ds) numbered =
      hear_knows ds d (numbered-below d ds numbered) (after_knows ds (numbered-rest d ds numbered))

-- the law
pub no_pair : NoReportedPairIsApart
no_pair w earlier d report sync follow numbered same pair flags few =
    let ds : List Recorded = d ∷ earlier in
    let line = some_step (λ (number : ℕ). at_line number ds) report.follow_tag pair.follow_is in
    let found = reported_pair w earlier d (numbered-below d earlier numbered)
    (after_knows w earlier (numbered-rest d earlier numbered)) report same line.0 line.1 in
    let syncs_found : Some found.sync ≡ Some sync = sym found.sync_there ∙ pair.sync_is in
    let follows_found : Some found.follow ≡ Some follow = sym found.follow_there ∙ line.2 in
    let one : found.sync ≡ sync = cc in
    let other : found.follow ≡ follow = cc in
    subst (λ (s : Recorded). flag_of s ≡ flag_of follow → heard_between w s follow ds < table_capacity
    → heard_between w follow s ds < table_capacity → is_apart s.time follow.time ≡ false) one
    (subst (λ (f : Recorded). flag_of found.sync ≡ flag_of f → heard_between w found.sync f ds < table_capacity
    → heard_between w f found.sync ds < table_capacity → is_apart found.sync.time f.time ≡ false) other found.near)
    flags few.few_syncs few.few_follow_ups
