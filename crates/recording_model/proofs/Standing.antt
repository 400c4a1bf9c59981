-- A listening port over a datagram: what holds of it goes on holding, and is as after a tick where the datagram brings
-- one.
use Rattle.std.proofs.Common.{◌≡◌, ◌∙◌, ℕ, zero, suc, ◌+◌, ◌-◌, ◌<◌, ◌≤◌, Bool, true, false, List, [], ◌∷◌, Some, refl}
use Rattle.std.proofs.Common.{None, is_some}
use Rattle.std.proofs.Common.{sym, ap}
use Rattle.std.proofs.Common.{subst, arith, nat_lt, if◌then◌else◌}
use Rattle.std.specs.Prelude.{◌==◌, ◌&&◌, ◌||◌, not, count_by}
use Rattle.std.proofs.lemmas.Bool.{ne_eqb, eq-eqb, eqb-true}
use Rattle.std.proofs.lemmas.List.Sums.{sum_by-cons}
use Rattle.ptp_units.specs.Sequence.{of_count, ahead}
use Rattle.event_codec.specs.declared.port.PortIdentity.{PortIdentity}
use Rattle.event_codec.specs.Packet.{Contents}
use Rattle.event_codec.specs.Port.{is_same_port}
use Rattle.event_codec.specs.Reading.{Reading}
use Rattle.pairing.specs.Marked.{Entry, entry}
use Rattle.sync_watch.specs.declared.judgement.Judgement.{Judgement}
use Rattle.sync_watch.specs.declared.judgement.Judgement.TheVariants.{Newer, Repeated, BeganAnew}
use Rattle.sync_watch.specs.declared.arrival.Arrival.{Arrival}
use Rattle.sync_watch.specs.Told.{Told, Sync, FollowUp, known}
use Rattle.sync_watch.specs.Judged.{judged_sync, judged_follow_up}
use Rattle.slave_port.specs.History as calls
use Rattle.slave_port.specs.History.{Call, Setup, requests_drawn, next_number}
use Rattle.slave_port.specs.Requests.{requests}
use Rattle.network_model.specs.Network.{Network, NodeName}
use Rattle.network_model.specs.Run.{Place}
use Rattle.network_model.specs.Kinds.{is_at, is_request}
use Rattle.network_model.specs.Clock.{reading}
use Rattle.recording_model.specs.declared.watched.Watched.{Watched}
use Rattle.recording_model.specs.Agreement.{Moved}
use Rattle.recording_model.specs.Listening.{Listening, setup_in, is_of, told, draws, asks, anew, hears_request}
use Rattle.recording_model.specs.Listening.{with_count, ticks_every, table_capacity, arrival_of}
use Rattle.recording_model.specs.Listening.{with_master_anew, ready_judged, ready_sync}
use Rattle.recording_model.specs.Listening.{ready_followed, ready_follow_up, ready_response, hears_ready}
use Rattle.recording_model.specs.Premises.{is_tick, ticks_in}
use Rattle.recording_model.specs.Exact.{Watches}
use Rattle.recording_model.proofs.Lines.{Lines}
use Rattle.recording_model.proofs.Near.{Reach}
use Rattle.recording_model.proofs.Requests.{AreRequests, requests-later, drawn-draws, next-draws, requests-asked}
use Rattle.recording_model.proofs.Holding.{Holds, holds-ticked, holds-asked}

-- one call more
count-tick : (history : List Call) → count_by is_tick (calls.Tick ∷ history) ≡ count_by is_tick history + 1
count-tick history = omega (arith, sum_by-cons (λ c. if is_tick c then 1 else 0) calls.Tick history)

count-master : (master : PortIdentity) (history : List Call)
    → count_by is_tick (calls.SetMaster master ∷ history) ≡ count_by is_tick history + 1
count-master master history =
    omega (arith, sum_by-cons (λ c. if is_tick c then 1 else 0) (calls.SetMaster master) history)

count-other : (call : Call) (history : List Call) → is_tick call ≡ false
    → count_by is_tick (call ∷ history) ≡ count_by is_tick history
count-other call history is = omega (
  arith,
  sum_by-cons (λ c. if is_tick c then 1 else 0) call history,
  ap {B = ℕ}
      (λ b. if b then 1 else 0) is,
)

count-draws : (count tag : ℕ) (history : List Call)
    → count_by is_tick (draws count tag history) ≡ count_by is_tick history
count-draws zero tag history = refl
count-draws (suc count) tag history = count-other (calls.NextRequest tag) (draws count tag history) refl
    ∙ count-draws count tag history

-- a port that had so many ticks before has so many Syncs since its last one
abbrev pub since_tick : (before slack : ℕ) → Listening → ℕ
since_tick before slack l = if not (ticks_in l == before) then 0 else slack

pub since-no_tick : (before slack : ℕ) (l : Listening) → ticks_in l ≡ before → since_tick before slack l ≡ slack
since-no_tick before slack l same = ap {B = ℕ} (λ b. if not b then 0 else slack) (eq-eqb (ticks_in l) before same)

since-tick : (before slack : ℕ) (l : Listening) → before < ticks_in l → since_tick before slack l ≡ 0
since-tick before slack l more = ap {B = ℕ} (λ b. if not b then 0 else slack)
    (ne_eqb (ticks_in l) before (λ (e : ticks_in l ≡ before). omega arith))

pub since-low : (before slack : ℕ) (l : Listening) → since_tick before slack l ≤ slack
since-low before slack l = by (ticks_in l == before)
  where
    by : (same : Bool) → (if not same then 0 else slack) ≤ slack
    by true = omega arith
    by false = omega arith

module _ (network : Network) (slave master : NodeName) (moved : Moved) (w : Watched)
    (watches : Watches network slave master w)
    (reach : Reach) (lines : Lines) where
  -- what holds of the port's calls
  abbrev pub HoldsIn : (syncs sent slack : ℕ) → Setup → List Call → Type 0
  HoldsIn = Holds network slave master moved watches.own watches.other w.master reach lines

  -- what holds of a listening port, the next number of its requests among it
  pub record Stands (syncs sent slack : ℕ) (l : Listening) : Type 0 where
    pub holds : HoldsIn syncs sent slack (setup_in w l) l.calls
    pub next : l.asked ≡ true → next_number (setup_in w l) l.calls ≡ of_count (watches.own.first + sent)
    pub none : l.asked ≡ false → requests (setup_in w l) l.calls ≡ []

  -- the same after a datagram, before which the port had so many ticks
  pub record StandsAfter (before syncs sent slack : ℕ) (l : Listening) : Type 0 where
    pub more : before ≤ ticks_in l
    pub stands : Stands syncs sent (since_tick before slack l) l

  -- with a tick more, and another count
  abbrev with_tick : (counted : ℕ) → Listening → Listening
  with_tick counted l = record l { calls = calls.Tick ∷ l.calls; syncs = counted }

  module _ (before syncs sent slack : ℕ) (few : slack ≤ reach.between) where
    -- over a tick
    ticked : (l : Listening) (counted : ℕ) → StandsAfter before syncs sent slack l
        → StandsAfter before syncs sent slack (with_tick counted l)
    ticked l counted after =
        let grown : before < ticks_in (with_tick counted l) =
        (let more = after.more in omega (arith, count-tick l.calls)) in
        let none = since-tick before slack (with_tick counted l) grown in
        record {
          more = omega arith;
          stands = record {
            holds = subst (λ (s : ℕ). HoldsIn syncs sent s (setup_in w l) (calls.Tick ∷ l.calls)) (sym none)
                (holds-ticked network slave master moved watches.own watches.other w.master reach lines syncs sent
                (since_tick before slack l) (setup_in w l) l.calls after.stands.holds
                (omega (arith, since-low before slack l)));
            next = after.stands.next;
            none = after.stands.none;
          };
        }

    -- over another count
    recounted : (l : Listening) (counted : ℕ) → StandsAfter before syncs sent slack l
        → StandsAfter before syncs sent slack (record l { syncs = counted })
    recounted l counted after = record {
      more = after.more;
      stands = record { holds = after.stands.holds; next = after.stands.next; none = after.stands.none };
    }

    counted : (l : Listening) → StandsAfter before syncs sent slack l
        → StandsAfter before syncs sent slack (with_count l)
    counted l after = by (l.syncs + 1 == ticks_every)
      where
        by : (full : Bool) → StandsAfter before syncs sent slack
            (if full then record l { calls = calls.Tick ∷ l.calls; syncs = 0 } else record l { syncs = l.syncs + 1 })
        by true = ticked l 0 after
        by false = recounted l (l.syncs + 1) after

    -- over a message that a port hears which is ready
    pub heard-stands : (counts : Bool) (call : Call) (ready l : Listening)
        → StandsAfter before syncs sent slack (told call ready)
        → StandsAfter before syncs sent slack (hears_ready counts call (Some ready) l)
    heard-stands false call ready l after = after
    heard-stands true call ready l after = counted (told call ready) after

  -- such a message is no Delay_Req
  counted-asked : (l : Listening) → (with_count l).asked ≡ l.asked
  counted-asked l = by (l.syncs + 1 == ticks_every)
    where
      by : (full : Bool)
          → (if full then record l { calls = calls.Tick ∷ l.calls; syncs = 0 }
          else record l { syncs = l.syncs + 1 }).asked ≡ l.asked
      by true = refl
      by false = refl

  pub heard-asked : (counts : Bool) (call : Call) (ready l : Listening)
      → (hears_ready counts call (Some ready) l).asked ≡ ready.asked
  heard-asked false call ready l = refl
  heard-asked true call ready l = counted-asked (told call ready)

  module _ (before syncs sent slack : ℕ) (l : Listening) where
    -- a message that the port is told
    told-call : (call : Call) → is_tick call ≡ false
        → HoldsIn syncs sent (since_tick before slack l) (setup_in w l) (call ∷ l.calls)
        → (l.asked ≡ true → next_number (setup_in w l) (call ∷ l.calls) ≡ of_count (watches.own.first + sent))
        → (l.asked ≡ false → requests (setup_in w l) (call ∷ l.calls) ≡ [])
        → StandsAfter before syncs sent slack l
        → StandsAfter before syncs sent slack (told call l)
    told-call call no_tick holds next none after =
        let same = count-other call l.calls no_tick in
        let since : since_tick before slack (told call l) ≡ since_tick before slack l =
        ap {B = ℕ} (λ (n : ℕ). if not (n == before) then 0 else slack) same in
        record {
          more = (let more = after.more in omega arith);
          stands = record {
            holds = subst (λ (s : ℕ). HoldsIn syncs sent s (setup_in w l) (call ∷ l.calls)) (sym since) holds;
            next = next;
            none = none;
          };
        }

    pub told-event : (heard : Reading) (t2 tag : ℕ)
        → HoldsIn syncs sent (since_tick before slack l) (setup_in w l) (calls.Event heard t2 tag ∷ l.calls)
        → StandsAfter before syncs sent slack l
        → StandsAfter before syncs sent slack (told (calls.Event heard t2 tag) l)
    told-event heard t2 tag holds after =
        told-call (calls.Event heard t2 tag) refl holds after.stands.next after.stands.none after

    pub told-general : (heard : Reading) (tag : ℕ)
        → HoldsIn syncs sent (since_tick before slack l) (setup_in w l) (calls.General heard tag ∷ l.calls)
        → StandsAfter before syncs sent slack l
        → StandsAfter before syncs sent slack (told (calls.General heard tag) l)
    told-general heard tag holds after =
        told-call (calls.General heard tag) refl holds after.stands.next after.stands.none after

  -- a port that was told its master holds nothing
  told-master : (syncs sent slack : ℕ) (setup : Setup) (earlier : List Call)
      → HoldsIn syncs sent slack setup (calls.SetMaster w.master ∷ earlier)
  told-master syncs sent slack setup earlier = record {
    follows_master = refl;
    near_syncs = (λ k d low. absurd (omega arith), λ k d low. absurd (omega arith));
    near_follows = (λ k d low. absurd (omega arith), λ k d low. absurd (omega arith));
    near_completions = (λ k d low. absurd (omega arith), λ k d low. absurd (omega arith));
    near_delays = (λ k d low. absurd (omega arith), λ k d low. absurd (omega arith));
    last_requests = tt;
  }

  -- the port that is to hear a message, before which the port had so many ticks
  pub record IsReady (syncs sent slack : ℕ) (l ready : Listening) : Type 0 where
    pub after : StandsAfter (ticks_in l) syncs sent slack ready
    pub asked : ready.asked ≡ l.asked

  module _ (syncs sent slack : ℕ) (l : Listening) (stands : Stands syncs sent slack l) where
    -- the port as it is, but for what was heard
    as_it_is : (heard : List Told) (responses : List (Entry ℕ))
        → IsReady syncs sent slack l (record l { heard = heard; responses = responses })
    as_it_is heard responses =
        let since = since-no_tick (ticks_in l) slack l refl in
        record {
          after = record {
            more = omega arith;
            stands = record {
              holds = subst (λ (s : ℕ). HoldsIn syncs sent s (setup_in w l) l.calls) (sym since) stands.holds;
              next = stands.next;
              none = stands.none;
            };
          };
          asked = refl;
        }

    -- the master began anew, with no call between that draws requests
    master_anew : (line : ℕ) (a : Arrival) (before : Listening) → ticks_in l ≤ ticks_in before
        → before.asked ≡ l.asked
        → next_number (setup_in w before) before.calls ≡ next_number (setup_in w l) l.calls
        → IsReady syncs sent slack l (with_master_anew w line a before)
    master_anew line a before more asked next = record {
      after = record {
        more = omega (arith, count-master w.master before.calls);
        stands = record {
          holds = told-master syncs sent (since_tick (ticks_in l) slack (with_master_anew w line a before))
              (setup_in w before) before.calls;
          next = λ is. next ∙ stands.next (sym asked ∙ is);
          none = λ unasked. refl;
        };
      };
      asked = asked;
    }

    judged-ready : (j : Judgement) (line : ℕ) (a : Arrival) (ready : Listening)
        → ready_judged j w line a l ≡ Some ready → IsReady syncs sent slack l ready
    judged-ready Newer line a ready is =
        let same : record l { heard = Sync a ∷ l.heard } ≡ ready = cc in
        subst (IsReady syncs sent slack l) same (as_it_is (Sync a ∷ l.heard) l.responses)
    judged-ready Repeated line a ready is = cc
    judged-ready BeganAnew line a ready is =
        let same : with_master_anew w line a l ≡ ready = cc in
        subst (IsReady syncs sent slack l) same (master_anew line a l (omega arith) refl refl)

    -- each of them
    pub sync-ready : (line time : ℕ) (m : Contents) (ready : Listening) → ready_sync w line time m l ≡ Some ready
        → IsReady syncs sent slack l ready
    sync-ready line time m ready is = by (is_of w w.master m.header) is
      where
        by : (of_master : Bool)
            → (if of_master
            then ready_judged (judged_sync (arrival_of m.header time) table_capacity l.heard) w line
            (arrival_of m.header time) l
            else Some l) ≡ Some ready
            → IsReady syncs sent slack l ready
        by true is = judged-ready (judged_sync (arrival_of m.header time) table_capacity l.heard) line
            (arrival_of m.header time) ready is
        by false is =
            let same : l ≡ ready = cc in subst (IsReady syncs sent slack l) same (as_it_is l.heard l.responses)

    followed-ready : (j : Judgement) (a : Arrival) (ready : Listening) → ready_followed j a l ≡ Some ready
        → IsReady syncs sent slack l ready
    followed-ready Newer a ready is =
        let same : record l { heard = FollowUp a ∷ l.heard } ≡ ready = cc in
        subst (IsReady syncs sent slack l) same (as_it_is (FollowUp a ∷ l.heard) l.responses)
    followed-ready _ a ready is = cc

    pub follow_up-ready : (time : ℕ) (m : Contents) (ready : Listening) → ready_follow_up w time m l ≡ Some ready
        → IsReady syncs sent slack l ready
    follow_up-ready time m ready is = by (is_of w w.master m.header) is
      where
        by : (of_master : Bool)
            → (if of_master
            then ready_followed (judged_follow_up (arrival_of m.header time) table_capacity l.heard)
            (arrival_of m.header time) l
            else Some l) ≡ Some ready
            → IsReady syncs sent slack l ready
        by true is = followed-ready (judged_follow_up (arrival_of m.header time) table_capacity l.heard)
            (arrival_of m.header time) ready is
        by false is =
            let same : l ≡ ready = cc in subst (IsReady syncs sent slack l) same (as_it_is l.heard l.responses)

    pub response-ready : (time : ℕ) (m : Contents) (requesting : PortIdentity) (ready : Listening)
        → ready_response w time m requesting l ≡ Some ready → IsReady syncs sent slack l ready
    response-ready time m requesting ready is =
        by (not (is_of w w.master m.header && is_same_port requesting w.slave))
        (is_some (known table_capacity m.header.sequence.0 l.responses)) is
      where
        by : (others again : Bool)
            → (if others then Some l else if again then None
            else Some (record l { responses = entry m.header.sequence.0 time ∷ l.responses })) ≡ Some ready
            → IsReady syncs sent slack l ready
        by true again is =
            let same : l ≡ ready = cc in subst (IsReady syncs sent slack l) same (as_it_is l.heard l.responses)
        by false true is = cc
        by false false is =
            let same : record l { responses = entry m.header.sequence.0 time ∷ l.responses } ≡ ready = cc in
            subst (IsReady syncs sent slack l) same
            (as_it_is l.heard (entry m.header.sequence.0 time ∷ l.responses))

  -- a port that was told its master and nothing else
  pub set-stands : (syncs sent slack : ℕ) (l : Listening) → l.calls ≡ calls.SetMaster w.master ∷ []
      → HoldsIn syncs sent slack (setup_in w l) l.calls
  set-stands syncs sent slack l is =
      subst (HoldsIn syncs sent slack (setup_in w l)) (sym is) (told-master syncs sent slack (setup_in w l) [])

  -- as long as no Delay_Req is told, nothing is said of them
  pub unasked-stands : (syncs sent more slack : ℕ) (l : Listening) → l.asked ≡ false → Stands syncs sent slack l
      → Stands syncs more slack l
  unasked-stands syncs sent more slack l unasked stands = record {
    holds = record {
      follows_master = stands.holds.follows_master;
      near_syncs = stands.holds.near_syncs;
      near_follows = stands.holds.near_follows;
      near_completions = stands.holds.near_completions;
      near_delays = stands.holds.near_delays;
      last_requests = subst (AreRequests slave watches.own lines more) (sym (stands.none unasked)) tt;
    };
    next = λ asked. let both : true ≡ false = sym asked ∙ unasked in cc;
    none = stands.none;
  }

  -- a Delay_Req of the slave
  module _ (syncs : ℕ) (p : Place) (line time number : ℕ) (line_is : lines line ≡ Some p)
      (drawn : is_at is_request slave p.event ≡ true)
      (number_is : number ≡ of_count (watches.own.first + count_by (is_at is_request slave) p.earlier))
      (time_is : time ≡ reading p) where
    low : number < 65536
    low = omega (arith, number_is)

    -- it is asked for, where what was asked for before is as many Delay_Reqs behind it as are drawn
    asks-stands : (sent slack : ℕ) (l : Listening)
        → HoldsIn syncs sent slack (setup_in w l) l.calls
        → AreRequests slave watches.own lines
        (count_by (is_at is_request slave) p.earlier - ahead number (next_number (setup_in w l) l.calls))
        (requests (setup_in w l) l.calls)
        → Stands syncs (count_by (is_at is_request slave) p.earlier + 1) slack (asks w line time number l)
    asks-stands sent slack l holds are =
        let next : ℕ = next_number (setup_in w l) l.calls in
        let count : ℕ = count_by (is_at is_request slave) p.earlier in
        record {
          holds = holds-asked network slave master moved watches.own watches.other w.master reach lines syncs sent slack
              (setup_in w l) l.calls holds
              (ahead number next + 1) line number time (count + 1)
              (requests-asked slave watches.own (setup_in w l) lines p line number time l.calls low line_is drawn
              number_is time_is are);
          next = λ asked. omega (
            arith,
            number_is,
            next-draws (setup_in w l) number line l.calls low,
            drawn-draws (ahead number next + 1) line l.calls,
            drawn-draws (ahead number next) line l.calls,
          );
          none = λ unasked. cc;
        }

    -- the port after it, where it is near or the last one's again
    abbrev after : Listening → (near again : Bool) → Listening
    after l near again =
        if near then asks w line time number l else if again then l else asks w line time number (anew w line number l)

    -- the slave's next Delay_Req that is told, and fewer than half a turn were missing
    pub asked-stands : (sent missing slack : ℕ) (l : Listening) → Stands syncs sent slack l
        → sent + missing ≡ count_by (is_at is_request slave) p.earlier
        → missing < 32768
        → Stands syncs (count_by (is_at is_request slave) p.earlier + 1)
        (since_tick (ticks_in l) slack (hears_request w line time number l))
        (hears_request w line time number l)
        × ((hears_request w line time number l).asked ≡ true)
    asked-stands sent missing slack l stands counted few =
        by (not l.asked || nat_lt (ahead number next) table_capacity) refl (ahead number next == 65535) refl
      where
        next : ℕ
        next = next_number (setup_in w l) l.calls

        count : ℕ
        count = count_by (is_at is_request slave) p.earlier

        same : ticks_in (asks w line time number l) ≡ ticks_in l
        same = count-other (calls.RequestLeft number time) (draws (ahead number next + 1) line l.calls) refl
            ∙ count-draws (ahead number next + 1) line l.calls

        -- so many are missing as it is ahead
        ahead_is : l.asked ≡ true → ahead number next ≡ missing
        ahead_is asked = omega (arith, number_is, stands.next asked, counted)

        kept_requests : (asked : Bool) → l.asked ≡ asked
            → AreRequests slave watches.own lines (count - ahead number next) (requests (setup_in w l) l.calls)
        kept_requests true asked =
            requests-later slave watches.own lines lines sent (count - ahead number next)
            (requests (setup_in w l) l.calls) (λ line p is. is)
            (omega (arith, ahead_is asked, counted)) stands.holds.last_requests
        kept_requests false unasked = subst (AreRequests slave watches.own lines (count - ahead number next))
            (sym (stands.none unasked)) tt

        asked_then : (asked near : Bool) → (not asked || near) ≡ false → asked ≡ true
        asked_then true near is = refl
        asked_then false near is = cc

        by : (near : Bool) → (not l.asked || nat_lt (ahead number next) table_capacity) ≡ near → (again : Bool)
            → (ahead number next == 65535) ≡ again
            → Stands syncs (count + 1) (since_tick (ticks_in l) slack (after l near again)) (after l near again)
            × ((after l near again).asked ≡ true)
        by true e again f = (
          subst (λ (s : ℕ). Stands syncs (count + 1) s (asks w line time number l))
              (sym (since-no_tick (ticks_in l) slack (asks w line time number l) same))
              (asks-stands sent slack l stands.holds (kept_requests l.asked refl)),
          refl,
        )
        by false e true f =
            let asked = asked_then l.asked (nat_lt (ahead number next) table_capacity) e in
            let turn : ahead number next ≡ 65535 = eqb-true (ahead number next) 65535 f in
            absurd (omega (arith, ahead_is asked))
        by false e false f = (
          asks-stands 0 (since_tick (ticks_in l) slack (asks w line time number (anew w line number l))) (anew w line number l)
              (set-stands syncs 0 (since_tick (ticks_in l) slack (asks w line time number (anew w line number l)))
              (anew w line number l) refl) tt,
          refl,
        )
