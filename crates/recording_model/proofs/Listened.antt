-- A port that listens to a recording: what holds of it holds after all datagrams, so each of its reports is exact.
use Rattle.std.proofs.Common.{◌≡◌, ◌∙◌, ℕ, ◌+◌, ◌-◌, ◌<◌, ◌≤◌, Bool, true, false, List, [], ◌∷◌, refl, sym, arith}
use Rattle.std.proofs.Common.{if◌then◌else◌}
use Rattle.std.specs.Prelude.{◌&&◌, IsTrue}
use Rattle.std.specs.List.{All}
use Rattle.std.proofs.lemmas.List.Elements.{All-nil, All-weaker}
use Rattle.network_model.specs.declared.event.Event.{Event}
use Rattle.network_model.specs.Network.{Network, NodeName, IsNetwork}
use Rattle.network_model.specs.Run.{Run}
use Rattle.network_model.specs.Kinds.{is_at, draws_sync, is_request}
use Rattle.network_model.specs.Outcome.{IsRun}
use Rattle.network_model.proofs.Sequences.{count-yes, count-no, count-more}
use Rattle.recording_model.specs.declared.watched.Watched.{Watched}
use Rattle.recording_model.specs.Recorded.{Recorded}
use Rattle.recording_model.specs.Listening.{Listening, setup_in, start, after_all, report_at, reports}
use Rattle.recording_model.specs.Agreement.{Moved}
use Rattle.recording_model.specs.Told.{Tells, IsToldBy, Nothing, Untold, Told, Other, says_nothing, AreNumbered}
use Rattle.recording_model.specs.Told.{event_told}
use Rattle.recording_model.specs.Premises.{IsFresh, IsTicked, MissesFew, syncs_since_tick, requests_missing, brings_tick}
use Rattle.recording_model.specs.Exact.{Watches, IsExact, EachReportIsExact}
use Rattle.recording_model.proofs.Lines.{Lines, told-in, told-more, told-now, numbered-rest}
use Rattle.recording_model.proofs.Near.{All-brought}
use Rattle.recording_model.proofs.Holding.{holds-later}
use Rattle.recording_model.proofs.Standing.{Stands, set-stands, unasked-stands}
use Rattle.recording_model.proofs.Reported.{IsMadeOf, made-later, exact_of}
use Rattle.recording_model.proofs.Steps.{within, syncs_in, sent_in, FollowsLast, step}
use Rattle.recording_model.proofs.Aside.{still_after}

module _ (network : Network) (slave master : NodeName) (w : Watched) (moved : Moved) (apart : IsNetwork network)
    (watches : Watches network slave master w) where
  -- the Syncs since the last tick are few, and so are the requests that are missing
  ticked-now : {run : Run} {ds : List Recorded} (tells : Tells network slave w moved run ds) → IsTicked 16384 master tells
      → syncs_since_tick master tells ≤ 16384
  ticked-now Nothing ticked = omega arith
  ticked-now (Untold event earlier ds tells) ticked = ticked.0
  ticked-now (Told event earlier d ds one tells) ticked = by (brings_tick w ds d)
      (ticked-now tells ticked)
    where
      by : (ticks : Bool) → syncs_since_tick master tells ≤ 16384
          → (if ticks then 0 else syncs_since_tick master tells) ≤ 16384
      by true few = omega arith
      by false few = few
  ticked-now (Other run d ds nothing tells) ticked = ticked-now tells ticked

  missing-now : {run : Run} {ds : List Recorded} (tells : Tells network slave w moved run ds) → MissesFew 32768 tells
      → requests_missing tells < 32768
  missing-now Nothing missing = omega arith
  missing-now (Untold event earlier ds tells) missing = missing.0
  missing-now (Told event earlier d ds one tells) missing = by (is_request event)
      (missing-now tells missing)
    where
      by : (request : Bool) → requests_missing tells < 32768
          → (if request then 0 else requests_missing tells) < 32768
      by true few = omega arith
      by false few = few
  missing-now (Other run d ds nothing tells) missing = missing-now tells missing

  -- how many Syncs the master drew, and how many requests the slave
  abbrev syncs_of : Run → ℕ
  syncs_of run = syncs_in network slave master moved w apart watches run

  abbrev sent_of : Run → ℕ
  sent_of run = sent_in network slave master moved w apart watches run

  -- what holds after all datagrams, where the port knows of so many requests
  record HoldsAfter {run : Run} {ds : List Recorded} (tells : Tells network slave w moved run ds) : Type 0 where
    pub known : ℕ
    pub counted : known + requests_missing tells ≡ sent_of run
    pub stands : Stands network slave master moved w watches within (event_told tells) (syncs_of run) known
        (syncs_since_tick master tells) (after_all w ds)
    pub last : FollowsLast network slave master moved w apart watches ds known (after_all w ds)
    pub made : All (IsMadeOf (event_told tells) slave master) (reports w ds)

  -- a port that was told its master alone, of whatever run
  at_start : (lines : Lines) (syncs sent slack : ℕ)
      → Stands network slave master moved w watches within lines syncs sent slack (start w)
  at_start lines syncs sent slack = record {
    holds = set-stands network slave master moved w watches within lines syncs sent slack (start w) refl;
    next = λ asked. cc;
    none = λ unasked. refl;
  }

  -- an event that no line tells adds a Sync at most
  untold_stands : (event : Event) (earlier : Run) (ds : List Recorded) (tells : Tells network slave w moved earlier ds)
      (known : ℕ)
      → Stands network slave master moved w watches within (event_told tells) (syncs_of earlier) known
      (syncs_since_tick master tells) (after_all w ds)
      → Stands network slave master moved w watches within (event_told (Untold event earlier ds tells))
      (syncs_of (event ∷ earlier)) known
      (syncs_since_tick master (Untold event earlier ds tells)) (after_all w ds)
  untold_stands event earlier [] tells known before =
      at_start (event_told (Untold event earlier [] tells)) (syncs_of (event ∷ earlier)) known 0
  untold_stands event earlier (d ∷ ds) tells known before =
      let more : Lines = event_told (Untold event earlier (d ∷ ds) tells) in
      let l : Listening = after_all w (d ∷ ds) in
      record {
        holds = holds-later network slave master moved watches.own watches.other w.master within (event_told tells) more
            (syncs_of earlier) (syncs_of (event ∷ earlier))
            known known (syncs_since_tick master tells)
            (syncs_since_tick master (Untold event earlier (d ∷ ds) tells)) (setup_in w l) l.calls
            (λ line p is. is) (drawn (is_at draws_sync master event) refl) (omega arith) before.holds;
        next = before.next;
        none = before.none;
      }
    where
      drawn : (draws : Bool) → is_at draws_sync master event ≡ draws
          → syncs_of (event ∷ earlier) + syncs_since_tick master tells
          ≤ syncs_of earlier + (if draws then syncs_since_tick master tells + 1 else syncs_since_tick master tells)
      drawn true e = omega (arith, count-yes (is_at draws_sync master) event earlier e)
      drawn false e = omega (arith, count-no (is_at draws_sync master) event earlier e)

  -- and a request that is missing, unless the port knows of none
  untold : (event : Event) (earlier : Run) (ds : List Recorded) (tells : Tells network slave w moved earlier ds)
      → HoldsAfter tells → HoldsAfter (Untold event earlier ds tells)
  untold event earlier ds tells before =
      let more : Lines = event_told (Untold event earlier ds tells) in
      let one = requested (after_all w ds).asked (is_at is_request slave event) refl refl in
      record {
        known = one.0;
        counted = one.1;
        stands = one.2;
        last = one.3;
        made = All-weaker (IsMadeOf (event_told tells) slave master) (IsMadeOf more slave master)
            (made-later (event_told tells) more slave master (λ line p is. is)) (reports w ds) before.made;
      }
    where
      stands : Stands network slave master moved w watches within (event_told (Untold event earlier ds tells))
          (syncs_of (event ∷ earlier)) before.known
          (syncs_since_tick master (Untold event earlier ds tells)) (after_all w ds)
      stands = untold_stands event earlier ds tells before.known before.stands

      requested : (asked drew : Bool) → (after_all w ds).asked ≡ asked → is_at is_request slave event ≡ drew
          → (n : ℕ) × (n + (if asked && drew then requests_missing tells + 1 else requests_missing tells) ≡ sent_of
          (event ∷ earlier))
          × Stands network slave master moved w watches within (event_told (Untold event earlier ds tells))
          (syncs_of (event ∷ earlier)) n
          (syncs_since_tick master (Untold event earlier ds tells)) (after_all w ds)
          × FollowsLast network slave master moved w apart watches ds n (after_all w ds)
      requested true true e f = (
        before.known,
        let counted = before.counted in omega (arith, count-yes (is_at is_request slave) event earlier f),
        stands,
        before.last,
      )
      requested true false e f = (
        before.known,
        let counted = before.counted in omega (arith, count-no (is_at is_request slave) event earlier f),
        stands,
        before.last,
      )
      requested false drew e f = (
        sent_of (event ∷ earlier) - requests_missing tells,
        let counted = before.counted in omega (arith, count-more (is_at is_request slave) event earlier),
        unasked-stands network slave master moved w watches within (event_told (Untold event earlier ds tells))
            (syncs_of (event ∷ earlier)) before.known
            (sent_of (event ∷ earlier) - requests_missing tells)
            (syncs_since_tick master (Untold event earlier ds tells)) (after_all w ds) e stands,
        λ n last. let both : false ≡ true = sym e ∙ (before.last n last).0 in cc,
      )

  -- what says nothing new leaves all else as it was
  other : (run : Run) (d : Recorded) (ds : List Recorded) (nothing : IsTrue (says_nothing w ds d))
      (tells : Tells network slave w moved run ds) → IsTicked 16384 master tells
      → HoldsAfter tells → HoldsAfter (Other run d ds nothing tells)
  other run d ds nothing tells ticked before =
      let lines : Lines = event_told tells in
      let after = still_after network slave master moved w watches lines (syncs_of run) before.known
      (syncs_since_tick master tells) (ticked-now tells ticked) ds before.stands d
      (λ n last.
      let follows = before.last n last in
      (follows.0, follows.1, before.stands.next follows.0 ∙ sym follows.2)) nothing in
      record {
        known = before.known;
        counted = before.counted;
        stands = after.stands;
        last = λ n last.
            let follows = before.last n (sym after.last ∙ last) in (after.asked ∙ follows.0, follows.1, follows.2);
        made = All-brought (IsMadeOf lines slave master) (report_at w ds d) (reports w ds) after.made before.made;
      }

  -- a datagram that tells an event
  told : (event : Event) (earlier : Run) (d : Recorded) (ds : List Recorded)
      (one : IsToldBy network slave moved event earlier d) (tells : Tells network slave w moved earlier ds)
      → IsRun network (event ∷ earlier) → AreNumbered (d ∷ ds)
      → IsFresh 32768 (Told event earlier d ds one tells)
      → IsTicked 16384 master tells → MissesFew 32768 tells → HoldsAfter tells
      → HoldsAfter (Told event earlier d ds one tells)
  told event earlier d ds one tells accepted numbered fresh ticked missing before =
      let more : Lines = event_told (Told event earlier d ds one tells) in
      let extends = told-more network slave event earlier d one tells numbered in
      let stepped = step network slave master moved w apart watches event earlier d ds accepted (event_told tells) more
      extends (told-in network slave (Told event earlier d ds one tells))
      (told-now network slave event earlier d one tells) one
      (syncs_since_tick master tells) (ticked-now tells ticked) before.known (requests_missing tells)
      (missing-now tells missing) before.counted before.stands before.last fresh.0 in
      record {
        known = stepped.known;
        counted = stepped.counted;
        stands = stepped.stands;
        last = stepped.last;
        made = All-brought (IsMadeOf more slave master) (report_at w ds d) (reports w ds) stepped.reported
            (All-weaker (IsMadeOf (event_told tells) slave master) (IsMadeOf more slave master)
            (made-later (event_told tells) more slave master extends)
            (reports w ds) before.made);
      }

  -- each of them in turn
  listened : {run : Run} {ds : List Recorded} (tells : Tells network slave w moved run ds) → IsRun network run → AreNumbered ds
      → IsFresh 32768 tells
      → IsTicked 16384 master tells → MissesFew 32768 tells → HoldsAfter tells
  listened Nothing accepted numbered fresh ticked missing = record {
    known = 0;
    counted = refl;
    stands = at_start (event_told {network = network} {slave = slave} {w = w} {moved = moved} Nothing) 0 0 0;
    last = λ n last. cc;
    made = All-nil (IsMadeOf (event_told {network = network} {slave = slave} {w = w} {moved = moved} Nothing) slave master);
  }
  listened (Untold event earlier ds tells) accepted numbered fresh ticked missing =
      untold event earlier ds tells (listened tells accepted.1 numbered fresh ticked.1 missing.1)
  listened (Other run d ds nothing tells) accepted numbered fresh ticked missing =
      other run d ds nothing tells ticked (listened tells accepted (numbered-rest d ds numbered) fresh ticked
      missing)
  listened (Told event earlier d ds one tells) accepted numbered fresh ticked missing =
      told event earlier d ds one tells accepted numbered fresh ticked missing
      (listened tells accepted.1 (numbered-rest d ds numbered) fresh.1 ticked missing)

  -- all reports
  pub each_exact : {run : Run} {ds : List Recorded} (tells : Tells network slave w moved run ds) → IsRun network run
      → AreNumbered ds → IsFresh 32768 tells
      → IsTicked 16384 master tells → MissesFew 32768 tells → All (IsExact master tells) (reports w ds)
  each_exact {ds = ds} tells accepted numbered fresh ticked missing =
      All-weaker (IsMadeOf (event_told tells) slave master) (IsExact master tells)
      (exact_of network slave master tells) (reports w ds)
      (listened tells accepted numbered fresh ticked missing).made

-- the law
pub each_report : EachReportIsExact
each_report network run slave master w moved ds premise watches tells asked =
    each_exact network slave master w moved premise.apart watches tells premise.accepted asked.numbered asked.fresh
    asked.ticked asked.missing
