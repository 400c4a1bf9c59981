-- The law: the Sync and the Follow_Up of a report (IEEE 1588-2019, 11.3) came less than a second apart, where both have
-- the same unicastFlag (13.3.2.8), and the one that came first was still among the latest that the port had heard of
-- its like when the other came. `laws::no_reported_pair_is_apart` promises it.
use Rattle.std.specs.Prelude.{◌≡◌, ℕ, ◌+◌, ◌<◌, ◌==◌, nat_lt, Bool, true, false, ◌&&◌, List, [], ◌∷◌, find, is_some}
use Rattle.std.specs.Prelude.{if◌then◌else◌, Option, Some, Ok, option_map, option_and_then}
use Rattle.std.specs.Bool.{beq}
use Rattle.std.specs.Result.{result_ok}
use Rattle.event_codec.specs.declared.message.Body.{Body}
use Rattle.event_codec.specs.declared.message.Body.TheVariants.{Sync, FollowUp}
use Rattle.event_codec.specs.Packet.{Contents}
use Rattle.event_codec.specs.Reading.{Reading}
use Rattle.sync_watch.specs.Life.{is_apart}
use Rattle.slave_port.specs.declared.heard.Report.{Report}
use Rattle.recording_model.specs.declared.watched.Watched.{Watched}
use Rattle.recording_model.specs.Recorded.{Recorded}
use Rattle.recording_model.specs.Listening.{table_capacity, is_of, is_unicast, after_all, answered_to, report_at}
use Rattle.recording_model.specs.Told.{AreNumbered}

-- the datagram of the line of this number
abbrev pub at_line : (number : ℕ) → List Recorded → Option Recorded
at_line number ds = find (λ d. d.line == number) ds

-- the Sync and the Follow_Up of a report
pub record IsPairOf (report : Report) (ds : List Recorded) (sync follow : Recorded) : Type 0 where
  pub sync_is : at_line report.sync_tag ds ≡ Some sync
  pub follow_is : option_and_then (λ number. at_line number ds) report.follow_tag ≡ Some follow

-- unicastFlag of what a datagram says
abbrev pub flag_of : Recorded → Option Bool
flag_of d = option_map (λ m. is_unicast m.header) (result_ok d.said)

-- two Syncs, or two Follow_Ups
abbrev pub is_same_kind : Body → Body → Bool
is_same_kind (Sync origin) (Sync other) = true
is_same_kind (FollowUp precise) (FollowUp other) = true
is_same_kind _ _ = false

-- a message of the master that is like another: of the same kind, and with the same unicastFlag
abbrev pub is_like : Watched → (other : Contents) → Contents → Bool
is_like w other m =
    is_of w w.master m.header
    && (is_same_kind other.body m.body && beq (is_unicast other.header) (is_unicast m.header))

-- the same of what two datagrams say
abbrev pub says_like : Watched → (other : Reading) → Reading → Bool
says_like w (Ok other) (Ok m) = is_like w other m
says_like w _ _ = false

-- the port hears what a datagram says, which is no repeat
abbrev pub is_heard : Watched → List Recorded → Recorded → Bool
is_heard w earlier d = is_some (answered_to w d (after_all w earlier))

-- how many of these datagrams the port hears that pass a test
abbrev pub heard_count : Watched → (Recorded → Bool) → List Recorded → ℕ
heard_count w passes [] = 0
heard_count w passes (d ∷ earlier) =
    if passes d && is_heard w earlier d then heard_count w passes earlier + 1 else heard_count w passes earlier

-- of the lines between these two, how many are like the first and heard
abbrev pub heard_between : Watched → (first later : Recorded) → List Recorded → ℕ
heard_between w first later ds = heard_count w
    (λ d. nat_lt first.line d.line && (nat_lt d.line later.line && says_like w first.said d.said))
    ds

-- whichever came first, at most 255 that are like it are heard before the other comes
pub record AreFewBetween (w : Watched) (ds : List Recorded) (sync follow : Recorded) : Type 0 where
  pub few_syncs : heard_between w sync follow ds < table_capacity
  pub few_follow_ups : heard_between w follow sync ds < table_capacity

-- Whatever is recorded, in lines with growing numbers: the Sync and the Follow_Up of a report are recorded less than a
-- second apart, where both have the same unicastFlag and few of their like are heard between them.
abbrev pub NoReportedPairIsApart : Type 0
NoReportedPairIsApart =
    (w : Watched) (earlier : List Recorded) (d : Recorded) (report : Report) (sync follow : Recorded)
    → AreNumbered (d ∷ earlier) → report_at w earlier d ≡ Some report
    → IsPairOf report (d ∷ earlier) sync follow → flag_of sync ≡ flag_of follow
    → AreFewBetween w (d ∷ earlier) sync follow
    → is_apart sync.time follow.time ≡ false
