-- The law: a listening port begins anew exactly where a recording tells that the slave or the master did, by their
-- numbers (IEEE 1588-2019, 7.3.7). `laws::each_beginning_is_told` promises it.
use Rattle.std.specs.Prelude.{◌≡◌, ℕ, ◌==◌, nat_lt, Bool, true, false, not, ◌&&◌, List, [], ◌∷◌, if◌then◌else◌}
use Rattle.std.specs.Option.{option_map_or}
use Rattle.std.specs.Result.{result_ok}
use Rattle.ptp_units.specs.Sequence.{next, ahead}
use Rattle.event_codec.specs.declared.message.Body.{Body}
use Rattle.event_codec.specs.declared.message.Body.TheVariants as bodies
use Rattle.event_codec.specs.Packet.{Contents}
use Rattle.sync_watch.specs.declared.judgement.Judgement.{Judgement}
use Rattle.sync_watch.specs.declared.judgement.Judgement.TheVariants.{Newer, Repeated, BeganAnew}
use Rattle.sync_watch.specs.Told.{Told}
use Rattle.sync_watch.specs.Judged.{judged_sync, after_sync, after_follow_up}
use Rattle.recording_model.specs.declared.watched.Watched.{Watched}
use Rattle.recording_model.specs.Recorded.{Recorded}
use Rattle.recording_model.specs.Listening.{table_capacity, is_of, arrival_of, after_all}
use Rattle.recording_model.specs.Told.{last_request}

-- a Delay_Req of the slave with this number says that it began anew: the number is neither that of its last one again nor
-- 1 to 256 ahead of it
abbrev pub is_leap : (last number : ℕ) → Bool
is_leap last number =
    not (nat_lt (ahead number (next last)) table_capacity) && not (ahead number (next last) == 65535)

-- what is told of the master, once a datagram says this
abbrev pub told_with : Watched → Recorded → Contents → Body → List Told → List Told
told_with w d m (bodies.Sync origin) told =
    if is_of w w.master m.header then after_sync (arrival_of m.header d.time) table_capacity told else told
told_with w d m (bodies.DelayReq origin) told = told
told_with w d m (bodies.FollowUp precise) told =
    if is_of w w.master m.header then after_follow_up (arrival_of m.header d.time) table_capacity told else told
told_with w d m (bodies.DelayResp receive requesting) told = told

-- what these tell of the master since it began, newest first: its Syncs and Follow_Ups, each with its time, without those
-- that aren't to be heard
abbrev pub told_of_master : Watched → List Recorded → List Told
told_of_master w [] = []
told_of_master w (d ∷ earlier) =
    option_map_or (λ m. told_with w d m m.body (told_of_master w earlier)) (result_ok d.said) (told_of_master w earlier)

-- the Sync that is judged so says that the master began anew
abbrev pub is_beginning : Judgement → Bool
is_beginning Newer = false
is_beginning Repeated = false
is_beginning BeganAnew = true

-- a message tells that the slave began anew, or the master
abbrev pub begins_with : Watched → List Recorded → Recorded → Contents → Body → Bool
begins_with w earlier d m (bodies.Sync origin) =
    is_of w w.master m.header
    && is_beginning (judged_sync (arrival_of m.header d.time) table_capacity (told_of_master w earlier))
begins_with w earlier d m (bodies.DelayReq origin) =
    is_of w w.slave m.header
    && option_map_or (λ last. is_leap last m.header.sequence.0) (last_request w earlier) false
begins_with w earlier d m (bodies.FollowUp precise) = false
begins_with w earlier d m (bodies.DelayResp receive requesting) = false

-- the same of a datagram
abbrev pub tells_beginning : Watched → List Recorded → Recorded → Bool
tells_beginning w earlier d = option_map_or (λ m. begins_with w earlier d m m.body) (result_ok d.said) false

-- the line of the last of these that tells one, 0 where none does
abbrev pub begun_at : Watched → List Recorded → ℕ
begun_at w [] = 0
begun_at w (d ∷ earlier) = if tells_beginning w earlier d then d.line else begun_at w earlier

-- Whatever is recorded: the line at which the port began last is that of the last datagram that tells a beginning.
abbrev pub EachBeginningIsTold : Type 0
EachBeginningIsTold = (w : Watched) (ds : List Recorded) → (after_all w ds).begun ≡ begun_at w ds
