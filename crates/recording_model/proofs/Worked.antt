-- A worked recording: of the exchange through a clock of a slave that leads by 1,000 ns. It tells a run that meets the
-- premises, and the port that listens to it reports once.
use Rattle.std.proofs.Common.{true, false, ◌≡◌, ℕ, zero, suc, ◌+◌, ◌-◌, pos, refl, arith, rules, List, [], ◌∷◌, Some, Ok, Err}
use Rattle.ptp_units.specs.Interval.{too_big}
use Rattle.ptp_units.specs.Moment.{stamp}
use Rattle.event_codec.specs.declared.message.Body.TheVariants.{DelayResp}
use Rattle.event_codec.specs.declared.refusal.DecodeRefusal.TheVariants.{OtherType}
use Rattle.event_codec.specs.Correction.{with_correction}
use Rattle.event_codec.specs.Packet.{Contents}
use Rattle.event_codec.specs.Profile.{header_of}
use Rattle.event_codec.specs.Reading.{Reading}
use Rattle.master_port.specs.Written.{sync, one_step_sync, follow_up}
use Rattle.slave_port.specs.declared.heard.Report.{Report}
use Rattle.slave_port.specs.Written.{delay_req}
use Rattle.slave_port.specs.History as calls
use Rattle.slave_port.specs.History.{requests_drawn}
use Rattle.sync_watch.specs.Life.{is_apart}
use Rattle.network_model.specs.declared.event.Event.{Event}
use Rattle.network_model.specs.declared.event.Event.TheVariants.{Sync, Follow, Enter, Leave, Arrive, Hear, Request}
use Rattle.network_model.specs.declared.event.Event.TheVariants.{Stamped, SetMaster, StepClock}
use Rattle.network_model.specs.Network.{Network, NodeName}
use Rattle.network_model.specs.Premises.{exact_limits}
use Rattle.network_model.specs.Run.{Run, place}
use Rattle.network_model.proofs.Worked.{small_network, m_config, b_config, s_config, m, s, t, at}
use Rattle.network_model.proofs.WorkedExchange.{after, whole}
use Rattle.recording_model.specs.declared.watched.Watched.{Watched}
use Rattle.recording_model.specs.Recorded.{Recorded}
use Rattle.recording_model.specs.Listening.{after_all, reports}
use Rattle.recording_model.specs.Agreement.{Moved, moved_at, Agrees}
use Rattle.recording_model.specs.Told.{Tells, Nothing, Untold, Told, Other, IsToldBy, IsTimed, told_at}
use Rattle.recording_model.specs.Premises.{IsFreshAndTicked}
use Rattle.recording_model.specs.Exact.{Watches}
use Rattle.recording_model.specs.Pairs.{heard_between}
use Rattle.recording_model.proofs.Pairs.{no_pair}
use Rattle.recording_model.proofs.Short.{IsFresh-short, IsTicked-short, MissesFew-short}

-- the slave S, which follows M
abbrev watched : Watched
watched = record { slave = s_config.identity; master = m_config.identity; domain = 0 }

abbrev watches : Watches small_network s m watched
watches = record {
  own = record { config = s_config; first = 0 };
  other = record { config = m_config; first = 0 };
  slave_port = refl;
  master_port = refl;
  slave_is = refl;
  master_is = refl;
  domain_is = refl;
}

-- the messages that came to S, and the one that it sent
abbrev sync_said : Contents
sync_said = with_correction (sync m_config 0) (record { 0 = pos 131072000 })

abbrev follow_said : Contents
follow_said = follow_up m_config 0 (at 1 0 0)

abbrev request_said : Contents
request_said = delay_req s_config 0

abbrev response_said : Contents
response_said = record {
  header = header_of m_config (0 ∷ 0 ∷ []) (pos 229376000) 0 3 (pos 0);
  body = DelayResp (stamp 2 4500) s_config.identity;
  suffix = [];
}

-- line by line: an Announce stands between, another slave's Delay_Req and its own again; what is heard has any time
abbrev line : ℕ → ℕ → Reading → Recorded
line number time said = record { line = number; time = time; said = said }

abbrev sync_line : Recorded
sync_line = line 1 (at 1 4000 0) (Ok sync_said)

abbrev follow_line : Recorded
follow_line = line 3 (at 1 5000 0) (Ok follow_said)

abbrev response_line : Recorded
response_line = line 7 0 (Ok response_said)

abbrev six_lines : List Recorded
six_lines =
    line 6 (at 2 1000 1) (Ok request_said) ∷ line 5 0 (Ok (delay_req b_config 7))
    ∷ line 4 (at 2 1000 0) (Ok request_said) ∷ follow_line ∷ line 2 (at 1 4500 0)
    (Err (OtherType 11)) ∷ sync_line ∷ []

abbrev recording : List Recorded
recording = response_line ∷ six_lines

-- twice 1,000 ns and twice 1,000 ns
abbrev report : Report
report = record {
  offset2 = pos 131072000;
  path2 = pos 131072000;
  sync_tag = 1;
  follow_tag = Some 3;
  request_tag = 4;
  response_tag = 7;
}

one_report : reports watched recording ≡ report ∷ []
one_report = refl

-- nothing stands in a Follow_Up in place of its Sync
abbrev pub unmoved : Moved
unmoved origin = pos 0

-- a datagram says what an event tells
abbrev pub it_tells : {network : Network} {slave : NodeName} {moved : Moved} {event : Event} {earlier : Run} {d : Recorded} {m : Contents}
    (said : Contents) → told_at network slave event earlier ≡ Some m → d.said ≡ Ok said
    → Agrees (moved_at moved (place event earlier)) m said → IsTimed event earlier d.time → IsToldBy network slave moved event earlier d
it_tells said made says agrees timed = record { m = _; made = made; said = said; says = says; agrees = agrees; timed = timed }

-- event by event
abbrev tells : Tells small_network s watched unmoved whole recording
tells =
    Told (Hear s 11) (after 13) _ _ (it_tells response_said refl refl (record { domain = refl; source = refl; number = refl; body = (refl, refl, refl) }) tt)
    (Other (after 13) _ _ refl
    (Untold (Stamped s) (after 12) _
    (Untold (Arrive m 10 (at 2 4500 16384)) (after 11) _
    (Untold (Leave t 9 (at 2 4000 16384)) (after 10) _
    (Untold (Enter t 8 (at 2 500 0)) (after 9) _
    (Other (after 9) _ _ refl
    (Told (Request s (at 2 0 0)) (after 8) _ _ (it_tells request_said refl refl (record { domain = refl; source = refl; number = refl; body = tt }) refl)
    (Told (Hear s 6) (after 7) _ _ (it_tells follow_said refl refl (record { domain = refl; source = refl; number = refl; body = (refl, refl) }) tt)
    (Untold (Follow m) (after 6) _
    (Other (after 6) _ _ refl
    (Told (Arrive s 4 (at 1 3000 0)) (after 5) _ _ (it_tells sync_said refl refl (record { domain = refl; source = refl; number = refl; body = (refl, (refl, λ big. big)) }) refl)
    (Untold (Leave t 3 (at 1 2500 0)) (after 4) _
    (Untold (Enter t 2 (at 1 500 0)) (after 3) _
    (Untold (Sync m (at 1 0 0)) (after 2) _
    (Untold (SetMaster s m) (after 1) _
    (Untold (StepClock s (pos 65536000)) (after 0) _ Nothing))))))))))))))))

-- it meets the premises
fresh_and_ticked : IsFreshAndTicked exact_limits m tells
fresh_and_ticked = record {
  numbered = search rules;
  fresh = IsFresh-short small_network s m watched 32768 tells (omega arith);
  missing = MissesFew-short small_network s m watched 32768 tells (omega arith);
  ticked = IsTicked-short small_network s m watched 16384 tells (omega arith);
}

-- the same behind a two-step clock, which puts the residence into the Follow_Up; a TLV stands behind the Sync, and Syncs
-- of another master and of another domain, and a Delay_Resp to another slave, stand between
abbrev all_moved : Moved
all_moved origin = pos 131072000

abbrev bare_sync : Contents
bare_sync = record (sync m_config 0) { suffix = 0 ∷ 8 ∷ 0 ∷ 0 ∷ [] }

abbrev late_sync_follow : Contents
late_sync_follow = with_correction follow_said (record { 0 = pos 131072000 })

abbrev recording_behind : List Recorded
recording_behind =
    response_line
    ∷ line 6 (at 2 1500 0) (Ok (record response_said { body = DelayResp (stamp 2 4500) b_config.identity }))
    ∷ line 5 (at 2 1000 0) (Ok request_said)
    ∷ line 4 (at 1 6000 0) (Ok (record (sync m_config 1) { header = record (sync m_config 1).header { domain = 4 } }))
    ∷ line 3 (at 1 5000 0) (Ok late_sync_follow) ∷ line 2 (at 1 4500 0) (Ok (sync b_config 0))
    ∷ line 1 (at 1 4000 0) (Ok bare_sync) ∷ []

tells_behind : Tells small_network s watched all_moved whole recording_behind
tells_behind =
    Told (Hear s 11) (after 13) _ _ (it_tells response_said refl refl (record { domain = refl; source = refl; number = refl; body = (refl, refl, refl) }) tt)
    (Other (after 13) _ _ refl
    (Untold (Stamped s) (after 12) _
    (Untold (Arrive m 10 (at 2 4500 16384)) (after 11) _
    (Untold (Leave t 9 (at 2 4000 16384)) (after 10) _
    (Untold (Enter t 8 (at 2 500 0)) (after 9) _
    (Told (Request s (at 2 0 0)) (after 8) _ _ (it_tells request_said refl refl (record { domain = refl; source = refl; number = refl; body = tt }) refl)
    (Other (after 8) _ _ refl
    (Told (Hear s 6) (after 7) _ _ (it_tells late_sync_follow refl refl (record { domain = refl; source = refl; number = refl; body = (refl, refl) }) tt)
    (Untold (Follow m) (after 6) _
    (Other (after 6) _ _ refl
    (Told (Arrive s 4 (at 1 3000 0)) (after 5) _ _ (it_tells bare_sync refl refl (record { domain = refl; source = refl; number = refl; body = (refl, (refl, λ big. big)) }) refl)
    (Untold (Leave t 3 (at 1 2500 0)) (after 4) _
    (Untold (Enter t 2 (at 1 500 0)) (after 3) _
    (Untold (Sync m (at 1 0 0)) (after 2) _
    (Untold (SetMaster s m) (after 1) _
    (Untold (StepClock s (pos 65536000)) (after 0) _ Nothing))))))))))))))))

report_behind : reports watched recording_behind ≡ record report { request_tag = 5 } ∷ []
report_behind = refl

-- Delay_Reqs of S
abbrev asked : (number sequence : ℕ) → Recorded
asked number sequence = line number (at 3 0 0) (Ok (delay_req s_config sequence))

-- the first draws up to its number, wherever the port stands
first_request : (after_all watched (asked 1 2 ∷ [])).calls
    ≡ calls.RequestLeft 2 (at 3 0 0) ∷ calls.NextRequest 1 ∷ calls.NextRequest 1 ∷ calls.NextRequest 1
    ∷ calls.SetMaster m_config.identity ∷ []
first_request = refl

-- one that was missed is drawn too, 256 ahead is the most, and beyond it a new port begins
after_one_that_is_missing : (after_all watched (asked 2 4 ∷ asked 1 2 ∷ [])).calls
    ≡ calls.RequestLeft 4 (at 3 0 0) ∷ calls.NextRequest 2 ∷ calls.NextRequest 2
    ∷ (after_all watched (asked 1 2 ∷ [])).calls
after_one_that_is_missing = refl

far_ahead : requests_drawn (after_all watched (asked 2 258 ∷ asked 1 2 ∷ [])).calls ≡ 259
far_ahead = refl

begins_anew : after_all watched (asked 2 259 ∷ asked 1 2 ∷ []) ≡ record {
  first = 259;
  calls = calls.RequestLeft 259 (at 3 0 0) ∷ calls.NextRequest 2 ∷ calls.SetMaster m_config.identity ∷ [];
  asked = true;
  syncs = 0;
  heard = [];
  responses = [];
  begun = 2;
}
begins_anew = refl

-- the same number again says nothing
says_nothing_again : after_all watched (asked 2 2 ∷ asked 1 2 ∷ []) ≡ after_all watched (asked 1 2 ∷ [])
says_nothing_again = refl

-- nor does a Delay_Req of another port
says_nothing_of_another : after_all watched (line 2 0 (Ok (delay_req b_config 7)) ∷ asked 1 2 ∷ []) ≡ after_all watched
    (asked 1 2 ∷ [])
says_nothing_of_another = refl

-- one-step Syncs of M, at so many seconds
abbrev one_step : (number sequence seconds : ℕ) → Recorded
one_step number sequence seconds =
    line number (at seconds 0 0) (Ok (one_step_sync m_config sequence (at seconds 0 0)))

-- the port is told its master anew by a Sync that is behind the newest one by a second and more
one_behind : (after_all watched (one_step 2 4 3 ∷ one_step 1 5 2 ∷ [])).begun ≡ 2
one_behind = refl

-- and by one that is 257 ahead of it
one_far_ahead : (after_all watched (one_step 2 262 3 ∷ one_step 1 5 2 ∷ [])).begun ≡ 2
one_far_ahead = refl

one_not_so_far : (after_all watched (one_step 2 21 3 ∷ one_step 1 5 2 ∷ [])).begun ≡ 0
one_not_so_far = refl

-- a number that comes again within a second is that of a copy, and later that of a master that began anew
a_copy : after_all watched (one_step 2 5 2 ∷ one_step 1 5 2 ∷ []) ≡ after_all watched (one_step 1 5 2 ∷ [])
a_copy = refl

again : (after_all watched (one_step 2 5 3 ∷ one_step 1 5 2 ∷ [])).begun ≡ 2
again = refl

-- a Sync of another life doesn't pair with a Follow_Up that is held, nor a Follow_Up with such a Sync
follow_of_another_life : reports watched
    (line 4 (at 9 0 0) (Ok response_said) ∷ line 3 (at 8 0 0) (Ok request_said)
    ∷ line 2 (at 7 4000 0) (Ok sync_said) ∷ line 1 (at 1 5000 0) (Ok follow_said) ∷ []) ≡ []
follow_of_another_life = refl

sync_of_another_life : reports watched
    (line 4 (at 9 0 0) (Ok response_said) ∷ line 3 (at 8 0 0) (Ok request_said)
    ∷ line 2 (at 7 5000 0) (Ok follow_said) ∷ line 1 (at 1 4000 0) (Ok sync_said) ∷ []) ≡ []
sync_of_another_life = refl

-- the pair of the one report meets the premises of the law on pairs
pair_is_near : is_apart sync_line.time follow_line.time ≡ false
pair_is_near =
    let no_syncs : heard_between watched sync_line follow_line recording ≡ 0 = refl in
    let no_follow_ups : heard_between watched follow_line sync_line recording ≡ 0 = refl in
    no_pair watched six_lines response_line report sync_line follow_line fresh_and_ticked.numbered refl
    (record { sync_is = refl; follow_is = refl }) refl
    (record { few_syncs = omega (arith, no_syncs); few_follow_ups = omega (arith, no_follow_ups) })

-- so does one whose Follow_Up came first
abbrev early_follow : Recorded
early_follow = line 1 (at 1 3000 0) (Ok follow_said)

abbrev late_sync : Recorded
late_sync = line 2 (at 1 4000 0) (Ok sync_said)

abbrev three_lines : List Recorded
three_lines = line 4 (at 2 1000 0) (Ok request_said) ∷ late_sync ∷ early_follow ∷ []

late_pair_is_near : is_apart late_sync.time early_follow.time ≡ false
late_pair_is_near =
    let no_syncs : heard_between watched late_sync early_follow (response_line ∷ three_lines) ≡ 0 = refl in
    let no_follow_ups : heard_between watched early_follow late_sync (response_line ∷ three_lines) ≡ 0 = refl in
    no_pair watched three_lines response_line (record report { sync_tag = 2; follow_tag = Some 1 }) late_sync
    early_follow (omega arith, (omega arith, (omega arith, tt))) refl
    (record { sync_is = refl; follow_is = refl }) refl
    (record { few_syncs = omega (arith, no_syncs); few_follow_ups = omega (arith, no_follow_ups) })

-- it says nothing of a Follow_Up with another unicastFlag, which completes its Sync whenever it comes
abbrev with_unicast : Contents → Contents
with_unicast m = record m { header = record m.header { flags = 4 ∷ 0 ∷ [] } }

pair_of_two_flags : reports watched
    (response_line ∷ line 4 (at 2 1000 0) (Ok request_said) ∷ line 3 (at 7 5000 0) (Ok (with_unicast follow_said))
    ∷ sync_line ∷ []) ≡ report ∷ []
pair_of_two_flags = refl

-- nor of a Sync behind which 256 more were heard, 255 that were overtaken and the next one: the port, which used none of
-- them, holds it still
abbrev unusable : (at_line number : ℕ) → Recorded
unusable at_line number =
    line at_line (at 1 4000 0) (Ok (with_correction (sync m_config number) (record { 0 = too_big })))

abbrev up_to : (count : ℕ) → List Recorded
up_to zero = sync_line ∷ []
up_to (suc count) = unusable (count + 2) (65535 - count) ∷ up_to count

abbrev late_follow : Recorded
late_follow = line 300 (at 7 5000 0) (Ok follow_said)

abbrev completed : (overtaken : ℕ) → List Recorded
completed overtaken =
    line 302 0 (Ok response_said) ∷ line 301 (at 2 1000 0) (Ok request_said) ∷ late_follow ∷ unusable 290 1 ∷ up_to overtaken

pair_behind_255 : reports watched (completed 254) ≡ []
pair_behind_255 = refl

pair_behind_256 : reports watched (completed 255)
    ≡ record report { follow_tag = Some 300; request_tag = 301; response_tag = 302 } ∷ []
pair_behind_256 = refl

many_behind : heard_between watched sync_line late_follow (completed 255) ≡ 256
many_behind = refl

-- a Follow_Up that is 256 behind the newest Sync isn't heard
far_behind : reports watched (line 302 0 (Ok response_said) ∷ line 301 (at 2 1000 0) (Ok request_said)
    ∷ line 300 (at 1 5000 0) (Ok follow_said) ∷ unusable 291 256 ∷ unusable 290 1 ∷ sync_line ∷ []) ≡ []
far_behind = refl
