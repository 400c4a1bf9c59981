-- An exchange of linuxptp's ptp4l behind its two-step transparent clock: the residence of the Sync, 45,301 ns, stands in its
-- Follow_Up, and that of the Delay_Req, 30,017 ns, in the Delay_Resp. The recording tells a run of a network with a clock, in
-- which the residences stand in the Sync and in the Delay_Req, so its report is exact by the law.
use Rattle.std.proofs.Common.{◌≡◌, ℕ, ◌*◌, pos, negsuc, refl, arith, rules, List, [], ◌∷◌, reverse, take, Some, Ok}
use Rattle.std.specs.List.{All}
use Rattle.ptp_units.specs.Moment.{stamp}
use Rattle.event_codec.specs.declared.message.Body.TheVariants as bodies
use Rattle.event_codec.specs.Correction.{with_correction}
use Rattle.event_codec.specs.Packet.{Contents}
use Rattle.slave_port.specs.declared.heard.Report.{Report}
use Rattle.network_model.specs.declared.event.Event.{Event}
use Rattle.network_model.specs.declared.event.Event.TheVariants.{Sync, Follow, Enter, Leave, Arrive, Hear, Request}
use Rattle.network_model.specs.declared.event.Event.TheVariants.{Stamped, SetMaster}
use Rattle.network_model.specs.Network.{Network}
use Rattle.network_model.specs.Run.{Run}
use Rattle.network_model.specs.Premises.{IsAcceptedRun, exact_limits}
use Rattle.network_model.proofs.Accepted.{IsNetwork-test, IsRun-test}
use Rattle.network_model.proofs.Worked.{m, s, t, at, master, slave_of, clock}
use Rattle.recording_model.specs.Recorded.{Recorded}
use Rattle.recording_model.specs.Listening.{reports}
use Rattle.recording_model.specs.Agreement.{Moved}
use Rattle.recording_model.specs.Told.{Tells, Nothing, Untold, Told, Other}
use Rattle.recording_model.specs.Premises.{IsFreshAndTicked}
use Rattle.recording_model.specs.Exact.{Watches, IsExact}
use Rattle.recording_model.proofs.Listened.{each_report}
use Rattle.recording_model.proofs.Short.{IsFresh-short, IsTicked-short, MissesFew-short}
use Rattle.recording_model.proofs.Worked.{it_tells}
use Rattle.recording_model.proofs.WorkedSlave.{m_config, s_config, watched, message, line, announce}

-- what was recorded; logMessageInterval is -3 there, which isn't read
abbrev sync : Contents
sync = message m_config.identity 2 7 0 0 (bodies.Sync (stamp 0 0))

abbrev follow_up : Contents
follow_up = with_correction (message m_config.identity 0 7 2 0 (bodies.FollowUp (stamp 1795329064 941753892)))
    (record { 0 = pos (45301 * 65536) })

abbrev request : Contents
request = message s_config.identity 0 0 1 127 (bodies.DelayReq (stamp 0 0))

abbrev response : Contents
response = with_correction
    (message m_config.identity 0 0 3 0 (bodies.DelayResp (stamp 1795329064 967377251) s_config.identity))
    (record { 0 = pos (30017 * 65536) })

abbrev recording : List Recorded
recording =
    line 21 (at 1795329064 967395239 0) (Ok response)
    ∷ line 20 (at 1795329064 967344615 0) (Ok request)
    ∷ announce 19 (at 1795329064 942093202 0)
    ∷ line 18 (at 1795329064 941818017 0) (Ok follow_up)
    ∷ line 17 (at 1795329064 941800593 0) (Ok sync) ∷ []

-- a master, whose next Sync has number 7, a slave, and a clock between them
abbrev network : Network
network = master m m_config 7 ∷ slave_of s s_config ∷ clock t ∷ []

abbrev watches : Watches network s m watched
watches = record {
  own = record { config = s_config; first = 0 };
  other = record { config = m_config; first = 7 };
  slave_port = refl;
  master_port = refl;
  slave_is = refl;
  master_is = refl;
  domain_is = refl;
}

-- what happened, the oldest first: the cables take 700 ns and 700 ns, and 1,300 ns and 1,319 ns
abbrev events : List Event
events =
    SetMaster s m
    ∷ Sync m (at 1795329064 941753892 0) ∷ Enter t 1 (at 1795329064 941754592 0)
    ∷ Leave t 2 (at 1795329064 941799893 0) ∷ Arrive s 3 (at 1795329064 941800593 0) ∷ Follow m ∷ Hear s 5
    ∷ Request s (at 1795329064 967344615 0) ∷ Enter t 7 (at 1795329064 967345915 0)
    ∷ Leave t 8 (at 1795329064 967375932 0) ∷ Arrive m 9 (at 1795329064 967377251 0) ∷ Stamped s ∷ Hear s 10 ∷ []

-- the first so many of them
abbrev after : ℕ → Run
after n = reverse (take n events)

abbrev run : Run
run = after 13

accepted : IsAcceptedRun network run
accepted = record { apart = IsNetwork-test network refl refl; accepted = IsRun-test network run refl }

-- the whole residence of each Sync stands in its Follow_Up
abbrev moved : Moved
moved origin = pos (45301 * 65536)

abbrev tells : Tells network s watched moved run recording
tells =
    Told (Hear s 10) (after 12) _ _ (it_tells response refl refl (record { domain = refl; source = refl; number = refl; body = (refl, refl, refl) }) tt)
    (Untold (Stamped s) (after 11) _
    (Untold (Arrive m 9 (at 1795329064 967377251 0)) (after 10) _
    (Untold (Leave t 8 (at 1795329064 967375932 0)) (after 9) _
    (Untold (Enter t 7 (at 1795329064 967345915 0)) (after 8) _
    (Told (Request s (at 1795329064 967344615 0)) (after 7) _ _ (it_tells request refl refl (record { domain = refl; source = refl; number = refl; body = tt }) refl)
    (Other (after 7) _ _ refl
    (Told (Hear s 5) (after 6) _ _ (it_tells follow_up refl refl (record { domain = refl; source = refl; number = refl; body = (refl, refl) }) tt)
    (Untold (Follow m) (after 5) _
    (Told (Arrive s 3 (at 1795329064 941800593 0)) (after 4) _ _ (it_tells sync refl refl (record { domain = refl; source = refl; number = refl; body = (refl, (refl, λ big. big)) }) refl)
    (Untold (Leave t 2 (at 1795329064 941799893 0)) (after 3) _
    (Untold (Enter t 1 (at 1795329064 941754592 0)) (after 2) _
    (Untold (Sync m (at 1795329064 941753892 0)) (after 1) _
    (Untold (SetMaster s m) (after 0) _ Nothing)))))))))))))

fresh_and_ticked : IsFreshAndTicked exact_limits m tells
fresh_and_ticked = record {
  numbered = search rules;
  fresh = IsFresh-short network s m watched 32768 tells (omega arith);
  missing = MissesFew-short network s m watched 32768 tells (omega arith);
  ticked = IsTicked-short network s m watched 16384 tells (omega arith);
}

-- 1,400 ns less 2,619 ns, and their sum: twice -609.5 ns and twice 2,009.5 ns
abbrev report : Report
report = record {
  offset2 = negsuc 79888383;
  path2 = pos (4019 * 65536);
  sync_tag = 17;
  follow_tag = Some 18;
  request_tag = 20;
  response_tag = 21;
}

one_report : reports watched recording ≡ report ∷ []
one_report = refl

exact : All (IsExact m tells) (reports watched recording)
exact = each_report network run s m watched moved recording accepted watches tells fresh_and_ticked
