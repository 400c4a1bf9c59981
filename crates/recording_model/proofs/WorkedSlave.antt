-- The first exchange of a recording of linuxptp's `ptp4l`, octet for octet: the datagrams at its slave, up to its first
-- Delay_Resp. They tell a run of a master and a slave, so the report of the last of them is exact by the law.
use Rattle.std.proofs.Common.{◌≡◌, ℕ, pos, negsuc, refl, arith, List, [], ◌∷◌, reverse, take, Some, Ok, Err, rules}
use Rattle.std.specs.List.{All}
use Rattle.ptp_units.specs.Moment.{stamp}
use Rattle.event_codec.specs.declared.message.Body.{Body}
use Rattle.event_codec.specs.declared.message.Body.TheVariants as bodies
use Rattle.event_codec.specs.declared.port.PortConfig.{PortConfig}
use Rattle.event_codec.specs.declared.port.PortIdentity.{PortIdentity}
use Rattle.event_codec.specs.declared.refusal.DecodeRefusal.TheVariants.{OtherType}
use Rattle.event_codec.specs.Packet.{Contents}
use Rattle.event_codec.specs.Refusal.{decode_refusal}
use Rattle.event_codec.specs.Reading.{Reading, IsReading}
use Rattle.event_codec.proofs.Lengths.{all_octets}
use Rattle.slave_port.specs.declared.heard.Report.{Report}
use Rattle.network_model.specs.declared.event.Event.{Event}
use Rattle.network_model.specs.declared.event.Event.TheVariants.{Sync, Follow, Arrive, Hear, Request, Stamped, SetMaster}
use Rattle.network_model.specs.Network.{Network}
use Rattle.network_model.specs.Run.{Run}
use Rattle.network_model.specs.Premises.{IsAcceptedRun, exact_limits}
use Rattle.network_model.proofs.Accepted.{IsNetwork-test, IsRun-test}
use Rattle.network_model.proofs.Worked.{m, s, at, master, slave_of}
use Rattle.recording_model.specs.declared.watched.Watched.{Watched}
use Rattle.recording_model.specs.Recorded.{Recorded}
use Rattle.recording_model.specs.Listening.{reports}
use Rattle.recording_model.specs.Told.{Tells, Nothing, Untold, Told, Other}
use Rattle.recording_model.specs.Premises.{IsFreshAndTicked}
use Rattle.recording_model.specs.Exact.{Watches, IsExact}
use Rattle.recording_model.proofs.Listened.{each_report}
use Rattle.recording_model.proofs.Worked.{unmoved, it_tells}
use Rattle.recording_model.proofs.Short.{IsFresh-short, IsTicked-short, MissesFew-short}

-- their ports, of domain 0
abbrev pub port_of : (clock : List ℕ) → PortConfig
port_of clock = record { identity = record { clock = clock; port = 1 }; domain = 0; log = pos 0 }

abbrev pub m_config : PortConfig
m_config = port_of (2 ∷ 0 ∷ 0 ∷ 255 ∷ 254 ∷ 17 ∷ 34 ∷ 51 ∷ [])

abbrev pub s_config : PortConfig
s_config = port_of (2 ∷ 0 ∷ 0 ∷ 255 ∷ 254 ∷ 170 ∷ 187 ∷ 204 ∷ [])

-- what such a message says: of version 2.0, and of a two-step Sync where the first octet of its flags is 2
abbrev pub message : PortIdentity → (flags number control log : ℕ) → Body → Contents
message source flags number control log body = record {
  header = record {
    major_sdo = 0;
    minor_version = 0;
    domain = 0;
    minor_sdo = 0;
    flags = flags ∷ 0 ∷ [];
    correction = record { 0 = pos 0 };
    specific = 0 ∷ 0 ∷ 0 ∷ 0 ∷ [];
    source = source;
    sequence = record { 0 = number };
    control = control;
    log = pos log;
  };
  body = body;
  suffix = [];
}

abbrev sync_0 : Contents
sync_0 = message m_config.identity 2 0 0 0 (bodies.Sync (stamp 0 0))

abbrev sync_0_octets : List ℕ
sync_0_octets =
    0 ∷ 2 ∷ 0 ∷ 44 ∷ 0 ∷ 0 ∷ 2 ∷ 0 ∷ 0 ∷ 0 ∷ 0 ∷ 0 ∷ 0 ∷ 0 ∷ 0 ∷ 0 ∷ 0 ∷ 0 ∷ 0 ∷ 0 ∷ 2 ∷ 0 ∷ 0 ∷ 255 ∷ 254 ∷ 17 ∷
    34 ∷ 51 ∷ 0 ∷ 1 ∷ 0 ∷ 0 ∷ 0 ∷ 0 ∷ 0 ∷ 0 ∷ 0 ∷ 0 ∷ 0 ∷ 0 ∷ 0 ∷ 0 ∷ 0 ∷ 0 ∷ []

sync_0-octets : IsReading sync_0_octets (Ok sync_0)
sync_0-octets = search (rules, all_octets)

abbrev follow_up_0 : Contents
follow_up_0 = message m_config.identity 0 0 2 0 (bodies.FollowUp (stamp 1795329142 833687078))

abbrev follow_up_0_octets : List ℕ
follow_up_0_octets =
    8 ∷ 2 ∷ 0 ∷ 44 ∷ 0 ∷ 0 ∷ 0 ∷ 0 ∷ 0 ∷ 0 ∷ 0 ∷ 0 ∷ 0 ∷ 0 ∷ 0 ∷ 0 ∷ 0 ∷ 0 ∷ 0 ∷ 0 ∷ 2 ∷ 0 ∷ 0 ∷ 255 ∷ 254 ∷ 17 ∷
    34 ∷ 51 ∷ 0 ∷ 1 ∷ 0 ∷ 0 ∷ 2 ∷ 0 ∷ 0 ∷ 0 ∷ 107 ∷ 2 ∷ 140 ∷ 118 ∷ 49 ∷ 177 ∷ 14 ∷ 38 ∷ []

follow_up_0-octets : IsReading follow_up_0_octets (Ok follow_up_0)
follow_up_0-octets = search (rules, all_octets)

abbrev sync_1 : Contents
sync_1 = message m_config.identity 2 1 0 0 (bodies.Sync (stamp 0 0))

abbrev sync_1_octets : List ℕ
sync_1_octets =
    0 ∷ 2 ∷ 0 ∷ 44 ∷ 0 ∷ 0 ∷ 2 ∷ 0 ∷ 0 ∷ 0 ∷ 0 ∷ 0 ∷ 0 ∷ 0 ∷ 0 ∷ 0 ∷ 0 ∷ 0 ∷ 0 ∷ 0 ∷ 2 ∷ 0 ∷ 0 ∷ 255 ∷ 254 ∷ 17 ∷
    34 ∷ 51 ∷ 0 ∷ 1 ∷ 0 ∷ 1 ∷ 0 ∷ 0 ∷ 0 ∷ 0 ∷ 0 ∷ 0 ∷ 0 ∷ 0 ∷ 0 ∷ 0 ∷ 0 ∷ 0 ∷ []

sync_1-octets : IsReading sync_1_octets (Ok sync_1)
sync_1-octets = search (rules, all_octets)

abbrev follow_up_1 : Contents
follow_up_1 = message m_config.identity 0 1 2 0 (bodies.FollowUp (stamp 1795329143 833778296))

abbrev follow_up_1_octets : List ℕ
follow_up_1_octets =
    8 ∷ 2 ∷ 0 ∷ 44 ∷ 0 ∷ 0 ∷ 0 ∷ 0 ∷ 0 ∷ 0 ∷ 0 ∷ 0 ∷ 0 ∷ 0 ∷ 0 ∷ 0 ∷ 0 ∷ 0 ∷ 0 ∷ 0 ∷ 2 ∷ 0 ∷ 0 ∷ 255 ∷ 254 ∷ 17 ∷
    34 ∷ 51 ∷ 0 ∷ 1 ∷ 0 ∷ 1 ∷ 2 ∷ 0 ∷ 0 ∷ 0 ∷ 107 ∷ 2 ∷ 140 ∷ 119 ∷ 49 ∷ 178 ∷ 114 ∷ 120 ∷ []

follow_up_1-octets : IsReading follow_up_1_octets (Ok follow_up_1)
follow_up_1-octets = search (rules, all_octets)

abbrev request : Contents
request = message s_config.identity 0 0 1 127 (bodies.DelayReq (stamp 0 0))

abbrev request_octets : List ℕ
request_octets =
    1 ∷ 2 ∷ 0 ∷ 44 ∷ 0 ∷ 0 ∷ 0 ∷ 0 ∷ 0 ∷ 0 ∷ 0 ∷ 0 ∷ 0 ∷ 0 ∷ 0 ∷ 0 ∷ 0 ∷ 0 ∷ 0 ∷ 0 ∷ 2 ∷ 0 ∷ 0 ∷ 255 ∷ 254 ∷ 170 ∷
    187 ∷ 204 ∷ 0 ∷ 1 ∷ 0 ∷ 0 ∷ 1 ∷ 127 ∷ 0 ∷ 0 ∷ 0 ∷ 0 ∷ 0 ∷ 0 ∷ 0 ∷ 0 ∷ 0 ∷ 0 ∷ []

request-octets : IsReading request_octets (Ok request)
request-octets = search (rules, all_octets)

abbrev response : Contents
response = message m_config.identity 0 0 3 0 (bodies.DelayResp (stamp 1795329143 968142440) s_config.identity)

abbrev response_octets : List ℕ
response_octets =
    9 ∷ 2 ∷ 0 ∷ 54 ∷ 0 ∷ 0 ∷ 0 ∷ 0 ∷ 0 ∷ 0 ∷ 0 ∷ 0 ∷ 0 ∷ 0 ∷ 0 ∷ 0 ∷ 0 ∷ 0 ∷ 0 ∷ 0 ∷ 2 ∷ 0 ∷ 0 ∷ 255 ∷ 254 ∷ 17 ∷
    34 ∷ 51 ∷ 0 ∷ 1 ∷ 0 ∷ 0 ∷ 3 ∷ 0 ∷ 0 ∷ 0 ∷ 107 ∷ 2 ∷ 140 ∷ 119 ∷ 57 ∷ 180 ∷ 174 ∷ 104 ∷ 2 ∷ 0 ∷ 0 ∷ 255 ∷ 254 ∷
    170 ∷ 187 ∷ 204 ∷ 0 ∷ 1 ∷ []

response-octets : IsReading response_octets (Ok response)
response-octets = search (rules, all_octets)

-- its Announces, which differ in the last octet of their numbers, are none of the four messages
announce-octets : (number : ℕ) → IsReading
    (11 ∷ 2 ∷ 0 ∷ 64 ∷ 0 ∷ 0 ∷ 0 ∷ 0 ∷ 0 ∷ 0 ∷ 0 ∷ 0 ∷ 0 ∷ 0 ∷ 0 ∷ 0 ∷ 0 ∷ 0 ∷ 0 ∷ 0 ∷ 2 ∷ 0 ∷ 0 ∷ 255 ∷ 254 ∷ 17 ∷
    34 ∷ 51 ∷ 0 ∷ 1 ∷ 0 ∷ number ∷ 5 ∷ 255 ∷ 0 ∷ 0 ∷ 0 ∷ 0 ∷ 0 ∷ 0 ∷ 0 ∷ 0 ∷ 0 ∷ 0 ∷ 0 ∷ 37 ∷ 0 ∷ 1 ∷ 248 ∷ 254 ∷
    255 ∷ 255 ∷ 128 ∷ 2 ∷ 0 ∷ 0 ∷ 255 ∷ 254 ∷ 17 ∷ 34 ∷ 51 ∷ 0 ∷ 0 ∷ 160 ∷ [])
    (Err (OtherType 11))
unfolding decode_refusal
announce-octets number = refl

-- line by line
abbrev pub line : (number time : ℕ) → Reading → Recorded
line number time said = record { line = number; time = time; said = said }

abbrev pub announce : (number time : ℕ) → Recorded
announce number time = line number time (Err (OtherType 11))

abbrev recording : List Recorded
recording =
    line 11 (at 1795329143 968204405 0) (Ok response)
    ∷ line 10 (at 1795329143 968120405 0) (Ok request)
    ∷ announce 9 (at 1795329143 834832988 0)
    ∷ line 8 (at 1795329143 833819982 0) (Ok follow_up_1)
    ∷ line 7 (at 1795329143 833793306 0) (Ok sync_1)
    ∷ announce 6 (at 1795329143 334879720 0)
    ∷ announce 5 (at 1795329142 834694381 0)
    ∷ line 4 (at 1795329142 833726176 0) (Ok follow_up_0)
    ∷ line 3 (at 1795329142 833701606 0) (Ok sync_0)
    ∷ announce 2 (at 1795329142 334743403 0)
    ∷ announce 1 (at 1795329141 834646330 0) ∷ []

-- the master and the slave
abbrev network : Network
network = master m m_config 0 ∷ slave_of s s_config ∷ []

abbrev pub watched : Watched
watched = record { slave = s_config.identity; master = m_config.identity; domain = 0 }

abbrev watches : Watches network s m watched
watches = record {
  own = record { config = s_config; first = 0 };
  other = record { config = m_config; first = 0 };
  slave_port = refl;
  master_port = refl;
  slave_is = refl;
  master_is = refl;
  domain_is = refl;
}

-- what happened, the oldest first: each message left at the timestamp that tells it
abbrev events : List Event
events =
    SetMaster s m
    ∷ Sync m (at 1795329142 833687078 0) ∷ Arrive s 1 (at 1795329142 833701606 0) ∷ Follow m ∷ Hear s 3
    ∷ Sync m (at 1795329143 833778296 0) ∷ Arrive s 5 (at 1795329143 833793306 0) ∷ Follow m ∷ Hear s 7
    ∷ Request s (at 1795329143 968120405 0) ∷ Stamped s ∷ Arrive m 9 (at 1795329143 968142440 0) ∷ Hear s 11 ∷ []

-- the first so many of them
abbrev after : ℕ → Run
after n = reverse (take n events)

abbrev run : Run
run = after 13

accepted : IsAcceptedRun network run
accepted = record { apart = IsNetwork-test network refl refl; accepted = IsRun-test network run refl }

-- event by event: the messages of the network are of version 2.1, and are told all the same
abbrev tells : Tells network s watched unmoved run recording
tells =
    Told (Hear s 11) (after 12) _ _ (it_tells response refl refl (record { domain = refl; source = refl; number = refl; body = (refl, refl, refl) }) tt)
    (Untold (Arrive m 9 (at 1795329143 968142440 0)) (after 11) _
    (Untold (Stamped s) (after 10) _
    (Told (Request s (at 1795329143 968120405 0)) (after 9) _ _ (it_tells request refl refl (record { domain = refl; source = refl; number = refl; body = tt }) refl)
    (Other (after 9) _ _ refl
    (Told (Hear s 7) (after 8) _ _ (it_tells follow_up_1 refl refl (record { domain = refl; source = refl; number = refl; body = (refl, refl) }) tt)
    (Untold (Follow m) (after 7) _
    (Told (Arrive s 5 (at 1795329143 833793306 0)) (after 6) _ _ (it_tells sync_1 refl refl (record { domain = refl; source = refl; number = refl; body = (refl, (refl, λ big. big)) }) refl)
    (Untold (Sync m (at 1795329143 833778296 0)) (after 5) _
    (Other (after 5) _ _ refl
    (Other (after 5) _ _ refl
    (Told (Hear s 3) (after 4) _ _ (it_tells follow_up_0 refl refl (record { domain = refl; source = refl; number = refl; body = (refl, refl) }) tt)
    (Untold (Follow m) (after 3) _
    (Told (Arrive s 1 (at 1795329142 833701606 0)) (after 2) _ _ (it_tells sync_0 refl refl (record { domain = refl; source = refl; number = refl; body = (refl, (refl, λ big. big)) }) refl)
    (Untold (Sync m (at 1795329142 833687078 0)) (after 1) _
    (Other (after 1) _ _ refl
    (Other (after 1) _ _ refl
    (Untold (SetMaster s m) (after 0) _ Nothing)))))))))))))))))

fresh_and_ticked : IsFreshAndTicked exact_limits m tells
fresh_and_ticked = record {
  numbered = search rules;
  fresh = IsFresh-short network s m watched 32768 tells (omega arith);
  missing = MissesFew-short network s m watched 32768 tells (omega arith);
  ticked = IsTicked-short network s m watched 16384 tells (omega arith);
}

-- -3512.5 ns and 18522.5 ns, twice and in units of 2^-16 ns, of the Sync of line 7 and the Delay_Req of line 10
abbrev report : Report
report = record {
  offset2 = negsuc 460390399;
  path2 = pos 2427781120;
  sync_tag = 7;
  follow_tag = Some 8;
  request_tag = 10;
  response_tag = 11;
}

one_report : reports watched recording ≡ report ∷ []
one_report = refl

-- and it is exact
exact : All (IsExact m tells) (reports watched recording)
exact = each_report network run s m watched unmoved recording accepted watches tells fresh_and_ticked
