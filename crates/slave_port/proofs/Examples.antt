-- Exchanges computed from the definitions.
use Rattle.std.proofs.Common.{◌≡◌, ℕ, ℤ, pos, refl, List, [], ◌∷◌, Some, None, Ok, Err, false}
use Rattle.ptp_units.specs.Interval.{too_big}
use Rattle.ptp_units.specs.Moment.{stamp, moment}
use Rattle.event_codec.specs.declared.message.Body.{Body}
use Rattle.event_codec.specs.declared.message.Body.TheVariants.{Sync, FollowUp, DelayResp}
use Rattle.event_codec.specs.declared.port.PortConfig.{PortConfig}
use Rattle.event_codec.specs.declared.port.PortIdentity.{PortIdentity}
use Rattle.event_codec.specs.declared.refusal.DecodeRefusal.TheVariants.{Version}
use Rattle.event_codec.specs.Packet.{Contents}
use Rattle.event_codec.specs.Profile.{header_of}
use Rattle.slave_port.specs.declared.exchange.LastExchange.{LastExchange}
use Rattle.slave_port.specs.declared.heard.Heard.{Heard}
use Rattle.slave_port.specs.declared.heard.Heard.TheVariants.{Held, Completed, Report, Ignored}
use Rattle.slave_port.specs.declared.reason.Reason.TheVariants.{Decode, WrongType, NoMaster, OtherMaster, TooBig, NotNewer, OtherRequester, UnknownRequest, EgressUnknown}
use Rattle.slave_port.specs.History.{Setup, Call, SetMaster, Tick, NextRequest, RequestLeft, Event, General, setup_of}
use Rattle.slave_port.specs.Requests.{is_held}
use Rattle.slave_port.specs.Answer.{answer}
use Rattle.slave_port.specs.Exchange.{age, last_exchange, last_report}

abbrev clock : ℕ → PortIdentity
clock last = record { clock = 0 ∷ 17 ∷ 34 ∷ 255 ∷ 254 ∷ 51 ∷ 68 ∷ last ∷ []; port = 1 }

abbrev configured : PortIdentity → PortConfig
configured identity = record { identity = identity; domain = 0; log = pos 0 }

-- a slave with three places of each kind
abbrev slave : Setup
slave = setup_of (configured (clock 2)) 0 3 3 3

-- a message of a clock, with its flags and its correction
abbrev message : PortIdentity → List ℕ → ℤ → ℕ → Body → Contents
message source flags correction number body = record {
  header = header_of (configured source) flags correction number 0 (pos 0);
  body = body;
  suffix = [];
}

-- the moment of these seconds and nanoseconds
abbrev at : ℕ → ℕ → ℕ
at seconds nanoseconds = moment (stamp seconds nanoseconds) 0

-- a two-step Sync of the master is heard
abbrev two_step : ℤ → (number t2 tag : ℕ) → Call
two_step correction number t2 tag = Event (Ok (message (clock 1) (2 ∷ 0 ∷ []) correction number (Sync (stamp 0 0)))) t2 tag

-- a one-step Sync of the master, which left at one second, is heard
abbrev one_step : ℤ → (number t2 tag : ℕ) → Call
one_step correction number t2 tag = Event (Ok (message (clock 1) (0 ∷ 0 ∷ []) correction number (Sync (stamp 1 0)))) t2 tag

-- a Follow_Up of the master is heard
abbrev follow : (seconds number tag : ℕ) → Call
follow seconds number tag = General (Ok (message (clock 1) (0 ∷ 0 ∷ []) (pos 0) number (FollowUp (stamp seconds 0)))) tag

-- a Delay_Resp of the master is heard
abbrev response : PortIdentity → ℤ → (number tag : ℕ) → Call
response requesting correction number tag =
    General (Ok (message (clock 1) (0 ∷ 0 ∷ []) correction number (DelayResp (stamp 2 4500) requesting))) tag

-- what is answered in turn to these messages, the first of them last, after these calls
abbrev answers : List Call → (earlier : List Call) → List Heard
answers [] earlier = []
answers (call ∷ calls) earlier = answer slave earlier call ∷ answers calls (call ∷ earlier)

abbrev with_master : List Call
with_master = SetMaster (clock 1) ∷ []

-- a slave that is 1,000 ns ahead, and 1,000 ns away; the Sync resides 2,000 ns on its way, the Delay_Req 3,500.25 ns
abbrev exchange : List Call
exchange =
    RequestLeft 0 (at 2 1000) ∷ NextRequest 8 ∷ follow 1 0 7 ∷ two_step (pos 131072000) 0 (at 1 4000) 5 ∷ with_master

exchange_reports : answers (response (clock 2) (pos 229376000) 0 13 ∷ response (clock 2) (pos 183500800) 0 17 ∷ []) exchange
    ≡ Report (record { offset2 = pos 131072000; path2 = pos 131072000; sync_tag = 5; follow_tag = Some 7; request_tag = 8; response_tag = 13 })
    ∷ Report (record { offset2 = pos 85196800; path2 = pos 176947200; sync_tag = 5; follow_tag = Some 7; request_tag = 8; response_tag = 17 })
    ∷ []
exchange_reports = refl

-- what that was made of; the Sync arrived 0.999997 s before the Delay_Req left
abbrev of_exchange : LastExchange
of_exchange = record {
  t1 = at 1 0;
  t2 = at 1 4000;
  t3 = at 2 1000;
  t4 = at 2 4500;
  sync_correction = pos 131072000;
  follow_correction = pos 0;
  response_correction = pos 229376000;
  sync_number = record { 0 = 0 };
  request_number = record { 0 = 0 };
}

abbrev reported : List Call
reported = response (clock 2) (pos 229376000) 0 13 ∷ exchange

exchange_is_last : last_exchange slave reported ≡ Some of_exchange
exchange_is_last = refl

exchange_is_of_its_age : age of_exchange ≡ at 0 999997000
exchange_is_of_its_age = refl

none_before : last_exchange slave exchange ≡ None
none_before = refl

-- what is ignored, and one tick, leave it; a second tick drops it, and a change of master, but not what was reported
over_a_tick : last_exchange slave (Tick ∷ follow 1 40000 14 ∷ reported) ≡ Some of_exchange
over_a_tick = refl

none_after_two_ticks : last_exchange slave (Tick ∷ Tick ∷ reported) ≡ None
none_after_two_ticks = refl

none_of_a_new_master : last_exchange slave (SetMaster (clock 1) ∷ reported) ≡ None
none_of_a_new_master = refl

report_of_the_old_master : last_report slave (SetMaster (clock 1) ∷ reported)
    ≡ Some (record { offset2 = pos 131072000; path2 = pos 131072000; sync_tag = 5; follow_tag = Some 7; request_tag = 8; response_tag = 13 })
report_of_the_old_master = refl

-- a new Sync half of a one-step Sync takes the place of the old one
one_step_is_last : last_exchange slave (one_step (pos 16384) 1 (at 3 0) 14 ∷ reported)
    ≡ Some (record of_exchange { t2 = at 3 0; sync_correction = pos 16384; sync_number = record { 0 = 1 } })
one_step_is_last = refl

-- the Follow_Up's correction is that of the one that completed the Sync
follow_up_corrects : last_exchange slave
    (General (Ok (message (clock 1) (0 ∷ 0 ∷ []) (pos 65535) 0 (FollowUp (stamp 1 7)))) 14 ∷ reported)
    ≡ Some (record of_exchange { t1 = at 1 7; follow_correction = pos 65535 })
follow_up_corrects = refl

-- a one-step master's Sync left a quarter of a nanosecond after a second
one_step_reports : answers (response (clock 2) (pos 229376000) 0 11 ∷ [])
    (RequestLeft 0 (at 2 1000) ∷ NextRequest 6 ∷ one_step (pos 131088384) 0 (at 1 4000) 5 ∷ with_master)
    ≡ Report (record { offset2 = pos 131055616; path2 = pos 131055616; sync_tag = 5; follow_tag = None; request_tag = 6; response_tag = 11 }) ∷ []
one_step_reports = refl

-- a one-step Sync completes by itself, whatever is held, and takes no place in the table
one_step_alone : answers (follow 1 0 1 ∷ two_step (pos 0) 1 0 2 ∷ two_step (pos 0) 2 0 3 ∷ two_step (pos 0) 3 0 4
    ∷ one_step (pos 0) 0 0 5 ∷ follow 1 0 6 ∷ follow 1 1 7 ∷ []) with_master
    ≡ Held ∷ Held ∷ Held ∷ Held ∷ Completed ∷ Held ∷ Completed ∷ []
one_step_alone = refl

-- two Syncs cross their Follow_Ups: the older one isn't used once the newer one is completed
abbrev crossed : List Call
crossed = two_step (pos 0) 0 (at 2 200) 8 ∷ two_step (pos 0) 1 (at 2 100) 7 ∷ follow 2 1 6 ∷ follow 1 0 5 ∷ with_master

older_is_ignored : answers (follow 1 0 5 ∷ follow 2 1 6 ∷ two_step (pos 0) 1 (at 2 100) 7 ∷ two_step (pos 0) 0 (at 2 200) 8 ∷ []) with_master
    ≡ Held ∷ Held ∷ Completed ∷ Ignored NotNewer ∷ []
older_is_ignored = refl

in_order_both_complete : answers (follow 1 0 5 ∷ follow 2 1 6 ∷ two_step (pos 0) 0 (at 2 100) 7 ∷ two_step (pos 0) 1 (at 2 200) 8 ∷ []) with_master
    ≡ Held ∷ Held ∷ Completed ∷ Completed ∷ []
in_order_both_complete = refl

-- the same number completes again, and an older one is used once two ticks came after the last completion
same_number_completes : answers (two_step (pos 0) 1 (at 2 300) 9 ∷ []) crossed ≡ Completed ∷ []
same_number_completes = refl

older_after_two_ticks : answers (two_step (pos 0) 0 (at 2 400) 12 ∷ follow 1 0 13 ∷ []) (Tick ∷ Tick ∷ two_step (pos 0) 1 (at 2 300) 9 ∷ crossed)
    ≡ Held ∷ Completed ∷ []
older_after_two_ticks = refl

-- 0 is newer than 65,535; half a turn ahead isn't newer
numbers_wrap : answers (two_step (pos 0) 65535 0 1 ∷ two_step (pos 0) 0 0 2 ∷ follow 1 65535 3 ∷ follow 1 0 4 ∷ follow 1 65535 5
    ∷ two_step (pos 0) 32767 0 6 ∷ two_step (pos 0) 32768 0 7 ∷ []) with_master
    ≡ Held ∷ Held ∷ Completed ∷ Completed ∷ Ignored NotNewer ∷ Held ∷ Ignored NotNewer ∷ []
numbers_wrap = refl

-- of four Syncs three are held, over one tick, and no more after the second
abbrev four_syncs : List Call
four_syncs = two_step (pos 0) 3 0 4 ∷ two_step (pos 0) 2 0 3 ∷ two_step (pos 0) 1 0 2 ∷ two_step (pos 0) 0 0 1 ∷ with_master

three_are_held : answers (follow 1 0 5 ∷ follow 2 1 6 ∷ Tick ∷ follow 4 3 7 ∷ Tick ∷ follow 4 3 8 ∷ []) four_syncs
    ≡ Held ∷ Completed ∷ Held ∷ Completed ∷ Held ∷ Held ∷ []
three_are_held = refl

-- a change of master and back
master_is_back : answers (follow 4 3 5 ∷ SetMaster (clock 1) ∷ follow 4 3 6 ∷ []) (SetMaster (clock 3) ∷ four_syncs)
    ≡ Ignored OtherMaster ∷ Held ∷ Held ∷ []
master_is_back = refl

-- a request is answered once it is known when it left, and no more after a change of master
requests_answered : answers (response (clock 2) (pos 0) 0 2 ∷ RequestLeft 0 0 ∷ response (clock 2) (pos 0) 0 3 ∷ response (clock 2) (pos 0) 1 4
    ∷ SetMaster (clock 1) ∷ response (clock 2) (pos 0) 0 5 ∷ []) (NextRequest 1 ∷ with_master)
    ≡ Ignored EgressUnknown ∷ Held ∷ Completed ∷ Ignored UnknownRequest ∷ Held ∷ Ignored UnknownRequest ∷ []
requests_answered = refl

request_went : is_held slave (SetMaster (clock 1) ∷ exchange) 0 ≡ false
request_went = refl

-- the first reason that applies
first_reasons : answers (Event (Err Version) 0 1 ∷ Event (Ok (message (clock 3) (0 ∷ 0 ∷ []) (pos 0) 0 (FollowUp (stamp 0 0)))) 0 2
    ∷ one_step too_big 0 0 3 ∷ SetMaster (clock 1) ∷ one_step (pos 9223372036854775806) 5 0 4 ∷ one_step too_big 4 0 5
    ∷ response (clock 4) too_big 0 6 ∷ response (clock 4) (pos 0) 0 7 ∷ one_step (pos 0) 4 0 8 ∷ follow 1 4 9 ∷ []) []
    ≡ Ignored (Decode Version) ∷ Ignored WrongType ∷ Ignored NoMaster ∷ Held ∷ Completed ∷ Ignored TooBig ∷ Ignored TooBig
    ∷ Ignored OtherRequester ∷ Ignored NotNewer ∷ Ignored NotNewer ∷ []
first_reasons = refl
