-- The first two exchanges of `tests/answers/recorded/one-step.lines`, octet for octet: the datagrams at a slave of
-- `ptp4l`, each Sync and its Follow_Up made one one-step Sync. They meet the premises of the law on exchanges, once with
-- the Sync first and once with it last.
use Rattle.std.proofs.Common.{◌≡◌, ◌∙◌, ℕ, sym, pos, negsuc, refl, arith, inl, inr, List, [], ◌∷◌, false, Some}
use Rattle.std.proofs.Common.{None, Ok, rules}
use Rattle.std.proofs.lemmas.Bool.{both_ways}
use Rattle.ptp_units.specs.Interval.{too_big}
use Rattle.ptp_units.specs.Moment.{Stamp, stamp}
use Rattle.event_codec.specs.declared.message.Body.TheVariants as bodies
use Rattle.event_codec.specs.Packet.{Contents}
use Rattle.event_codec.specs.Reading.{IsReading}
use Rattle.event_codec.proofs.Lengths.{all_octets}
use Rattle.slave_port.specs.declared.heard.Report.{Report}
use Rattle.slave_port.specs.Completion.{SyncCompletion, DelayCompletion}
use Rattle.network_model.proofs.Worked.{at}
use Rattle.recording_model.specs.Recorded.{Recorded}
use Rattle.recording_model.specs.Listening.{reports, report_at}
use Rattle.recording_model.specs.Told.{AreNumbered}
use Rattle.recording_model.specs.Finds.{is_master_sync, tells_departure}
use Rattle.recording_model.specs.Finds.{says, completion_of_one_step, IsOneStep, IsTaken, ComesOneStep, answer_of}
use Rattle.recording_model.specs.Finds.{ComesDelay, CompletesNoSync, StandsSync, StandsDelay}
use Rattle.recording_model.proofs.Said.{says-of}
use Rattle.recording_model.proofs.Finds.{each_exchange}
use Rattle.recording_model.proofs.WorkedFinds.{none_says, answer_comes, stands}
use Rattle.recording_model.proofs.WorkedSlave.{m_config, s_config, message, line, announce, watched}

-- what its datagrams say
abbrev sync_0 : Contents
sync_0 = message m_config.identity 0 0 0 0 (bodies.Sync (stamp 1795328934 921638178))

abbrev sync_0_octets : List ℕ
sync_0_octets =
    0 ∷ 2 ∷ 0 ∷ 44 ∷ 0 ∷ 0 ∷ 0 ∷ 0 ∷ 0 ∷ 0 ∷ 0 ∷ 0 ∷ 0 ∷ 0 ∷ 0 ∷ 0 ∷ 0 ∷ 0 ∷ 0 ∷ 0 ∷ 2 ∷ 0 ∷ 0 ∷ 255 ∷ 254 ∷ 17 ∷
    34 ∷ 51 ∷ 0 ∷ 1 ∷ 0 ∷ 0 ∷ 0 ∷ 0 ∷ 0 ∷ 0 ∷ 107 ∷ 2 ∷ 139 ∷ 166 ∷ 54 ∷ 239 ∷ 21 ∷ 34 ∷ []

sync_0-octets : IsReading sync_0_octets (Ok sync_0)
sync_0-octets = search (rules, all_octets)

abbrev sync_1 : Contents
sync_1 = message m_config.identity 0 1 0 0 (bodies.Sync (stamp 1795328935 921718120))

abbrev sync_1_octets : List ℕ
sync_1_octets =
    0 ∷ 2 ∷ 0 ∷ 44 ∷ 0 ∷ 0 ∷ 0 ∷ 0 ∷ 0 ∷ 0 ∷ 0 ∷ 0 ∷ 0 ∷ 0 ∷ 0 ∷ 0 ∷ 0 ∷ 0 ∷ 0 ∷ 0 ∷ 2 ∷ 0 ∷ 0 ∷ 255 ∷ 254 ∷ 17 ∷
    34 ∷ 51 ∷ 0 ∷ 1 ∷ 0 ∷ 1 ∷ 0 ∷ 0 ∷ 0 ∷ 0 ∷ 107 ∷ 2 ∷ 139 ∷ 167 ∷ 54 ∷ 240 ∷ 77 ∷ 104 ∷ []

sync_1-octets : IsReading sync_1_octets (Ok sync_1)
sync_1-octets = search (rules, all_octets)

abbrev request_0 : Contents
request_0 = message s_config.identity 0 0 1 127 (bodies.DelayReq (stamp 0 0))

abbrev request_0_octets : List ℕ
request_0_octets =
    1 ∷ 2 ∷ 0 ∷ 44 ∷ 0 ∷ 0 ∷ 0 ∷ 0 ∷ 0 ∷ 0 ∷ 0 ∷ 0 ∷ 0 ∷ 0 ∷ 0 ∷ 0 ∷ 0 ∷ 0 ∷ 0 ∷ 0 ∷ 2 ∷ 0 ∷ 0 ∷ 255 ∷ 254 ∷
    170 ∷ 187 ∷ 204 ∷ 0 ∷ 1 ∷ 0 ∷ 0 ∷ 1 ∷ 127 ∷ 0 ∷ 0 ∷ 0 ∷ 0 ∷ 0 ∷ 0 ∷ 0 ∷ 0 ∷ 0 ∷ 0 ∷ []

request_0-octets : IsReading request_0_octets (Ok request_0)
request_0-octets = search (rules, all_octets)

abbrev response_0 : Contents
response_0 = message m_config.identity 0 0 3 0 (bodies.DelayResp (stamp 1795328936 126744134) s_config.identity)

abbrev response_0_octets : List ℕ
response_0_octets =
    9 ∷ 2 ∷ 0 ∷ 54 ∷ 0 ∷ 0 ∷ 0 ∷ 0 ∷ 0 ∷ 0 ∷ 0 ∷ 0 ∷ 0 ∷ 0 ∷ 0 ∷ 0 ∷ 0 ∷ 0 ∷ 0 ∷ 0 ∷ 2 ∷ 0 ∷ 0 ∷ 255 ∷ 254 ∷ 17 ∷
    34 ∷ 51 ∷ 0 ∷ 1 ∷ 0 ∷ 0 ∷ 3 ∷ 0 ∷ 0 ∷ 0 ∷ 107 ∷ 2 ∷ 139 ∷ 168 ∷ 7 ∷ 141 ∷ 246 ∷ 70 ∷ 2 ∷ 0 ∷ 0 ∷ 255 ∷ 254 ∷
    170 ∷ 187 ∷ 204 ∷ 0 ∷ 1 ∷ []

response_0-octets : IsReading response_0_octets (Ok response_0)
response_0-octets = search (rules, all_octets)

abbrev request_1 : Contents
request_1 = message s_config.identity 0 1 1 127 (bodies.DelayReq (stamp 0 0))

abbrev request_1_octets : List ℕ
request_1_octets =
    1 ∷ 2 ∷ 0 ∷ 44 ∷ 0 ∷ 0 ∷ 0 ∷ 0 ∷ 0 ∷ 0 ∷ 0 ∷ 0 ∷ 0 ∷ 0 ∷ 0 ∷ 0 ∷ 0 ∷ 0 ∷ 0 ∷ 0 ∷ 2 ∷ 0 ∷ 0 ∷ 255 ∷ 254 ∷
    170 ∷ 187 ∷ 204 ∷ 0 ∷ 1 ∷ 0 ∷ 1 ∷ 1 ∷ 127 ∷ 0 ∷ 0 ∷ 0 ∷ 0 ∷ 0 ∷ 0 ∷ 0 ∷ 0 ∷ 0 ∷ 0 ∷ []

request_1-octets : IsReading request_1_octets (Ok request_1)
request_1-octets = search (rules, all_octets)

abbrev response_1 : Contents
response_1 = message m_config.identity 0 1 3 0 (bodies.DelayResp (stamp 1795328936 557927843) s_config.identity)

abbrev response_1_octets : List ℕ
response_1_octets =
    9 ∷ 2 ∷ 0 ∷ 54 ∷ 0 ∷ 0 ∷ 0 ∷ 0 ∷ 0 ∷ 0 ∷ 0 ∷ 0 ∷ 0 ∷ 0 ∷ 0 ∷ 0 ∷ 0 ∷ 0 ∷ 0 ∷ 0 ∷ 2 ∷ 0 ∷ 0 ∷ 255 ∷ 254 ∷ 17 ∷
    34 ∷ 51 ∷ 0 ∷ 1 ∷ 0 ∷ 1 ∷ 3 ∷ 0 ∷ 0 ∷ 0 ∷ 107 ∷ 2 ∷ 139 ∷ 168 ∷ 33 ∷ 65 ∷ 77 ∷ 163 ∷ 2 ∷ 0 ∷ 0 ∷ 255 ∷ 254 ∷
    170 ∷ 187 ∷ 204 ∷ 0 ∷ 1 ∷ []

response_1-octets : IsReading response_1_octets (Ok response_1)
response_1-octets = search (rules, all_octets)

abbrev sync_2 : Contents
sync_2 = message m_config.identity 0 2 0 0 (bodies.Sync (stamp 1795328936 921794762))

abbrev sync_2_octets : List ℕ
sync_2_octets =
    0 ∷ 2 ∷ 0 ∷ 44 ∷ 0 ∷ 0 ∷ 0 ∷ 0 ∷ 0 ∷ 0 ∷ 0 ∷ 0 ∷ 0 ∷ 0 ∷ 0 ∷ 0 ∷ 0 ∷ 0 ∷ 0 ∷ 0 ∷ 2 ∷ 0 ∷ 0 ∷ 255 ∷ 254 ∷ 17 ∷
    34 ∷ 51 ∷ 0 ∷ 1 ∷ 0 ∷ 2 ∷ 0 ∷ 0 ∷ 0 ∷ 0 ∷ 107 ∷ 2 ∷ 139 ∷ 168 ∷ 54 ∷ 241 ∷ 120 ∷ 202 ∷ []

sync_2-octets : IsReading sync_2_octets (Ok sync_2)
sync_2-octets = search (rules, all_octets)

-- line by line; the Announces, as those of `WorkedSlave`, are none of the four messages
abbrev before_sync : List Recorded
before_sync =
    announce 5 (at 1795328935 422695709 0)
    ∷ announce 4 (at 1795328934 922602780 0)
    ∷ line 3 (at 1795328934 921649640 0) (Ok sync_0)
    ∷ announce 2 (at 1795328934 422617892 0)
    ∷ announce 1 (at 1795328933 922527123 0)
    ∷ []

abbrev sync_line : Recorded
sync_line = line 6 (at 1795328935 921727565 0) (Ok sync_1)

abbrev announce_line : Recorded
announce_line = announce 7 (at 1795328935 922690782 0)

abbrev before_request : List Recorded
before_request = announce_line ∷ sync_line ∷ before_sync

abbrev request_line : Recorded
request_line = line 8 (at 1795328936 126728972 0) (Ok request_0)

abbrev before_response : List Recorded
before_response = request_line ∷ before_request

abbrev response_line : Recorded
response_line = line 9 (at 1795328936 126791805 0) (Ok response_0)

-- the one-step Sync of line 6 comes
abbrev sync_half : SyncCompletion
sync_half = completion_of_one_step sync_line sync_1 (stamp 1795328935 921718120)

one_step_comes : (d : Recorded) (s : Contents) (origin : Stamp) (earlier : List Recorded) → IsOneStep watched d s origin
    → IsTaken watched s.header earlier d → ComesOneStep watched 0 earlier d (completion_of_one_step d s origin)
one_step_comes d s origin earlier one_step taken =
    record { s = s; origin = origin; one_step = one_step; is = refl; taken = taken; one_life = omega arith }

comes_sync : ComesOneStep watched 0 before_sync sync_line sync_half
comes_sync = one_step_comes sync_line sync_1 (stamp 1795328935 921718120) before_sync (search rules) (inl (search (rules, none_says), search (rules, none_says)))

-- a datagram that says no Sync and no Follow_Up of the master
quiet_at : (earlier : List Recorded) (d : Recorded) → says (tells_departure watched) d ≡ false
    → says (is_master_sync watched) d ≡ false → CompletesNoSync watched earlier d
quiet_at earlier d none other =
    inl (
      none,
      λ m said is. absurd (both_ways (is_master_sync watched m)
          (sym (says-of (is_master_sync watched) d m said) ∙ other) is),
    )

stands_sync : StandsSync watched 0 before_response sync_half
stands_sync =
    stands (request_line ∷ announce_line ∷ []) sync_line before_sync (inr comes_sync) (
      quiet_at (announce_line ∷ sync_line ∷ before_sync) request_line refl refl,
      (quiet_at (sync_line ∷ before_sync) announce_line refl refl, tt),
    )
    (search rules)

-- and the Delay_Resp of line 9
abbrev delay_half : DelayCompletion
delay_half = answer_of request_line response_line request_0 response_0 (stamp 1795328936 126744134)

comes_delay : ComesDelay watched 0 before_response response_line delay_half
comes_delay =
    search (rules, none_says, answer_comes watched 0 request_line response_line request_0 response_0 (stamp 1795328936 126744134) [] before_request)

numbered : AreNumbered (response_line ∷ before_response)
numbered = search rules

-- -2858.5 ns and 12303.5 ns, twice and in units of 2^-16 ns, of the Sync of line 6 and the Delay_Req of line 8
abbrev report : Report
report = record {
  offset2 = negsuc 374669311;
  path2 = pos 1612644352;
  sync_tag = 6;
  follow_tag = None;
  request_tag = 8;
  response_tag = 9;
}

it_is_found : report_at watched before_response response_line ≡ Some report
it_is_found =
    each_exchange watched before_response response_line sync_half delay_half numbered (inr (stands_sync, comes_delay))

-- the Delay_Req of line 11 and its Delay_Resp, and then the one-step Sync of line 13, which brings the report
abbrev before_next : List Recorded
before_next =
    announce 10 (at 1795328936 422798788 0)
    ∷ response_line ∷ before_response

abbrev next_request : Recorded
next_request = line 11 (at 1795328936 557915263 0) (Ok request_1)

abbrev next_response : Recorded
next_response = line 12 (at 1795328936 557960663 0) (Ok response_1)

abbrev next_sync : Recorded
next_sync = line 13 (at 1795328936 921804703 0) (Ok sync_2)

abbrev before_next_sync : List Recorded
before_next_sync = next_response ∷ next_request ∷ before_next

abbrev next_sync_half : SyncCompletion
next_sync_half = completion_of_one_step next_sync sync_2 (stamp 1795328936 921794762)

comes_next_sync : ComesOneStep watched 0 before_next_sync next_sync next_sync_half
comes_next_sync =
    one_step_comes next_sync sync_2 (stamp 1795328936 921794762) before_next_sync (search rules) (inl (search (rules, none_says), search (rules, none_says)))

abbrev next_delay_half : DelayCompletion
next_delay_half = answer_of next_request next_response request_1 response_1 (stamp 1795328936 557927843)

stands_delay : StandsDelay watched 0 before_next_sync next_delay_half
stands_delay =
    stands [] next_response (next_request ∷ before_next)
    (answer_comes watched 0 next_request next_response request_1 response_1 (stamp 1795328936 557927843) [] before_next (search rules) refl
    (inl (search (rules, none_says))) (search rules) (omega arith))
    tt (search rules)

next_numbered : AreNumbered (next_sync ∷ before_next_sync)
next_numbered = search rules

-- -1319.5 ns and 11260.5 ns
it_is_found_by_the_sync : report_at watched before_next_sync next_sync
    ≡ Some (record report {
      offset2 = negsuc 172949503;
      path2 = pos 1475936256;
      sync_tag = 13;
      request_tag = 11;
      response_tag = 12;
    })
it_is_found_by_the_sync =
    each_exchange watched before_next_sync next_sync next_sync_half next_delay_half next_numbered
    (inl (inr comes_next_sync, stands_delay))

-- with another Sync in place of that of line 6
abbrev numbered_so : (number : ℕ) → Contents → Contents
numbered_so number m = record m { header = record m.header { sequence = record { 0 = number } } }

abbrev with_sync_at : (nanoseconds : ℕ) → Contents → List Recorded
with_sync_at nanoseconds s =
    response_line ∷ request_line ∷ announce_line ∷ line 6 (at 1795328935 nanoseconds 0) (Ok s) ∷ before_sync

abbrev with_sync : Contents → List Recorded
with_sync = with_sync_at 921727565

-- where its number is behind, or its correction too big, the report isn't of it, but of the Sync of line 3; where it is
-- behind by a second and more the master began anew, and the report is of it
abbrev sync_tags : List Report → List ℕ
sync_tags [] = []
sync_tags (report ∷ others) = report.sync_tag ∷ sync_tags others

it_is_that_of_line_6 : sync_tags (reports watched (with_sync sync_1)) ≡ 6 ∷ []
it_is_that_of_line_6 = refl

behind_is_missed : sync_tags (reports watched (with_sync_at 500000000 (numbered_so 65535 sync_1))) ≡ 3 ∷ []
behind_is_missed = refl

a_second_behind_is_found : sync_tags (reports watched (with_sync (numbered_so 65535 sync_1))) ≡ 6 ∷ []
a_second_behind_is_found = refl

too_big_is_missed : sync_tags (reports watched
    (with_sync (record sync_1 { header = record sync_1.header { correction = record { 0 = too_big } } }))) ≡ 3 ∷ []
too_big_is_missed = refl

-- with another Delay_Req behind that of line 8, and its Delay_Resp: 256 numbers ahead of it the report is of that and of
-- the Sync of line 6, and 257 ahead there is none, since the slave began anew behind the Sync
abbrev with_request : (number : ℕ) → List Recorded
with_request number =
    line 10 (at 1795328936 557960663 0) (Ok (numbered_so number response_0))
    ∷ line 9 (at 1795328936 557915263 0) (Ok (numbered_so number request_0)) ∷ before_response

in_one_life : sync_tags (reports watched (with_request 256)) ≡ 6 ∷ []
in_one_life = refl

in_another_life_is_missed : sync_tags (reports watched (with_request 257)) ≡ []
in_another_life_is_missed = refl
