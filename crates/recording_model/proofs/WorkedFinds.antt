-- Worked recordings that meet the premises of the law on exchanges, and what comes of one that doesn't.
use Rattle.std.proofs.Common.{◌≡◌, ℕ, pos, Bool, false, List, [], ◌∷◌, ◌++◌, ◌<◌, ◌≤◌, Some, Ok, refl}
use Rattle.std.proofs.Common.{arith, rules, inl, inr}
use Rattle.std.specs.Prelude.{◌&&◌, ◌||◌, ◌==◌, ◌⊎◌, not, nat_lt, count_by, IfSome, IsTrue}
use Rattle.std.proofs.lemmas.Bool.{or_parts}
use Rattle.std.proofs.lemmas.List.Elements.{All-nil, All-cons}
use Rattle.ptp_units.specs.Moment.{Stamp, stamp}
use Rattle.ptp_units.specs.Sequence.{ahead, of_count}
use Rattle.event_codec.specs.declared.message.Body.TheVariants.{DelayResp}
use Rattle.event_codec.specs.Packet.{Contents}
use Rattle.event_codec.specs.Profile.{header_of}
use Rattle.master_port.specs.Written.{sync, follow_up}
use Rattle.slave_port.specs.declared.heard.Report.{Report}
use Rattle.slave_port.specs.Written.{delay_req}
use Rattle.slave_port.specs.Completion.{SyncCompletion, DelayCompletion}
use Rattle.network_model.proofs.Worked.{m_config, s_config, at}
use Rattle.recording_model.specs.declared.watched.Watched.{Watched}
use Rattle.recording_model.specs.Recorded.{Recorded}
use Rattle.recording_model.specs.Listening.{table_capacity, ticks_every, reports, report_at, is_used}
use Rattle.recording_model.specs.Told.{AreNumbered, last_request}
use Rattle.recording_model.specs.Finds.{is_master_sync, is_own_response}
use Rattle.recording_model.specs.Finds.{is_own_request, with_number, last_heard}
use Rattle.recording_model.specs.Finds.{says, NoneSays, AreOfOneSync, completion_of, ComesTwoStep, AreOfOneRequest}
use Rattle.recording_model.specs.Finds.{answer_of, AreInOrder, SyncFirst, FollowUpFirst, AreTaken, NoOtherIsHeard, EachAfter}
use Rattle.recording_model.specs.Finds.{ComesDelay, Stands, StandsSync, StandsDelay}
use Rattle.recording_model.proofs.Finds.{each_exchange}

abbrev pub watched : Watched
watched = record { slave = s_config.identity; master = m_config.identity; domain = 0 }

abbrev pub line : (number time : ℕ) → Contents → Recorded
line number time m = record { line = number; time = time; said = Ok m }

-- none of these is found to say it
abbrev pub some_says : (Contents → Bool) → List Recorded → Bool
some_says test [] = false
some_says test (d ∷ ds) = says test d || some_says test ds

pub none_says : (test : Contents → Bool) (ds : List Recorded) → some_says test ds ≡ false → NoneSays test ds
none_says test [] none = All-nil (λ (d : Recorded). says test d ≡ false)
none_says test (d ∷ ds) none =
    let parts = or_parts (says test d) (some_says test ds) none in
    All-cons (λ (d : Recorded). says test d ≡ false) d ds parts.0 (none_says test ds parts.1)

-- the three that come, and what stands, from what their definitions ask
pub two_step_comes : (w : Watched) (begun : ℕ) (sync follow : Recorded) (s f : Contents) (precise : Stamp) (first d : Recorded)
    (between before : List Recorded) → AreOfOneSync w sync follow s f precise → AreInOrder w sync follow first d between
    → AreTaken w s.header.sequence.0 between before first d → NoOtherIsHeard w s.header.sequence.0 between (first ∷ before)
    → begun ≤ first.line
    → ComesTwoStep w begun (between ++ first ∷ before) d (completion_of sync follow s f precise)
two_step_comes w begun sync follow s f precise first d between before of_one order taken alone one_life = record {
  sync = sync;
  follow = follow;
  s = s;
  f = f;
  precise = precise;
  between = between;
  first = first;
  before = before;
  of_one = of_one;
  is = refl;
  order = order;
  there = refl;
  taken = taken;
  alone = alone;
  one_life = one_life;
}

pub answer_comes : (w : Watched) (begun : ℕ) (request d : Recorded) (q r : Contents) (receive : Stamp) (between before : List Recorded)
    → AreOfOneRequest w request d q r receive
    → IfSome (last_request w before) (λ last. (of_count last == q.header.sequence.0) ≡ false)
    → NoneSays (with_number (is_own_response w) q.header.sequence.0) (last_heard w (is_own_response w) (between ++ request ∷ before))
    ⊎ IsTrue (is_used w (between ++ request ∷ before) d)
    → NoneSays (λ m. is_own_request w m && not (nat_lt (ahead m.header.sequence.0 q.header.sequence.0) table_capacity)) between
    → begun ≤ request.line
    → ComesDelay w begun (between ++ request ∷ before) d (answer_of request d q r receive)
answer_comes w begun request d q r receive between before of_one another taken few one_life = record {
  request = request;
  q = q;
  r = r;
  receive = receive;
  between = between;
  before = before;
  of_one = of_one;
  is = refl;
  there = refl;
  another = another;
  taken = taken;
  few = few;
  one_life = one_life;
}

pub stands : {w : Watched} {Half : Type 0} {Comes : List Recorded → Recorded → Half → Type 0} {Other : List Recorded → Recorded → Type 0}
    {c : Half} (later : List Recorded) (last : Recorded) (before : List Recorded) → Comes before last c → EachAfter Other later (last ∷ before)
    → count_by (says (is_master_sync w)) later < ticks_every
    → Stands w Half Comes Other (later ++ last ∷ before) c
stands later last before comes quiet few =
    record { later = later; last = last; before = before; there = refl; comes = comes; quiet = quiet; few = few }

-- Sync 5, a Delay_Req, Sync 6, the Follow_Up of Sync 5, and the Delay_Resp
abbrev pub response : (number : ℕ) → Contents
response number = record {
  header = header_of m_config (0 ∷ 0 ∷ []) (pos 0) number 3 (pos 0);
  body = DelayResp (stamp 2 4500) s_config.identity;
  suffix = [];
}

abbrev sync_line : Recorded
sync_line = line 1 (at 1 4000 0) (sync m_config 5)

abbrev request_line : Recorded
request_line = line 2 (at 2 1000 0) (delay_req s_config 9)

abbrev later_line : Recorded
later_line = line 3 (at 1 7000 0) (sync m_config 6)

abbrev follow_line : Recorded
follow_line = line 4 (at 1 8000 0) (follow_up m_config 5 (at 1 0 0))

abbrev response_line : Recorded
response_line = line 5 0 (response 9)

abbrev two_lines : List Recorded
two_lines = request_line ∷ sync_line ∷ []

abbrev three_lines : List Recorded
three_lines = later_line ∷ two_lines

abbrev four_lines : List Recorded
four_lines = follow_line ∷ three_lines

abbrev pair : SyncCompletion
pair = completion_of sync_line follow_line (sync m_config 5) (follow_up m_config 5 (at 1 0 0)) (stamp 1 0)

abbrev until : List Recorded
until = later_line ∷ request_line ∷ []

comes_sync : ComesTwoStep watched 0 three_lines follow_line pair
comes_sync =
    two_step_comes watched 0 sync_line follow_line (sync m_config 5) (follow_up m_config 5 (at 1 0 0)) (stamp 1 0)
    sync_line follow_line until [] (search rules) (search (rules, SyncFirst))
    (inl (λ flag. search (rules, none_says), search (rules, none_says), refl, refl)) (search rules) (omega arith)

abbrev answered : DelayCompletion
answered = answer_of request_line response_line (delay_req s_config 9) (response 9) (stamp 2 4500)

comes_delay : ComesDelay watched 0 four_lines response_line answered
comes_delay =
    search (
      rules,
      none_says,
      answer_comes watched 0 request_line response_line (delay_req s_config 9) (response 9) (stamp 2 4500)
          (follow_line ∷ later_line ∷ []) (sync_line ∷ []),
    )

numbered : AreNumbered (response_line ∷ four_lines)
numbered = search rules

-- so its report is that of these four
abbrev report : Report
report = record {
  offset2 = pos 32768000;
  path2 = pos 491520000;
  sync_tag = 1;
  follow_tag = Some 4;
  request_tag = 2;
  response_tag = 5;
}

it_is_found : report_at watched four_lines response_line ≡ Some report
it_is_found =
    each_exchange watched four_lines response_line pair answered numbered
    (inr (stands [] follow_line three_lines (inl comes_sync) tt (search rules), comes_delay))

-- the Delay_Resp first, and a Follow_Up before its Sync: then the Sync brings the report
abbrev request_before : Recorded
request_before = line 1 (at 2 1000 0) (delay_req s_config 9)

abbrev response_before : Recorded
response_before = line 2 0 (response 9)

abbrev follow_before : Recorded
follow_before = line 3 (at 1 3000 0) (follow_up m_config 5 (at 1 0 0))

abbrev sync_behind : Recorded
sync_behind = line 4 (at 1 4000 0) (sync m_config 5)

abbrev two_before : List Recorded
two_before = response_before ∷ request_before ∷ []

abbrev three_before : List Recorded
three_before = follow_before ∷ two_before

abbrev other_pair : SyncCompletion
other_pair = completion_of sync_behind follow_before (sync m_config 5) (follow_up m_config 5 (at 1 0 0)) (stamp 1 0)

abbrev other_answered : DelayCompletion
other_answered = answer_of request_before response_before (delay_req s_config 9) (response 9) (stamp 2 4500)

sync_comes_last : ComesTwoStep watched 0 three_before sync_behind other_pair
sync_comes_last =
    two_step_comes watched 0 sync_behind follow_before (sync m_config 5) (follow_up m_config 5 (at 1 0 0)) (stamp 1 0)
    follow_before sync_behind [] two_before (search rules) (search (rules, FollowUpFirst))
    (inl (λ flag. search (rules, none_says), search (rules, none_says), refl, refl)) (search rules) (omega arith)

delay_stands : StandsDelay watched 0 three_before other_answered
delay_stands =
    stands (follow_before ∷ []) response_before (request_before ∷ [])
    (search (rules, none_says, answer_comes watched 0 request_before response_before (delay_req s_config 9) (response 9) (stamp 2 4500) [] []))
    (inl refl, tt) (search rules)

it_is_found_by_the_sync : report_at watched three_before sync_behind
    ≡ Some (record report { sync_tag = 4; follow_tag = Some 3; request_tag = 1; response_tag = 2 })
it_is_found_by_the_sync =
    each_exchange watched three_before sync_behind other_pair other_answered
    (search rules) (inl (inl sync_comes_last, delay_stands))

-- each twice, as where packets are captured twice: the copies aren't heard, and the report is of the first ones
abbrev sync_first : Recorded
sync_first = line 1 (at 1 4000 0) (sync m_config 5)

abbrev copied_two : List Recorded
copied_two = line 2 (at 1 4001 0) (sync m_config 5) ∷ sync_first ∷ []

abbrev follow_first : Recorded
follow_first = line 3 (at 1 5000 0) (follow_up m_config 5 (at 1 0 0))

abbrev follow_twice : List Recorded
follow_twice = line 4 (at 1 5001 0) (follow_up m_config 5 (at 1 0 0)) ∷ follow_first ∷ copied_two

abbrev request_first : Recorded
request_first = line 5 (at 2 1000 0) (delay_req s_config 9)

abbrev request_twice : List Recorded
request_twice = line 6 (at 2 1001 0) (delay_req s_config 9) ∷ request_first ∷ follow_twice

abbrev response_first : Recorded
response_first = line 7 0 (response 9)

copied_sync : StandsSync watched 0 request_twice
    (completion_of sync_first follow_first (sync m_config 5) (follow_up m_config 5 (at 1 0 0)) (stamp 1 0))
copied_sync =
    stands (line 6 (at 2 1001 0) (delay_req s_config 9) ∷ request_first ∷ line 4 (at 1 5001 0) (follow_up m_config 5 (at 1 0 0)) ∷ [])
    follow_first copied_two
    (inl (search (
      rules,
      SyncFirst,
      two_step_comes watched 0 sync_first follow_first (sync m_config 5) (follow_up m_config 5 (at 1 0 0)) (stamp 1 0)
          sync_first follow_first (line 2 (at 1 4001 0) (sync m_config 5) ∷ []) [],
    )))
    (inr refl, (inr refl, (inr refl, tt))) (search rules)

copied_delay : ComesDelay watched 0 request_twice response_first
    (answer_of request_first response_first (delay_req s_config 9) (response 9) (stamp 2 4500))
copied_delay =
    search (
      rules,
      none_says,
      answer_comes watched 0 request_first response_first (delay_req s_config 9) (response 9) (stamp 2 4500)
          (line 6 (at 2 1001 0) (delay_req s_config 9) ∷ []) follow_twice,
    )

copies_are_passed_over : report_at watched request_twice response_first
    ≡ Some (record report { sync_tag = 1; follow_tag = Some 3; request_tag = 5; response_tag = 7 })
copies_are_passed_over =
    each_exchange watched request_twice response_first
    (completion_of sync_first follow_first (sync m_config 5) (follow_up m_config 5 (at 1 0 0)) (stamp 1 0))
    (answer_of request_first response_first (delay_req s_config 9) (response 9) (stamp 2 4500))
    (search rules)
    (inr (copied_sync, copied_delay))

-- a pair whose number is behind one that completed isn't found, though nothing else of it was recorded
abbrev late_pair : List Recorded
late_pair =
    line 6 0 (response 9) ∷ line 5 (at 2 1000 0) (delay_req s_config 9)
    ∷ line 4 (at 1 9000 0) (follow_up m_config 4 (at 1 0 0)) ∷ line 3 (at 1 8000 0) (sync m_config 4)
    ∷ line 2 (at 1 5000 0) (follow_up m_config 5 (at 1 0 0)) ∷ line 1 (at 1 4000 0) (sync m_config 5) ∷ []

late_pair_is_missed : reports watched late_pair
    ≡ record report { follow_tag = Some 2; request_tag = 5; response_tag = 6 } ∷ []
late_pair_is_missed = refl
