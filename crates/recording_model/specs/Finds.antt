-- The law: an exchange that stands in a recording (IEEE 1588-2019, 7.3.7 and 11.3) is found.
-- `laws::each_exchange_is_found` promises it.
use Rattle.std.specs.Prelude.{◌≡◌, ◌⊎◌, ℕ, ◌<◌, ◌≤◌, ◌==◌, nat_lt, zero, suc, take, Bool, true, false, not, ◌&&◌}
use Rattle.std.specs.Prelude.{◌||◌, ⊤, int_lt}
use Rattle.std.specs.Prelude.{List, [], ◌∷◌, ◌++◌, count_by, if◌then◌else◌, Some, Ok, IfSome, IsTrue}
use Rattle.std.specs.Bool.{beq}
use Rattle.std.specs.Option.{option_map_or}
use Rattle.std.specs.Result.{result_ok}
use Rattle.std.specs.List.{All}
use Rattle.ptp_units.specs.Interval.{too_big}
use Rattle.ptp_units.specs.Moment.{Stamp}
use Rattle.ptp_units.specs.Sequence.{of_count, ahead}
use Rattle.event_codec.specs.declared.message.Body.{Body}
use Rattle.event_codec.specs.declared.message.Body.TheVariants as bodies
use Rattle.event_codec.specs.declared.message.Header.{Header}
use Rattle.event_codec.specs.declared.port.PortIdentity.{PortIdentity}
use Rattle.event_codec.specs.Packet.{Contents}
use Rattle.event_codec.specs.Port.{is_same_port}
use Rattle.sync_watch.specs.Told.{syncs}
use Rattle.sync_watch.specs.Life.{is_apart, is_far, newest}
use Rattle.slave_port.specs.declared.heard.Heard.{Heard}
use Rattle.slave_port.specs.declared.heard.Heard.TheVariants as answers
use Rattle.slave_port.specs.Usable.{is_two_step, is_not_newer}
use Rattle.slave_port.specs.Completion.{SyncCompletion, DelayCompletion, pair, responded, alone as completed_alone}
use Rattle.slave_port.specs.Answer.{report_of}
use Rattle.recording_model.specs.declared.watched.Watched.{Watched}
use Rattle.recording_model.specs.Recorded.{Recorded}
use Rattle.recording_model.specs.Listening.{table_capacity, ticks_every, is_of, is_unicast, after_all, answered_to}
use Rattle.recording_model.specs.Begins.{told_of_master, begun_at}
use Rattle.recording_model.specs.Listening.{report_at}
use Rattle.recording_model.specs.Told.{is_sync, last_request, AreNumbered}
use Rattle.recording_model.specs.Listening.{is_used}
use Rattle.recording_model.specs.Pairs.{is_heard}

-- a Sync of the master
abbrev pub is_master_sync : Watched → Contents → Bool
is_master_sync w m = is_of w w.master m.header && is_sync m.body

abbrev pub is_follow_up : Body → Bool
is_follow_up (bodies.FollowUp precise) = true
is_follow_up _ = false

-- a Follow_Up of the master
abbrev pub is_master_follow_up : Watched → Contents → Bool
is_master_follow_up w m = is_of w w.master m.header && is_follow_up m.body

-- what says when a Sync of the master left: a Follow_Up, or a one-step Sync
abbrev pub tells_departure : Watched → Contents → Bool
tells_departure w m = is_master_follow_up w m || (is_master_sync w m && not (is_two_step m.header))

abbrev pub is_response_to : PortIdentity → Body → Bool
is_response_to port (bodies.DelayResp receive requesting) = is_same_port requesting port
is_response_to port _ = false

-- a Delay_Resp of the master to the slave
abbrev pub is_own_response : Watched → Contents → Bool
is_own_response w m = is_of w w.master m.header && is_response_to w.slave m.body

abbrev pub is_delay_req : Body → Bool
is_delay_req (bodies.DelayReq origin) = true
is_delay_req _ = false

-- a Delay_Req of the slave
abbrev pub is_own_request : Watched → Contents → Bool
is_own_request w m = is_of w w.slave m.header && is_delay_req m.body

-- the same of this number
abbrev pub with_number : (Contents → Bool) → (number : ℕ) → Contents → Bool
with_number test number m = test m && m.header.sequence.0 == number

-- what a datagram says passes a test
abbrev pub says : (Contents → Bool) → Recorded → Bool
says test d = option_map_or test (result_ok d.said) false

-- none of these says what passes it
abbrev pub NoneSays : (Contents → Bool) → List Recorded → Type 0
NoneSays test ds = All (λ d. says test d ≡ false) ds

-- with this unicastFlag (13.3.2.8)
abbrev pub with_flag : (Contents → Bool) → (flag : Bool) → Contents → Bool
with_flag test flag m = test m && beq (is_unicast m.header) flag

-- those of these that say what passes a test, and that the port hears
abbrev pub heard_of : Watched → (Contents → Bool) → List Recorded → List Recorded
heard_of w test [] = []
heard_of w test (d ∷ ds) = if says test d && is_heard w ds d then d ∷ heard_of w test ds else heard_of w test ds

-- the last of them, as many as it knows
abbrev pub last_heard : Watched → (Contents → Bool) → List Recorded → List Recorded
last_heard w test ds = take table_capacity (heard_of w test ds)

-- those behind which fewer Syncs of the master came that the port hears than so many
abbrev pub within_syncs : Watched → List Recorded → (count : ℕ) → List Recorded
within_syncs w [] count = []
within_syncs w (d ∷ ds) zero = []
within_syncs w (d ∷ ds) (suc count) =
    d ∷ within_syncs w ds (if says (is_master_sync w) d && is_heard w ds d then count else suc count)

-- A two-step Sync of the master and its Follow_Up: of one number, less than a second apart, and neither correction too
-- big.
pub record AreOfOneSync (w : Watched) (sync follow : Recorded) (s f : Contents) (precise : Stamp) : Type 0 where
  pub sync_said : sync.said ≡ Ok s
  pub follow_said : follow.said ≡ Ok f
  pub sync_is : is_master_sync w s ≡ true
  pub two_step : is_two_step s.header ≡ true
  pub of_master : is_of w w.master f.header ≡ true
  pub follow_is : f.body ≡ bodies.FollowUp precise
  pub number : f.header.sequence.0 ≡ s.header.sequence.0
  pub near : is_apart sync.time follow.time ≡ false
  pub small_sync : int_lt s.header.correction.0 too_big ≡ true
  pub small_follow : int_lt f.header.correction.0 too_big ≡ true

-- what they complete
abbrev pub completion_of : (sync follow : Recorded) (s f : Contents) (precise : Stamp) → SyncCompletion
completion_of sync follow s f precise = pair s.header.sequence.0
    (record { t2 = sync.time; correction = s.header.correction.0; tag = sync.line })
    (record { precise = precise; correction = f.header.correction.0; tag = follow.line })

-- A one-step Sync of the master: its correction isn't too big.
pub record IsOneStep (w : Watched) (sync : Recorded) (s : Contents) (origin : Stamp) : Type 0 where
  pub said : sync.said ≡ Ok s
  pub of_master : is_of w w.master s.header ≡ true
  pub sync_is : s.body ≡ bodies.Sync origin
  pub one_step : is_two_step s.header ≡ false
  pub small : int_lt s.header.correction.0 too_big ≡ true

-- what it completes, by its own originTimestamp
abbrev pub completion_of_one_step : (sync : Recorded) (s : Contents) (origin : Stamp) → SyncCompletion
completion_of_one_step sync s origin = completed_alone s.header.sequence.0
    (record { t2 = sync.time; origin = origin; correction = s.header.correction.0; tag = sync.line })

-- the number isn't behind any that says when it left
abbrev pub IsNotBehind : Watched → (number : ℕ) → List Recorded → Type 0
IsNotBehind w number ds =
    NoneSays (λ m. tells_departure w m && is_not_newer (Some m.header.sequence.0) number) ds

-- a Sync or a Follow_Up of the master with this number
abbrev pub is_of_number : Watched → (number : ℕ) → Contents → Bool
is_of_number w number = with_number (λ m. is_master_sync w m || is_master_follow_up w m) number

-- this holds of each of these, after those before it
abbrev pub EachAfter : (List Recorded → Recorded → Type 0) → (later before : List Recorded) → Type 0
EachAfter P [] before = ⊤
EachAfter P (d ∷ later) before = P (later ++ before) d × EachAfter P later before

-- another datagram than a Sync or Follow_Up of the number, or one that the port doesn't hear
abbrev pub IsNoOther : Watched → (number : ℕ) → List Recorded → Recorded → Type 0
IsNoOther w number earlier d = (says (is_of_number w number) d ≡ false) ⊎ (is_heard w earlier d ≡ false)

-- of what came after these, none that the port hears is another Sync or Follow_Up of the number
abbrev pub NoOtherIsHeard : Watched → (number : ℕ) → (later before : List Recorded) → Type 0
NoOtherIsHeard w number = EachAfter (IsNoOther w number)

-- of these the port knows no Sync and no Follow_Up of the number with this flag: none is among the last 256 of its kind
abbrev pub NoneIsKnownWith : Watched → (number : ℕ) → (flag : Bool) → List Recorded → Type 0
NoneIsKnownWith w number flag ds =
    NoneSays (with_number (is_master_sync w) number) (last_heard w (with_flag (is_master_sync w) flag) ds)
    × NoneSays (with_number (is_master_follow_up w) number) (last_heard w (with_flag (is_master_follow_up w) flag) ds)

-- none with either flag
abbrev pub NoneIsKnown : Watched → (number : ℕ) → List Recorded → Type 0
NoneIsKnown w number ds = (flag : Bool) → NoneIsKnownWith w number flag ds

-- within so many Syncs a number isn't to be behind
abbrev pub recent_syncs : ℕ
recent_syncs = 16384

-- a Follow_Up's number is neither up to 255 behind nor up to 256 ahead of that of the newest Sync with its flag that these
-- tell of the master since it began
abbrev pub is_far_from_newest : Watched → List Recorded → Contents → Bool
is_far_from_newest w earlier m = option_map_or (λ n. is_far m.header.sequence.0 n.number)
    (newest (syncs (is_unicast m.header) (told_of_master w earlier))) false

-- after these it says no Follow_Up of which that holds
abbrev pub IsNear : Watched → List Recorded → Recorded → Type 0
IsNear w earlier d = says (λ m. is_master_follow_up w m && is_far_from_newest w earlier m) d ≡ false

-- The port uses two such, one of which stands before the other: since it knows none of their number, their number isn't
-- behind any that is recent, and the Follow_Up's isn't far from the newest Sync. Or it does so for whatever reason.
abbrev pub AreTaken : Watched → (number : ℕ) → (between before : List Recorded) → (first d : Recorded) → Type 0
AreTaken w number between before first d =
    (NoneIsKnown w number before × IsNotBehind w number (within_syncs w (between ++ first ∷ before) recent_syncs)
    × IsNear w before first × IsNear w (between ++ first ∷ before) d)
    ⊎ (IsTrue (is_used w before first) × IsTrue (is_used w (between ++ first ∷ before) d))

-- Which of the two came first, and how few stand between them: at most 255 Syncs of the master where the Sync did, else at
-- most 255 Follow_Ups, and 4,095 Syncs.
pub data AreInOrder (w : Watched) (sync follow first d : Recorded) (between : List Recorded) : Type 0 where
  SyncFirst : first ≡ sync → d ≡ follow → count_by (says (is_master_sync w)) between < table_capacity
      → AreInOrder w sync follow first d between
  FollowUpFirst : first ≡ follow → d ≡ sync → count_by (says (is_master_follow_up w)) between < table_capacity
      → count_by (says (is_master_sync w)) between < ticks_every → AreInOrder w sync follow first d between

-- The later of such two comes, in whichever order, and the port uses both. Few stand between them, and it hears none of
-- these that has their number. The earlier one isn't from before the line of the last beginning.
pub record ComesTwoStep (w : Watched) (begun : ℕ) (earlier : List Recorded) (d : Recorded) (c : SyncCompletion) : Type 0
  where
    pub sync : Recorded
    pub follow : Recorded
    pub s : Contents
    pub f : Contents
    pub precise : Stamp
    pub between : List Recorded
    pub first : Recorded
    pub before : List Recorded
    pub of_one : AreOfOneSync w sync follow s f precise
    pub is : c ≡ completion_of sync follow s f precise
    pub order : AreInOrder w sync follow first d between
    pub there : earlier ≡ between ++ first ∷ before
    pub taken : AreTaken w s.header.sequence.0 between before first d
    pub alone : NoOtherIsHeard w s.header.sequence.0 between (first ∷ before)
    pub one_life : begun ≤ first.line

-- The port uses a one-step Sync: since it knows no Sync and no Follow_Up of its number and flag, and the number isn't
-- behind any that is recent. Or it does so for whatever reason.
abbrev pub IsTaken : Watched → (header : Header) → List Recorded → Recorded → Type 0
IsTaken w header earlier d =
    (NoneIsKnownWith w header.sequence.0 (is_unicast header) earlier
    × IsNotBehind w header.sequence.0 (within_syncs w earlier recent_syncs))
    ⊎ IsTrue (is_used w earlier d)

-- A one-step Sync comes, and the port uses it. It isn't from before the line of the last beginning.
pub record ComesOneStep (w : Watched) (begun : ℕ) (earlier : List Recorded) (d : Recorded) (c : SyncCompletion) : Type 0
  where
    pub s : Contents
    pub origin : Stamp
    pub one_step : IsOneStep w d s origin
    pub is : c ≡ completion_of_one_step d s origin
    pub taken : IsTaken w s.header earlier d
    pub one_life : begun ≤ d.line

-- the Sync's half of an exchange comes: the later of a two-step Sync and its Follow_Up, or a one-step Sync
abbrev pub ComesSync : Watched → (begun : ℕ) → (earlier : List Recorded) → (d : Recorded) → SyncCompletion → Type 0
ComesSync w begun earlier d c = ComesTwoStep w begun earlier d c ⊎ ComesOneStep w begun earlier d c

-- A Delay_Req of the slave and its Delay_Resp of the master: of one number, and the correction isn't too big.
pub record AreOfOneRequest (w : Watched) (request response : Recorded) (q r : Contents) (receive : Stamp) : Type 0 where
  pub request_said : request.said ≡ Ok q
  pub response_said : response.said ≡ Ok r
  pub request_is : is_own_request w q ≡ true
  pub of_master : is_of w w.master r.header ≡ true
  pub requesting : PortIdentity
  pub response_is : r.body ≡ bodies.DelayResp receive requesting
  pub to_slave : is_same_port requesting w.slave ≡ true
  pub number : r.header.sequence.0 ≡ q.header.sequence.0
  pub in_range : q.header.sequence.0 < 65536
  pub small : int_lt r.header.correction.0 too_big ≡ true

-- what they complete
abbrev pub answer_of : (request response : Recorded) (q r : Contents) (receive : Stamp) → DelayCompletion
answer_of request response q r receive = responded q.header.sequence.0
    (record { receive = receive; correction = r.header.correction.0; tag = response.line })
    (record { t3 = Some request.time; tag = request.line })
    request.time

-- The Delay_Resp of such two comes, and the port uses it, as it does where no other with this number is among the last 256
-- to the slave that it heard. The Delay_Req isn't the last one again, the Delay_Reqs of the slave between them are at
-- most 255 numbers ahead of it, and it isn't from before the line of the last beginning.
pub record ComesDelay (w : Watched) (begun : ℕ) (earlier : List Recorded) (d : Recorded) (c : DelayCompletion) : Type 0
  where
    pub request : Recorded
    pub q : Contents
    pub r : Contents
    pub receive : Stamp
    pub between : List Recorded
    pub before : List Recorded
    pub of_one : AreOfOneRequest w request d q r receive
    pub is : c ≡ answer_of request d q r receive
    pub there : earlier ≡ between ++ request ∷ before
    pub another : IfSome (last_request w before) (λ last. (of_count last == q.header.sequence.0) ≡ false)
    pub taken : NoneSays (with_number (is_own_response w) q.header.sequence.0)
        (last_heard w (is_own_response w) (between ++ request ∷ before))
        ⊎ IsTrue (is_used w (between ++ request ∷ before) d)
    pub few : NoneSays
        (λ m. is_own_request w m && not (nat_lt (ahead m.header.sequence.0 q.header.sequence.0) table_capacity)) between
    pub one_life : begun ≤ request.line

-- an answer that something completed
abbrev pub is_completion : Heard → Bool
is_completion answers.Completed = true
is_completion (answers.Report report) = true
is_completion _ = false

-- what the port answers to a datagram, after these
abbrev pub completes : Watched → List Recorded → Recorded → Bool
completes w earlier d = option_map_or is_completion (answered_to w d (after_all w earlier)) false

-- It completes no Sync: it says of none when it left, and if it is a two-step Sync, no Follow_Up before has its number.
-- Or the answer to it says so.
abbrev pub CompletesNoSync : Watched → List Recorded → Recorded → Type 0
CompletesNoSync w earlier d =
    ((says (tells_departure w) d ≡ false)
    × ((m : Contents) → d.said ≡ Ok m → is_master_sync w m ≡ true
    → NoneSays (with_number (is_master_follow_up w) m.header.sequence.0) earlier))
    ⊎ (completes w earlier d ≡ false)

-- it answers no request of the slave, or none that completes
abbrev pub CompletesNoDelay : Watched → List Recorded → Recorded → Type 0
CompletesNoDelay w earlier d = (says (is_own_response w) d ≡ false) ⊎ (completes w earlier d ≡ false)

-- a half of an exchange came, and after it nothing that completes another, nor 4,096 Syncs of the master
pub record Stands (w : Watched) (Half : Type 0) (Comes : List Recorded → Recorded → Half → Type 0)
    (CompletesNone : List Recorded → Recorded → Type 0) (earlier : List Recorded) (c : Half) : Type 0 where
  pub later : List Recorded
  pub last : Recorded
  pub before : List Recorded
  pub there : earlier ≡ later ++ last ∷ before
  pub comes : Comes before last c
  pub quiet : EachAfter CompletesNone later (last ∷ before)
  pub few : count_by (says (is_master_sync w)) later < ticks_every

-- a Sync completed
abbrev pub StandsSync : Watched → (begun : ℕ) → (earlier : List Recorded) → SyncCompletion → Type 0
StandsSync w begun = Stands w SyncCompletion (ComesSync w begun) (CompletesNoSync w)

-- a request was answered
abbrev pub StandsDelay : Watched → (begun : ℕ) → (earlier : List Recorded) → DelayCompletion → Type 0
StandsDelay w begun = Stands w DelayCompletion (ComesDelay w begun) (CompletesNoDelay w)

-- one of the two comes, and the other one stands
abbrev pub ComesAnExchange : Watched → (begun : ℕ) → (earlier : List Recorded) → (d : Recorded) → SyncCompletion
    → DelayCompletion → Type 0
ComesAnExchange w begun earlier d sync delay =
    (ComesSync w begun earlier d sync × StandsDelay w begun earlier delay)
    ⊎ (StandsSync w begun earlier sync × ComesDelay w begun earlier d delay)

-- Whatever else is recorded, in lines with growing numbers: where a two-step Sync with its Follow_Up, or a one-step Sync,
-- and a Delay_Req with its Delay_Resp stand, and no line behind the first of them tells that the slave or the master began
-- anew, the last of them brings the report of these.
abbrev pub EachExchangeIsFound : Type 0
EachExchangeIsFound =
    (w : Watched) (earlier : List Recorded) (d : Recorded) (sync : SyncCompletion) (delay : DelayCompletion)
    → AreNumbered (d ∷ earlier)
    → ComesAnExchange w (begun_at w (d ∷ earlier)) earlier d sync delay
    → report_at w earlier d ≡ Some (report_of sync delay)
