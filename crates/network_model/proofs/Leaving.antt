-- What a copy becomes that leaves a clock: the copy that a Leave event makes is what the clock forwards of the one that
-- entered.
use Rattle.std.proofs.Common.{◌≡◌, ◌∙◌, ℕ, ℤ, ◌+◌, ◌-◌, ◌≤◌, Bool, true, false, [], ◌∷◌, length, Option, Some, None, Ok, Err, refl, sym, ap, subst, option_map, option_and_then, if◌then◌else◌, nat_lt, arith}
use Rattle.std.specs.Prelude.{◌==◌, int_lt}
use Rattle.std.specs.Result.{result_ok}
use Rattle.std.proofs.lemmas.Bool.{eq-eqb}
use Rattle.std.proofs.lemmas.Bool.Decides.{nat_tests}
use Rattle.std.proofs.lemmas.Int.{ints}
use Rattle.std.proofs.lemmas.List.Sums.{sum_by-cons}
use Rattle.ptp_units.specs.Interval.{with_residence}
use Rattle.ptp_units.specs.Interval.{less_fraction, least}
use Rattle.ptp_units.specs.Moment.{fraction_of}
use Rattle.ptp_units.specs.Sequence.{of_count}
use Rattle.event_codec.specs.declared.message.Body.{Body}
use Rattle.event_codec.specs.declared.message.Body.TheVariants as bodies
use Rattle.event_codec.specs.declared.message.Header.{Header}
use Rattle.event_codec.specs.declared.port.PortConfig.{PortConfig}
use Rattle.event_codec.specs.Packet.{Contents}
use Rattle.master_port.specs.declared.refusal.MasterRefusal.TheVariants.{CorrectionTooLow, OtherDomain}
use Rattle.master_port.specs.Written.{sync, one_step_sync, delay_resp, answer_to}
use Rattle.slave_port.specs.Written.{delay_req}
use Rattle.event_codec.specs.Correction.{with_correction}
use Rattle.transparent_clock.specs.declared.refusal.ClockRefusal.TheVariants.{NegativeResidence, NotEvent}
use Rattle.transparent_clock.specs.Forwarding.{is_event, resided, forwarded}
use Rattle.network_model.specs.declared.event.Event.{Event}
use Rattle.network_model.specs.declared.event.Event.TheVariants.{Sync, SyncOne, Follow, Leave, Arrive, Request}
use Rattle.network_model.specs.Network.{Network, NodeName, PortSetup}
use Rattle.network_model.specs.Run.{Run, Place, place, place_at}
use Rattle.network_model.specs.Kinds.{entered_copy}
use Rattle.network_model.specs.Clock.{reading}
use Rattle.network_model.specs.Numbering.{number_of, waiting_sync}
use Rattle.network_model.specs.Journey.{Journey, Stay, stay_length, residence, goes_on, left_from, journey_made, journey_of}
use Rattle.network_model.specs.Truth.{drawn, message_after, followed, responded, copy_made, copy_of, master_at, slave_at}
use Rattle.network_model.specs.Outcome.{EachLeaveForwards}
use Rattle.slave_port.proofs.Options.{some_step}
use Rattle.network_model.proofs.MessagesAfter.{copy_of-message_after}

-- two stays add up, and too big stays too big
residence_added : (c : ℤ) (before after : ℕ) → with_residence (with_residence c before) after ≡ with_residence c (after + before)
residence_added c before after = grind (arith, ints, nat_tests)

resided_again : (m : Contents) (before after : ℕ) → resided (resided m before) after ≡ resided m (after + before)
resided_again m before after = ap (λ c. with_correction m (record { 0 = c })) (residence_added m.header.correction.0 before after)

mapped : {X : Type 0} (make : X → Contents) (kind : Bool) → ((x : X) → is_event (make x).body ≡ kind)
    → (o : Option X) (m : Contents) → option_map make o ≡ Some m → is_event m.body ≡ kind
mapped make kind each None m made = cc
mapped make kind each (Some x) m made = let same : make x ≡ m = cc in subst (λ (c : Contents). is_event c.body ≡ kind) same (each x)

-- what an event draws is an event message
is_event-drawn : (network : Network) (event : Event) (earlier : Run) (m : Contents) → drawn network event earlier ≡ Some m → is_event m.body ≡ true
is_event-drawn network (Sync node at) earlier m made =
    mapped (λ port. sync port.config (of_count (number_of port (place (Sync node at) earlier)))) true (λ port. refl) (master_at network node) m made
is_event-drawn network (SyncOne node at) earlier m made =
    mapped
    (λ port. one_step_sync port.config (of_count (number_of port (place (SyncOne node at) earlier))) (reading (place (SyncOne node at) earlier)))
    true (λ port. refl) (master_at network node) m made
is_event-drawn network (Request node at) earlier m made =
    mapped (λ port. delay_req port.config (of_count (number_of port (place (Request node at) earlier)))) true (λ port. refl) (slave_at network node) m made
is_event-drawn network _ earlier m made = cc

followed_general : (port : Option PortSetup) (waiting : Option Place) (m : Contents)
    → option_and_then (λ port. option_map (followed port) waiting) port ≡ Some m → is_event m.body ≡ false
followed_general None waiting m made = cc
followed_general (Some port) waiting m made = mapped (followed port) false (λ p. refl) waiting m made

request_answered : (config : PortConfig) (request : Header) (t4 : ℕ) (m : Contents) (domain low : Bool)
    → result_ok (if domain then (if low then Err CorrectionTooLow else Ok (delay_resp config request t4)) else Err OtherDomain) ≡ Some m
    → is_event m.body ≡ false
request_answered config request t4 m true true made = cc
request_answered config request t4 m true false made = let same : delay_resp config request t4 ≡ m = cc in subst (λ (c : Contents). is_event c.body ≡ false) same refl
request_answered config request t4 m false low made = cc

answered_general : (config : PortConfig) (body : Body) (header : Header) (t4 : ℕ) (m : Contents)
    → result_ok (answer_to config body header t4) ≡ Some m → is_event m.body ≡ false
answered_general config (bodies.Sync origin) header t4 m made = cc
answered_general config (bodies.DelayReq origin) header t4 m made =
    request_answered config header t4 m (header.domain == config.domain) (int_lt (less_fraction header.correction.0 (fraction_of t4)) least) made
answered_general config (bodies.FollowUp precise) header t4 m made = cc
answered_general config (bodies.DelayResp receive requesting) header t4 m made = cc

responded_general : (port : Option PortSetup) (request : Option Contents) (t4 : ℕ) (m : Contents)
    → option_and_then (λ port. option_and_then (responded port t4) request) port ≡ Some m → is_event m.body ≡ false
responded_general None request t4 m made = cc
responded_general (Some port) None t4 m made = cc
responded_general (Some port) (Some request) t4 m made = answered_general port.config request.body request.header t4 m made

-- a copy that an event makes without a journey is a general message
general_made : (network : Network) (event : Event) (earlier : Run) (m : Contents)
    → journey_made event earlier (journey_of earlier) ≡ None → copy_made network event earlier (copy_of network earlier) ≡ Some m
    → is_event m.body ≡ false
general_made network (Follow node) earlier m none made = followed_general (master_at network node) (waiting_sync node earlier) m made
general_made network (Arrive node copy at) earlier m none made =
    responded_general (master_at network node) (copy_of network earlier copy) (reading (place (Arrive node copy at) earlier)) m made
general_made network (Leave node transit at) earlier m none made =
    let both : None ≡ Some m = sym (ap (option_and_then (message_after network)) none) ∙ made in cc
general_made network _ earlier m none made = cc

-- a copy without a journey is a general message
general : (network : Network) (run : Run) (copy : ℕ) (m : Contents)
    → journey_of run copy ≡ None → copy_of network run copy ≡ Some m → is_event m.body ≡ false
general network [] copy m none made = cc
general network (event ∷ earlier) copy m none made =
    at (length earlier == copy) none made (general_made network event earlier m) (general network earlier copy m)
  where
    at : (same : Bool)
        → (if same then journey_made event earlier (journey_of earlier) else journey_of earlier copy) ≡ None
        → (if same then copy_made network event earlier (copy_of network earlier) else copy_of network earlier copy) ≡ Some m
        → (journey_made event earlier (journey_of earlier) ≡ None → copy_made network event earlier (copy_of network earlier) ≡ Some m → is_event m.body ≡ false)
        → (journey_of earlier copy ≡ None → copy_of network earlier copy ≡ Some m → is_event m.body ≡ false)
        → is_event m.body ≡ false
    at true none made here before = here none made
    at false none made here before = before none made

-- a message that goes on is an event message
is_event-message_after : (network : Network) (journey : Journey) (m : Contents) → message_after network journey ≡ Some m → is_event m.body ≡ true
is_event-message_after network journey m same =
    of (drawn network journey.origin.event journey.origin.earlier) (is_event-drawn network journey.origin.event journey.origin.earlier) same
  where
    of : (d : Option Contents) → ((c : Contents) → d ≡ Some c → is_event c.body ≡ true)
        → option_map (λ c. resided c (residence journey)) d ≡ Some m → is_event m.body ≡ true
    of None event same = cc
    of (Some c) event same =
        let is : resided c (residence journey) ≡ m = cc in subst (λ (x : Contents). is_event x.body ≡ true) is (event c refl)

-- a message that stays in one more clock has the residence there added
message_after-more : (network : Network) (journey : Journey) (stay : Stay) (m : Contents) → message_after network journey ≡ Some m
    → message_after network (record { origin = journey.origin; stays = stay ∷ journey.stays }) ≡ Some (resided m (stay_length stay))
message_after-more network journey stay m same =
    ap (λ r. option_map (λ c. resided c r) (drawn network journey.origin.event journey.origin.earlier)) (sum_by-cons stay_length stay journey.stays)
    ∙ of (drawn network journey.origin.event journey.origin.earlier) same
  where
    of : (d : Option Contents) → option_map (λ c. resided c (residence journey)) d ≡ Some m
        → option_map (λ c. resided c (stay_length stay + residence journey)) d ≡ Some (resided m (stay_length stay))
    of None same = cc
    of (Some c) same =
        let is : resided c (residence journey) ≡ m = cc in
        ap Some (sym (resided_again c (residence journey) (stay_length stay)) ∙ ap (λ x. resided x (stay_length stay)) is)

-- what the clock makes of a message of this kind, by whether its reading has fallen
abbrev leaves_as : (event fell : Bool) → Contents → ℕ → Option Contents
leaves_as event fell m residence = result_ok (if event then (if fell then Err NegativeResidence else Ok (resided m residence)) else Err NotEvent)

leaves_after : (network : Network) (journey : Journey) (left entered : Place) (m : Contents) → message_after network journey ≡ Some m
    → option_and_then (message_after network) (goes_on left entered journey)
    ≡ leaves_as true (nat_lt (reading left) (reading entered)) m (reading left - reading entered)
leaves_after network journey left entered m same = at (nat_lt (reading left) (reading entered))
  where
    at : (fell : Bool)
        → option_and_then (message_after network) (if fell then None else Some (record { origin = journey.origin; stays = record { entered = entered; left = left } ∷ journey.stays }))
        ≡ leaves_as true fell m (reading left - reading entered)
    at true = refl
    at false = message_after-more network journey (record { entered = entered; left = left }) m same

-- what a copy becomes that goes on by a stay, whether or not it has a journey
goes_on-forwarded : (network : Network) (run : Run) (copy : ℕ) (m : Contents) → copy_of network run copy ≡ Some m
    → (left entered : Place) (journey : Option Journey) → journey_of run copy ≡ journey
    → option_and_then (message_after network) (option_and_then (goes_on left entered) journey)
    ≡ leaves_as (is_event m.body) (nat_lt (reading left) (reading entered)) m (reading left - reading entered)
goes_on-forwarded network run copy m is left entered None made =
    ap (λ event. leaves_as event (nat_lt (reading left) (reading entered)) m (reading left - reading entered)) (sym (general network run copy m made is))
goes_on-forwarded network run copy m is left entered (Some journey) made =
    let same : message_after network journey ≡ Some m = sym (copy_of-message_after network run copy journey made) ∙ is in
    leaves_after network journey left entered m same
    ∙ ap (λ event. leaves_as event (nat_lt (reading left) (reading entered)) m (reading left - reading entered)) (sym (is_event-message_after network journey m same))

-- A Leave event makes what the clock makes of the copy that entered, and no copy where the clock refuses it.
pub copy_made-forwarded : (network : Network) (run : Run) (node : NodeName) (copy transit at : ℕ) (entered : Place) (m : Contents)
    → copy_of network run copy ≡ Some m → place_at run transit ≡ Some entered → entered_copy entered.event ≡ Some copy
    → copy_made network (Leave node transit at) run (copy_of network run)
    ≡ result_ok (forwarded (Ok m) (reading entered) (reading (place (Leave node transit at) run)))
copy_made-forwarded network run node copy transit at entered m is there takes =
    let left : Place = place (Leave node transit at) run in
    ap (λ o. option_and_then (message_after network) (option_and_then (left_from left (journey_of run)) o)) there
    ∙ ap (λ o. option_and_then (message_after network) (option_and_then (λ c. option_and_then (goes_on left entered) (journey_of run c)) o)) takes
    ∙ goes_on-forwarded network run copy m is left entered (journey_of run copy) refl

pub copy_of-ahead : (network : Network) (run : Run) (tag : ℕ) → length run ≤ tag → copy_of network run tag ≡ None
copy_of-ahead network [] tag ahead = refl
copy_of-ahead network (event ∷ earlier) tag ahead = grind (arith, nat_tests, copy_of-ahead network earlier tag)

-- a copy stays what it is
copy_of-later : (network : Network) (event : Event) (run : Run) (copy : ℕ) (m : Contents)
    → copy_of network run copy ≡ Some m → copy_of network (event ∷ run) copy ≡ Some m
copy_of-later network event run copy m is = grind (arith, nat_tests, copy_of-ahead network run copy)

pub copy_of-since : (network : Network) (run : Run) (tag : ℕ) (p : Place) (copy : ℕ) (m : Contents)
    → place_at run tag ≡ Some p → copy_of network p.earlier copy ≡ Some m → copy_of network run copy ≡ Some m
copy_of-since network [] tag p copy m there is = cc
copy_of-since network (event ∷ earlier) tag p copy m there is = at (length earlier == tag) there (copy_of-since network earlier tag p copy m)
  where
    at : (same : Bool) → (if same then Some (place event earlier) else place_at earlier tag) ≡ Some p
        → (place_at earlier tag ≡ Some p → copy_of network p.earlier copy ≡ Some m → copy_of network earlier copy ≡ Some m)
        → copy_of network (event ∷ earlier) copy ≡ Some m
    at true there before =
        let same : place event earlier ≡ p = cc in
        copy_of-later network event earlier copy m (subst (λ (o : Place). copy_of network o.earlier copy ≡ Some m) (sym same) is)
    at false there before = copy_of-later network event earlier copy m (before there is)

-- a Leave event makes what the clock forwards of the copy that its Enter event took in
pub each_leave_forwards : EachLeaveForwards
each_leave_forwards network earlier node transit at entered m there inside =
    let took = some_step (copy_of network entered.earlier) (entered_copy entered.event) inside in
    ap (λ (b : Bool). if b then copy_made network (Leave node transit at) earlier (copy_of network earlier)
    else copy_of network earlier (length earlier)) (eq-eqb (length earlier) (length earlier) refl)
    ∙ copy_made-forwarded network earlier node took.0 transit at entered m
    (copy_of-since network earlier transit entered took.0 m there took.2) there took.1
