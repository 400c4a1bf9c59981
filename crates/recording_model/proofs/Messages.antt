-- A message that a listening port uses is the copy that its line tells: what is held of it, and what completes with it,
-- is of this event.
use Rattle.std.proofs.Common.{◌≡◌, ◌∙◌, ℕ, ℤ, ◌+◌, ◌+ℤ◌, ◌<◌, ◌≤◌, true, List, ◌∷◌, Some, Ok, refl, sym, ap, subst, arith}
use Rattle.std.proofs.Common.{option_and_then}
use Rattle.std.specs.Prelude.{count_by, int_lt}
use Rattle.std.specs.List.{All}
use Rattle.std.proofs.lemmas.List.Elements.{All-take}
use Rattle.ptp_units.specs.Interval.{too_big}
use Rattle.ptp_units.specs.Sequence.{of_count}
use Rattle.event_codec.specs.declared.message.Header.{Header}
use Rattle.event_codec.specs.declared.port.PortIdentity.{PortIdentity}
use Rattle.event_codec.specs.Packet.{Contents}
use Rattle.pairing.specs.Marked.{Entry, entry}
use Rattle.slave_port.specs.History as calls
use Rattle.slave_port.specs.History.{Call, Setup}
use Rattle.slave_port.specs.Window.{all}
use Rattle.slave_port.specs.Values.{SyncValue, FollowValue, RequestValue}
use Rattle.slave_port.specs.Usable.{is_two_step}
use Rattle.slave_port.specs.Requests.{requests}
use Rattle.slave_port.specs.Completion.{SyncCompletion, DelayCompletion, pair, alone, responded}
use Rattle.slave_port.specs.Kept.{kept, criteria, held_syncs, held_follows, delay_completion}
use Rattle.slave_port.specs.Answer.{answer, used}
use Rattle.slave_port.proofs.Uses.{Passes, HeardSync, HeardFollowUp, two_step_value, one_step_value, follow_value, two_step_entry}
use Rattle.slave_port.proofs.Uses.{follow_entry, IsSyncCompletion, BySync, Alone, ByFollowUp, sync_completion_of}
use Rattle.slave_port.proofs.Uses.{response_value, delay_completion_of}
use Rattle.network_model.specs.declared.event.Event.{Event}
use Rattle.network_model.specs.declared.event.Event.TheVariants.{Arrive, Hear}
use Rattle.network_model.specs.Network.{Network, NodeName, PortSetup, IsNetwork}
use Rattle.network_model.specs.Run.{Run, Place, place, tag_of}
use Rattle.network_model.specs.Kinds.{is_at, is_sync, is_one_step_sync, draws_sync, is_request, heard_copy}
use Rattle.network_model.specs.Clock.{reading}
use Rattle.network_model.specs.Numbering.{number_of, drawn_later}
use Rattle.network_model.specs.Truth.{master_at, copy_of, origin_of, origin_heard}
use Rattle.network_model.specs.Outcome.{IsRun}
use Rattle.network_model.proofs.Sequences.{count-no}
use Rattle.network_model.proofs.Identities.{same_name, identity_of_master}
use Rattle.network_model.proofs.Journeys.{origin_of-journey}
use Rattle.network_model.proofs.Masters.{waiting_sync-is}
use Rattle.network_model.proofs.Entries.{two_step_copy, one_step_copy, follow_up_copy}
use Rattle.network_model.proofs.Pairing.{found_in, two_step_draws, used_near, used_near_request}
use Rattle.network_model.proofs.HeldMessages.{origin_of_follow}
use Rattle.network_model.proofs.OneRequest.{answer_to_slave}
use Rattle.recording_model.specs.declared.watched.Watched.{Watched}
use Rattle.recording_model.specs.Agreement.{Moved, moved_at, Agrees}
use Rattle.recording_model.specs.Exact.{Watches}
use Rattle.recording_model.proofs.Agreeing.{moved-origin, two_step_told, one_step_told, follow_up_told, response_told}
use Rattle.recording_model.proofs.Lines.{Lines, AreIn}
use Rattle.recording_model.proofs.Near.{Reach, near-all}
use Rattle.recording_model.proofs.HeldMessages.{IsNear, IsHeldSync, IsHeldFollow, held_sync-wider, held_follow-wider}
use Rattle.recording_model.proofs.Completions.{IsOneSync, IsOneRequest, paired, by_itself}
use Rattle.recording_model.proofs.Requests.{request_found, answered}
use Rattle.recording_model.proofs.Holding.{Holds, holds-event, holds-general}

-- one call is made in one way
same_event : {m n : Contents} {t u : ℕ} {a b : ℕ} → calls.Event (Ok m) t a ≡ calls.Event (Ok n) u b → (m ≡ n) × (t ≡ u)
    × (a ≡ b)
same_event same = (cc, cc, cc)

same_general : {m n : Contents} {a b : ℕ} → calls.General (Ok m) a ≡ calls.General (Ok n) b → (m ≡ n) × (a ≡ b)
same_general same = (cc, cc)

-- where the port uses the message that is heard at an event, fewer numbers than this are later than its own
abbrev pub IsFreshUse : Setup → List Call → (late : ℕ) → Place → Call → Type 0
IsFreshUse setup history late p call =
    answer setup history call ≡ used setup history call → (origin : Place) → origin_heard p ≡ Some origin
    → drawn_later origin p.earlier < late

module _ (network : Network) (slave master : NodeName) (moved : Moved) (w : Watched) (apart : IsNetwork network)
    (watches : Watches network slave master w) (reach : Reach) where
  -- the port whose identity a message has that the listening port uses is the master's
  of_master : (node : NodeName) (port : PortSetup) → master_at network node ≡ Some port
      → port.config.identity ≡ w.master → (node ≡ master) × (port ≡ watches.other)
  of_master node port port_is identity =
      let one : node ≡ master =
      same_name network apart.identities node master w.master
      (identity_of_master network node port port_is ∙ ap (λ (i : PortIdentity). Some i) identity)
      (identity_of_master network master watches.other watches.master_port
      ∙ ap (λ (i : PortIdentity). Some i) (sym watches.master_is)) in
      let ports : Some port ≡ Some watches.other = sym port_is ∙ ap (master_at network) one ∙ watches.master_port in
      (one, cc)

  -- what is known where a message is heard: the event that its line tells, and what holds of the port
  module _ (event : Event) (earlier : Run) (accepted : IsRun network (event ∷ earlier)) (lines : Lines)
      (within : AreIn lines (event ∷ earlier)) (line : ℕ)
      (told : lines line ≡ Some (place event earlier)) (syncs sent slack : ℕ)
      (syncs_before : syncs ≡ count_by (is_at draws_sync master) earlier)
      (syncs_now : syncs ≡ count_by (is_at draws_sync master) (event ∷ earlier))
      (setup : Setup) (own_is : setup.config.identity ≡ w.slave)
      (few : count_by (is_at is_request slave) (event ∷ earlier) + setup.capacities.requests ≤ sent + 65536)
      (history : List Call) (holds : Holds network slave master moved watches.own watches.other w.master reach lines syncs
      sent slack setup history)
      (fits : reach.late + reach.between + slack ≤ 65536) (m said : Contents)
      (agrees : Agrees (moved_at moved (place event earlier)) m said) (copy : ℕ)
      (heard_is : heard_copy event ≡ Some copy)
      (copy_is : copy_of network earlier copy ≡ Some m) where
    source_is : (header : Header) → Passes (criteria setup history) header → header.source ≡ w.master
    source_is header passes =
        let both : Some passes.master ≡ Some w.master = sym passes.present ∙ holds.follows_master in
        let one : passes.master ≡ w.master = cc in
        passes.source ∙ one

    -- the origin of a copy is that of what is heard
    heard_origin : (origin : Place) → origin_of earlier copy ≡ Some origin
        → origin_heard (place event earlier) ≡ Some origin
    heard_origin origin is = ap (option_and_then (origin_of earlier)) heard_is ∙ is

    near_of : (origin : Place) → is_at draws_sync master origin.event ≡ true → drawn_later origin earlier < reach.late
        → IsNear network slave master moved watches.other syncs (reach.late + slack) origin
    near_of origin drawn low =
        let near = used_near master earlier origin reach.late drawn low in omega (arith, syncs_before)

    -- the sources are one, and so is the amount that is moved
    source_too : (said : Contents) → Agrees (moved_at moved (place event earlier)) m said
        → Passes (criteria setup history) said.header → m.header.source ≡ w.master
    source_too said agrees passes = sym agrees.source ∙ source_is said.header passes

    amount : (origin : Place) → origin_of earlier copy ≡ Some origin
        → moved_at moved (place event earlier) ≡ moved (tag_of origin)
    amount origin is = moved-origin moved (place event earlier) origin (heard_origin origin is)

    agrees_too : {heard : Contents} → said ≡ heard → Agrees (moved_at moved (place event earlier)) m heard
    agrees_too same = subst (Agrees (moved_at moved (place event earlier)) m) same agrees

    held_sync : (call : Call) (h : HeardSync (criteria setup history) call) (moment : ℕ)
        → event ≡ Arrive slave copy moment → Agrees (moved_at moved (place event earlier)) m h.m
        → h.t2 ≡ reading (place event earlier)
        → h.tag ≡ line → is_two_step h.m.header ≡ true → IsFreshUse setup history reach.late (place event earlier) call
        → answer setup history call ≡ used setup history call
        → IsHeldSync network slave master moved watches.other lines syncs (reach.late + slack)
        (entry h.m.header.sequence.0 (two_step_value h))
    held_sync call h moment event_is agrees t2_is tag_is flag fresh uses =
        let told_too = two_step_told (moved_at moved (place event earlier)) m h.m agrees h.origin h.body flag
        h.passes.small in
        let drawn = two_step_copy network earlier copy m told_too.0 copy_is told_too.1 told_too.2 in
        let origin : Place = drawn.journey.origin in
        let from = of_master drawn.node drawn.port drawn.port_is
        (sym (ap (λ (m : Contents). m.header.source) drawn.is) ∙ source_too h.m agrees h.passes) in
        let is_its : is_at is_sync master origin.event ≡ true =
        subst (λ (n : NodeName). is_at is_sync n origin.event ≡ true) from.0 drawn.drawn in
        let origin_is : origin_of earlier copy ≡ Some origin = origin_of-journey earlier copy drawn.journey drawn.made
        in
        record {
          arrival = place event earlier;
          m = m;
          copy = copy;
          moment = moment;
          told = subst (λ (l : ℕ). lines l ≡ Some (place event earlier)) (sym tag_is) told;
          event = event_is;
          drawn = drawn;
          small = told_too.4;
          t2 = t2_is;
          correction = told_too.3
              ∙ ap (λ (c : ℤ). h.m.header.correction.0 +ℤ c) (amount origin origin_is);
          of_master = is_its;
          number = agrees.number ∙ ap (λ (m : Contents). m.header.sequence.0) drawn.is
              ∙ ap (λ (o : PortSetup). of_count (number_of o origin)) from.1;
          near = near_of origin (two_step_draws master origin.event is_its)
              (fresh uses origin (heard_origin origin origin_is));
        }

    held_follow : (call : Call) (h : HeardFollowUp (criteria setup history) call) → event ≡ Hear slave copy
        → Agrees (moved_at moved (place event earlier)) m h.m
        → h.tag ≡ line → IsFreshUse setup history reach.late (place event earlier) call
        → answer setup history call ≡ used setup history call
        → IsHeldFollow network slave master moved watches.other lines syncs (reach.late + slack)
        (entry h.m.header.sequence.0 (follow_value h))
    held_follow call h event_is agrees tag_is fresh uses =
        let told_too = follow_up_told (moved_at moved (place event earlier)) m h.m agrees h.precise h.body in
        let made = follow_up_copy network earlier copy m h.precise copy_is told_too.0 in
        let from = of_master made.node made.port made.port_is
        (sym (ap (λ (m : Contents). m.header.source) made.is) ∙ source_too h.m agrees h.passes) in
        let waited = waiting_sync-is made.node made.made.earlier made.origin made.waiting in
        let is_its : is_at is_sync master made.origin.event ≡ true =
        subst (λ (n : NodeName). is_at is_sync n made.origin.event ≡ true) from.0 waited.1 in
        let origin_is : origin_of earlier copy ≡ Some made.origin = origin_of_follow network earlier copy m made in
        record {
          hearing = place event earlier;
          m = m;
          copy = copy;
          precise = h.precise;
          told = subst (λ (l : ℕ). lines l ≡ Some (place event earlier)) (sym tag_is) told;
          event = event_is;
          made = made;
          body = told_too.0;
          precise_is = refl;
          correction = told_too.1
              ∙ ap (λ (c : ℤ). m.header.correction.0 +ℤ c) (amount made.origin origin_is);
          of_master = from.0;
          number = agrees.number ∙ ap (λ (m : Contents). m.header.sequence.0) made.is
              ∙ ap (λ (o : PortSetup). of_count (number_of o made.origin)) from.1;
          near = near_of made.origin (two_step_draws master made.origin.event is_its)
              (fresh uses made.origin (heard_origin made.origin origin_is));
        }

    -- all that are held
    follows_are : All (IsHeldFollow network slave master moved watches.other lines syncs
        (reach.late + reach.between + slack)) (held_follows setup history)
    follows_are =
        All-take (IsHeldFollow network slave master moved watches.other lines syncs (reach.late + reach.between + slack))
        setup.capacities.follows
        (all (kept setup history).follows)
        (near-all (IsHeldFollow network slave master moved watches.other lines syncs) reach
        (held_follow-wider network slave master moved watches.other lines syncs) slack (kept setup history).follows
        holds.near_follows)

    syncs_are : All (IsHeldSync network slave master moved watches.other lines syncs (reach.late + reach.between + slack))
        (held_syncs setup history)
    syncs_are =
        All-take (IsHeldSync network slave master moved watches.other lines syncs (reach.late + reach.between + slack))
        setup.capacities.syncs
        (all (kept setup history).syncs)
        (near-all (IsHeldSync network slave master moved watches.other lines syncs) reach
        (held_sync-wider network slave master moved watches.other lines syncs) slack (kept setup history).syncs
        holds.near_syncs)

    -- a Sync and a Follow_Up pair
    pair_is : (e : Entry SyncValue) (f : Entry FollowValue) (number b c : ℕ) → b ≤ reach.late + reach.between + slack
        → c ≤ reach.late + reach.between + slack
        → IsHeldSync network slave master moved watches.other lines syncs b e
        → IsHeldFollow network slave master moved watches.other lines syncs c f → e.number ≡ f.number
        → IsOneSync lines slave master (pair number e.value f.value)
    pair_is e f number b c b_fits c_fits sync follow same =
        paired network slave master moved watches.other lines (event ∷ earlier) accepted within syncs b c e f number
        syncs_now (omega arith) (omega arith) sync follow same

    -- a Sync that arrived
    pub arrived : (moment : ℕ) → event ≡ Arrive slave copy moment
        → IsFreshUse setup history reach.late (place event earlier)
        (calls.Event (Ok said) (reading (place event earlier)) line)
        → Holds network slave master moved watches.own watches.other w.master reach lines syncs sent slack setup
        (calls.Event (Ok said) (reading (place event earlier)) line ∷ history)
    arrived moment event_is fresh =
        holds-event network slave master moved watches.own watches.other w.master reach lines syncs sent slack setup history
        holds (Ok said) (reading (place event earlier)) line
        (λ e is.
        let brought = two_step_entry setup history call e is in
        subst (IsHeldSync network slave master moved watches.other lines syncs (reach.late + slack)) (sym brought.is)
        (sync_of brought.h brought.flag brought.used))
        (λ e is. let brought = follow_entry setup history call e is in let other = brought.h.call_is in cc)
        (λ c is. let done = sync_completion_of setup history call c is in completes c done.0 done.1)
        (λ c is. let done = delay_completion_of setup history call c is in let other = done.h.call_is in cc)
      where
        call : Call
        call = calls.Event (Ok said) (reading (place event earlier)) line

        sync_of : (h : HeardSync (criteria setup history) call) → is_two_step h.m.header ≡ true
            → answer setup history call ≡ used setup history call
            → IsHeldSync network slave master moved watches.other lines syncs (reach.late + slack)
            (entry h.m.header.sequence.0 (two_step_value h))
        sync_of h flag uses =
            let parts = same_event h.call_is in
            held_sync call h moment event_is (agrees_too parts.0) (sym parts.1) (sym parts.2) flag fresh uses

        completes : (c : SyncCompletion) → IsSyncCompletion setup history call c
            → answer setup history call ≡ used setup history call → IsOneSync lines slave master c
        completes c (BySync h follow flag found same) uses =
            let bound : ℕ = reach.late + reach.between + slack in
            let number : ℕ = h.m.header.sequence.0 in
            let f = found_in (IsHeldFollow network slave master moved watches.other lines syncs bound)
            (held_follows setup history) number follow follows_are found in
            subst (IsOneSync lines slave master) (ap (pair number (two_step_value h)) f.3 ∙ sym same)
            (pair_is (entry number (two_step_value h)) f.0 number (reach.late + slack) bound (omega arith)
            (omega arith) (sync_of h flag uses) f.1 (sym f.2))
        completes c (Alone h flag same) uses =
            let parts = same_event h.call_is in
            let alike = agrees_too parts.0 in
            let told_too = one_step_told (moved_at moved (place event earlier)) m h.m alike h.origin h.body flag in
            let drawn = one_step_copy network earlier copy m h.origin copy_is told_too.0 told_too.1 in
            let origin : Place = drawn.journey.origin in
            let from = of_master drawn.node drawn.port drawn.port_is
            (sym (ap (λ (m : Contents). m.header.source) drawn.is) ∙ source_too h.m alike h.passes) in
            let value : alone h.m.header.sequence.0 (one_step_value h) ≡ alone m.header.sequence.0
            (record { t2 = h.t2; origin = h.origin; correction = m.header.correction.0; tag = h.tag }) =
            ap (λ (n : ℕ). alone n (one_step_value h)) alike.number
            ∙ ap (λ (c : ℤ). alone m.header.sequence.0
            (record { t2 = h.t2; origin = h.origin; correction = c; tag = h.tag })) told_too.2 in
            subst (IsOneSync lines slave master) (sym (same ∙ value))
            (by_itself network slave master moved watches.other lines (event ∷ earlier) accepted within
            (place event earlier) copy moment h.t2 h.tag h.origin m
            (subst (λ (l : ℕ). lines l ≡ Some (place event earlier)) parts.2 told) event_is drawn
            (subst (λ (n : NodeName). is_at is_one_step_sync n origin.event ≡ true) from.0 drawn.drawn) told_too.0
            (subst (λ (c : ℤ). int_lt c too_big ≡ true) told_too.2 h.passes.small) (sym parts.1))
        completes c (ByFollowUp h sync found same) uses = let other = h.call_is in cc

    -- a Follow_Up or a Delay_Resp that was heard
    pub heard : event ≡ Hear slave copy → IsFreshUse setup history reach.late (place event earlier)
        (calls.General (Ok said) line)
        → Holds network slave master moved watches.own watches.other w.master reach lines syncs sent slack setup
        (calls.General (Ok said) line ∷ history)
    heard event_is fresh =
        holds-general network slave master moved watches.own watches.other w.master reach lines syncs sent slack setup
        history holds (Ok said) line
        (λ e is. let brought = two_step_entry setup history call e is in let other = brought.h.call_is in cc)
        (λ e is.
        let brought = follow_entry setup history call e is in
        subst (IsHeldFollow network slave master moved watches.other lines syncs (reach.late + slack)) (sym brought.is)
        (follow_of brought.h brought.used))
        (λ c is. let done = sync_completion_of setup history call c is in completes c done.0 done.1)
        (λ c is. request_of c is)
      where
        call : Call
        call = calls.General (Ok said) line

        follow_of : (h : HeardFollowUp (criteria setup history) call)
            → answer setup history call ≡ used setup history call
            → IsHeldFollow network slave master moved watches.other lines syncs (reach.late + slack)
            (entry h.m.header.sequence.0 (follow_value h))
        follow_of h uses =
            let parts = same_general h.call_is in
            held_follow call h event_is (agrees_too parts.0) (sym parts.1) fresh uses

        completes : (c : SyncCompletion) → IsSyncCompletion setup history call c
            → answer setup history call ≡ used setup history call → IsOneSync lines slave master c
        completes c (ByFollowUp h sync found same) uses =
            let bound : ℕ = reach.late + reach.between + slack in
            let number : ℕ = h.m.header.sequence.0 in
            let e = found_in (IsHeldSync network slave master moved watches.other lines syncs bound)
            (held_syncs setup history) number sync syncs_are found in
            subst (IsOneSync lines slave master) (ap (λ (s : SyncValue). pair number s (follow_value h)) e.3 ∙ sym same)
            (pair_is e.0 (entry number (follow_value h)) number bound (reach.late + slack) (omega arith) (omega arith)
            e.1 (follow_of h uses) e.2)
        completes c (BySync h follow flag found same) uses = let other = h.call_is in cc
        completes c (Alone h flag same) uses = let other = h.call_is in cc

        request_of : (c : DelayCompletion) → delay_completion setup history call ≡ Some c
            → IsOneRequest lines slave master c
        request_of c is =
            let done = delay_completion_of setup history call c is in
            let parts = same_general done.h.call_is in
            let alike = agrees_too parts.0 in
            let told_too = response_told (moved_at moved (place event earlier)) m done.h.m alike done.h.receive
            done.h.requesting done.h.body in
            let reply = answer_to_slave network watches.own slave earlier copy m done.h.receive done.h.requesting
            apart watches.slave_port copy_is told_too.0 (done.h.own ∙ own_is ∙ watches.slave_is) in
            let origin : Place = reply.journey.origin in
            let from = of_master reply.node reply.answering reply.answering_is
            (sym reply.source_is ∙ source_too done.h.m alike done.h.passes) in
            let found = request_found slave watches.own lines sent done.h.m.header.sequence.0 done.t3 done.request
            setup.capacities.requests (requests setup history)
            holds.last_requests done.found done.left in
            let within_held : sent < found.1 + setup.capacities.requests = found.3 in
            let still = count-no (is_at is_request slave) event earlier (ap (is_at is_request slave) event_is) in
            let near = used_near_request slave earlier origin reach.late reply.drawn
            (fresh done.used origin (heard_origin origin reply.origin_is)) in
            answered slave watches.own network master lines (event ∷ earlier) accepted within found.1
            done.h.m.header.sequence.0 done.t3 found.0 found.2
            (omega arith) found.4 (place event earlier) copy done.h.tag m done.h.receive
            (subst (λ (l : ℕ). lines l ≡ Some (place event earlier)) parts.1 told) event_is reply from.0 alike.number
            (subst (λ (c : ℤ). int_lt c too_big ≡ true) told_too.1 done.h.passes.small) (omega arith) c
            (done.is
            ∙ ap (λ (v : RequestValue). responded done.h.m.header.sequence.0 (response_value done.h) v done.t3)
            (sym found.5)
            ∙ ap (λ (c : ℤ). responded done.h.m.header.sequence.0
            (record { receive = done.h.receive; correction = c; tag = done.h.tag }) found.0.value done.t3) told_too.1)
