-- How a slave knows when its request departed: a Stamped event told it, with the request as the last one, which was
-- held. A Delay_Resp completes such a request alone, so the event is part of a report's evidence.
use Rattle.std.proofs.Common.{◌≡◌, ◌∙◌, ℕ, zero, suc, ◌+◌, Bool, true, false, List, [], ◌∷◌, take, Option, Some, None, Ok, IsOk, refl, sym, ap, subst, arith, option_map, option_and_then, if◌then◌else◌}
use Rattle.std.specs.Prelude.{count_by, nat_eq, find, is_some, ok_or}
use Rattle.std.proofs.lemmas.Bool.{eq-eqb}
use Rattle.ptp_units.specs.Sequence.{of_count}
use Rattle.pairing.specs.Marked.{Entry, entry, first_value}
use Rattle.slave_port.specs.declared.reason.SlaveRefusal.TheVariants.{NotHeld}
use Rattle.slave_port.specs.Refusal.{code_of as slave_code}
use Rattle.slave_port.specs.History as calls
use Rattle.slave_port.specs.History.{Call, next_number}
use Rattle.slave_port.specs.Values.{RequestValue}
use Rattle.slave_port.specs.Requests.{requests, stamped, is_held}
use Rattle.network_model.specs.declared.event.Event.{Event}
use Rattle.network_model.specs.declared.event.Event.TheVariants.{Stamped}
use Rattle.network_model.specs.declared.stepped.Outcome.TheVariants as outcomes
use Rattle.network_model.specs.declared.refusal.WorldRefusal.TheVariants.{NoNode, WrongKind, NothingWaiting}
use Rattle.network_model.specs.Network.{Network, NodeName, PortSetup, is_named, kind_of, slave_port}
use Rattle.network_model.specs.Run.{Run, Place, place, tag_of, IsIn, site_of, events_after}
use Rattle.network_model.specs.Kinds.{is_at, is_request, is_stamped}
use Rattle.network_model.specs.Numbering.{waiting_request}
use Rattle.network_model.specs.Truth.{slave_at}
use Rattle.network_model.specs.SlaveHistory.{slave_setup, table_capacity, request_sequence, call_made, history_of}
use Rattle.network_model.specs.Outcome.{◌>>=◌, node_as, stamped_outcome, outcome_of, IsRun}
use Rattle.network_model.proofs.Options.{ok_value, ok_step, ok_some}
use Rattle.network_model.proofs.Places.{place_at-later, place_at-bound}
use Rattle.network_model.proofs.Sequences.{count-no, same_count}
use Rattle.network_model.proofs.Sites.{named-same}
use Rattle.network_model.proofs.Journeys.{IsIn-last}
use Rattle.network_model.proofs.Calls.{events_after-later, events_after-last, history-here, history-elsewhere, IsCallOf, Arrives, Hears, Requests, Departs, Ticks, Sets, call_of}
use Rattle.network_model.proofs.Reach.{draws_with-request}
use Rattle.network_model.proofs.Requests.{AreRequests, requests_are, waiting_request-is}

-- the Stamped event by which a slave learnt when the request of this tag left
pub record IsLearnt (network : Network) (slave : NodeName) (run : Run) (tag : ℕ) : Type 0 where
  pub at : Place
  pub request : Place
  pub there : IsIn run at
  pub event : at.event ≡ Stamped slave
  pub done : outcome_of network at.earlier at.event ≡ Ok outcomes.Done
  pub waiting : waiting_request slave at.earlier ≡ Some request
  pub tag_is : tag ≡ tag_of request

-- a request whose departure is known was stamped
abbrev IsStampedFor : Network → NodeName → Run → RequestValue → Type 0
IsStampedFor network slave run v = (t : ℕ) → v.t3 ≡ Some t → IsLearnt network slave run v.tag

-- the same of each entry
abbrev AreStamped : Network → NodeName → Run → List (Entry RequestValue) → Type 0
AreStamped network slave run [] = Unit {0}
AreStamped network slave run (e ∷ others) = IsStampedFor network slave run e.value × AreStamped network slave run others

-- after the request that waits no other was drawn
pub waits_alone : (port : PortSetup) (slave : NodeName) (run : Run) (w : Place) → waiting_request slave run ≡ Some w
    → count_by (is_at is_request slave) (events_after (tag_of w) run) ≡ 0
waits_alone port slave [] w is = cc
waits_alone port slave (event ∷ earlier) w is = at (is_at is_request slave event) refl (is_at is_stamped slave event) is (waits_alone port slave earlier w)
  where
    at : (drawn : Bool) → is_at is_request slave event ≡ drawn → (left : Bool)
        → (if drawn then Some (place event earlier) else if left then None else waiting_request slave earlier) ≡ Some w
        → (waiting_request slave earlier ≡ Some w → count_by (is_at is_request slave) (events_after (tag_of w) earlier) ≡ 0)
        → count_by (is_at is_request slave) (events_after (tag_of w) (event ∷ earlier)) ≡ 0
    at true e left is rest =
        let same : place event earlier ≡ w = cc in
        subst (λ (o : Place). count_by (is_at is_request slave) (events_after (tag_of o) (event ∷ earlier)) ≡ 0) same
        (ap (count_by (is_at is_request slave)) (events_after-last event earlier))
    at false e true is rest = cc
    at false e false is rest =
        let waited = waiting_request-is port slave earlier w is in
        ap (count_by (is_at is_request slave)) (events_after-later event earlier (tag_of w) (place_at-bound earlier (tag_of w) w waited.0))
        ∙ count-no (is_at is_request slave) event (events_after (tag_of w) earlier) e ∙ rest is

-- what comes later leaves this as it was
stamped-later : (network : Network) (slave : NodeName) (event : Event) (earlier : Run) (es : List (Entry RequestValue)) → AreStamped network slave earlier es
    → AreStamped network slave (event ∷ earlier) es
stamped-later network slave event earlier [] are = tt
stamped-later network slave event earlier (e ∷ others) are = (
  λ t left. let known = are.0 t left in
      record {
        at = known.at;
        request = known.request;
        there = place_at-later event earlier (tag_of known.at) known.at known.there;
        event = known.event;
        done = known.done;
        waiting = known.waiting;
        tag_is = known.tag_is;
      },
  stamped-later network slave event earlier others are.1,
)

-- a Stamped event that finds the request held is accepted
stamped_done : (network : Network) (port : PortSetup) (slave : NodeName) (earlier : Run) (request : Place) → slave_at network slave ≡ Some port
    → IsOk (outcome_of network earlier (Stamped slave)) → waiting_request slave earlier ≡ Some request
    → is_held (slave_setup port) (history_of network port slave earlier) (request_sequence port request) ≡ true
    → outcome_of network earlier (Stamped slave) ≡ Ok outcomes.Done
stamped_done network port slave earlier request slave_is accepted waits held =
    let outcome = ok_value (outcome_of network earlier (Stamped slave)) accepted in
    let own = ok_step (node_as slave_port network slave)
    (λ port. ok_or (waiting_request slave earlier) NothingWaiting >>= (λ request. Ok (stamped_outcome network port slave earlier request))) outcome.1 in
    let waited = ok_step (ok_or (waiting_request slave earlier) NothingWaiting) (λ request. Ok (stamped_outcome network own.0 slave earlier request)) own.2 in
    let known = ok_step (ok_or (kind_of network slave) NoNode) (λ kind. ok_or (slave_port kind) WrongKind) own.1 in
    let port_is : slave_at network slave ≡ Some own.0 =
    ap (option_and_then slave_port) (ok_some (kind_of network slave) NoNode {x = known.0} known.1) ∙ ok_some (slave_port known.0) WrongKind {x = own.0} known.2 in
    let one_port : own.0 ≡ port = cc in
    let waiting_is : waiting_request slave earlier ≡ Some waited.0 = ok_some (waiting_request slave earlier) NothingWaiting {x = waited.0} waited.1 in
    let one_request : waited.0 ≡ request = cc in
    outcome.1 ∙ sym waited.2
    ∙ ap (λ (p : PortSetup). Ok (stamped_outcome network p slave earlier waited.0)) one_port
    ∙ ap (λ (r : Place). Ok (stamped_outcome network port slave earlier r)) one_request
    ∙ ap (λ (b : Bool). Ok (if b then outcomes.Done else outcomes.Refused (slave_code NotHeld))) held

-- the newest request of a number is held, if the newest of all has it
newest_held : (number : ℕ) (e : Entry RequestValue) (others : List (Entry RequestValue)) → e.number ≡ number → is_some (first_value number (take table_capacity (e ∷ others))) ≡ true
newest_held number e others same =
    ap (λ (b : Bool). is_some (option_map (λ (e : Entry RequestValue). e.value) (if b then Some e else find (λ e. nat_eq e.number number) (take 15 others))))
    (eq-eqb e.number number same)

-- each request since the last SetMaster
pub are_stamped : (network : Network) (port : PortSetup) (slave : NodeName) → slave_at network slave ≡ Some port → (run : Run) → IsRun network run
    → AreStamped network slave run (requests (slave_setup port) (history_of network port slave run))
are_stamped network port slave slave_is [] accepted = tt
are_stamped network port slave slave_is (event ∷ earlier) accepted =
    at (is_named (site_of event) slave) refl (call_made network port event earlier) refl (are_stamped network port slave slave_is earlier accepted.1)
  where
    before : List Call
    before = history_of network port slave earlier

    whole : List (Entry RequestValue) → Type 0
    whole es = AreStamped network slave (event ∷ earlier) es

    -- the request that waited is the newest, and was stamped now
    learnt : (w : Place) (number t3 : ℕ) → event ≡ Stamped slave → waiting_request slave earlier ≡ Some w → number ≡ request_sequence port w
        → (es : List (Entry RequestValue)) → requests (slave_setup port) before ≡ es → AreRequests port slave earlier (count_by (is_at is_request slave) earlier) es
        → AreStamped network slave earlier es → whole (stamped number t3 es)
    learnt w number t3 now waits number_is [] same are known = tt
    learnt w number t3 now waits number_is (e ∷ others) same are known =
        let waited = waiting_request-is port slave earlier w waits in
        let one : are.0.u ≡ w = same_count (is_at is_request slave) earlier are.0.u w are.0.there waited.0 are.0.drawn waited.1 (let c = are.0.count in let d = waited.2 in omega arith) in
        let number_of_w : number ≡ of_count (port.first + count_by (is_at is_request slave) w.earlier) =
        number_is ∙ ap (λ (kind : Event → Bool). of_count (port.first + count_by kind w.earlier)) (draws_with-request slave w.event waited.1) in
        let equal : e.number ≡ number = are.0.number ∙ ap (λ (o : Place). of_count (port.first + count_by (is_at is_request slave) o.earlier)) one ∙ sym number_of_w in
        let held : is_held (slave_setup port) before (request_sequence port w) ≡ true =
        ap (λ (es : List (Entry RequestValue)). is_some (first_value (request_sequence port w) (take table_capacity es))) same
        ∙ newest_held (request_sequence port w) e others (equal ∙ number_is) in
        let later = stamped-later network slave event earlier (e ∷ others) known in
        subst (λ (b : Bool). whole (if b then entry number (record { t3 = Some t3; tag = e.value.tag }) ∷ others else e ∷ stamped number t3 others))
        (sym (eq-eqb e.number number equal)) (
          λ t left. record {
            at = place event earlier;
            request = w;
            there = IsIn-last event earlier;
            event = now;
            done = subst (λ (e : Event). outcome_of network earlier e ≡ Ok outcomes.Done) (sym now)
                (stamped_done network port slave earlier w slave_is (subst (λ (e : Event). IsOk (outcome_of network earlier e)) now accepted.0) waits held);
            waiting = waits;
            tag_is = are.0.tag ∙ ap tag_of one;
          },
          later.1,
        )

    at : (named : Bool) → is_named (site_of event) slave ≡ named → (call : Option Call) → call_made network port event earlier ≡ call
        → AreStamped network slave earlier (requests (slave_setup port) before) → whole (requests (slave_setup port) (history_of network port slave (event ∷ earlier)))
    at false elsewhere call made known =
        subst (λ (h : List Call). whole (requests (slave_setup port) h)) (sym (history-elsewhere network port slave event earlier elsewhere))
        (stamped-later network slave event earlier (requests (slave_setup port) before) known)
    at true here None made known =
        subst (λ (h : List Call). whole (requests (slave_setup port) h)) (sym (history-here network port slave event earlier None here made))
        (stamped-later network slave event earlier (requests (slave_setup port) before) known)
    at true here (Some call) made known =
        subst (λ (h : List Call). whole (requests (slave_setup port) h)) (sym (history-here network port slave event earlier (Some call) here made))
        (by call (call_of network port event earlier call made))
      where
        same : whole (requests (slave_setup port) before)
        same = stamped-later network slave event earlier (requests (slave_setup port) before) known

        by : (call : Call) → IsCallOf network port event earlier call → whole (requests (slave_setup port) (call ∷ before))
        by (calls.SetMaster master) of = tt
        by calls.Tick of = same
        by (calls.Event m t2 tag) of = same
        by (calls.General m tag) of = same
        by (calls.NextRequest tag) of = (λ t left. cc, same)
        by (calls.RequestLeft number t3) of =
            let from = departs_now of in
            learnt from.0 number t3 from.1 from.2 from.3 (requests (slave_setup port) before) refl (requests_are network port slave earlier accepted.1) known
          where
            departs_now : IsCallOf network port event earlier (calls.RequestLeft number t3)
                → (w : Place) × (event ≡ Stamped slave) × (waiting_request slave earlier ≡ Some w) × (number ≡ request_sequence port w)
            departs_now (Departs node w e waits is) =
                let one : node ≡ slave = sym (ap site_of e) ∙ named-same (site_of event) slave here in
                (w, e ∙ ap Stamped one, subst (λ (n : NodeName). waiting_request n earlier ≡ Some w) one waits, cc)
            departs_now (Arrives node copy at m e c is) = cc
            departs_now (Hears node copy m e c is) = cc
            departs_now (Requests node at e is) = cc
            departs_now (Ticks node e is) = cc
            departs_now (Sets node master other e p is) = cc

-- a request that is found
pub stamped_found : (network : Network) (slave : NodeName) (run : Run) (number : ℕ) (v : RequestValue) (k : ℕ) (es : List (Entry RequestValue)) → AreStamped network slave run es
    → first_value number (take k es) ≡ Some v → IsStampedFor network slave run v
stamped_found network slave run number v zero es are found = cc
stamped_found network slave run number v (suc k) [] are found = cc
stamped_found network slave run number v (suc k) (e ∷ others) are found = at (nat_eq e.number number) found (stamped_found network slave run number v k others are.1)
  where
    at : (same : Bool) → option_map (λ e. e.value) (if same then Some e else find (λ e. nat_eq e.number number) (take k others)) ≡ Some v
        → (first_value number (take k others) ≡ Some v → IsStampedFor network slave run v) → IsStampedFor network slave run v
    at true found rest = let same : e.value ≡ v = cc in subst (IsStampedFor network slave run) same are.0
    at false found rest = rest found
