-- The requests that a slave keeps: from the newest back, each is the Request event that drew the number before, and the
-- departure that is known of it is the reading of that event. So a held one is among the last that were drawn.
use Rattle.std.proofs.Common.{◌≡◌, ◌∙◌, ℕ, zero, suc, ◌+◌, ◌-◌, ◌<◌, Bool, true, false, List, [], ◌∷◌, length, take, Option, Some, None, refl, sym, ap, subst, arith, option_map, if◌then◌else◌}
use Rattle.std.specs.Prelude.{count_by, ◌&&◌, nat_eq, find}
use Rattle.std.proofs.lemmas.Bool.{and_right, eq-eqb, eqb-true}
use Rattle.ptp_units.specs.Sequence.{of_count}
use Rattle.pairing.specs.Marked.{Entry, entry, first_value}
use Rattle.slave_port.specs.History as calls
use Rattle.slave_port.specs.History.{Call, requests_drawn, next_number}
use Rattle.slave_port.specs.Values.{RequestValue}
use Rattle.slave_port.specs.Requests.{requests, stamped}
use Rattle.network_model.specs.declared.event.Event.{Event}
use Rattle.network_model.specs.declared.event.Event.TheVariants.{Request}
use Rattle.network_model.specs.Network.{Network, NodeName, PortSetup, is_named}
use Rattle.network_model.specs.Run.{Run, Place, place, tag_of, IsIn, site_of, events_after}
use Rattle.network_model.specs.Kinds.{is_at, is_request, is_stamped, is_set_master}
use Rattle.network_model.specs.Clock.{reading}
use Rattle.network_model.specs.Numbering.{waiting_request}
use Rattle.network_model.specs.SlaveHistory.{slave_setup, request_sequence, call_made, history_of}
use Rattle.network_model.specs.Outcome.{IsRun}
use Rattle.network_model.proofs.Places.{place_at-later, place_at-bound}
use Rattle.network_model.proofs.Sequences.{count-yes, count-no, same_count}
use Rattle.network_model.proofs.Sites.{named-same}
use Rattle.network_model.proofs.Journeys.{IsIn-last}
use Rattle.network_model.proofs.Calls.{events_after-later, events_after-last, history-here, history-elsewhere, sets, call_kind, silent, IsCallOf, Arrives, Hears, Requests, Departs, Ticks, Sets, call_of}
use Rattle.network_model.proofs.Reach.{draws_with-request}

-- an entry is the request that has `n` requests of the slave up to and with it
pub record IsRequest (port : PortSetup) (slave : NodeName) (run : Run) (n : ℕ) (e : Entry RequestValue) : Type 0 where
  pub u : Place
  pub there : IsIn run u
  pub drawn : is_at is_request slave u.event ≡ true
  pub count : count_by (is_at is_request slave) u.earlier + 1 ≡ n
  pub number : e.number ≡ of_count (port.first + count_by (is_at is_request slave) u.earlier)
  pub tag : e.value.tag ≡ tag_of u
  pub left : (t : ℕ) → e.value.t3 ≡ Some t → t ≡ reading u
  pub no_master : count_by (is_at is_set_master slave) (events_after (tag_of u) run) ≡ 0

-- entries are the requests from the one of this count back
abbrev pub AreRequests : PortSetup → NodeName → Run → ℕ → List (Entry RequestValue) → Type 0
AreRequests port slave run n [] = Unit {0}
AreRequests port slave run n (e ∷ others) = IsRequest port slave run n e × AreRequests port slave run (n - 1) others

module _ (port : PortSetup) (slave : NodeName) where
  -- another event that is no SetMaster of the slave
  request-later : (event : Event) (earlier : Run) (n : ℕ) (e : Entry RequestValue) → is_at is_set_master slave event ≡ false
      → IsRequest port slave earlier n e → IsRequest port slave (event ∷ earlier) n e
  request-later event earlier n e unset r =
      let below = place_at-bound earlier (tag_of r.u) r.u r.there in
      record {
        u = r.u;
        there = place_at-later event earlier (tag_of r.u) r.u r.there;
        drawn = r.drawn;
        count = r.count;
        number = r.number;
        tag = r.tag;
        left = r.left;
        no_master = ap (count_by (is_at is_set_master slave)) (events_after-later event earlier (tag_of r.u) below)
            ∙ count-no (is_at is_set_master slave) event (events_after (tag_of r.u) earlier) unset ∙ r.no_master;
      }

  requests-later : (event : Event) (earlier : Run) (n : ℕ) (es : List (Entry RequestValue)) → is_at is_set_master slave event ≡ false
      → AreRequests port slave earlier n es → AreRequests port slave (event ∷ earlier) n es
  requests-later event earlier n [] unset are = tt
  requests-later event earlier n (e ∷ others) unset are =
      (request-later event earlier n e unset are.0, requests-later event earlier (n - 1) others unset are.1)

  -- the request that waits is the last one
  pub waiting_request-is : (run : Run) (w : Place) → waiting_request slave run ≡ Some w
      → IsIn run w × (is_at is_request slave w.event ≡ true) × (count_by (is_at is_request slave) w.earlier + 1 ≡ count_by (is_at is_request slave) run)
  waiting_request-is [] w is = cc
  waiting_request-is (event ∷ earlier) w is =
      at (is_at is_request slave event) refl (is_at is_stamped slave event) is (waiting_request-is earlier w)
    where
      Last : Run → Place → Type 0
      Last run w = IsIn run w × (is_at is_request slave w.event ≡ true) × (count_by (is_at is_request slave) w.earlier + 1 ≡ count_by (is_at is_request slave) run)

      at : (drawn : Bool) → is_at is_request slave event ≡ drawn → (stamped : Bool)
          → (if drawn then Some (place event earlier) else if stamped then None else waiting_request slave earlier) ≡ Some w
          → (waiting_request slave earlier ≡ Some w
          → IsIn earlier w × (is_at is_request slave w.event ≡ true) × (count_by (is_at is_request slave) w.earlier + 1 ≡ count_by (is_at is_request slave) earlier))
          → IsIn (event ∷ earlier) w × (is_at is_request slave w.event ≡ true) × (count_by (is_at is_request slave) w.earlier + 1 ≡ count_by (is_at is_request slave) (event ∷ earlier))
      at true e stamped is rest =
          let same : place event earlier ≡ w = cc in
          subst (λ (w : Place). IsIn (event ∷ earlier) w × (is_at is_request slave w.event ≡ true) × (count_by (is_at is_request slave) w.earlier + 1 ≡ count_by (is_at is_request slave) (event ∷ earlier))) same
          (IsIn-last event earlier, e, sym (count-yes (is_at is_request slave) event earlier e))
      at false e true is rest = cc
      at false e false is rest =
          let before = rest is in
          (place_at-later event earlier (tag_of w) w before.0, before.1, before.2 ∙ sym (count-no (is_at is_request slave) event earlier e))

-- the call for a request
abbrev draws : Call → Bool
draws (calls.SetMaster master) = false
draws calls.Tick = false
draws (calls.NextRequest tag) = true
draws (calls.RequestLeft number t3) = false
draws (calls.Event heard t2 tag) = false
draws (calls.General heard tag) = false

draws_kind : (network : Network) (port : PortSetup) (event : Event) (earlier : Run) (call : Call) → IsCallOf network port event earlier call → is_request event ≡ draws call
draws_kind network port event earlier call (Arrives node copy at m e c is) = ap is_request e ∙ sym (ap draws is)
draws_kind network port event earlier call (Hears node copy m e c is) = ap is_request e ∙ sym (ap draws is)
draws_kind network port event earlier call (Requests node at e is) = ap is_request e ∙ sym (ap draws is)
draws_kind network port event earlier call (Departs node request e w is) = ap is_request e ∙ sym (ap draws is)
draws_kind network port event earlier call (Ticks node e is) = ap is_request e ∙ sym (ap draws is)
draws_kind network port event earlier call (Sets node master other e p is) = ap is_request e ∙ sym (ap draws is)

-- an event that makes no call is no request
no_request : (network : Network) (port : PortSetup) (event : Event) (earlier : Run) → call_made network port event earlier ≡ None → is_request event ≡ false
no_request network port (Request node at) earlier none = cc
no_request network port _ earlier none = refl

drawn-more : (call : Call) (history : List Call) → requests_drawn (call ∷ history) ≡ (if draws call then requests_drawn history + 1 else requests_drawn history)
drawn-more (calls.SetMaster master) history = refl
drawn-more calls.Tick history = refl
drawn-more (calls.NextRequest tag) history = refl
drawn-more (calls.RequestLeft number t3) history = refl
drawn-more (calls.Event heard t2 tag) history = refl
drawn-more (calls.General heard tag) history = refl

-- the slave's port counts the slave's requests
requests_counted : (network : Network) (port : PortSetup) (slave : NodeName) (run : Run)
    → requests_drawn (history_of network port slave run) ≡ count_by (is_at is_request slave) run
requests_counted network port slave [] = refl
requests_counted network port slave (event ∷ earlier) =
    at (is_named (site_of event) slave) refl (call_made network port event earlier) refl (requests_counted network port slave earlier)
  where
    before : List Call
    before = history_of network port slave earlier

    at : (named : Bool) → is_named (site_of event) slave ≡ named → (call : Option Call) → call_made network port event earlier ≡ call
        → requests_drawn before ≡ count_by (is_at is_request slave) earlier
        → requests_drawn (history_of network port slave (event ∷ earlier)) ≡ count_by (is_at is_request slave) (event ∷ earlier)
    at false elsewhere call made rest =
        ap requests_drawn (history-elsewhere network port slave event earlier elsewhere) ∙ rest
        ∙ sym (count-no (is_at is_request slave) event earlier (and_right (is_request event) (is_named (site_of event) slave) elsewhere))
    at true here None made rest =
        ap requests_drawn (history-here network port slave event earlier None here made) ∙ rest
        ∙ sym (count-no (is_at is_request slave) event earlier (ap (λ (b : Bool). b && is_named (site_of event) slave) (no_request network port event earlier made)))
    at true here (Some call) made rest =
        ap requests_drawn (history-here network port slave event earlier (Some call) here made) ∙ drawn-more call before
        ∙ by (draws call) (draws_kind network port event earlier call (call_of network port event earlier call made))
      where
        by : (draws : Bool) → is_request event ≡ draws → (if draws then requests_drawn before + 1 else requests_drawn before) ≡ count_by (is_at is_request slave) (event ∷ earlier)
        by true kind =
            ap (λ (n : ℕ). n + 1) rest
            ∙ sym (count-yes (is_at is_request slave) event earlier (ap (λ (b : Bool). b && is_named (site_of event) slave) kind ∙ here))
        by false kind = rest ∙ sym (count-no (is_at is_request slave) event earlier (ap (λ (b : Bool). b && is_named (site_of event) slave) kind))

-- the requests since the last SetMaster are the slave's last ones
pub requests_are : (network : Network) (port : PortSetup) (slave : NodeName) (run : Run) → IsRun network run
    → AreRequests port slave run (count_by (is_at is_request slave) run) (requests (slave_setup port) (history_of network port slave run))
requests_are network port slave [] accepted = tt
requests_are network port slave (event ∷ earlier) accepted =
    at (is_named (site_of event) slave) refl (call_made network port event earlier) refl (requests_are network port slave earlier accepted.1)
  where
    before : List Call
    before = history_of network port slave earlier

    old : ℕ
    old = count_by (is_at is_request slave) earlier

    -- no request, and no SetMaster
    same : is_at is_request slave event ≡ false → is_at is_set_master slave event ≡ false → (es : List (Entry RequestValue)) → AreRequests port slave earlier old es
        → AreRequests port slave (event ∷ earlier) (count_by (is_at is_request slave) (event ∷ earlier)) es
    same none unset es are =
        subst (λ (n : ℕ). AreRequests port slave (event ∷ earlier) n es) (sym (count-no (is_at is_request slave) event earlier none)) (requests-later port slave event earlier old es unset are)

    -- the request that waited is the newest, and gets its departure
    departed : (w : Place) (number t3 : ℕ) → waiting_request slave earlier ≡ Some w → number ≡ request_sequence port w → t3 ≡ reading w
        → (es : List (Entry RequestValue)) → AreRequests port slave earlier old es → AreRequests port slave earlier old (stamped number t3 es)
    departed w number t3 waits number_is t3_is [] are = tt
    departed w number t3 waits number_is t3_is (e ∷ others) are =
        let waited = waiting_request-is port slave earlier w waits in
        let one : are.0.u ≡ w = same_count (is_at is_request slave) earlier are.0.u w are.0.there waited.0 are.0.drawn waited.1 (let c = are.0.count in let d = waited.2 in omega arith) in
        let number_of_w : number ≡ of_count (port.first + count_by (is_at is_request slave) w.earlier) =
        number_is ∙ ap (λ (kind : Event → Bool). of_count (port.first + count_by kind w.earlier)) (draws_with-request slave w.event waited.1) in
        let equal : e.number ≡ number = are.0.number ∙ ap (λ (o : Place). of_count (port.first + count_by (is_at is_request slave) o.earlier)) one ∙ sym number_of_w in
        subst (λ (b : Bool). AreRequests port slave earlier old (if b then entry number (record { t3 = Some t3; tag = e.value.tag }) ∷ others else e ∷ stamped number t3 others))
        (sym (eq-eqb e.number number equal)) (
          record {
            u = are.0.u;
            there = are.0.there;
            drawn = are.0.drawn;
            count = are.0.count;
            number = sym equal ∙ are.0.number;
            tag = are.0.tag;
            left = λ t is. let same : t3 ≡ t = cc in sym same ∙ t3_is ∙ ap reading (sym one);
            no_master = are.0.no_master;
          },
          are.1,
        )

    at : (named : Bool) → is_named (site_of event) slave ≡ named → (call : Option Call) → call_made network port event earlier ≡ call
        → AreRequests port slave earlier old (requests (slave_setup port) before)
        → AreRequests port slave (event ∷ earlier) (count_by (is_at is_request slave) (event ∷ earlier)) (requests (slave_setup port) (history_of network port slave (event ∷ earlier)))
    at false elsewhere call made are =
        subst (λ (h : List Call). AreRequests port slave (event ∷ earlier) (count_by (is_at is_request slave) (event ∷ earlier)) (requests (slave_setup port) h))
        (sym (history-elsewhere network port slave event earlier elsewhere))
        (same (and_right (is_request event) (is_named (site_of event) slave) elsewhere) (and_right (is_set_master event) (is_named (site_of event) slave) elsewhere)
        (requests (slave_setup port) before) are)
    at true here None made are =
        subst (λ (h : List Call). AreRequests port slave (event ∷ earlier) (count_by (is_at is_request slave) (event ∷ earlier)) (requests (slave_setup port) h))
        (sym (history-here network port slave event earlier None here made))
        (same (ap (λ (b : Bool). b && is_named (site_of event) slave) (no_request network port event earlier made))
        (ap (λ (b : Bool). b && is_named (site_of event) slave) (silent network port event earlier accepted.0 made).1) (requests (slave_setup port) before) are)
    at true here (Some call) made are =
        let kind = call_of network port event earlier call made in
        subst (λ (h : List Call). AreRequests port slave (event ∷ earlier) (count_by (is_at is_request slave) (event ∷ earlier)) (requests (slave_setup port) h))
        (sym (history-here network port slave event earlier (Some call) here made))
        (by call kind (draws_kind network port event earlier call kind) (call_kind network port event earlier call made).1)
      where
        at_slave : (b c : Bool) → b ≡ c → c ≡ false → (b && is_named (site_of event) slave) ≡ false
        at_slave b c e f = ap (λ (b : Bool). b && is_named (site_of event) slave) (e ∙ f)

        by : (call : Call) → IsCallOf network port event earlier call → is_request event ≡ draws call → is_set_master event ≡ sets call
            → AreRequests port slave (event ∷ earlier) (count_by (is_at is_request slave) (event ∷ earlier)) (requests (slave_setup port) (call ∷ before))
        by (calls.SetMaster master) of drew set = tt
        by calls.Tick of drew set = same (at_slave (is_request event) false drew refl) (at_slave (is_set_master event) false set refl) (requests (slave_setup port) before) are
        by (calls.Event m t2 tag) of drew set = same (at_slave (is_request event) false drew refl) (at_slave (is_set_master event) false set refl) (requests (slave_setup port) before) are
        by (calls.General m tag) of drew set = same (at_slave (is_request event) false drew refl) (at_slave (is_set_master event) false set refl) (requests (slave_setup port) before) are
        by (calls.NextRequest tag) of drew set =
            let now : is_at is_request slave event ≡ true = ap (λ (b : Bool). b && is_named (site_of event) slave) drew ∙ here in
            let more : count_by (is_at is_request slave) (event ∷ earlier) ≡ old + 1 = count-yes (is_at is_request slave) event earlier now in
            let less : old ≡ count_by (is_at is_request slave) (event ∷ earlier) - 1 = omega arith in (
              record {
                u = place event earlier;
                there = IsIn-last event earlier;
                drawn = now;
                count = sym more;
                number = ap (λ (n : ℕ). of_count (port.first + n)) (requests_counted network port slave earlier);
                tag = tag_now of;
                left = λ t is. cc;
                no_master = ap (count_by (is_at is_set_master slave)) (events_after-last event earlier);
              },
              subst (λ (n : ℕ). AreRequests port slave (event ∷ earlier) n (requests (slave_setup port) before)) less
                  (requests-later port slave event earlier old (requests (slave_setup port) before) (at_slave (is_set_master event) false set refl) are),
            )
          where
            tag_now : IsCallOf network port event earlier (calls.NextRequest tag) → tag ≡ length earlier
            tag_now (Requests node at e is) = cc
            tag_now (Arrives node copy at m e c is) = cc
            tag_now (Hears node copy m e c is) = cc
            tag_now (Departs node request e w is) = cc
            tag_now (Ticks node e is) = cc
            tag_now (Sets node master other e p is) = cc
        by (calls.RequestLeft number t3) of drew set =
            let from = departs_now of in
            same (at_slave (is_request event) false drew refl) (at_slave (is_set_master event) false set refl) (stamped number t3 (requests (slave_setup port) before))
            (departed from.0 number t3 from.1 from.2 from.3 (requests (slave_setup port) before) are)
          where
            departs_now : IsCallOf network port event earlier (calls.RequestLeft number t3)
                → (w : Place) × (waiting_request slave earlier ≡ Some w) × (number ≡ request_sequence port w) × (t3 ≡ reading w)
            departs_now (Departs node w e waits is) =
                let one : node ≡ slave = sym (ap site_of e) ∙ named-same (site_of event) slave here in
                (w, subst (λ (n : NodeName). waiting_request n earlier ≡ Some w) one waits, cc, cc)
            departs_now (Arrives node copy at m e c is) = cc
            departs_now (Hears node copy m e c is) = cc
            departs_now (Requests node at e is) = cc
            departs_now (Ticks node e is) = cc
            departs_now (Sets node master other e p is) = cc

-- a request that is found among the first few is one of the last that were drawn
pub request_found : (port : PortSetup) (slave : NodeName) (run : Run) (number : ℕ) (v : RequestValue) (k n : ℕ) (es : List (Entry RequestValue)) → AreRequests port slave run n es
    → first_value number (take k es) ≡ Some v
    → (e : Entry RequestValue) × (m : ℕ) × IsRequest port slave run m e × (n < m + k) × (e.number ≡ number) × (e.value ≡ v)
request_found port slave run number v zero n es are found = cc
request_found port slave run number v (suc k) n [] are found = cc
request_found port slave run number v (suc k) n (e ∷ others) are found =
    at (nat_eq e.number number) refl found (request_found port slave run number v k (n - 1) others are.1)
  where
    at : (same : Bool) → nat_eq e.number number ≡ same
        → option_map (λ e. e.value) (if same then Some e else find (λ e. nat_eq e.number number) (take k others)) ≡ Some v
        → (first_value number (take k others) ≡ Some v
        → (e : Entry RequestValue) × (m : ℕ) × IsRequest port slave run m e × (n - 1 < m + k) × (e.number ≡ number) × (e.value ≡ v))
        → (e : Entry RequestValue) × (m : ℕ) × IsRequest port slave run m e × (n < m + suc k) × (e.number ≡ number) × (e.value ≡ v)
    at true is found rest = (e, n, are.0, omega arith, eqb-true e.number number is, cc)
    at false is found rest =
        let later = rest found in
        let low : n - 1 < later.1 + k = later.3 in
        (later.0, later.1, later.2, omega arith, later.4, later.5)
