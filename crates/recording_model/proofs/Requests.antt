-- The requests of a listening port: each of which it is known when it left is the Delay_Req that its line tells, and
-- one of the slave's last, as many as are held. So a Delay_Resp completes the one that it answers.
use Rattle.std.proofs.Common.{◌≡◌, ◌∙◌, ℕ, zero, suc, ◌+◌, ◌-◌, ◌<◌, ◌≤◌, ℤ, pos, Bool, true, false, List, [], ◌∷◌}
use Rattle.std.proofs.Common.{take, Some, None, refl, sym, ap, subst, arith, option_map, if◌then◌else◌, int_lt}
use Rattle.std.specs.Prelude.{count_by, nat_eq, find, is_some}
use Rattle.std.proofs.lemmas.Bool.{eq-eqb, eqb-true}
use Rattle.ptp_units.specs.Exchange.{delay_bracket}
use Rattle.ptp_units.specs.Interval.{too_big, with_residence, less_fraction}
use Rattle.ptp_units.specs.Moment.{Stamp, stamp_of, fraction_of}
use Rattle.ptp_units.specs.Sequence.{of_count, ahead}
use Rattle.event_codec.specs.Packet.{Contents}
use Rattle.pairing.specs.Marked.{Entry, entry, first_value}
use Rattle.slave_port.specs.History as calls
use Rattle.slave_port.specs.History.{Call, Setup, requests_drawn, next_number}
use Rattle.slave_port.specs.Values.{RequestValue}
use Rattle.slave_port.specs.Requests.{requests, stamped}
use Rattle.slave_port.specs.Completion.{DelayCompletion, responded}
use Rattle.network_model.specs.declared.event.Event.{Event}
use Rattle.network_model.specs.declared.event.Event.TheVariants.{Arrive, Hear}
use Rattle.network_model.specs.Network.{Network, NodeName, PortSetup}
use Rattle.network_model.specs.Run.{Run, Place, true_moment}
use Rattle.network_model.specs.Kinds.{is_at, is_request}
use Rattle.network_model.specs.Clock.{reading}
use Rattle.network_model.specs.Journey.{residence}
use Rattle.network_model.specs.Outcome.{IsRun}
use Rattle.network_model.proofs.Places.{IsIn-place_at, IsIn-within}
use Rattle.network_model.proofs.Sites.{at_kind}
use Rattle.network_model.proofs.Exactness.{delay_bracket-exact, small_request}
use Rattle.network_model.proofs.OneRequest.{IsAnswer}
use Rattle.network_model.proofs.Reach.{one_origin, draws_with-request}
use Rattle.network_model.proofs.Readings.{shown_reading, request_timed}
use Rattle.recording_model.specs.Listening.{draws}
use Rattle.recording_model.proofs.Lines.{Lines, Extends, AreIn}
use Rattle.recording_model.proofs.Completions.{IsOneRequest}

module _ (slave : NodeName) (own : PortSetup) where
  -- a request that left at this moment: the Delay_Req that its line tells, after which fewer were sent than before the
  -- slave's next `sent`
  pub record IsRequest (lines : Lines) (sent : ℕ) (e : Entry RequestValue) (t3 : ℕ) : Type 0 where
    pub u : Place
    pub told : lines e.value.tag ≡ Some u
    pub drawn : is_at is_request slave u.event ≡ true
    pub late : sent ≤ count_by (is_at is_request slave) u.earlier + 1
    pub number : e.number ≡ of_count (own.first + count_by (is_at is_request slave) u.earlier)
    pub left : t3 ≡ reading u

  -- each that left is one of the last, counted from the newest back
  abbrev pub AreRequests : (lines : Lines) → (sent : ℕ) → List (Entry RequestValue) → Type 0
  AreRequests lines sent [] = Unit {0}
  AreRequests lines sent (e ∷ others) =
      ((t3 : ℕ) → e.value.t3 ≡ Some t3 → IsRequest lines sent e t3) × AreRequests lines (sent - 1) others

  pub requests-later : (lines more : Lines) (sent fewer : ℕ) (es : List (Entry RequestValue)) → Extends lines more
      → fewer ≤ sent
      → AreRequests lines sent es → AreRequests more fewer es
  requests-later lines more sent fewer [] extends less are = tt
  requests-later lines more sent fewer (e ∷ others) extends less are = (
    λ t3 is.
        let one = are.0 t3 is in
        record {
          u = one.u;
          told = extends e.value.tag one.u one.told;
          drawn = one.drawn;
          late = let late = one.late in omega arith;
          number = one.number;
          left = one.left;
        },
    requests-later lines more (sent - 1) (fewer - 1) others extends (omega arith) are.1,
  )

  -- a request that left and is found among the first few is one of the last that were sent
  pub request_found : (lines : Lines) (sent number t3 : ℕ) (v : RequestValue) (k : ℕ) (es : List (Entry RequestValue))
      → AreRequests lines sent es
      → first_value number (take k es) ≡ Some v → v.t3 ≡ Some t3
      → (e : Entry RequestValue) × (m : ℕ) × IsRequest lines m e t3 × (sent < m + k) × (e.number ≡ number)
      × (e.value ≡ v)
  request_found lines sent number t3 v zero es are found left = cc
  request_found lines sent number t3 v (suc k) [] are found left = cc
  request_found lines sent number t3 v (suc k) (e ∷ others) are found left =
      at (nat_eq e.number number) refl found (λ f. request_found lines (sent - 1) number t3 v k others are.1 f left)
    where
      at : (same : Bool) → nat_eq e.number number ≡ same
          → option_map (λ e. e.value) (if same then Some e else find (λ e. nat_eq e.number number) (take k others))
          ≡ Some v
          → (first_value number (take k others) ≡ Some v
          → (e : Entry RequestValue) × (m : ℕ) × IsRequest lines m e t3 × (sent - 1 < m + k) × (e.number ≡ number)
          × (e.value ≡ v))
          → (e : Entry RequestValue) × (m : ℕ) × IsRequest lines m e t3 × (sent < m + suc k) × (e.number ≡ number)
          × (e.value ≡ v)
      at true is found rest =
          let same : e.value ≡ v = cc in (
            e,
            sent,
            are.0 t3 (ap (λ (v : RequestValue). v.t3) same ∙ left),
            omega arith,
            eqb-true e.number number is,
            same,
          )
      at false is found rest =
          let later = rest found in
          let low : sent - 1 < later.1 + k = later.3 in
          (later.0, later.1, later.2, omega arith, later.4, later.5)

  -- a Delay_Resp and a request of its number that left are of one Delay_Req to the master
  pub answered : (network : Network) (master : NodeName) (lines : Lines) (run : Run) → IsRun network run
      → AreIn lines run
      → (last number t3 : ℕ) (e : Entry RequestValue) → IsRequest lines last e t3
      → count_by (is_at is_request slave) run ≤ last + 65535 → e.number ≡ number
      → (p : Place) (copy tag : ℕ) (m : Contents) (receive : Stamp) → lines tag ≡ Some p → p.event ≡ Hear slave copy
      → (answer : IsAnswer network own slave p.earlier copy m receive) → answer.node ≡ master
      → number ≡ m.header.sequence.0
      → int_lt m.header.correction.0 too_big ≡ true
      → count_by (is_at is_request slave) run < count_by (is_at is_request slave) answer.journey.origin.earlier + 1
      + 65536
      → (c : DelayCompletion)
      → c ≡ responded number (record { receive = receive; correction = m.header.correction.0; tag = tag }) e.value t3
      → IsOneRequest lines slave master c
  answered network master lines run accepted within last number t3 e request near same p copy tag m receive told event
      answer of_master number_is small near_too c c_is =
      let origin : Place = answer.journey.origin in
      let there = within tag p told in
      let made_there = IsIn-within run p answer.made there (IsIn-place_at p.earlier copy answer.made answer.there) in
      let origin_there = IsIn-within run answer.made origin made_there answer.origin_there in
      let late = request.late in
      let one : request.u ≡ origin =
      one_origin (is_at is_request slave) own.first run request.u origin (within e.value.tag request.u request.told)
      origin_there request.drawn answer.drawn
      (omega arith) (omega arith)
      (sym request.number ∙ same ∙ number_is ∙ answer.number_is
      ∙ ap (λ (kind : Event → Bool). of_count (own.first + count_by kind origin.earlier))
      (draws_with-request slave origin.event answer.drawn)) in
      let residence_of : ℕ = residence answer.journey in
      subst (IsOneRequest lines slave master) (sym c_is) (record {
        hearing = p;
        copy = copy;
        arrival = answer.made;
        asked = answer.asked;
        moment = answer.moment;
        journey = answer.journey;
        requested = request.told ∙ ap (λ (o : Place). Some o) one;
        drawn = answer.drawn;
        told = told;
        event = event;
        made_by = answer.there;
        arrives = answer.event ∙ ap (λ (n : NodeName). Arrive n answer.asked answer.moment) of_master;
        journey_is = answer.journey_is;
        bracket = record {
          arrived = pos (reading answer.made);
          left = pos (reading origin);
          arrival_shown = shown_reading network run answer.made accepted made_there
              (ap (λ (e : Event). is_some (true_moment e)) answer.event);
          departure_shown = shown_reading network run origin accepted origin_there
              (request_timed origin.event (at_kind is_request slave origin.event answer.drawn));
          value = ap (λ (s : Stamp). delay_bracket s m.header.correction.0 t3) answer.receive_is
              ∙ ap (λ (d : ℤ). delay_bracket (stamp_of (reading answer.made)) d t3) answer.correction_is
              ∙ ap (λ (t : ℕ). delay_bracket (stamp_of (reading answer.made))
              (less_fraction (with_residence (pos 0) residence_of) (fraction_of (reading answer.made))) t)
              (request.left ∙ ap reading one)
              ∙ delay_bracket-exact (reading answer.made) (reading origin) residence_of
              (small_request (with_residence (pos 0) residence_of) (fraction_of (reading answer.made))
              (subst (λ (d : ℤ). int_lt d too_big ≡ true) answer.correction_is small));
        };
      })

-- requests that are drawn
pub drawn-draws : (count tag : ℕ) (earlier : List Call)
    → requests_drawn (draws count tag earlier) ≡ requests_drawn earlier + count
drawn-draws zero tag earlier = omega arith
drawn-draws (suc count) tag earlier = omega (arith, drawn-draws count tag earlier)

-- drawing up to a number gives the next request that number
pub next-draws : (setup : Setup) (number tag : ℕ) (earlier : List Call) → number < 65536
    → next_number setup (draws (ahead number (next_number setup earlier)) tag earlier) ≡ number
next-draws setup number tag earlier low =
    omega (arith, drawn-draws (ahead number (next_number setup earlier)) tag earlier)

module _ (slave : NodeName) (own : PortSetup) (setup : Setup) where
  -- requests of which nobody knows when they left
  pub requests-draws : (lines : Lines) (sent count tag : ℕ) (earlier : List Call)
      → AreRequests slave own lines (sent - count) (requests setup earlier)
      → AreRequests slave own lines sent (requests setup (draws count tag earlier))
  requests-draws lines sent zero tag earlier are =
      requests-later slave own lines lines (sent - 0) sent (requests setup earlier) (λ line p is. is) (omega arith) are
  requests-draws lines sent (suc count) tag earlier are = (
    λ t3 is. cc,
    requests-draws lines (sent - 1) count tag earlier
        (requests-later slave own lines lines (sent - suc count) (sent - 1 - count) (requests setup earlier)
        (λ line p is. is) (omega arith) are),
  )

  -- a Delay_Req is asked for under its number, and departed
  pub requests-asked : (lines : Lines) (p : Place) (tag number t3 : ℕ) (earlier : List Call) → number < 65536
      → lines tag ≡ Some p → is_at is_request slave p.event ≡ true
      → number ≡ of_count (own.first + count_by (is_at is_request slave) p.earlier)
      → t3 ≡ reading p
      → AreRequests slave own lines (count_by (is_at is_request slave) p.earlier - ahead number
      (next_number setup earlier)) (requests setup earlier)
      → AreRequests slave own lines (count_by (is_at is_request slave) p.earlier + 1)
      (requests setup (calls.RequestLeft number t3 ∷ draws (ahead number (next_number setup earlier) + 1) tag earlier))
  requests-asked lines p tag number t3 earlier low told drawn number_is t3_is are =
      let count : ℕ = ahead number (next_number setup earlier) in
      let sent : ℕ = count_by (is_at is_request slave) p.earlier in
      let others : List (Entry RequestValue) = requests setup (draws count tag earlier) in
      let more : count + 1 ≡ suc count = omega arith in
      let next : next_number setup (draws count tag earlier) ≡ number = next-draws setup number tag earlier low in
      subst (λ (n : ℕ). AreRequests slave own lines (sent + 1)
      (requests setup (calls.RequestLeft number t3 ∷ draws n tag earlier))) (sym more)
      (subst
      (λ (b : Bool). AreRequests slave own lines (sent + 1)
      (if b then entry number (record { t3 = Some t3; tag = tag }) ∷ others
      else entry (next_number setup (draws count tag earlier)) (record { t3 = None; tag = tag }) ∷ stamped number t3
      others))
      (sym (eq-eqb (next_number setup (draws count tag earlier)) number next)) (
        λ t is. record {
          u = p;
          told = told;
          drawn = drawn;
          late = omega arith;
          number = number_is;
          left = let same : t3 ≡ t = cc in sym same ∙ t3_is;
        },
        requests-later slave own lines lines sent (sent + 1 - 1) others (λ line p is. is) (omega arith)
            (requests-draws lines sent count tag earlier are),
      ))
