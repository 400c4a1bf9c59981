-- A port that listens to a Delay_Req and its Delay_Resp, one right behind the other, pairs these two; or where the Delay_Req has the number
-- of the one before it again, whose Delay_Resp was another master's, this Delay_Resp with that one.
use Rattle.std.proofs.Common.{◌≡◌, ◌∙◌, inl, inr, ℕ, zero, suc, ◌+◌, ◌<◌, Bool, true, false, true≢false, List, ◌∷◌, Some, None, Ok, refl, sym, ap, subst, arith}
use Rattle.std.specs.Prelude.{◌⊎◌, not, ◌&&◌, ◌||◌, ◌==◌, nat_lt, take, is_some, nat_eq, find, option_map, if◌then◌else◌}
use Rattle.std.specs.Option.{option_map_or}
use Rattle.std.specs.Result.{result_ok}
use Rattle.std.specs.Str.{bytes_eq}
use Rattle.std.proofs.lemmas.Bool.{and_parts, eqb-true, eq-eqb}
use Rattle.std.proofs.lemmas.Slice.Eq.{bytes_eq-Decides}
use Rattle.ptp_units.specs.Moment.{Stamp}
use Rattle.ptp_units.specs.Sequence.{ahead}
use Rattle.event_codec.specs.declared.message.Body.{Body}
use Rattle.event_codec.specs.declared.message.Body.TheVariants as bodies
use Rattle.event_codec.specs.declared.message.Header.{Header}
use Rattle.event_codec.specs.declared.port.PortIdentity.{PortIdentity}
use Rattle.event_codec.specs.Packet.{Contents}
use Rattle.event_codec.specs.Port.{is_same_port}
use Rattle.event_codec.specs.Reading.{Reading}
use Rattle.pairing.specs.Marked.{Entry, entry, first_value}
use Rattle.sync_watch.specs.declared.arrival.Arrival.{Arrival}
use Rattle.sync_watch.specs.declared.judgement.Judgement.{Judgement}
use Rattle.sync_watch.specs.declared.judgement.Judgement.TheVariants.{Newer, Repeated, BeganAnew}
use Rattle.sync_watch.specs.Judged.{judged_sync}
use Rattle.sync_watch.specs.Told as told
use Rattle.sync_watch.specs.Told.{known}
use Rattle.slave_port.specs.History as calls
use Rattle.slave_port.specs.History.{Call, Setup, next_number, requests_drawn}
use Rattle.slave_port.specs.Requests.{requests, stamped, held_requests}
use Rattle.slave_port.specs.Values.{RequestValue}
use Rattle.slave_port.proofs.Uses.{same_port}
use Rattle.recording_model.specs.declared.watched.Watched.{Watched}
use Rattle.recording_model.specs.Recorded.{Recorded}
use Rattle.recording_model.specs.Listening.{Listening, setup_in, table_capacity, ticks_every, is_of, arrival_of, with_master_anew, with_count}
use Rattle.recording_model.specs.Listening.{ready_judged, ready_sync, ready_response, ready, hears_ready, draws, asks, anew, hears_request}
use Rattle.recording_model.specs.Listening.{hears, hear}
use Rattle.recording_model.specs.Finds.{is_own_request, is_delay_req}
use Rattle.recording_laws.proofs.OwnListening.{Kinds}

-- ---- ports
same_octets : (a : List ℕ) → bytes_eq a a ≡ true
same_octets a = grind (arith, bytes_eq-Decides a a)

pub is_itself : (a b : PortIdentity) → a ≡ b → is_same_port a b ≡ true
is_itself a b same = subst (λ (p : PortIdentity). is_same_port a p ≡ true) same
    (ap (λ (x : Bool). x && a.port == a.port) (same_octets a.clock) ∙ eq-eqb a.port a.port refl)

pub is_of_port : (w : Watched) (port : PortIdentity) (header : Header) → header.source ≡ port → header.domain ≡ w.domain
    → is_of w port header ≡ true
is_of_port w port header source domain =
    ap (λ (x : Bool). x && is_same_port header.source port) (eq-eqb header.domain w.domain domain) ∙ is_itself header.source port source

-- ---- requests that are drawn
drawn-draws : (count tag : ℕ) (earlier : List Call) → requests_drawn (draws count tag earlier) ≡ requests_drawn earlier + count
drawn-draws zero tag earlier = omega arith
drawn-draws (suc count) tag earlier = omega (arith, drawn-draws count tag earlier)

next-draws : (setup : Setup) (number tag : ℕ) (earlier : List Call) → number < 65536
    → next_number setup (draws (ahead number (next_number setup earlier)) tag earlier) ≡ number
next-draws setup number tag earlier low =
    omega (arith, drawn-draws (ahead number (next_number setup earlier)) tag earlier)

next-asked : (setup : Setup) (number tag t3 : ℕ) (earlier : List Call) → number < 65536
    → ahead number (next_number setup (calls.RequestLeft number t3 ∷ draws (ahead number (next_number setup earlier) + 1) tag earlier)) ≡ 65535
next-asked setup number tag t3 earlier low =
    omega (arith, drawn-draws (ahead number (next_number setup earlier) + 1) tag earlier)

-- the newest request of a number that is asked for left at its time
newest-asked : (setup : Setup) (number tag t3 : ℕ) (earlier : List Call) → number < 65536 → setup.capacities.requests ≡ 256
    → first_value number (held_requests setup (calls.RequestLeft number t3 ∷ draws (ahead number (next_number setup earlier) + 1) tag earlier))
    ≡ Some (record { t3 = Some t3; tag = tag })
newest-asked setup number tag t3 earlier low capacity =
    let count : ℕ = ahead number (next_number setup earlier) in
    let more : count + 1 ≡ suc count = omega arith in
    let others : List (Entry RequestValue) = requests setup (draws count tag earlier) in
    let next : next_number setup (draws count tag earlier) ≡ number = next-draws setup number tag earlier low in
    ap (λ (n : ℕ). first_value number (take setup.capacities.requests (stamped number t3 (requests setup (draws n tag earlier))))) more
    ∙ ap (λ (b : Bool). first_value number (take setup.capacities.requests
    (if b then entry number (record { t3 = Some t3; tag = tag }) ∷ others
    else entry (next_number setup (draws count tag earlier)) (record { t3 = None; tag = tag }) ∷ stamped number t3 others)))
    (eq-eqb (next_number setup (draws count tag earlier)) number next)
    ∙ ap (λ (n : ℕ). first_value number (take n (entry number (record { t3 = Some t3; tag = tag }) ∷ others))) capacity
    ∙ first-entry number (record { t3 = Some t3; tag = tag }) (take 255 others)
  where
    first-entry : (n : ℕ) (v : RequestValue) (es : List (Entry RequestValue)) → first_value n (entry n v ∷ es) ≡ Some v
    first-entry n v es = ap (λ (b : Bool). option_map (λ e. e.value) (if b then Some (entry n v) else find (λ e. nat_eq e.number n) es)) (eq-eqb n n refl)

-- numbers that are both the one before the next are one
one-number : (a b next : ℕ) → a < 65536 → b < 65536 → next < 65536 → ahead a next ≡ 65535 → ahead b next ≡ 65535 → a ≡ b
one-number a b next low low' less is is' = omega (arith, is, is')

next-low : (setup : Setup) (history : List Call) → next_number setup history < 65536
next-low setup history = omega arith

-- ---- what the last Delay_Req was
-- a Delay_Req and a Delay_Resp of one record: of one number and domain, and the second is to the source of the first
pub record Joins (Same : Contents → Contents → Type 0) : Type 0 where
  pub number : (q m : Contents) → Same q m → m.header.sequence.0 ≡ q.header.sequence.0
  pub domain : (q m : Contents) → Same q m → m.header.domain ≡ q.header.domain
  pub to : (q m : Contents) (receive : Stamp) (requesting : PortIdentity) → Same q m → m.body ≡ bodies.DelayResp receive requesting
      → requesting ≡ q.header.source

module _ (w : Watched) (kinds : Kinds) (Same : Contents → Contents → Type 0) (joins : Joins Same) where
  -- its Delay_Resp is another master's
  abbrev pub OfOther : Contents → Type 0
  OfOther q = (m : Contents) × Same q m × (is_of w w.master m.header ≡ false)

  -- The Delay_Req that left at this time is of the same record as a Delay_Resp, or it has its number, and its own is another master's.
  pub record Answers (m : Contents) (t3 : ℕ) : Type 0 where
    pub q : Contents
    pub request : kinds.Request q t3
    pub own : is_own_request w q ≡ true
    pub number : m.header.sequence.0 ≡ q.header.sequence.0
    pub one : Same q m ⊎ OfOther q

  -- a Delay_Resp is to the watched slave
  abbrev pub IsToSlave : Contents → Type 0
  IsToSlave m = (receive : Stamp) (requesting : PortIdentity) → m.body ≡ bodies.DelayResp receive requesting → requesting ≡ w.slave

  -- a Delay_Resp that a port hears, where it is of the master and to the slave, answers each request that it may complete
  pub record Responds (setup : Setup) (earlier : List Call) (m : Contents) : Type 0 where
    pub time : ℕ
    pub response : kinds.Response m time
    pub answers : m.header.source ≡ w.master → m.header.domain ≡ w.domain → IsToSlave m → (v : RequestValue) (t3 : ℕ)
        → first_value m.header.sequence.0 (held_requests setup earlier) ≡ Some v → v.t3 ≡ Some t3 → Answers m t3

  -- the last Delay_Req of the slave, by a port that was asked for it
  pub record IsLast (l : Listening) (q : Contents) : Type 0 where
    pub t3 : ℕ
    pub request : kinds.Request q t3
    pub own : is_own_request w q ≡ true
    pub low : q.header.sequence.0 < 65536
    pub last : ahead q.header.sequence.0 (next_number (setup_in w l) l.calls) ≡ 65535
    pub newest : (v : RequestValue) (t : ℕ) → first_value q.header.sequence.0 (held_requests (setup_in w l) l.calls) ≡ Some v → v.t3 ≡ Some t
        → t ≡ t3

  -- no other Delay_Resp completes it, unless its own is another master's
  pub data IsSettled (l : Listening) (q : Contents) : Type 0 where
    IsKnown : is_some (known table_capacity q.header.sequence.0 l.responses) ≡ true → IsSettled l q
    IsGone : first_value q.header.sequence.0 (held_requests (setup_in w l) l.calls) ≡ None → IsSettled l q
    IsOther : OfOther q → IsSettled l q

  -- a port was asked for no Delay_Req, or for one that is settled
  pub data Rests (l : Listening) : Type 0 where
    Unasked : l.asked ≡ false → Rests l
    Asked : (q : Contents) → IsLast l q → IsSettled l q → Rests l

  -- after a Delay_Req, in front of its Delay_Resp
  pub data Waits (l : Listening) (q : Contents) : Type 0 where
    NotOwn : is_own_request w q ≡ false → Rests l → Waits l q
    Again : (last : Contents) → IsLast l last → q.header.sequence.0 ≡ last.header.sequence.0 → IsSettled l last → Waits l q
    New : IsLast l q → Waits l q

  -- ---- a Delay_Req
  asked_waits : (line time : ℕ) (q : Contents) (l : Listening) → kinds.Request q time → is_own_request w q ≡ true
      → q.header.sequence.0 < 65536 → Waits (asks w line time q.header.sequence.0 l) q
  asked_waits line time q l request own low = New (record {
    t3 = time;
    request = request;
    own = own;
    low = low;
    last = next-asked (setup_in w l) q.header.sequence.0 line time l.calls low;
    newest = λ v t found left.
        let is : Some (record { t3 = Some time; tag = line }) ≡ Some v =
        sym (newest-asked (setup_in w l) q.header.sequence.0 line time l.calls low refl) ∙ found in
        let same : record { t3 = Some time; tag = line } ≡ v = cc in
        let one : Some time ≡ Some t = ap (λ (v : RequestValue). v.t3) same ∙ left in cc;
  })

  again_waits : (q : Contents) (l : Listening) → q.header.sequence.0 < 65536 → l.asked ≡ true
      → ahead q.header.sequence.0 (next_number (setup_in w l) l.calls) ≡ 65535 → Rests l → Waits l q
  again_waits q l low asked same (Unasked none) = absurd (true≢false (sym asked ∙ none))
  again_waits q l low asked same (Asked last is settled) = Again last is
      (one-number q.header.sequence.0 last.header.sequence.0 (next_number (setup_in w l) l.calls) low is.low
      (next-low (setup_in w l) l.calls) same is.last) settled

  request_waits : (line time : ℕ) (q : Contents) (l : Listening) → kinds.Request q time → is_own_request w q ≡ true
      → q.header.sequence.0 < 65536 → Rests l → Waits (hears_request w line time q.header.sequence.0 l) q
  request_waits line time q l request own low rests =
      by l.asked refl (nat_lt (ahead q.header.sequence.0 (next_number (setup_in w l) l.calls)) table_capacity)
      (ahead q.header.sequence.0 (next_number (setup_in w l) l.calls) == 65535) refl
    where
      by : (asked : Bool) → l.asked ≡ asked → (near same : Bool)
          → (ahead q.header.sequence.0 (next_number (setup_in w l) l.calls) == 65535) ≡ same
          → Waits (if not asked || near then asks w line time q.header.sequence.0 l else if same then l
          else asks w line time q.header.sequence.0 (anew w line q.header.sequence.0 l)) q
      by false asked near same is = asked_waits line time q l request own low
      by true asked true same is = asked_waits line time q l request own low
      by true asked false true is =
          again_waits q l low asked (eqb-true (ahead q.header.sequence.0 (next_number (setup_in w l) l.calls)) 65535 is) rests
      by true asked false false is = asked_waits line time q (anew w line q.header.sequence.0 l) request own low

  pub waits_after : (d : Recorded) (q : Contents) (origin : Stamp) (l : Listening) → d.said ≡ Ok q → q.body ≡ bodies.DelayReq origin
      → kinds.Request q d.time → q.header.sequence.0 < 65536 → Rests l → Waits (hear w d l) q
  waits_after d q origin l said body request low rests =
      subst (λ (said : Reading). Waits (option_map_or (λ m. hears w d.line d.time m m.body l) (result_ok said) l) q) (sym said)
      (subst (λ (b : Body). Waits (hears w d.line d.time q b l) q) (sym body) (by (is_of w w.slave q.header) refl))
    where
      by : (own : Bool) → is_of w w.slave q.header ≡ own
          → Waits (if own then hears_request w d.line d.time q.header.sequence.0 l else l) q
      by true own = request_waits d.line d.time q l request
          (ap (λ (b : Body). is_of w w.slave q.header && is_delay_req b) body ∙ ap (λ (b : Bool). b && true) own) low rests
      by false own = NotOwn (ap (λ (b : Body). is_of w w.slave q.header && is_delay_req b) body ∙ ap (λ (b : Bool). b && true) own) rests

  -- ---- its Delay_Resp
  -- which port is to hear a Delay_Resp: the same one, which nobody else hears, or one that knows it
  pub data IsReady (time : ℕ) (m : Contents) (requesting : PortIdentity) (l r : Listening) : Type 0 where
    Aside : (is_of w w.master m.header && is_same_port requesting w.slave) ≡ false → r ≡ l → IsReady time m requesting l r
    Told : is_some (known table_capacity m.header.sequence.0 l.responses) ≡ false
        → r ≡ record l { responses = entry m.header.sequence.0 time ∷ l.responses } → IsReady time m requesting l r

  pub ready_is : (time : ℕ) (m : Contents) (requesting : PortIdentity) (l r : Listening) → ready_response w time m requesting l ≡ Some r
      → IsReady time m requesting l r
  ready_is time m requesting l r is = by (is_of w w.master m.header && is_same_port requesting w.slave) refl
      (is_some (known table_capacity m.header.sequence.0 l.responses)) refl is
    where
      by : (to : Bool) → (is_of w w.master m.header && is_same_port requesting w.slave) ≡ to → (again : Bool)
          → is_some (known table_capacity m.header.sequence.0 l.responses) ≡ again
          → (if not to then Some l else if again then None
          else Some (record l { responses = entry m.header.sequence.0 time ∷ l.responses })) ≡ Some r → IsReady time m requesting l r
      by false to again known is = let same : l ≡ r = cc in Aside to (sym same)
      by true to true known is = cc
      by true to false known is =
          let same : record l { responses = entry m.header.sequence.0 time ∷ l.responses } ≡ r = cc in Told known (sym same)

  pub calls_at : (time : ℕ) (m : Contents) (requesting : PortIdentity) (l r : Listening) → IsReady time m requesting l r
      → (r.calls ≡ l.calls) × (r.asked ≡ l.asked)
  calls_at time m requesting l r (Aside aside at) = (ap (λ (r : Listening). r.calls) at, ap (λ (r : Listening). r.asked) at)
  calls_at time m requesting l r (Told new at) = (ap (λ (r : Listening). r.calls) at, ap (λ (r : Listening). r.asked) at)

  -- a Delay_Resp of the master to the slave passes, so it isn't passed by
  is_to : (m : Contents) (receive : Stamp) (requesting : PortIdentity) → m.header.source ≡ w.master → m.header.domain ≡ w.domain → IsToSlave m
      → m.body ≡ bodies.DelayResp receive requesting → (is_of w w.master m.header && is_same_port requesting w.slave) ≡ true
  is_to m receive requesting source domain to body =
      ap (λ (b : Bool). b && is_same_port requesting w.slave) (is_of_port w w.master m.header source domain)
      ∙ is_itself requesting w.slave (to receive requesting body)

  -- it is of the record of a Delay_Req of the slave
  own_of : (q m : Contents) (receive : Stamp) (requesting : PortIdentity) → Same q m → is_delay_req q.body ≡ true
      → m.body ≡ bodies.DelayResp receive requesting → requesting ≡ w.slave → m.header.domain ≡ w.domain → is_own_request w q ≡ true
  own_of q m receive requesting same request body to domain =
      ap (λ (b : Bool). b && is_delay_req q.body)
      (is_of_port w w.slave q.header (sym (joins.to q m receive requesting same body) ∙ to) (sym (joins.domain q m same) ∙ domain))
      ∙ request

  module _ (d : Recorded) (q m : Contents) (receive : Stamp) (requesting : PortIdentity) (said : d.said ≡ Ok m)
      (body : m.body ≡ bodies.DelayResp receive requesting) (same : Same q m) (request : is_delay_req q.body ≡ true)
      (response : kinds.Response m d.time) (l : Listening) where
    -- of a request that is settled no other Delay_Resp is heard, unless its own is another master's
    settled_answers : (last : Contents) → IsLast l last → q.header.sequence.0 ≡ last.header.sequence.0 → (r : Listening)
        → IsReady d.time m requesting l r → m.header.source ≡ w.master → m.header.domain ≡ w.domain → IsToSlave m
        → (v : RequestValue) (t3 : ℕ) → first_value m.header.sequence.0 (held_requests (setup_in w l) l.calls) ≡ Some v → v.t3 ≡ Some t3
        → IsSettled l last → Answers m t3
    settled_answers last is number r (Aside aside at) source domain to v t3 found left settled =
        absurd (true≢false (sym (is_to m receive requesting source domain to body) ∙ aside))
    settled_answers last is number r (Told new at) source domain to v t3 found left (IsKnown is_known) =
        absurd (true≢false (sym is_known
        ∙ ap (λ (n : ℕ). is_some (known table_capacity n l.responses)) (sym (joins.number q m same ∙ number)) ∙ new))
    settled_answers last is number r (Told new at) source domain to v t3 found left (IsGone gone) =
        let none : Some v ≡ None = sym found
        ∙ ap (λ (n : ℕ). first_value n (held_requests (setup_in w l) l.calls)) (joins.number q m same ∙ number) ∙ gone in cc
    settled_answers last is number r (Told new at) source domain to v t3 found left (IsOther other) = record {
      q = last;
      request = subst (kinds.Request last) (sym (is.newest v t3
          (ap (λ (n : ℕ). first_value n (held_requests (setup_in w l) l.calls)) (sym (joins.number q m same ∙ number)) ∙ found) left)) is.request;
      own = is.own;
      number = joins.number q m same ∙ number;
      one = inr other;
    }

    answers : Waits l q → (r : Listening) → IsReady d.time m requesting l r → m.header.source ≡ w.master → m.header.domain ≡ w.domain
        → IsToSlave m → (v : RequestValue) (t3 : ℕ)
        → first_value m.header.sequence.0 (held_requests (setup_in w l) l.calls) ≡ Some v → v.t3 ≡ Some t3 → Answers m t3
    answers (NotOwn none rests) r ready source domain to v t3 found left =
        absurd (true≢false (sym (own_of q m receive requesting same request body (to receive requesting body) domain) ∙ none))
    answers (Again last is number settled) r ready source domain to v t3 found left =
        settled_answers last is number r ready source domain to v t3 found left settled
    answers (New is) r ready source domain to v t3 found left = record {
      q = q;
      request = subst (kinds.Request q) (sym (is.newest v t3
          (ap (λ (n : ℕ). first_value n (held_requests (setup_in w l) l.calls)) (sym (joins.number q m same)) ∙ found) left)) is.request;
      own = is.own;
      number = joins.number q m same;
      one = inl same;
    }

    calls_same : (r : Listening) → IsReady d.time m requesting l r → (setup_in w r ≡ setup_in w l) × (r.calls ≡ l.calls)
    calls_same r (Aside aside at) = (ap (λ (r : Listening). setup_in w r) at, ap (λ (r : Listening). r.calls) at)
    calls_same r (Told new at) = (ap (λ (r : Listening). setup_in w r) at, ap (λ (r : Listening). r.calls) at)

    -- so it answers, where it is heard
    pub responds : Waits l q → (r : Listening) → ready w d.line d.time m m.body l ≡ Some r → Responds (setup_in w r) r.calls m
    responds waits r is =
        let ready = ready_is d.time m requesting l r (ap (λ (b : Body). ready w d.line d.time m b l) (sym body) ∙ is) in
        let alike = calls_same r ready in record {
          time = d.time;
          response = response;
          answers = λ source domain to v t3 found left. answers waits r ready source domain to v t3
              (ap (λ (c : List Call). first_value m.header.sequence.0 (held_requests (setup_in w l) c)) (sym alike.1)
              ∙ ap (λ (s : Setup). first_value m.header.sequence.0 (held_requests s r.calls)) (sym alike.0) ∙ found) left;
        }

    -- ---- afterwards
    -- what is heard of a Delay_Resp that isn't known changes no request
    last_told : (last : Contents) (responses : List (Entry ℕ)) → IsLast l last
        → IsLast (record l { calls = calls.General (Ok m) d.line ∷ l.calls; responses = responses }) last
    last_told last responses is = record {
      t3 = is.t3;
      request = is.request;
      own = is.own;
      low = is.low;
      last = is.last;
      newest = is.newest;
    }

    aside_settled : (last : Contents) → IsSettled l last → IsSettled (record l { calls = calls.General (Ok m) d.line ∷ l.calls }) last
    aside_settled last (IsKnown is) = IsKnown is
    aside_settled last (IsGone gone) = IsGone gone
    aside_settled last (IsOther other) = IsOther other

    aside_rests : Rests l → Rests (record l { calls = calls.General (Ok m) d.line ∷ l.calls })
    aside_rests (Unasked none) = Unasked none
    aside_rests (Asked last is settled) = Asked last (last_told last l.responses is) (aside_settled last settled)

    -- it is known from here on
    told_settled : (last : Contents) → m.header.sequence.0 ≡ last.header.sequence.0
        → IsSettled (record l { calls = calls.General (Ok m) d.line ∷ l.calls; responses = entry m.header.sequence.0 d.time ∷ l.responses }) last
    told_settled last number = IsKnown (subst
        (λ (n : ℕ). is_some (first_value n (entry m.header.sequence.0 d.time ∷ take 255 l.responses)) ≡ true) number
        (ap (λ (b : Bool). is_some (option_map (λ e. e.value) (if b then Some (entry m.header.sequence.0 d.time)
        else find (λ e. nat_eq e.number m.header.sequence.0) (take 255 l.responses)))) (eq-eqb m.header.sequence.0 m.header.sequence.0 refl)))

    -- one of another master
    other_of : is_own_request w q ≡ true → (is_of w w.master m.header && is_same_port requesting w.slave) ≡ false → OfOther q
    other_of own aside =
        let parts = and_parts (is_of w w.slave q.header) (is_delay_req q.body) own in
        let source = and_parts (q.header.domain == w.domain) (is_same_port q.header.source w.slave) parts.0 in
        let to : is_same_port requesting w.slave ≡ true =
        ap (λ (p : PortIdentity). is_same_port p w.slave) (joins.to q m receive requesting same body) ∙ source.1 in
        (m, same, by (is_of w w.master m.header) refl to)
      where
        by : (of_master : Bool) → is_of w w.master m.header ≡ of_master → is_same_port requesting w.slave ≡ true → of_master ≡ false
        by true is to = absurd (true≢false (sym (ap (λ (b : Bool). b && is_same_port requesting w.slave) is ∙ to) ∙ aside))
        by false is to = refl

    -- what is to the slave is of its Delay_Req
    own_heard : (is_of w w.master m.header && is_same_port requesting w.slave) ≡ true → is_own_request w q ≡ true
    own_heard is =
        let parts = and_parts (is_of w w.master m.header) (is_same_port requesting w.slave) is in
        let domain = and_parts (m.header.domain == w.domain) (is_same_port m.header.source w.master) parts.0 in
        own_of q m receive requesting same request body (same_port requesting w.slave parts.1)
        (eqb-true m.header.domain w.domain domain.0)

    heard_rests : Waits l q → Rests (hears_ready false (calls.General (Ok m) d.line) (ready_response w d.time m requesting l) l)
    heard_rests waits = by (is_of w w.master m.header && is_same_port requesting w.slave) refl
        (is_some (known table_capacity m.header.sequence.0 l.responses)) refl waits
      where
        by : (to : Bool) → (is_of w w.master m.header && is_same_port requesting w.slave) ≡ to → (again : Bool)
            → is_some (known table_capacity m.header.sequence.0 l.responses) ≡ again → Waits l q
            → Rests (hears_ready false (calls.General (Ok m) d.line) (if not to then Some l else if again then None
            else Some (record l { responses = entry m.header.sequence.0 d.time ∷ l.responses })) l)
        by to to_is again is (NotOwn none rests) = not_own to to_is none again rests
          where
            not_own : (to : Bool) → (is_of w w.master m.header && is_same_port requesting w.slave) ≡ to → is_own_request w q ≡ false → (again : Bool)
                → Rests l → Rests (hears_ready false (calls.General (Ok m) d.line) (if not to then Some l else if again then None
                else Some (record l { responses = entry m.header.sequence.0 d.time ∷ l.responses })) l)
            not_own true to none again rests = absurd (true≢false (sym (own_heard to) ∙ none))
            not_own false to none again rests = aside_rests rests
        by false to again is (Again last at number settled) = Asked last (last_told last l.responses at) (aside_settled last settled)
        by false to again is (New at) = Asked q (last_told q l.responses at) (IsOther (other_of at.own to))
        by true to true is (Again last at number settled) = Asked last at
            (IsKnown (ap (λ (n : ℕ). is_some (known table_capacity n l.responses)) (sym (joins.number q m same ∙ number)) ∙ is))
        by true to true is (New at) = Asked q at
            (IsKnown (ap (λ (n : ℕ). is_some (known table_capacity n l.responses)) (sym (joins.number q m same)) ∙ is))
        by true to false is (Again last at number settled) =
            Asked last (last_told last (entry m.header.sequence.0 d.time ∷ l.responses) at) (told_settled last (joins.number q m same ∙ number))
        by true to false is (New at) =
            Asked q (last_told q (entry m.header.sequence.0 d.time ∷ l.responses) at) (told_settled q (joins.number q m same))

    pub rests_after : Waits l q → Rests (hear w d l)
    rests_after waits =
        subst (λ (said : Reading). Rests (option_map_or (λ m. hears w d.line d.time m m.body l) (result_ok said) l)) (sym said)
        (subst (λ (b : Body). Rests (hears w d.line d.time m b l)) (sym body) (heard_rests waits))

  -- ---- a Sync
  -- a Sync leaves a Delay_Req as it is
  module _ (d : Recorded) (m : Contents) (l : Listening) where
    heard_sync_rests : (r : Listening) → Rests r → Rests (record r { calls = calls.Event (Ok m) d.time d.line ∷ r.calls })
    heard_sync_rests r (Unasked none) = Unasked none
    heard_sync_rests r (Asked last is settled) = Asked last (record {
      t3 = is.t3;
      request = is.request;
      own = is.own;
      low = is.low;
      last = is.last;
      newest = is.newest;
    }) (by settled)
      where
        by : IsSettled r last → IsSettled (record r { calls = calls.Event (Ok m) d.time d.line ∷ r.calls }) last
        by (IsKnown is) = IsKnown is
        by (IsGone gone) = IsGone gone
        by (IsOther other) = IsOther other

    counted_rests : (r : Listening) → Rests r → Rests (with_count r)
    counted_rests r rests = by (r.syncs + 1 == ticks_every)
      where
        settled_on : (last : Contents) (syncs : ℕ) → IsSettled r last → IsSettled (record r { calls = calls.Tick ∷ r.calls; syncs = syncs }) last
        settled_on last syncs (IsKnown is) = IsKnown is
        settled_on last syncs (IsGone gone) = IsGone gone
        settled_on last syncs (IsOther other) = IsOther other

        settled_more : (last : Contents) (syncs : ℕ) → IsSettled r last → IsSettled (record r { syncs = syncs }) last
        settled_more last syncs (IsKnown is) = IsKnown is
        settled_more last syncs (IsGone gone) = IsGone gone
        settled_more last syncs (IsOther other) = IsOther other

        ticked : Rests r → Rests (record r { calls = calls.Tick ∷ r.calls; syncs = 0 })
        ticked (Unasked none) = Unasked none
        ticked (Asked last is settled) = Asked last (record {
          t3 = is.t3;
          request = is.request;
          own = is.own;
          low = is.low;
          last = is.last;
          newest = is.newest;
        }) (settled_on last 0 settled)

        more : Rests r → Rests (record r { syncs = r.syncs + 1 })
        more (Unasked none) = Unasked none
        more (Asked last is settled) = Asked last (record {
          t3 = is.t3;
          request = is.request;
          own = is.own;
          low = is.low;
          last = is.last;
          newest = is.newest;
        }) (settled_more last (r.syncs + 1) settled)

        by : (full : Bool) → Rests (if full then record r { calls = calls.Tick ∷ r.calls; syncs = 0 } else record r { syncs = r.syncs + 1 })
        by true = ticked rests
        by false = more rests

    anew_rests : (a : Arrival) → Rests l → Rests (with_master_anew w d.line a l)
    anew_rests a (Unasked none) = Unasked none
    anew_rests a (Asked last is settled) = Asked last (record {
      t3 = is.t3;
      request = is.request;
      own = is.own;
      low = is.low;
      last = is.last;
      newest = λ v t found left. cc;
    }) (IsGone refl)

    newer_rests : (heard : List told.Told) → Rests l → Rests (record l { heard = heard })
    newer_rests heard (Unasked none) = Unasked none
    newer_rests heard (Asked last is settled) = Asked last (record {
      t3 = is.t3;
      request = is.request;
      own = is.own;
      low = is.low;
      last = is.last;
      newest = is.newest;
    }) (by settled)
      where
        by : IsSettled l last → IsSettled (record l { heard = heard }) last
        by (IsKnown is) = IsKnown is
        by (IsGone gone) = IsGone gone
        by (IsOther other) = IsOther other

    sync_heard_rests : Rests l → Rests (hears_ready (is_of w w.master m.header) (calls.Event (Ok m) d.time d.line) (ready_sync w d.line d.time m l) l)
    sync_heard_rests rests = by (is_of w w.master m.header) (judged_sync (arrival_of m.header d.time) table_capacity l.heard)
      where
        by : (of_master : Bool) (j : Judgement) → Rests (hears_ready of_master (calls.Event (Ok m) d.time d.line)
            (if of_master then ready_judged j w d.line (arrival_of m.header d.time) l else Some l) l)
        by false j = heard_sync_rests l rests
        by true Newer = counted_rests _ (heard_sync_rests _ (newer_rests (told.Sync (arrival_of m.header d.time) ∷ l.heard) rests))
        by true Repeated = rests
        by true BeganAnew = counted_rests _ (heard_sync_rests _ (anew_rests (arrival_of m.header d.time) rests))

  pub sync_rests : (d : Recorded) (m : Contents) (origin : Stamp) (l : Listening) → d.said ≡ Ok m → m.body ≡ bodies.Sync origin → Rests l
      → Rests (hear w d l)
  sync_rests d m origin l said body rests =
      subst (λ (said : Reading). Rests (option_map_or (λ m. hears w d.line d.time m m.body l) (result_ok said) l)) (sym said)
      (subst (λ (b : Body). Rests (hears w d.line d.time m b l)) (sym body) (sync_heard_rests d m l rests))
