-- What completes in a port whose calls tell no two-step Sync and no Follow_Up: a one-step Sync that was heard, and a Delay_Resp with a
-- request that left. Of each call something is known, by those before it.
use Rattle.std.proofs.Common.{◌≡◌, ◌∙◌, ℕ, zero, suc, Bool, true, false, true≢false, List, [], ◌∷◌, ◌++◌, take, Option, Some, None, Ok, refl, sym, ap, subst}
use Rattle.std.specs.Prelude.{⊤, option_map, option_to_list, if◌then◌else◌, ◌==◌, nat_eq, find}
use Rattle.std.specs.List.{All}
use Rattle.std.proofs.lemmas.Bool.{eqb-true}
use Rattle.std.proofs.lemmas.List.Elements.{All-nil, All-cons, All-append, All-head, All-tail}
use Rattle.ptp_units.specs.Moment.{Stamp}
use Rattle.event_codec.specs.declared.message.Body.TheVariants as bodies
use Rattle.event_codec.specs.declared.port.PortIdentity.{PortIdentity}
use Rattle.event_codec.specs.Packet.{Contents}
use Rattle.pairing.specs.Marked.{Entry, entry, first_value}
use Rattle.slave_port.specs.History as calls
use Rattle.slave_port.specs.History.{Call, Setup, present_master, next_number}
use Rattle.slave_port.specs.Window.{Window, all, last, after}
use Rattle.slave_port.specs.Values.{RequestValue}
use Rattle.slave_port.specs.Usable.{is_two_step}
use Rattle.slave_port.specs.Requests.{requests, stamped, held_requests}
use Rattle.slave_port.specs.Completion.{SyncCompletion, DelayCompletion, alone, responded}
use Rattle.slave_port.specs.Kept.{kept, criteria, sync_completion, delay_completion, delay_completions, last_sync_completion, last_delay_completion}
use Rattle.slave_port.proofs.Uses.{HeardSync, IsSyncCompletion, BySync, Alone, ByFollowUp, sync_completion_of, delay_completion_of}
use Rattle.network_model.proofs.Reports.{first_of}

-- this holds of each call, after those before it
abbrev pub EachCall : (List Call → Call → Type 0) → List Call → Type 0
EachCall P [] = ⊤
EachCall P (call ∷ earlier) = P earlier call × EachCall P earlier

-- what holds of what a call brings holds of all that came
abbrev AllIn : {E : Type 0} → (E → Type 0) → Window E → Type 0
AllIn P window = All P window.since × All P window.before

brought : {E : Type 0} (P : E → Type 0) (brings : Option E) (es : List E) → ((e : E) → brings ≡ Some e → P e) → All P es
    → All P (option_to_list brings ++ es)
brought P None es each are = are
brought P (Some e) es each are = All-cons P e es (each e refl) are

in_after : {E : Type 0} (P : E → Type 0) (call : Call) (brings : Option E) (window : Window E) → ((e : E) → brings ≡ Some e → P e)
    → AllIn P window → AllIn P (after call brings window)
in_after P (calls.SetMaster master) brings window each are = (All-nil P, All-nil P)
in_after P calls.Tick brings window each are = (All-nil P, are.0)
in_after P (calls.NextRequest tag) brings window each are = are
in_after P (calls.RequestLeft number t3) brings window each are = are
in_after P (calls.Event heard t2 tag) brings window each are = (brought P brings window.since each are.0, are.1)
in_after P (calls.General heard tag) brings window each are = (brought P brings window.since each are.0, are.1)

last_in : {E : Type 0} (P : E → Type 0) (window : Window E) (e : E) → AllIn P window → last window ≡ Some e → P e
last_in P window e are is = first_of P (all window) e (All-append P window.since window.before are.0 are.1) is

module _ (P : List Call → Call → Type 0) (setup : Setup) where
  module _ (S : SyncCompletion → Type 0)
      (each : (earlier : List Call) (call : Call) (c : SyncCompletion) → EachCall P (call ∷ earlier)
      → sync_completion setup earlier call ≡ Some c → S c) where
    syncs_in : (history : List Call) → EachCall P history → AllIn S (kept setup history).completions
    syncs_in [] are = (All-nil S, All-nil S)
    syncs_in (call ∷ earlier) are = in_after S call (sync_completion setup earlier call) (kept setup earlier).completions
        (λ c is. each earlier call c are is) (syncs_in earlier are.1)

    -- what holds of each that completes holds of the last one
    pub last_sync_is : (history : List Call) (c : SyncCompletion) → EachCall P history → last_sync_completion setup history ≡ Some c → S c
    last_sync_is history c are is = last_in S (kept setup history).completions c (syncs_in history are) is

  module _ (D : DelayCompletion → Type 0)
      (each : (earlier : List Call) (call : Call) (c : DelayCompletion) → EachCall P (call ∷ earlier)
      → delay_completion setup earlier call ≡ Some c → D c) where
    delays_in : (history : List Call) → EachCall P history → AllIn D (delay_completions setup history)
    delays_in [] are = (All-nil D, All-nil D)
    delays_in (call ∷ earlier) are = in_after D call (delay_completion setup earlier call) (delay_completions setup earlier)
        (λ c is. each earlier call c are is) (delays_in earlier are.1)

    pub last_delay_is : (history : List Call) (c : DelayCompletion) → EachCall P history → last_delay_completion setup history ≡ Some c → D c
    last_delay_is history c are is = last_in D (delay_completions setup history) c (delays_in history are) is

-- ---- calls that tell a slave's own readings
-- The master is always this one. Of a Sync that is heard at a time, of a Delay_Resp that is heard after these calls, and of a request
-- that left at a time something is known; the Sync is no two-step one, and the Delay_Resp no Follow_Up.
module _ (master : PortIdentity) (S : Contents → ℕ → Type 0) (R : List Call → Contents → Type 0) (L : (number t3 : ℕ) → Type 0) where
  abbrev pub IsKnown : List Call → Call → Type 0
  IsKnown earlier (calls.SetMaster other) = other ≡ master
  IsKnown earlier (calls.Event (Ok m) t2 tag) = S m t2
  IsKnown earlier (calls.General (Ok m) tag) = R earlier m
  IsKnown earlier (calls.RequestLeft number t3) = L number t3
  IsKnown earlier call = ⊤

  only_master : (history : List Call) (present : PortIdentity) → EachCall IsKnown history → present_master history ≡ Some present
      → present ≡ master
  only_master [] present are is = cc
  only_master (calls.SetMaster other ∷ earlier) present are is = let same : other ≡ present = cc in sym same ∙ are.0
  only_master (calls.Tick ∷ earlier) present are is = only_master earlier present are.1 is
  only_master (calls.NextRequest tag ∷ earlier) present are is = only_master earlier present are.1 is
  only_master (calls.RequestLeft number t3 ∷ earlier) present are is = only_master earlier present are.1 is
  only_master (calls.Event heard t2 tag ∷ earlier) present are is = only_master earlier present are.1 is
  only_master (calls.General heard tag ∷ earlier) present are is = only_master earlier present are.1 is

  -- a Sync's half is of such a Sync of the master
  pub record IsOfSync (setup : Setup) (c : SyncCompletion) : Type 0 where
    pub m : Contents
    pub t2 : ℕ
    pub origin : Stamp
    pub tag : ℕ
    pub sync : S m t2
    pub body : m.body ≡ bodies.Sync origin
    pub source : m.header.source ≡ master
    pub domain : m.header.domain ≡ setup.config.domain
    pub is : c ≡ alone m.header.sequence.0 (record { t2 = t2; origin = origin; correction = m.header.correction.0; tag = tag })

  -- a request's half is of such a Delay_Resp of the master to this port, and of a request of its number that left
  pub record IsOfResponse (setup : Setup) (c : DelayCompletion) : Type 0 where
    pub m : Contents
    pub receive : Stamp
    pub requesting : PortIdentity
    pub tag : ℕ
    pub before : List Call
    pub response : R before m
    pub body : m.body ≡ bodies.DelayResp receive requesting
    pub source : m.header.source ≡ master
    pub domain : m.header.domain ≡ setup.config.domain
    pub own : requesting ≡ setup.config.identity
    pub request : RequestValue
    pub found : first_value m.header.sequence.0 (held_requests setup before) ≡ Some request
    pub t3 : ℕ
    pub left_at : request.t3 ≡ Some t3
    pub left : L m.header.sequence.0 t3
    pub is : c ≡ responded m.header.sequence.0 (record { receive = receive; correction = m.header.correction.0; tag = tag }) request t3

  -- a request of which it is known when it left
  abbrev HasLeft : Entry RequestValue → Type 0
  HasLeft e = (t3 : ℕ) → e.value.t3 ≡ Some t3 → L e.number t3

  stamped_left : (number t3 : ℕ) (es : List (Entry RequestValue)) → L number t3 → All HasLeft es → All HasLeft (stamped number t3 es)
  stamped_left number t3 [] left are = are
  stamped_left number t3 (e ∷ es) left are =
      by (e.number == number) (stamped_left number t3 es left (All-tail HasLeft e es are))
    where
      by : (same : Bool) → All HasLeft (stamped number t3 es)
          → All HasLeft (if same then entry number (record { t3 = Some t3; tag = e.value.tag }) ∷ es else e ∷ stamped number t3 es)
      by true others = All-cons HasLeft (entry number (record { t3 = Some t3; tag = e.value.tag })) es
          (λ t same. let one : t3 ≡ t = cc in subst (L number) one left) (All-tail HasLeft e es are)
      by false others = All-cons HasLeft e (stamped number t3 es) (All-head HasLeft e es are) others

  module _ (setup : Setup) where
    requests_left : (history : List Call) → EachCall IsKnown history → All HasLeft (requests setup history)
    requests_left [] are = All-nil HasLeft
    requests_left (calls.SetMaster other ∷ earlier) are = All-nil HasLeft
    requests_left (calls.Tick ∷ earlier) are = requests_left earlier are.1
    requests_left (calls.NextRequest tag ∷ earlier) are =
        All-cons HasLeft (entry (next_number setup earlier) (record { t3 = None; tag = tag })) (requests setup earlier) (λ t3 is. cc)
        (requests_left earlier are.1)
    requests_left (calls.RequestLeft number t3 ∷ earlier) are =
        stamped_left number t3 (requests setup earlier) are.0 (requests_left earlier are.1)
    requests_left (calls.Event heard t2 tag ∷ earlier) are = requests_left earlier are.1
    requests_left (calls.General heard tag ∷ earlier) are = requests_left earlier are.1

    found_left : (number t3 : ℕ) (v : RequestValue) (k : ℕ) (es : List (Entry RequestValue)) → All HasLeft es
        → first_value number (take k es) ≡ Some v → v.t3 ≡ Some t3 → L number t3
    found_left number t3 v zero es are found left = cc
    found_left number t3 v (suc k) [] are found left = cc
    found_left number t3 v (suc k) (e ∷ es) are found left = by (nat_eq e.number number) refl found
        (λ found. found_left number t3 v k es (All-tail HasLeft e es are) found left)
      where
        by : (same : Bool) → nat_eq e.number number ≡ same
            → option_map (λ e. e.value) (if same then Some e else find (λ e. nat_eq e.number number) (take k es)) ≡ Some v
            → (first_value number (take k es) ≡ Some v → L number t3) → L number t3
        by true is found others =
            let same : e.value ≡ v = cc in
            subst (λ (n : ℕ). L n t3) (eqb-true e.number number is)
            (All-head HasLeft e es are t3 (ap (λ (v : RequestValue). v.t3) same ∙ left))
        by false is found others = others found

    pub delay_of : (earlier : List Call) (call : Call) (c : DelayCompletion) → EachCall IsKnown (call ∷ earlier)
        → delay_completion setup earlier call ≡ Some c → IsOfResponse setup c
    delay_of earlier call c are is =
        let one = delay_completion_of setup earlier call c is in
        let h = one.h in record {
          m = h.m;
          receive = h.receive;
          requesting = h.requesting;
          tag = h.tag;
          before = earlier;
          response = subst (IsKnown earlier) h.call_is are.0;
          body = h.body;
          source = h.passes.source ∙ only_master earlier h.passes.master are.1 h.passes.present;
          domain = h.passes.domain;
          own = h.own;
          request = one.request;
          found = one.found;
          t3 = one.t3;
          left_at = one.left;
          left = found_left h.m.header.sequence.0 one.t3 one.request setup.capacities.requests (requests setup earlier)
              (requests_left earlier are.1) one.found one.left;
          is = one.is;
        }

    module _ (one_step : (m : Contents) (t2 : ℕ) → S m t2 → is_two_step m.header ≡ false)
        (no_follow_up : (earlier : List Call) (m : Contents) (precise : Stamp) → R earlier m → m.body ≡ bodies.FollowUp precise → ⊥) where
      pub sync_of : (earlier : List Call) (call : Call) (c : SyncCompletion) → EachCall IsKnown (call ∷ earlier)
          → sync_completion setup earlier call ≡ Some c → IsOfSync setup c
      sync_of earlier call c are is = by (sync_completion_of setup earlier call c is).0
        where
          heard : (h : HeardSync (criteria setup earlier) call) → S h.m h.t2
          heard h = subst (IsKnown earlier) h.call_is are.0

          by : IsSyncCompletion setup earlier call c → IsOfSync setup c
          by (BySync h follow flag found same) = absurd (true≢false (sym flag ∙ one_step h.m h.t2 (heard h)))
          by (Alone h flag same) = record {
            m = h.m;
            t2 = h.t2;
            origin = h.origin;
            tag = h.tag;
            sync = heard h;
            body = h.body;
            source = h.passes.source ∙ only_master earlier h.passes.master are.1 h.passes.present;
            domain = h.passes.domain;
            is = same;
          }
          by (ByFollowUp h sync found same) =
              absurd (no_follow_up earlier h.m h.precise (subst (IsKnown earlier) h.call_is are.0) h.body)

      -- the two halves of a report
      pub halves_of : (history : List Call) (sync : SyncCompletion) (delay : DelayCompletion) → EachCall IsKnown history
          → last_sync_completion setup history ≡ Some sync → last_delay_completion setup history ≡ Some delay
          → IsOfSync setup sync × IsOfResponse setup delay
      halves_of history sync delay are is is' = (
        last_sync_is IsKnown setup (IsOfSync setup) sync_of history sync are is,
        last_delay_is IsKnown setup (IsOfResponse setup) delay_of history delay are is',
      )
