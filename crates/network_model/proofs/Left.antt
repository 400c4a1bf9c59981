-- The stay that a Leave event leaves once it is accepted: an Enter event at its own clock began it. Where its copy
-- goes on with a journey, it made a message.
use Rattle.std.proofs.Common.{◌≡◌, ◌∙◌, ℕ, ◌<◌, ◌≤◌, Bool, true, false, length, Option, Some, None, Ok, Err}
use Rattle.std.proofs.Common.{Result, refl, sym, ap, inl, inr, option_map, option_and_then, if◌then◌else◌}
use Rattle.std.specs.Prelude.{◌&&◌, not, is_some, ok_or, unwrap_or, ◌⊎◌}
use Rattle.std.specs.List.{list_any}
use Rattle.std.specs.Result.{result_ok}
use Rattle.std.proofs.lemmas.Bool.{cases_lt}
use Rattle.event_codec.specs.Packet.{Contents}
use Rattle.transparent_clock.specs.declared.refusal.ClockRefusal.{ClockRefusal}
use Rattle.transparent_clock.specs.Forwarding.{resided, forwarded}
use Rattle.slave_port.proofs.Options.{some_step, some_image}
use Rattle.network_model.specs.declared.event.Event.TheVariants.{Leave}
use Rattle.network_model.specs.declared.refusal.WorldRefusal.{WorldRefusal}
use Rattle.network_model.specs.declared.refusal.WorldRefusal.TheVariants.{NoTransit, ReadingOutOfRange}
use Rattle.network_model.specs.declared.stepped.Outcome.{Outcome}
use Rattle.network_model.specs.declared.stepped.Outcome.TheVariants as outcomes
use Rattle.network_model.specs.Network.{Network, NodeName, is_named}
use Rattle.network_model.specs.Run.{Run, Place, place, place_at, site_of}
use Rattle.network_model.specs.Kinds.{entered_copy, is_leave_of}
use Rattle.network_model.specs.Clock.{reading, reading_of}
use Rattle.network_model.specs.Journey.{Journey, residence, journey_made, journey_of}
use Rattle.network_model.specs.Truth.{drawn, message_after, copy_made, copy_of}
use Rattle.network_model.specs.Outcome.{◌>>=◌, node_as, clock_of, reads, open_transit}
use Rattle.network_model.specs.Outcome.{copy_in, left_outcome, outcome_of}
use Rattle.network_model.proofs.Options.{ok_step, ok_some}
use Rattle.network_model.proofs.Sites.{named-same}
use Rattle.network_model.proofs.Journeys.{continued, same_origin}
use Rattle.network_model.proofs.MessagesAfter.{copy_of-message_after}
use Rattle.network_model.proofs.Leaving.{copy_made-forwarded, copy_of-ahead, copy_of-since}

-- the stay that a Leave event leaves, and what came of it
pub record IsLeft (network : Network) (earlier : Run) (node : NodeName) (transit at : ℕ)
    (outcome : Outcome) : Type 0 where
  pub entered : Place
  pub there : place_at earlier transit ≡ Some entered
  pub first : list_any (is_leave_of transit) earlier ≡ false
  pub site : site_of entered.event ≡ node
  pub copy : ℕ
  pub takes : entered_copy entered.event ≡ Some copy
  pub m : Contents
  pub message : copy_of network entered.earlier copy ≡ Some m
  pub is : outcome ≡ left_outcome
      (forwarded (Ok m) (reading entered) (reading (place (Leave node transit at) earlier)))

opened_at : (node : NodeName) (earlier : Run) (transit : ℕ) (p found : Place)
    → open_transit node earlier transit p ≡ Some found
    → (p ≡ found) × (site_of p.event ≡ node) × (list_any (is_leave_of transit) earlier ≡ false)
opened_at node earlier transit p found opened =
    by (is_some (entered_copy p.event)) (is_named (site_of p.event) node) refl
    (list_any (is_leave_of transit) earlier) opened
  where
    by : (copy named : Bool) → is_named (site_of p.event) node ≡ named → (before : Bool)
        → (if copy && named && not before then Some p else None) ≡ Some found
        → (p ≡ found) × (site_of p.event ≡ node) × (before ≡ false)
    by true true e false is = (cc, named-same (site_of p.event) node e, refl)
    by true true e true is = cc
    by true false e before is = cc
    by false true e before is = cc
    by false false e before is = cc

pub left_parts : (network : Network) (earlier : Run) (node : NodeName) (transit at : ℕ) (outcome : Outcome)
    → outcome_of network earlier (Leave node transit at) ≡ Ok outcome
    → IsLeft network earlier node transit at outcome
left_parts network earlier node transit at outcome is =
    let clock = ok_step (node_as clock_of network node)
    (λ clock. ok_or (option_and_then (open_transit node earlier transit) (place_at earlier transit))
    NoTransit >>= (λ entered. ok_or (copy_in network entered) NoTransit
    >>= (λ m. reads (Leave node transit at)
    earlier >>= (λ now. Ok (left_outcome (forwarded (Ok m) (reading entered) now)))))) is in
    let found = ok_step (ok_or (option_and_then (open_transit node earlier transit) (place_at earlier transit))
    NoTransit)
    (λ entered. ok_or (copy_in network entered) NoTransit
    >>= (λ m. reads (Leave node transit at)
    earlier >>= (λ now. Ok (left_outcome (forwarded (Ok m) (reading entered) now))))) clock.2 in
    let message = ok_step (ok_or (copy_in network found.0) NoTransit)
    (λ m. reads (Leave node transit at)
    earlier >>= (λ now. Ok (left_outcome (forwarded (Ok m) (reading found.0) now)))) found.2 in
    let now = ok_step (reads (Leave node transit at) earlier)
    (λ now. Ok (left_outcome (forwarded (Ok message.0) (reading found.0) now))) message.2 in
    let opened : option_and_then (open_transit node earlier transit) (place_at earlier transit) ≡ Some found.0 =
    ok_some (option_and_then (open_transit node earlier transit) (place_at earlier transit)) NoTransit {x = found.0}
    found.1 in
    let raw = some_step (open_transit node earlier transit) (place_at earlier transit) opened in
    let both = opened_at node earlier transit raw.0 found.0 raw.2 in
    let inside : copy_in network found.0 ≡ Some message.0 =
    ok_some (copy_in network found.0) NoTransit {x = message.0} message.1 in
    let copy = some_step (copy_of network found.0.earlier) (entered_copy found.0.event) inside in
    let read : reading_of (place (Leave node transit at) earlier) ≡ Some now.0 =
    ok_some (reading_of (place (Leave node transit at) earlier)) ReadingOutOfRange {x = now.0} now.1 in
    let read_is : reading (place (Leave node transit at) earlier) ≡ now.0 =
    ap (λ (r : Option ℕ). unwrap_or r 0) read in
    record {
      entered = found.0;
      there = raw.1 ∙ ap (λ (p : Place). Some p) both.0;
      first = both.2;
      site = ap (λ (p : Place). site_of p.event) (sym both.0) ∙ both.1;
      copy = copy.0;
      takes = copy.1;
      m = message.0;
      message = copy.2;
      is = value outcome (left_outcome (forwarded (Ok message.0) (reading found.0) now.0)) now.2
          ∙ ap (λ (n : ℕ). left_outcome (forwarded (Ok message.0) (reading found.0) n)) (sym read_is);
    }
  where
    value : (one other : Outcome) → ◌≡◌ {A = Result Outcome WorldRefusal} (Ok other) (Ok one) → one ≡ other
    value one other is = cc

-- what entered a clock was made before it
pub made_before : (network : Network) (run : Run) (copy : ℕ) (m : Contents) → copy_of network run copy ≡ Some m
    → copy < length run
made_before network run copy m is = by (cases_lt copy (length run))
  where
    by : (copy < length run) ⊎ (length run ≤ copy) → copy < length run
    by (inl below) = below
    by (inr ahead) = let none = copy_of-ahead network run copy ahead in cc

made_outcome : (sent : Result Contents ClockRefusal) (m : Contents) → result_ok sent ≡ Some m
    → left_outcome sent ≡ outcomes.Made
made_outcome (Ok m) other is = refl
made_outcome (Err refusal) other is = cc

-- a copy that was made and has a journey is the message of this journey
pub message_of : (network : Network) (run : Run) (copy : ℕ) (m : Contents) (journey : Journey)
    → copy_of network run copy ≡ Some m → journey_of run copy ≡ Some journey
    → (d : Contents) × (drawn network journey.origin.event journey.origin.earlier ≡ Some d)
message_of network run copy m journey is made =
    let drawn_is = some_image (λ (c : Contents). resided c (residence journey))
    (drawn network journey.origin.event journey.origin.earlier)
    (sym (copy_of-message_after network run copy journey made) ∙ is) in
    (drawn_is.0, drawn_is.1)

-- where the copy goes on, the clock made a message
pub left_made : (network : Network) (earlier : Run) (node : NodeName) (transit at : ℕ) (outcome : Outcome)
    (journey : Journey) → outcome_of network earlier (Leave node transit at) ≡ Ok outcome
    → journey_made (Leave node transit at) earlier (journey_of earlier) ≡ Some journey → outcome ≡ outcomes.Made
left_made network earlier node transit at outcome journey is made =
    let left = left_parts network earlier node transit at outcome is in
    let from = continued (place (Leave node transit at) earlier) earlier transit journey made in
    let places : Some left.entered ≡ Some from.0 = sym left.there ∙ from.3 in
    let one : left.entered ≡ from.0 = cc in
    let copies : Some left.copy ≡ Some from.1 =
    sym left.takes ∙ ap (λ (p : Place). entered_copy p.event) one ∙ from.4 in
    let same : left.copy ≡ from.1 = cc in
    let message : copy_of network earlier left.copy ≡ Some left.m =
    copy_of-since network earlier transit left.entered left.copy left.m left.there left.message in
    let before : journey_of earlier left.copy ≡ Some from.2 = ap (journey_of earlier) same ∙ from.5 in
    let drew = message_of network earlier left.copy left.m from.2 message before in
    let origin : from.2.origin ≡ journey.origin =
    same_origin (place (Leave node transit at) earlier) from.0 from.2 journey from.6 in
    let drew_here : drawn network journey.origin.event journey.origin.earlier ≡ Some drew.0 =
    ap (λ (o : Place). drawn network o.event o.earlier) (sym origin) ∙ drew.1 in
    let sent : copy_made network (Leave node transit at) earlier (copy_of network earlier)
    ≡ Some (resided drew.0 (residence journey)) =
    ap (option_and_then (message_after network)) made
    ∙ ap (option_map (λ (c : Contents). resided c (residence journey))) drew_here in
    let forward : Result Contents ClockRefusal =
    forwarded (Ok left.m) (reading left.entered) (reading (place (Leave node transit at) earlier)) in
    let ok : result_ok forward ≡ Some (resided drew.0 (residence journey)) =
    sym (copy_made-forwarded network earlier node left.copy transit at left.entered left.m message left.there
    left.takes) ∙ sent in
    left.is ∙ made_outcome forward (resided drew.0 (residence journey)) ok
