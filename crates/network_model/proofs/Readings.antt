-- At each accepted event that has a true moment the node's clock shows a moment, its reading.
-- So what a message says of its times is what the clocks showed.
use Rattle.std.proofs.Common.{◌≡◌, ◌∙◌, ℕ, ℤ, pos, negsuc, Bool, true, false, Option, Some, None, Ok, IsOk, refl, sym}
use Rattle.std.proofs.Common.{ap, if◌then◌else◌, option_and_then, ◌∷◌, option_map}
use Rattle.std.specs.Prelude.{ok_or, unwrap_or, nat_lt, is_some}
use Rattle.ptp_units.specs.Moment.{bound, moment_of}
use Rattle.transparent_clock.specs.Forwarding.{forwarded}
use Rattle.slave_port.proofs.Options.{some_step}
use Rattle.network_model.specs.declared.event.Event.{Event}
use Rattle.network_model.specs.declared.event.Event.TheVariants.{Sync, SyncOne, Enter, Leave, Arrive, Request}
use Rattle.network_model.specs.declared.refusal.WorldRefusal.TheVariants.{NoCopy, NoTransit, ReadingOutOfRange}
use Rattle.network_model.specs.Network.{Network, master_port, slave_port}
use Rattle.network_model.specs.Run.{Run, Place, place, place_at, tag_of, IsIn, true_moment, site_of}
use Rattle.network_model.specs.Kinds.{draws_sync, is_request}
use Rattle.network_model.specs.Clock.{shown_at, reading_of, reading, clock_shows}
use Rattle.network_model.specs.Truth.{copy_of}
use Rattle.network_model.specs.Outcome.{◌>>=◌, node_as, clock_of, port_of, reads, open_transit, copy_in, left_outcome}
use Rattle.network_model.specs.Outcome.{arrived_outcome, outcome_of, IsRun}
use Rattle.network_model.proofs.Options.{ok_value, ok_step, ok_some}
use Rattle.network_model.proofs.Places.{accepted-place_at}
use Rattle.network_model.specs.declared.stepped.Outcome.TheVariants as outcomes

-- an accepted event with a true moment is read
read_at : (network : Network) (event : Event) (earlier : Run) → IsOk (outcome_of network earlier event) → is_some (true_moment event) ≡ true
    → (now : ℕ) × (reads event earlier ≡ Ok now)
read_at network (Sync node at) earlier accepted timed =
    let outcome = ok_value (outcome_of network earlier (Sync node at)) accepted in
    let port = ok_step (node_as master_port network node) (λ port. reads (Sync node at) earlier >>= (λ now. Ok outcomes.Made)) outcome.1 in
    let now = ok_step (reads (Sync node at) earlier) (λ now. Ok outcomes.Made) port.2 in (now.0, now.1)
read_at network (SyncOne node at) earlier accepted timed =
    let outcome = ok_value (outcome_of network earlier (SyncOne node at)) accepted in
    let port = ok_step (node_as master_port network node) (λ port. reads (SyncOne node at) earlier >>= (λ now. Ok outcomes.Made)) outcome.1 in
    let now = ok_step (reads (SyncOne node at) earlier) (λ now. Ok outcomes.Made) port.2 in (now.0, now.1)
read_at network (Request node at) earlier accepted timed =
    let outcome = ok_value (outcome_of network earlier (Request node at)) accepted in
    let port = ok_step (node_as slave_port network node) (λ port. reads (Request node at) earlier >>= (λ now. Ok outcomes.Made)) outcome.1 in
    let now = ok_step (reads (Request node at) earlier) (λ now. Ok outcomes.Made) port.2 in (now.0, now.1)
read_at network (Enter node copy at) earlier accepted timed =
    let outcome = ok_value (outcome_of network earlier (Enter node copy at)) accepted in
    let clock = ok_step (node_as clock_of network node)
    (λ clock. ok_or (copy_of network earlier copy) NoCopy >>= (λ m. reads (Enter node copy at) earlier >>= (λ now. Ok outcomes.Entered))) outcome.1 in
    let message = ok_step (ok_or (copy_of network earlier copy) NoCopy) (λ m. reads (Enter node copy at) earlier >>= (λ now. Ok outcomes.Entered)) clock.2 in
    let now = ok_step (reads (Enter node copy at) earlier) (λ now. Ok outcomes.Entered) message.2 in (now.0, now.1)
read_at network (Leave node transit at) earlier accepted timed =
    let outcome = ok_value (outcome_of network earlier (Leave node transit at)) accepted in
    let clock = ok_step (node_as clock_of network node)
    (λ clock. ok_or (option_and_then (open_transit node earlier transit) (place_at earlier transit)) NoTransit >>= (λ entered. ok_or (copy_in network entered) NoTransit
    >>= (λ m. reads (Leave node transit at) earlier >>= (λ now. Ok (left_outcome (forwarded (Ok m) (reading entered) now)))))) outcome.1 in
    let entered = ok_step (ok_or (option_and_then (open_transit node earlier transit) (place_at earlier transit)) NoTransit)
    (λ entered. ok_or (copy_in network entered) NoTransit
    >>= (λ m. reads (Leave node transit at) earlier >>= (λ now. Ok (left_outcome (forwarded (Ok m) (reading entered) now))))) clock.2 in
    let message = ok_step (ok_or (copy_in network entered.0) NoTransit)
    (λ m. reads (Leave node transit at) earlier >>= (λ now. Ok (left_outcome (forwarded (Ok m) (reading entered.0) now)))) entered.2 in
    let now = ok_step (reads (Leave node transit at) earlier) (λ now. Ok (left_outcome (forwarded (Ok message.0) (reading entered.0) now))) message.2 in (now.0, now.1)
read_at network (Arrive node copy at) earlier accepted timed =
    let outcome = ok_value (outcome_of network earlier (Arrive node copy at)) accepted in
    let kind = ok_step (node_as port_of network node)
    (λ kind. ok_or (copy_of network earlier copy) NoCopy >>= (λ m. reads (Arrive node copy at) earlier >>= (λ now. Ok (arrived_outcome network kind node earlier now m)))) outcome.1 in
    let message = ok_step (ok_or (copy_of network earlier copy) NoCopy)
    (λ m. reads (Arrive node copy at) earlier >>= (λ now. Ok (arrived_outcome network kind.0 node earlier now m))) kind.2 in
    let now = ok_step (reads (Arrive node copy at) earlier) (λ now. Ok (arrived_outcome network kind.0 node earlier now message.0)) message.2 in (now.0, now.1)
read_at network _ earlier accepted timed = cc

-- the moment shown is the number shown
shown_number : (shown : ℤ) (now : ℕ) → moment_of shown ≡ Some now → shown ≡ pos now
shown_number (negsuc n) now is = cc
shown_number (pos n) now is = by (nat_lt n bound) is
  where
    by : (below : Bool) → (if below then Some n else None) ≡ Some now → pos n ≡ pos now
    by true is = cc
    by false is = cc

-- what the clock shows is the reading
pub shown_reading : (network : Network) (run : Run) (p : Place) → IsRun network run → IsIn run p → is_some (true_moment p.event) ≡ true → shown_at p ≡ Some (pos (reading p))
shown_reading network run p accepted there timed =
    let now = read_at network p.event p.earlier (accepted-place_at network run (tag_of p) p accepted there) timed in
    let read : reading_of p ≡ Some now.0 = ok_some (reading_of (place p.event p.earlier)) ReadingOutOfRange {x = now.0} now.1 in
    let shown = some_step moment_of (shown_at p) read in
    let is : reading p ≡ now.0 = ap (λ (r : Option ℕ). unwrap_or r 0) read in
    shown.1 ∙ ap (λ (z : ℤ). Some z) (shown_number shown.0 now.0 shown.2) ∙ ap (λ (n : ℕ). Some (pos n)) (sym is)

-- events that draw a number have a true moment
pub sync_timed : (event : Event) → draws_sync event ≡ true → is_some (true_moment event) ≡ true
sync_timed (Sync node at) is = refl
sync_timed (SyncOne node at) is = refl
sync_timed _ is = cc

pub request_timed : (event : Event) → is_request event ≡ true → is_some (true_moment event) ≡ true
request_timed (Request node at) is = refl
request_timed _ is = cc

-- a reading stands just where there is a true moment
pub reading_there : (network : Network) (event : Event) (earlier : Run) → IsRun network (event ∷ earlier) → is_some (reading_of (place event earlier)) ≡ is_some (true_moment event)
reading_there network event earlier accepted = by (true_moment event) refl
  where
    by : (moment : Option ℕ) → true_moment event ≡ moment → is_some (reading_of (place event earlier)) ≡ is_some moment
    by None is = ap (λ (o : Option ℕ). is_some (option_and_then moment_of (option_map (clock_shows (site_of event) earlier) o))) is
    by (Some at) is =
        let now = read_at network event earlier accepted.0 (ap (λ (o : Option ℕ). is_some o) is) in
        ap (λ (o : Option ℕ). is_some o) (ok_some (reading_of (place event earlier)) ReadingOutOfRange {x = now.0} now.1)
