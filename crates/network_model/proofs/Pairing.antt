-- What a slave pairs is of one origin: the Sync event, or the Request event, that drew the number of both messages.
-- This is where the numbers within one turn come in.
use Rattle.std.proofs.Common.{◌≡◌, ◌∙◌, ℕ, ◌+◌, ◌-◌, ◌<◌, Bool, true, false, List, [], ◌∷◌, length, Some, refl, sym, ap, subst, arith, option_map, if◌then◌else◌}
use Rattle.std.specs.Prelude.{count_by, nat_eq, find, ◌==◌}
use Rattle.std.specs.List.{All}
use Rattle.std.proofs.lemmas.Bool.{and_parts, and_from, or_left, or_right, eqb-true}
use Rattle.std.proofs.lemmas.List.Elements.{All-head, All-tail}
use Rattle.ptp_units.specs.Sequence.{of_count}
use Rattle.event_codec.specs.declared.port.PortIdentity.{PortIdentity}
use Rattle.pairing.specs.Marked.{Entry, first_value}
use Rattle.network_model.specs.declared.event.Event.{Event}
use Rattle.network_model.specs.Network.{Network, NodeName, PortSetup, IsNetwork, is_named}
use Rattle.network_model.specs.Run.{Run, Place, place, place_at, tag_of, IsIn, until, site_of}
use Rattle.network_model.specs.Kinds.{is_at, is_sync, is_one_step_sync, draws_sync, is_request}
use Rattle.network_model.specs.Numbering.{drawn_later, number_of}
use Rattle.network_model.specs.Truth.{master_at}
use Rattle.network_model.specs.Outcome.{IsRun}
use Rattle.network_model.specs.Premises.{Limits, IsFreshAndTicked, IsFreshAndTickedFor, IsWithinTurn}
use Rattle.network_model.proofs.Identities.{same_name, identity_of_master}
use Rattle.network_model.proofs.Reach.{one_origin, draws_with-sync, draws_with-request, HeldReach, UsedReach, for_slave, reach-fresh_ticked, reach-one_turn}
use Rattle.network_model.proofs.Places.{place_at-within}
use Rattle.network_model.proofs.Sequences.{count-more}
use Rattle.network_model.proofs.Told.{IsTold}

-- the value found under a number is that of an entry of this number
pub found_in : {V : Type 0} (P : Entry V → Type 0) (entries : List (Entry V)) (number : ℕ) (value : V) → All P entries → first_value number entries ≡ Some value
    → (e : Entry V) × P e × (e.number ≡ number) × (e.value ≡ value)
found_in P [] number value all found = cc
found_in P (e ∷ others) number value all found = at (nat_eq e.number number) refl found (found_in P others number value (All-tail P e others all))
  where
    at : (same : Bool) → nat_eq e.number number ≡ same
        → option_map (λ e. e.value) (if same then Some e else find (λ e. nat_eq e.number number) others) ≡ Some value
        → (first_value number others ≡ Some value → (e : Entry _) × P e × (e.number ≡ number) × (e.value ≡ value))
        → (e : Entry _) × P e × (e.number ≡ number) × (e.value ≡ value)
    at true is found rest = (e, All-head P e others all, eqb-true e.number number is, cc)
    at false is found rest = rest found

-- a two-step or one-step Sync draws a number for a Sync
pub two_step_draws : (node : NodeName) (event : Event) → is_at is_sync node event ≡ true → is_at draws_sync node event ≡ true
two_step_draws node event is =
    let parts = and_parts (is_sync event) (is_named (site_of event) node) is in
    and_from (draws_sync event) (is_named (site_of event) node) (or_left (is_sync event) (is_one_step_sync event) parts.0) parts.1

pub one_step_draws : (node : NodeName) (event : Event) → is_at is_one_step_sync node event ≡ true → is_at draws_sync node event ≡ true
one_step_draws node event is =
    let parts = and_parts (is_one_step_sync event) (is_named (site_of event) node) is in
    and_from (draws_sync event) (is_named (site_of event) node) (or_right (is_sync event) (is_one_step_sync event) parts.0) parts.1

-- the node whose identity a message has is the present master
pub from_master : (network : Network) (slave : NodeName) (run : Run) (source : PortIdentity) (node : NodeName) (port : PortSetup) → IsNetwork network
    → (told : IsTold network slave run source) → master_at network node ≡ Some port → source ≡ port.config.identity
    → (node ≡ told.master) × (port ≡ told.port)
from_master network slave run source node port apart told port_is source_is =
    let one : node ≡ told.master =
    same_name network apart.identities node told.master source
    (identity_of_master network node port port_is ∙ ap (λ (i : PortIdentity). Some i) (sym source_is))
    (identity_of_master network told.master told.port told.port_is ∙ ap (λ (i : PortIdentity). Some i) (sym told.is)) in
    let ports : master_at network told.master ≡ Some port = subst (λ (n : NodeName). master_at network n ≡ Some port) one port_is in
    (one, let same : Some port ≡ Some told.port = sym ports ∙ told.port_is in cc)

-- two Syncs of one master whose numbers are within reach, and that have one sequenceId, are one
pub one_sync_event : (master : NodeName) (port : PortSetup) (run : Run) (o other : Place) → IsIn run o → IsIn run other
    → is_at draws_sync master o.event ≡ true → is_at draws_sync master other.event ≡ true
    → count_by (is_at draws_sync master) run - (count_by (is_at draws_sync master) o.earlier + 1) < 65536
    → count_by (is_at draws_sync master) run - (count_by (is_at draws_sync master) other.earlier + 1) < 65536
    → of_count (number_of port o) ≡ of_count (number_of port other) → o ≡ other
one_sync_event master port run o other here there drawn drawn_too near near_too same =
    one_origin (is_at draws_sync master) port.first run o other here there drawn drawn_too near near_too
    (sym (number o drawn) ∙ same ∙ number other drawn_too)
  where
    number : (o : Place) → is_at draws_sync master o.event ≡ true → of_count (number_of port o) ≡ of_count (port.first + count_by (is_at draws_sync master) o.earlier)
    number o drawn = ap (λ (kind : Event → Bool). of_count (port.first + count_by kind o.earlier)) (draws_with-sync master o.event drawn)

-- a number used now lies within the reach of its sequence
pub used_near : (master : NodeName) (run : Run) (origin : Place) (reach : ℕ) → is_at draws_sync master origin.event ≡ true → drawn_later origin run < reach
    → count_by (is_at draws_sync master) run - (count_by (is_at draws_sync master) origin.earlier + 1) < reach
used_near master run origin reach drawn low =
    subst (λ (n : ℕ). n < reach) (ap (λ (kind : Event → Bool). count_by kind run - (count_by kind origin.earlier + 1)) (draws_with-sync master origin.event drawn)) low

pub used_near_request : (slave : NodeName) (run : Run) (origin : Place) (reach : ℕ) → is_at is_request slave origin.event ≡ true → drawn_later origin run < reach
    → count_by (is_at is_request slave) run - (count_by (is_at is_request slave) origin.earlier + 1) < reach
used_near_request slave run origin reach drawn low =
    subst (λ (n : ℕ). n < reach) (ap (λ (kind : Event → Bool). count_by kind run - (count_by kind origin.earlier + 1)) (draws_with-request slave origin.event drawn)) low

-- what holds of a run and of each that it goes on from
before_each : (P : Run → Type 0) → ((event : Event) (earlier : Run) → P (event ∷ earlier) → P earlier) → (run : Run) (p : Place) → IsIn run p → P run → P p.earlier
before_each P step [] p there is = cc
before_each P step (event ∷ earlier) p there is = at (length earlier == tag_of p) there (λ within. before_each P step earlier p within (step event earlier is))
  where
    at : (same : Bool) → (if same then Some (place event earlier) else place_at earlier (tag_of p)) ≡ Some p → (IsIn earlier p → P p.earlier) → P p.earlier
    at true there rest = let same : place event earlier ≡ p = cc in subst (λ (o : Place). P o.earlier) same (step event earlier is)
    at false there rest = rest there

-- What both premises give, and all that the rest of the argument asks for: an accepted run of a network, in which numbers
-- that meet at a slave lie within this reach of the front of their sequence.
pub record NumbersMeet (reach : ℕ) (network : Network) (slave : NodeName) (run : Run) : Type 0 where
  pub apart : IsNetwork network
  pub accepted : IsRun network run
  pub held : (p : Place) → IsIn run p → HeldReach reach network slave p.earlier
  pub used : UsedReach reach network slave run

-- the premise of the headline holds of each run that a run goes on from
pub fresh_ticked_shorter : (limits : Limits) (network : Network) (event : Event) (earlier : Run) → IsFreshAndTicked limits network (event ∷ earlier) → IsFreshAndTicked limits network earlier
fresh_ticked_shorter limits network event earlier premise = record {
  apart = premise.apart;
  accepted = premise.accepted.1;
  fresh = premise.fresh.1;
  ticked = λ slave. (premise.ticked slave).1;
}

-- the premise on one slave does so too
pub shorter_for : (limits : Limits) (network : Network) (slave : NodeName) (event : Event) (earlier : Run) → IsFreshAndTickedFor limits network slave (event ∷ earlier)
    → IsFreshAndTickedFor limits network slave earlier
shorter_for limits network slave event earlier premise = record {
  apart = premise.apart;
  accepted = premise.accepted.1;
  fresh = premise.fresh.1;
  ticked = premise.ticked.1;
}

-- for one slave
pub meet_for : (limits : Limits) (network : Network) (slave : NodeName) (run : Run) → IsFreshAndTickedFor limits network slave run
    → NumbersMeet (limits.late + limits.between_ticks + limits.between_ticks) network slave run
meet_for limits network slave run premise = record {
  apart = premise.apart;
  accepted = premise.accepted;
  held = λ p there. (reach-fresh_ticked limits network slave p.earlier (before_each (IsFreshAndTickedFor limits network slave) (shorter_for limits network slave) run p there premise)).held;
  used = (reach-fresh_ticked limits network slave run premise).used;
}

-- and where all slaves are as they should be
pub meet-fresh_ticked : (limits : Limits) (network : Network) (slave : NodeName) (run : Run) → IsFreshAndTicked limits network run
    → NumbersMeet (limits.late + limits.between_ticks + limits.between_ticks) network slave run
meet-fresh_ticked limits network slave run premise = meet_for limits network slave run (for_slave limits network slave run premise)

pub within_turn_shorter : (network : Network) (event : Event) (earlier : Run) → IsWithinTurn network (event ∷ earlier) → IsWithinTurn network earlier
within_turn_shorter network event earlier premise = record {
  apart = premise.apart;
  accepted = premise.accepted.1;
  one_turn = record {
    syncs = λ node. let few = premise.one_turn.syncs node in omega (arith, count-more (is_at draws_sync node) event earlier);
    requests = λ node. let few = premise.one_turn.requests node in omega (arith, count-more (is_at is_request node) event earlier);
  };
}

pub meet-one_turn : (network : Network) (slave : NodeName) (run : Run) → IsWithinTurn network run → NumbersMeet 65536 network slave run
meet-one_turn network slave run premise = record {
  apart = premise.apart;
  accepted = premise.accepted;
  held = λ p there. (reach-one_turn network slave p.earlier (before_each (IsWithinTurn network) (within_turn_shorter network) run p there premise)).held;
  used = (reach-one_turn network slave run premise).used;
}

-- what holds of a run and of each that it goes on from, up to an event
pub until_each : (P : Run → Type 0) → ((event : Event) (earlier : Run) → P (event ∷ earlier) → P earlier) → (run : Run) (p : Place) → IsIn run p → P run → P (until p)
until_each P step [] p there is = cc
until_each P step (event ∷ earlier) p there is = at (length earlier == tag_of p) there (λ within. until_each P step earlier p within (step event earlier is))
  where
    at : (same : Bool) → (if same then Some (place event earlier) else place_at earlier (tag_of p)) ≡ Some p → (IsIn earlier p → P (until p)) → P (until p)
    at true there rest = let same : place event earlier ≡ p = cc in subst (λ (o : Place). P (until o)) same is
    at false there rest = rest there

-- the event of a tag stays, in the runs that go on
pub place_at-until : (run : Run) (p : Place) (tag : ℕ) (q : Place) → IsIn run p → place_at (until p) tag ≡ Some q → place_at run tag ≡ Some q
place_at-until run p tag q here there = at (length p.earlier == tag) refl there
  where
    at : (same : Bool) → (length p.earlier == tag) ≡ same → (if same then Some p else place_at p.earlier tag) ≡ Some q → place_at run tag ≡ Some q
    at true e there = let same : tag_of p ≡ tag = eqb-true (length p.earlier) tag e in subst (λ (t : ℕ). place_at run t ≡ Some p) same here ∙ there
    at false e there = place_at-within run p tag q here there
