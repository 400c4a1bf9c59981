-- Of which messages a crossing is told. Lists of messages have the newest in front, so the place of a message among all that came is
-- how many came before it. `laws::each_crossing_is_of_its_messages` promises it.
use Rattle.std.specs.Prelude.{◌≡◌, ℕ, List, [], ◌∷◌, ◌++◌, length, Some, None, IfSome, option_to_list, option_map, option_and_then}
use Rattle.tap_choice.specs.declared.met.Met.{Met}
use Rattle.tap_crossing.specs.declared.sighting.Place.{Place}
use Rattle.tap_crossing.specs.declared.sighting.Place.TheVariants as places
use Rattle.tap_crossing.specs.declared.sighting.Placed.{Placed}
use Rattle.tap_crossing.specs.declared.sighting.Sighting.{Sighting}
use Rattle.tap_crossing.specs.declared.places.Places.{Places}
use Rattle.tap_crossing.specs.declared.crossing.Crossing.{Crossing}
use Rattle.tap_crossing.specs.declared.crossing.MessageOutcome.TheVariants as outcomes
use Rattle.tap_crossing.specs.Crossing.{crossing, no_crossing}
use Rattle.tap_crossing.specs.Record.{complete}
use Rattle.tap_crossing.specs.Told.{told}
use Rattle.tap_follow.specs.declared.followed.Followed.{Followed}
use Rattle.tap_follow.specs.Written.{records_most, placed_at, placed_in, crossing_in, crossings_in}

-- the crossings that are told of messages with their places, the newest in front
abbrev pub crossings_of : (capacity : ℕ) → List Placed → List Crossing
crossings_of capacity [] = []
crossings_of capacity (p ∷ earlier) = option_to_list (crossing_in (told capacity p earlier)) ++ crossings_of capacity earlier

-- those of a list of messages are those of the ones that are followed
abbrev pub TheseAreTold : Type 0
TheseAreTold = (f : Followed) (met : List Met) → crossings_in f met ≡ crossings_of records_most (placed_in f met)

-- a message that is followed is one that was met, behind those that were met before it
pub record WasMet (f : Followed) (met : List Met) (p : Placed) (earlier : List Placed) : Type 0 where
  pub m : Met
  pub met_later : List Met
  pub met_earlier : List Met
  pub parts : met ≡ met_later ++ m ∷ met_earlier
  pub placed_is : placed_at f m met_earlier ≡ Some p
  pub before : placed_in f met_earlier ≡ earlier

-- so it is of all messages that are followed
abbrev pub EachWasMet : Type 0
EachWasMet = (f : Followed) (met : List Met) (later earlier : List Placed) (p : Placed)
    → placed_in f met ≡ later ++ p ∷ earlier → WasMet f met p earlier

-- a message of this crossing, which is told when the message at the place `at` comes: of its kind and number, at this place of the record
pub record IsOneOf (of : ℕ → ℕ) (messages : List Placed) (at : ℕ) (x : Crossing) (place : Place) (s : Sighting) : Type 0 where
  pub later : List Placed
  pub earlier : List Placed
  pub p : Placed
  pub parts : messages ≡ later ++ p ∷ earlier
  pub kind_is : p.kind ≡ x.kind
  pub number_is : p.number.0 ≡ x.number.0
  pub place_is : p.place ≡ place
  pub sighting_is : p.sighting ≡ s
  pub of_it : of (length earlier) ≡ at

-- The crossing is made of these: of what was met in a record that has what it needs, which is no crossing for no reason. That is the event
-- message at both taps, and the other at `from` and at `to`, where one is needed.
pub record IsMadeOf (of : ℕ → ℕ) (messages : List Placed) (at : ℕ) (x : Crossing) : Type 0 where
  pub met : Places
  pub crossing_is : option_map (crossing x.kind x.number) (complete met) ≡ Some x
  pub no_reason : option_and_then (no_crossing x.kind) (complete met) ≡ None
  pub first : IfSome met.first (IsOneOf of messages at x places.First)
  pub second : IfSome met.second (IsOneOf of messages at x places.Second)
  pub at_from : IfSome met.at_from (IsOneOf of messages at x places.AtFrom)
  pub at_to : IfSome met.at_to (IsOneOf of messages at x places.AtTo)

-- Each crossing is. `of` tells of each message the crossing that it is of, if it is of one, so none is of two.
pub record AreMade (capacity : ℕ) (messages : List Placed) : Type 0 where
  pub of : ℕ → ℕ
  pub each : (later earlier : List Placed) (p : Placed) (x : Crossing) → messages ≡ later ++ p ∷ earlier
      → told capacity p earlier ≡ outcomes.Crossed x → IsMadeOf of messages (length earlier) x

-- so it is of all crossings of messages that are followed
abbrev pub EachCrossingIsMade : Type 0
EachCrossingIsMade = (capacity : ℕ) (messages : List Placed) → AreMade capacity messages
