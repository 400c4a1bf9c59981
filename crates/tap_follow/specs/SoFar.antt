-- What is told of a course beside its crossings.
use Rattle.std.specs.Prelude.{ℕ, ◌%◌, ◌^◌, List, [], Option, option_map}
use Rattle.std.specs.Option.{option_map_or}
use Rattle.tap_crossing.specs.declared.crossing.Crossing.{Crossing}
use Rattle.tap_crossing.specs.declared.crossing.MessageOutcome.{MessageOutcome}
use Rattle.tap_choice.specs.declared.met.Met.{Met}
use Rattle.tap_crossing.specs.declared.places.Filled.{Filled}
use Rattle.tap_crossing.specs.declared.sighting.Kind.{Kind}
use Rattle.tap_crossing.specs.Open.{number_of, open_count}
use Rattle.tap_crossing.specs.Records.{records}
use Rattle.tap_follow.specs.declared.followed.Followed.{Followed}
use Rattle.tap_follow.specs.Followed.{watched_in}
use Rattle.tap_follow.specs.Written.{records_most, placed_in, outcomes_in, crossings_in}
use Rattle.tap_follow.specs.Course.{Course}

-- whose messages are followed, with the slave as far as these tell it
abbrev pub with_slave : List Met → Followed → Followed
with_slave met f = record f { watched = watched_in f met }

-- the same of a course, once it is known which messages are followed
abbrev pub followed_so_far : Course → Option Followed
followed_so_far c = option_map (with_slave c.met) c.followed

-- the crossings so far, the newest in front
abbrev pub crossings_so_far : Course → List Crossing
crossings_so_far c = option_map_or (λ f. crossings_in f c.met) c.followed []

-- how many records of a kind are open in which just these places are filled
abbrev pub open_so_far : Kind → Filled → Course → Option ℕ
open_so_far kind filled c =
    option_map (λ f. open_count (number_of filled) (records records_most kind (placed_in f c.met)) % 2 ^ 64) c.followed

-- what the messages of a kind brought so far, the newest in front
abbrev pub outcomes_so_far : Kind → Course → List MessageOutcome
outcomes_so_far kind c = option_map_or (λ f. outcomes_in kind f c.met) c.followed []
