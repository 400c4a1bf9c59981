-- What is told of messages that are followed: the crossings, in the order in which their records close.
use Rattle.std.specs.Prelude.{ℕ, List, [], ◌∷◌, ◌++◌, Option, Some, None, option_to_list, option_and_then, if◌then◌else◌}
use Rattle.std.specs.Option.{option_map_or}
use Rattle.ptp_units.specs.Moment.{stamp_of}
use Rattle.datagram_text.specs.Shown.{stamp_text}
use Rattle.tap_choice.specs.declared.met.Met.{Met}
use Rattle.tap_crossing.specs.declared.crossing.Crossing.{Crossing}
use Rattle.tap_crossing.specs.declared.crossing.MessageOutcome.{MessageOutcome}
use Rattle.tap_crossing.specs.declared.crossing.MessageOutcome.TheVariants as outcomes
use Rattle.tap_crossing.specs.declared.sighting.Kind.{Kind}
use Rattle.tap_crossing.specs.declared.sighting.Placed.{Placed}
use Rattle.tap_crossing.specs.Placed.{placed}
use Rattle.tap_crossing.specs.Records.{is_same_kind}
use Rattle.tap_crossing.specs.Told.{told}
use Rattle.tap_sums.specs.Crossed.{Told, json_text, row_text}
use Rattle.tap_follow.specs.declared.followed.Followed.{Followed}
use Rattle.tap_follow.specs.declared.following.Form.{Form}
use Rattle.tap_follow.specs.declared.following.Form.TheVariants.{Json, Table, Sums}
use Rattle.tap_follow.specs.Followed.{tap_at, watched_in, contents_of}

-- how many records of a kind count
abbrev pub records_most : ℕ
records_most = 256

-- the place of the newest message in its record, where it is one of those that are followed
abbrev pub placed_at : Followed → Met → (earlier : List Met) → Option Placed
placed_at f m earlier =
    placed (watched_in f (m ∷ earlier)) (tap_at f.from m.side) m.line m.time (contents_of m)

-- those of all that are followed
abbrev pub placed_in : Followed → List Met → List Placed
placed_in f [] = []
placed_in f (m ∷ earlier) = option_to_list (placed_at f m earlier) ++ placed_in f earlier

-- the crossing that an outcome is
abbrev pub crossing_in : MessageOutcome → Option Crossing
crossing_in outcomes.Waits = None
crossing_in outcomes.Spoils = None
crossing_in outcomes.IsSpoiled = None
crossing_in (outcomes.Crossed x) = Some x
crossing_in (outcomes.Closed reason) = None

-- an outcome, where it is of this kind
abbrev pub outcome_of : (wanted kind : Kind) → MessageOutcome → Option MessageOutcome
outcome_of wanted kind outcome = if is_same_kind wanted kind then Some outcome else None

-- what the newest message brings, where it is one of those that are followed and of this kind
abbrev pub outcome_at : Kind → Followed → Met → (earlier : List Met) → Option MessageOutcome
outcome_at kind f m earlier =
    option_and_then (λ p. outcome_of kind p.kind (told records_most p (placed_in f earlier))) (placed_at f m earlier)

-- what all that are followed and of this kind brought, the newest in front
abbrev pub outcomes_in : Kind → Followed → List Met → List MessageOutcome
outcomes_in kind f [] = []
outcomes_in kind f (m ∷ earlier) = option_to_list (outcome_at kind f m earlier) ++ outcomes_in kind f earlier

-- what the newest message completes
abbrev pub crossing_at : Followed → Met → (earlier : List Met) → Option Crossing
crossing_at f m earlier =
    option_and_then (λ p. crossing_in (told records_most p (placed_in f earlier))) (placed_at f m earlier)

-- the crossings of all that were followed, the newest in front
abbrev pub crossings_in : Followed → List Met → List Crossing
crossings_in f [] = []
crossings_in f (m ∷ earlier) = option_to_list (crossing_at f m earlier) ++ crossings_in f earlier

-- a crossing with the time of its event message at its first tap, and the names of the taps
abbrev pub told_of : Followed → Crossing → Told
told_of f x = record {
  crossing = x;
  time = stamp_text (stamp_of x.time);
  from = f.from_name;
  to = f.to_name;
}

-- a crossing as it is asked for
abbrev pub text_as : Form → Told → List ℕ
text_as Json x = json_text x
text_as Table x = row_text x
text_as Sums x = []

-- what is written of the newest message
abbrev pub text_at : Form → Followed → Met → (earlier : List Met) → List ℕ
text_at form f m earlier = option_map_or (λ x. text_as form (told_of f x)) (crossing_at f m earlier) []

-- what is written of all
abbrev pub written : Form → Followed → List Met → List ℕ
written form f [] = []
written form f (m ∷ earlier) = written form f earlier ++ text_at form f m earlier
