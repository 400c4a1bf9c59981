-- What a row tells of messages of one kind. Lists have the newest in front.
use Rattle.std.specs.Prelude.{◌≡◌, ℕ, ◌/◌, ◌%◌, ◌<◌, ◌==◌, ℤ, Bool, false, not, ◌&&◌, nat_lt, if◌then◌else◌}
use Rattle.std.specs.Prelude.{List, [], ◌∷◌, length, count_by, slice_index, slice_index_or, Option, Some, None, option_map}
use Rattle.std.specs.Int.{int_min, int_max}
use Rattle.std.specs.List.{cons_option, list_any}
use Rattle.ptp_units.specs.Moment.{Stamp, stamp_of}
use Rattle.ptp_units.specs.Sequence.{ahead}
use Rattle.statistics.specs.declared.flow.Sent.{Sent}
use Rattle.statistics.specs.Cases.{first_of}
use Rattle.statistics.specs.Flow.{IsFlow, newest}
use Rattle.statistics.specs.Wide.{at_most}
use Rattle.capture_extract.specs.declared.header.Listed.{Listed}
use Rattle.capture_extract.specs.declared.row.Row.{Row}

-- twoStepFlag (IEEE 1588-2019, 13.3.2.8)
abbrev pub is_two_step : Listed → Bool
is_two_step m = slice_index m.header.flags 0 / 2 % 2 == 1

-- the least correctionField
abbrev pub lesser : ℤ → Option ℤ → ℤ
lesser correction None = correction
lesser correction (Some least) = int_min least correction

abbrev pub least : List Listed → Option ℤ
least [] = None
least (m ∷ earlier) = Some (lesser m.header.correction.0 (least earlier))

-- the greatest; one that says 'too big' is above all others
abbrev pub greater : ℤ → Option ℤ → ℤ
greater correction None = correction
greater correction (Some greatest) = int_max greatest correction

abbrev pub greatest : List Listed → Option ℤ
greatest [] = None
greatest (m ∷ earlier) = Some (greater m.header.correction.0 (greatest earlier))

-- the time of the packet of the first, and of the last
abbrev pub time_of : Listed → Stamp
time_of m = stamp_of m.time

abbrev pub first_time : List Listed → Option Stamp
first_time ms = option_map time_of (first_of ms)

abbrev pub last_time : List Listed → Option Stamp
last_time [] = None
last_time (m ∷ earlier) = Some (time_of m)

-- a number is too far ahead of another one, and too far behind it, to be of its port's same life
abbrev pub is_far : (number newest : ℕ) → Bool
is_far number newest = nat_lt 256 (ahead number newest) && nat_lt 256 (ahead newest number)

-- a message by its number, and whether its port begins anew with it
abbrev pub sent : Listed → (begins : Bool) → Sent
sent m begins = record { line = m.packet; number = m.header.sequence; time = m.time; begins = begins }

-- a copy of the newest message is passed over
abbrev pub sent_by : Listed → (newest : Option Sent) → Option Sent
sent_by m None = Some (sent m false)
sent_by m (Some n) =
    if n.number.0 == m.header.sequence.0 then None
    else Some (sent m (is_far m.header.sequence.0 n.number.0))

abbrev pub sents : List Listed → List Sent
sents [] = []
sents (m ∷ earlier) = cons_option (sent_by m (newest (sents earlier))) (sents earlier)

-- one of the messages has this minor version
abbrev pub has_minor : (minor : ℕ) → List Listed → Bool
has_minor minor ms = list_any (λ m. m.header.minor_version == minor) ms

-- what is counted of the messages of a row
pub record AreCounts (ms : List Listed) (row : Row) : Type 0 where
  pub count : row.count ≡ at_most (length ms)
  pub one_step : row.one_step ≡ at_most (count_by (λ m. not (is_two_step m)) ms)
  pub two_step : row.two_step ≡ at_most (count_by is_two_step ms)
  pub versions : (minor : ℕ) → minor < 16 → slice_index_or row.versions.met minor false ≡ has_minor minor ms
  pub flow : IsFlow (sents ms) row.flow

-- the row of these messages, of which there is one at least
pub record IsRow (ms : List Listed) (row : Row) : Type 0 where
  pub counts : AreCounts ms row
  pub first : first_time ms ≡ Some row.first
  pub last : last_time ms ≡ Some row.last
  pub least : least ms ≡ Some row.least.0
  pub greatest : greatest ms ≡ Some row.greatest.0
