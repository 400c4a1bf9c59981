-- What a line of a recording tells: a time (IEEE 1588-2019, 5.3.3), and the digits of a datagram.
use Rattle.std.specs.Prelude.{◌≡◌, ℕ, ◌+◌, ◌-◌, ◌*◌, ◌^◌, ◌<◌, ◌≤◌, nat_lt, nat_le, ◌==◌, ◌&&◌, ◌||◌, Bool, true}
use Rattle.std.specs.Prelude.{List, ◌++◌, length, take, drop, slice_index, Option, Some, None, option_map}
use Rattle.std.specs.Prelude.{option_and_then, if◌then◌else◌}
use Rattle.std.specs.List.{list_all, position}
use Rattle.std.specs.Char.{is_ascii_digit}
use Rattle.std.specs.Fmt.{decimal}
use Rattle.std.specs.Str.Parse.{digits_value}
use Rattle.ptp_units.specs.Moment.{stamp, moment}
use Rattle.ptp_units.specs.Nanoseconds.{pointed}
use Rattle.recording_lines.specs.declared.timed.Timed.{Timed}

-- the text of a time, that time in units, and the digits of a datagram
pub record LineParts : Type 0 where
  pub text : List ℕ
  pub time : ℕ
  pub digits : List ℕ

-- these parts
abbrev pub line_parts : List ℕ → ℕ → List ℕ → LineParts
line_parts text time digits = record { text = text; time = time; digits = digits }

-- the parts that a line was read as
abbrev pub parts_of : Timed → LineParts
parts_of timed = line_parts timed.text.now timed.time timed.digits.now

-- what stands before the first such octet and what stands after it, where there is one
abbrev pub parted : ℕ → List ℕ → Option (List ℕ × List ℕ)
parted octet text = option_map (λ i. (take i text, drop (i + 1) text)) (position (λ other. other == octet) text)

-- digits alone, at least one and at most so many
abbrev pub are_digits : ℕ → List ℕ → Bool
are_digits most text = nat_le 1 (length text) && nat_le (length text) most && list_all is_ascii_digit text

-- the number that so many digits write
abbrev pub number_in : ℕ → List ℕ → Option ℕ
number_in most text = if are_digits most text then Some (digits_value 10 text) else None

-- whole seconds: 1 to 15 digits without zeros in front, though `0` alone is one
abbrev pub seconds_in : List ℕ → Option ℕ
seconds_in text = if slice_index text 0 == 48 && nat_lt 1 (length text) then None else number_in 15 text

-- the nanoseconds that 1 to 9 digits after a point are: the first counts tenths of a second
abbrev pub nanoseconds_in : List ℕ → Option ℕ
nanoseconds_in text = option_map (λ number. number * 10 ^ (9 - length text)) (number_in 9 text)

-- the moment of seconds below 2^48 and nanoseconds
abbrev pub moment_at : ℕ → ℕ → Option ℕ
moment_at seconds nanoseconds =
    if nat_lt seconds (2 ^ 48) then Some (moment (stamp seconds nanoseconds) 0) else None

-- the moment of whole seconds, or of seconds and nanoseconds that a point parts
abbrev pub time_of : List ℕ → Option (List ℕ × List ℕ) → Option ℕ
time_of text None = option_and_then (λ seconds. moment_at seconds 0) (seconds_in text)
time_of text (Some parts) =
    option_and_then (λ seconds. option_and_then (moment_at seconds) (nanoseconds_in parts.1)) (seconds_in parts.0)

-- the time that a text is, in units since the beginning of the timescale
abbrev pub time_in : List ℕ → Option ℕ
time_in text = time_of text (parted 46 text)

-- the text is whole seconds below 2^48 and at most 9 decimals, which make exactly this time
pub record TellsExactly (text : List ℕ) (time : ℕ) : Type 0 where
  pub seconds : ℕ
  pub fraction : List ℕ
  pub spelled : text ≡ decimal seconds ++ pointed fraction
  pub below : seconds < 2 ^ 48
  pub digits : list_all is_ascii_digit fraction ≡ true
  pub at_most : length fraction ≤ 9
  pub exact : time * 10 ^ length fraction
      ≡ (seconds * 10 ^ length fraction + digits_value 10 fraction) * (10 ^ 9 * 2 ^ 16)

-- a digit or a point
abbrev pub is_time_octet : ℕ → Bool
is_time_octet octet = is_ascii_digit octet || octet == 46

-- what a line tells: a time, one blank, and the digits of a datagram, which may be none
abbrev pub timed_in : List ℕ → Option LineParts
timed_in line =
    option_and_then (λ parts. option_map (λ time. line_parts parts.0 time parts.1) (time_in parts.0)) (parted 32 line)
