-- Times and values, with their lines or packets, in words.
use Rattle.std.specs.Prelude.{ℕ, ◌/◌, ◌%◌, false, List, ◌++◌, codes}
use Rattle.std.specs.Fmt.{decimal}
use Rattle.ptp_units.specs.Nanoseconds.{nanoseconds_text}
use Rattle.rounded_text.specs.Rounded.{thousandths_text}
use Rattle.statistics.specs.declared.series.Point.{Point}
use Rattle.recording_words.specs.declared.unit.InputUnit.{InputUnit}
use Rattle.recording_words.specs.Unit.{unit_name}

-- units of 2^-16 ns in seconds with three decimals, rounded down
unfoldable pub seconds_text : (units : ℕ) → List ℕ
seconds_text units = thousandths_text (record { is_negative = false; size = units / 65536000000 }) ++ codes " s"

-- a number of tenths with one decimal
unfoldable pub tenths_text : ℕ → List ℕ
tenths_text n = decimal (n / 10) ++ codes "." ++ decimal (n % 10)

-- a line or packet, by its number
unfoldable pub place_text : InputUnit → (number : ℕ) → List ℕ
place_text unit number = codes "at " ++ unit_name unit ++ codes " " ++ decimal number

-- a value in 2^-17 ns, exactly, and of which line or packet it is
unfoldable pub value_text : InputUnit → Point → List ℕ
value_text unit p = nanoseconds_text p.value ++ codes " ns " ++ place_text unit p.line
