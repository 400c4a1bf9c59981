-- Values of the sums in JSON: what isn't there is null.
use Rattle.std.specs.Prelude.{ℕ, ◌+◌, ◌-◌, ◌/◌, ◌%◌, nat_lt, ℤ, ◌+ℤ◌, false, if◌then◌else◌}
use Rattle.std.specs.Prelude.{List, [], ◌++◌, codes, Option, Some, None, option_map}
use Rattle.std.specs.Fmt.{decimal, signed_decimal}
use Rattle.std.specs.Int.{saturate_signed, w128}
use Rattle.datagram_text.specs.Shown.{identity_text, nine_digits}
use Rattle.event_codec.specs.declared.port.PortIdentity.{PortIdentity}
use Rattle.ptp_units.specs.Nanoseconds.{nanoseconds_text}
use Rattle.rounded_text.specs.Rounded.{thousandths_text}
use Rattle.recording_summary.specs.declared.whom.Known.{Known}
use Rattle.statistics.specs.declared.rounded.Signed.{Signed}
use Rattle.statistics.specs.declared.series.Point.{Point}
use Rattle.statistics.specs.declared.series.Spread.{Spread}

-- a text in quotes
abbrev pub quoted : List ℕ → List ℕ
quoted text = codes "\"" ++ (text ++ codes "\"")

-- a value in 2^-17 ns in nanoseconds, with all its decimals
unfoldable pub value_or_null : Option Point → List ℕ
value_or_null None = codes "null"
value_or_null (Some p) = quoted (nanoseconds_text p.value)

-- the line or packet of a value
unfoldable pub line_or_null : Option Point → List ℕ
line_or_null None = codes "null"
line_or_null (Some p) = decimal p.line

-- thousandths of a nanosecond
unfoldable pub thousandths_or_null : Option Signed → List ℕ
thousandths_or_null None = codes "null"
thousandths_or_null (Some value) = quoted (thousandths_text value)

-- the same of a number that is never below 0
unfoldable pub size_or_null : Option ℕ → List ℕ
size_or_null None = codes "null"
size_or_null (Some n) = quoted (thousandths_text (record { is_negative = false; size = n }))

-- a logMessageInterval
unfoldable pub log_or_null : Option ℤ → List ℕ
log_or_null None = codes "null"
log_or_null (Some log) = signed_decimal log

-- a port
unfoldable pub port_or_null : Option (Known PortIdentity) → List ℕ
port_or_null None = codes "null"
port_or_null (Some known) = quoted (identity_text known.value)

-- a domain
unfoldable pub domain_or_null : Option (Known ℕ) → List ℕ
domain_or_null None = codes "null"
domain_or_null (Some known) = decimal known.value

-- the least and the greatest of values in 2^-17 ns, and their lines or packets, as members
unfoldable pub ends_text : (least greatest : Option Point) → List ℕ
ends_text least greatest =
    codes "\"greatest\":" ++ (value_or_null greatest ++ (codes ",\"greatest_line\":" ++ (line_or_null greatest
    ++ (codes ",\"least\":" ++ (value_or_null least ++ (codes ",\"least_line\":" ++ line_or_null least))))))

-- a value in 2^-16 ns as one in 2^-17 ns, which stays within 128 bits
abbrev pub doubled : Point → Point
doubled p = record { line = p.line; time = p.time; value = saturate_signed w128 (p.value +ℤ p.value) }

-- the least and the greatest of values in 2^-16 ns, as an object
unfoldable pub spread_text : Spread → List ℕ
spread_text s = codes "{" ++ (ends_text (option_map doubled s.least) (option_map doubled s.greatest) ++ codes "}")

-- how far two times in 2^-16 ns are apart
abbrev pub apart : ℕ → ℕ → ℕ
apart a b = (a - b) + (b - a)

-- units of 2^-16 ns in seconds with nine decimals, rounded down
unfoldable pub seconds_text : (units : ℕ) → List ℕ
seconds_text units = decimal (units / 65536000000000) ++ (codes "." ++ nine_digits (units % 65536000000000 / 65536))

-- a sign where the last time is before the first
abbrev pub sign_text : (first last : ℕ) → List ℕ
sign_text first last = if nat_lt last first then codes "-" else []

-- from the first time to the last
unfoldable pub length_text : (first last : ℕ) → List ℕ
length_text first last = sign_text first last ++ seconds_text (apart last first)

-- how long a recording is
unfoldable pub length_or_null : (first last : Option ℕ) → List ℕ
length_or_null None last = codes "null"
length_or_null (Some first) None = codes "null"
length_or_null (Some first) (Some last) = quoted (length_text first last)
