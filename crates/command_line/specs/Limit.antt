-- Nanoseconds that are written as a time is.
use Rattle.std.specs.Prelude.{ℕ, nat_le, List, ◌++◌, ◌==◌, length, codes, Option, Some, None, option_and_then, if◌then◌else◌}
use Rattle.recording_lines.specs.Timed.{LineParts, timed_in}

-- the time that a line tells which has no digits behind its blank
abbrev pub time_alone : LineParts → Option ℕ
time_alone parts = if length parts.digits == 0 then Some parts.time else None

-- the time that a text is, of which no text is longer: so many seconds as it says nanoseconds
abbrev pub limit_of : List ℕ → Option ℕ
limit_of text = if nat_le (length text) 25 then option_and_then time_alone (timed_in (text ++ codes " ")) else None
