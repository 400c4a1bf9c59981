-- What the options of a subcommand say, by the rows that clap's matches have of them.
use Rattle.std.specs.Prelude.{Bool, false, List, Option, Some, None, ℕ, codes, if◌then◌else◌, option_map}
use Rattle.std.specs.Str.{bytes_eq}
use Rattle.clap.specs.Walk.{Row, first_of}
use Rattle.datagram_source.specs.declared.readings.Readings.{Readings}
use Rattle.datagram_source.specs.declared.readings.Readings.TheVariants.{Own, Captured}

-- whether this text says that an option without a value is used: clap gives it `true`, and else `false`
abbrev pub is_text_used : Option (List ℕ) → Bool
is_text_used None = false
is_text_used (Some text) = bytes_eq text (codes "true")

-- whether an option without a value is used
abbrev pub is_used : List ℕ → List Row → Bool
is_used name rows = is_text_used (first_of name rows)

-- whose readings a text means
abbrev pub readings_of : List ℕ → Option Readings
readings_of text = if bytes_eq text (codes "own") then Some Own else if bytes_eq text (codes "capture") then Some Captured else None

-- what the value of an option says: nothing where it isn't used, else what it writes; none where it writes nothing
abbrev pub said_by : {X : Type 0} → (List ℕ → Option X) → Option (List ℕ) → Option (Option X)
said_by read None = Some None
said_by read (Some text) = option_map (λ said. Some said) (read text)

-- what an option says that has a value
abbrev pub said : {X : Type 0} → (List ℕ → Option X) → List ℕ → List Row → Option (Option X)
said read name rows = said_by read (first_of name rows)
