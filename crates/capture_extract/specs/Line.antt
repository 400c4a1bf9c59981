-- The line of a datagram.
use Rattle.std.specs.Prelude.{ℕ, List, [], ◌∷◌, ◌++◌, codes}
use Rattle.hex.specs.Hex.{encode_lower}
use Rattle.capture_extract.specs.declared.line.ExtractForm.{ExtractForm}
use Rattle.capture_extract.specs.declared.line.ExtractForm.TheVariants.{Octets, Timed}

-- the octets of a datagram in lower case hexadecimal, and where it is asked for the text of its time before them
abbrev pub line_of : ExtractForm → (time : List ℕ) → List ℕ → List ℕ
line_of Octets time datagram = encode_lower datagram
line_of Timed time datagram = time ++ codes " " ++ encode_lower datagram

-- the line with its LF
abbrev pub line_text : ExtractForm → (time : List ℕ) → List ℕ → List ℕ
line_text form time datagram = line_of form time datagram ++ 10 ∷ []
