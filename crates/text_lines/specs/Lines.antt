-- How an input is cut into lines, and what reading one of them answers.
use Rattle.std.specs.Prelude.{◌≡◌, ◌≢◌, ℕ, zero, suc, ◌+◌, ◌*◌, ◌≤◌, nat_lt, List, [], ◌∷◌, length, take, drop}
use Rattle.std.specs.Prelude.{count_by, All, ◌==◌, if◌then◌else◌, Option, Some, None, Result, Ok, ⊤}
use Rattle.std.specs.Option.{ForSome}
use Rattle.std.specs.Io.BufRead.{drop_through, strip_last}
use Rattle.text_lines.specs.declared.counted.Counted.{Counted}
use Rattle.text_lines.specs.declared.fault.ReadingFault.{ReadingFault}
use Rattle.text_lines.specs.declared.fault.ReadingFault.TheVariants.{Read, LineTooLong, TooManyLines}
use Rattle.text_lines.specs.Counted.{device_of, HasFailed, HasNotFailed, HasGiven}

-- an octet in front of the first line
abbrev pub begin_line : ℕ → List (List ℕ) → List (List ℕ)
begin_line x [] = (x ∷ []) ∷ []
begin_line x (line ∷ lines) = (x ∷ line) ∷ lines

-- the lines without their LFs; an input that ends in an LF has no line after it
abbrev pub lines_of : List ℕ → List (List ℕ)
lines_of [] = []
lines_of (x ∷ rest) = if x == 10 then [] ∷ lines_of rest else begin_line x (lines_of rest)

-- how many LFs there are
abbrev pub lfs_in : List ℕ → ℕ
lfs_in octets = count_by (λ x. x == 10) octets

-- what is left of the octets after this many lines and their LFs
abbrev pub after_lines : ℕ → List ℕ → List ℕ
after_lines zero octets = octets
after_lines (suc count) octets = after_lines count (drop_through 10 octets)

-- a line without the CR at its end
abbrev pub without_cr : List ℕ → List ℕ
without_cr line = strip_last 13 line

-- the most octets of a line without its LF
abbrev pub line_limit : ℕ
line_limit = 4096

-- the most lines of an input, but of a recording, which has no such limit
abbrev pub lines_limit : ℕ
lines_limit = 1048576

-- the fault in reading the line of this number, counted from 1, of at most so many lines: too many lines comes before
-- too long a line
abbrev pub reading_fault : (limit number : ℕ) → List ℕ → Option ReadingFault
reading_fault limit number line =
    if nat_lt limit number then Some TooManyLines
    else if nat_lt line_limit (length line) then Some LineTooLong
    else None

-- lines without a fault, of which the first has this number, are read as these entries in turn
abbrev pub AreRead : {E F : Type 0} → (List ℕ → Result E F) → (limit number : ℕ) → List (List ℕ) → List E → Type 0
AreRead read limit number [] [] = ⊤
AreRead read limit number [] (entry ∷ others) = ⊥
AreRead read limit number (line ∷ lines) [] = ⊥
AreRead read limit number (line ∷ lines) (entry ∷ others) =
    (reading_fault limit number line ≡ None) × (read (without_cr line) ≡ Ok entry)
    × AreRead read limit (number + 1) lines others

-- the most octets of the line of this number: none where no line is allowed any more
abbrev pub room_of : (limit number : ℕ) → ℕ
room_of limit number = if nat_lt limit number then 0 else line_limit

-- What a fault in reading the line of this number leaves unread of the octets from that line's first on. A reader fails
-- within a line; the two limits are seen at the first octet after them.
abbrev pub LeavesUnread : ReadingFault → (limit number : ℕ) → List ℕ → Option (List ℕ) → Type 0
LeavesUnread Read limit number octets left =
    (count : ℕ) × (count ≤ room_of limit number) × All (λ x. x ≢ 10) (take count octets)
    × (left ≡ Some (drop count octets))
LeavesUnread LineTooLong limit number octets left = left ≡ Some (drop (line_limit + 1) octets)
LeavesUnread TooManyLines limit number octets left = left ≡ Some (drop 1 octets)

-- At most this many octets more were given, and so many were counted; where the reader tells its octets, these are
-- gone.
pub record GivesWithin {R : Type 0} (remaining : R → Option (List ℕ)) (limit : ℕ) (old new : Counted R) : Type 0 where
  pub given : ℕ
  pub within : given ≤ limit
  pub counted : HasGiven given old new
  pub gone : ForSome (remaining (device_of old)) (λ octets. remaining (device_of new) ≡ Some (drop given octets))

-- the most octets that are read of at most so many lines: each line, with its LF, and one octet more
abbrev pub input_limit : ℕ → ℕ
input_limit limit = limit * (line_limit + 1) + 1

-- whether the reader failed at this fault
abbrev pub IsFromReading : {R : Type 0} → ReadingFault → Counted R → Counted R → Type 0
IsFromReading Read old new = HasFailed old new
IsFromReading LineTooLong old new = HasNotFailed old new
IsFromReading TooManyLines old new = HasNotFailed old new
