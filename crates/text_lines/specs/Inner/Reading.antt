-- What reading a line answers.
use Rattle.std.specs.Prelude.{◌≡◌, ◌≢◌, ℕ, ◌+◌, List, [], ◌∷◌, ◌++◌, All, length, take, Bool, true, false, Option, Some, None}
use Rattle.std.specs.Io.KnownBytes.{Consumes, IsAtEnd}
use Rattle.text_lines.specs.declared.fault.ReadingFault.{ReadingFault}
use Rattle.text_lines.specs.declared.fault.ReadingFault.TheVariants.{Read}
use Rattle.text_lines.specs.declared.counted.octets.LinePart.{LinePart}
use Rattle.text_lines.specs.declared.counted.octets.Stop.{Stop}
use Rattle.text_lines.specs.declared.counted.octets.Stop.TheVariants.{LineFeed, End, TooLong, Failed}
use Rattle.text_lines.specs.Lines.{LeavesUnread, after_lines, lfs_in, line_limit, lines_of, reading_fault}

-- no octet is an LF
abbrev pub IsUnended : List ℕ → Type 0
IsUnended front = All (λ x. x ≢ 10) front

-- the octets of a line were read, and what stopped that
abbrev pub StopsAt : Stop → (before after : Option (List ℕ)) → List ℕ → Type 0
StopsAt LineFeed before after line = Consumes before after (line ++ 10 ∷ [])
StopsAt End before after line = Consumes before after line × IsAtEnd after
StopsAt TooLong before after line =
    (x : ℕ) × (x ≢ 10) × (length line ≡ line_limit) × Consumes before after (line ++ x ∷ [])
StopsAt Failed before after line = Consumes before after line

-- the octets of a part of a line
abbrev pub octets_of_part : LinePart → List ℕ
octets_of_part part = take part.size part.octets

-- the octets of a part were read of a line that may have so many more, and what stopped that
abbrev pub StopsPartAt : ℕ → Stop → (before after : Option (List ℕ)) → List ℕ → Type 0
StopsPartAt left TooLong before after part =
    (x : ℕ) × (x ≢ 10) × (length part ≡ left) × Consumes before after (part ++ x ∷ [])
StopsPartAt left stop before after part = StopsAt stop before after part

-- how many octets were read
abbrev pub count_read : Stop → List ℕ → ℕ
count_read LineFeed line = length line + 1
count_read End line = length line
count_read TooLong line = length line + 1
count_read Failed line = length line

-- whether the reader failed
abbrev pub is_failure : Stop → Bool
is_failure LineFeed = false
is_failure End = false
is_failure TooLong = false
is_failure Failed = true

-- a fault in reading the line of this number, with which these octets begin, and what it leaves unread
abbrev pub StopsReading : ReadingFault → (limit number : ℕ) → List ℕ → Option (List ℕ) → Type 0
StopsReading Read limit number octets left = LeavesUnread Read limit number octets left
StopsReading kind limit number octets left =
    (line : List ℕ) × (others : List (List ℕ)) × (lines_of octets ≡ line ∷ others)
    × (reading_fault limit number line ≡ Some kind) × LeavesUnread kind limit number octets left

-- a line of this number was read where there was one, and nothing at the end of the input; a line after which the end
-- was not seen has its LF
abbrev pub ReadsLine : Bool → (limit number : ℕ) → List ℕ → Bool → List ℕ → Option (List ℕ) → Type 0
ReadsLine true limit number line ended octets left =
    (lines_of octets ≡ line ∷ lines_of (after_lines 1 octets)) × (reading_fault limit number line ≡ None)
    × (left ≡ Some (after_lines 1 octets)) × (ended ≡ false → lfs_in octets ≡ lfs_in (after_lines 1 octets) + 1)
ReadsLine false limit number line ended octets left = (octets ≡ []) × (left ≡ Some [])
