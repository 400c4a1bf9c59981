-- What is told of messages that have other octets than ports and clocks write.
use Rattle.std.specs.Prelude.{◌≡◌, ℕ, ◌==◌, Bool, true, false, List, [], ◌++◌, codes, if◌then◌else◌}
use Rattle.std.specs.Fmt.{decimal}
use Rattle.explain_words.specs.Lines.{are_lines}

-- the word for so many messages
abbrev pub messages_text : ℕ → List ℕ
messages_text messages = if messages == 1 then codes "message" else codes "messages"

-- the line that says how many of so many messages have other octets
abbrev pub other_octets_text : (others messages : ℕ) → List ℕ
other_octets_text others messages =
    codes "other octets than a port or a clock writes: " ++ decimal others ++ codes " of " ++ decimal messages
    ++ codes " messages\n"

-- what is told of the messages that have other octets, by whether octets stand against a report: how many they are said to be
-- of how many messages, in front of that lines on fields that are read and behind it lines on where they differ, all of which
-- begin with two blanks; nothing where they don't
abbrev pub TellsMessages : Bool → List ℕ → Type 0
TellsMessages true text =
    (fields : List ℕ) × (others : ℕ) × (messages : ℕ) × (places : List ℕ)
    × (are_lines (codes "  ") fields ≡ true) × (are_lines (codes "  ") places ≡ true)
    × (text ≡ fields ++ (other_octets_text others messages ++ places))
TellsMessages false text = text ≡ []
