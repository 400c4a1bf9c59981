-- What an outcome says after the head went out, and what is left of a task then.
use Rattle.std.specs.Prelude.{◌≡◌, ℕ, List, true, Option}
use Rattle.text_lines.specs.Task as lines
use Rattle.capture_file.specs.Task as packets
use Rattle.datagram_source.specs.declared.input.InputOutcome.{InputOutcome}
use Rattle.datagram_source.specs.declared.input.InputOutcome.TheVariants.{Lines, Capture}
use Rattle.datagram_source.specs.Rules.{DatagramRules, nothing_read, line_rules, packet_rules}
use Rattle.datagram_source.specs.Left.{LeavesLines, LeavesCapture}

-- a fault that leaves a task in its state did
abbrev pub IsKept : {S F T : Type 0} → DatagramRules S F → (T → S → Type 0) → (old new : T) → F → Type 0
IsKept {S} rules is_at old new what = rules.keeps what ≡ true → (state : S) → is_at old state → is_at new state

-- the end took a task to a state, whatever it was in
abbrev pub IsEnded : {S F T : Type 0} → DatagramRules S F → (T → S → Type 0) → (old new : T) → Type 0
IsEnded {S} rules is_at old new = (state : S) → is_at old state
    → (ended : S) × (last : List ℕ) × rules.Ends state ended last × is_at new ended

-- what an outcome says of octets that are lines, or a capture
abbrev pub LinesAnswer : {S F : Type 0} → DatagramRules S F → (start : S) → List ℕ → (left before after : Option (List ℕ))
    → InputOutcome F → Type 0
LinesAnswer rules start octets left before after (Lines answer) =
    lines.Answers (line_rules rules) (nothing_read start) octets left before after answer
LinesAnswer rules start octets left before after (Capture answer) = ⊥

abbrev pub PacketsAnswer : {S F : Type 0} → DatagramRules S F → (start : S) → List ℕ → (left before after : Option (List ℕ))
    → InputOutcome F → Type 0
PacketsAnswer rules start octets left before after (Lines answer) = ⊥
PacketsAnswer rules start octets left before after (Capture answer) =
    packets.Answers (packet_rules rules) start octets left before after answer

-- what is left of a task by octets that are lines, or a capture
abbrev pub LinesLeave : {S F : Type 0} → DatagramRules S F → (start : S) → List ℕ → InputOutcome F → (S → Type 0) → Type 0
LinesLeave rules start octets (Lines answer) Is = LeavesLines rules start octets answer Is
LinesLeave rules start octets (Capture answer) Is = ⊥

abbrev pub PacketsLeave : {S F : Type 0} → DatagramRules S F → (start : S) → List ℕ → InputOutcome F → (S → Type 0) → Type 0
PacketsLeave rules start octets (Lines answer) Is = ⊥
PacketsLeave rules start octets (Capture answer) Is = LeavesCapture rules start octets answer Is
