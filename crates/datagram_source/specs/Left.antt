-- What is left of a task: of which lines and packets its state is.
use Rattle.std.specs.Prelude.{◌≡◌, ℕ, ◌+◌, ⊤, List, [], length, take, Bool, true, false, Result, Ok, Err}
use Rattle.text_lines.specs.declared.fault.Cause.{Cause}
use Rattle.text_lines.specs.declared.fault.Cause.TheVariants.{Reading, Task}
use Rattle.text_lines.specs.declared.fault.Stopped.{Stopped}
use Rattle.text_lines.specs.Lines.{lines_of}
use Rattle.text_lines.specs.Task.{TakesLines}
use Rattle.capture_file.specs.declared.fault.CaptureCause.{CaptureCause}
use Rattle.capture_file.specs.declared.fault.CaptureCause.TheVariants as causes
use Rattle.capture_file.specs.declared.fault.CaptureStop.{CaptureStop}
use Rattle.capture_file.specs.Parts.{Part, packets_of}
use Rattle.capture_file.specs.Task.{HasTaken}
use Rattle.datagram_source.specs.declared.input.InputOutcome.{InputOutcome}
use Rattle.datagram_source.specs.declared.input.InputOutcome.TheVariants.{Lines, Capture}
use Rattle.datagram_source.specs.Rules.{DatagramRules, LinesRead, nothing_read, line_rules, packet_rules}

-- what is said only of a fault that leaves the task in its state
abbrev pub SaidIf : Bool → Type 0 → Type 0
SaidIf true said = said
SaidIf false said = ⊤

-- ---- lines
-- the lines before this one take a task to a state that is so
abbrev pub LeavesBefore : {S F : Type 0} → DatagramRules S F → (start : S) → List ℕ → (line : ℕ) → (S → Type 0) → Type 0
LeavesBefore {S} rules start octets line Is =
    (earlier : ℕ) × (line ≡ earlier + 1) × (read : LinesRead S) × (text : List ℕ)
    × TakesLines (line_rules rules) 1 (take earlier (lines_of octets)) (nothing_read start) read text × Is read.state

-- The lines before a fault do: before one in reading, or one that leaves the task in its state.
abbrev pub LeavesUntil : {S F : Type 0} → DatagramRules S F → (start : S) → List ℕ → (line : ℕ) → Cause F → (S → Type 0) → Type 0
LeavesUntil rules start octets line (Reading fault) Is = LeavesBefore rules start octets line Is
LeavesUntil rules start octets line (Task fault) Is = SaidIf (rules.keeps fault) (LeavesBefore rules start octets line Is)

-- all lines and the end do, or the lines before a fault
abbrev pub LeavesLines : {S F : Type 0} → DatagramRules S F → (start : S) → List ℕ → Result ℕ (Stopped (Cause F)) → (S → Type 0)
    → Type 0
LeavesLines {S} rules start octets (Ok count) Is =
    (read : LinesRead S) × (text : List ℕ)
    × TakesLines (line_rules rules) 1 (lines_of octets) (nothing_read start) read text
    × (ended : S) × (last : List ℕ) × rules.Ends read.state ended last × Is ended
LeavesLines rules start octets (Err stop) Is = LeavesUntil rules start octets stop.line stop.what Is

-- ---- packets
-- the packets that octets begin with, which are so many, take a task to a state that is so
abbrev pub LeavesPacketsBefore : {S F : Type 0} → DatagramRules S F → (start : S) → List ℕ → (packets : ℕ) → (S → Type 0) → Type 0
LeavesPacketsBefore {S} rules start octets packets Is =
    (parts : List Part) × (rest : List ℕ) × (state : S) × (text : List ℕ)
    × HasTaken (packet_rules rules) start octets parts rest state text
    × (packets ≡ length (packets_of parts)) × Is state

-- The packets before a fault do: before one of reading or of the capture, or one that leaves the task in its state.
abbrev pub LeavesPacketsUntil : {S F : Type 0} → DatagramRules S F → (start : S) → List ℕ → (packets : ℕ) → CaptureCause F
    → (S → Type 0) → Type 0
LeavesPacketsUntil rules start octets packets causes.Read Is = LeavesPacketsBefore rules start octets packets Is
LeavesPacketsUntil rules start octets packets causes.Memory Is = LeavesPacketsBefore rules start octets packets Is
LeavesPacketsUntil rules start octets packets (causes.Capture fault) Is = LeavesPacketsBefore rules start octets packets Is
LeavesPacketsUntil rules start octets packets (causes.Task fault) Is =
    SaidIf (rules.keeps fault) (LeavesPacketsBefore rules start octets packets Is)

-- all packets and the end do, or the packets before a fault
abbrev pub LeavesCapture : {S F : Type 0} → DatagramRules S F → (start : S) → List ℕ → Result ℕ (CaptureStop F) → (S → Type 0)
    → Type 0
LeavesCapture {S} rules start octets (Ok count) Is =
    (parts : List Part) × (state : S) × (text : List ℕ)
    × HasTaken (packet_rules rules) start octets parts [] state text
    × (ended : S) × (last : List ℕ) × rules.Ends state ended last × Is ended
LeavesCapture rules start octets (Err stop) Is = LeavesPacketsUntil rules start octets stop.packets stop.what Is

-- the datagrams of an input, up to its end or a fault, took a task from its start to a state that is so; of a fault that
-- doesn't leave the task in its state nothing is said
abbrev pub LeavesInput : {S F : Type 0} → DatagramRules S F → (start : S) → List ℕ → InputOutcome F → (S → Type 0) → Type 0
LeavesInput rules start octets (Lines answer) Is = LeavesLines rules start octets answer Is
LeavesInput rules start octets (Capture answer) Is = LeavesCapture rules start octets answer Is
