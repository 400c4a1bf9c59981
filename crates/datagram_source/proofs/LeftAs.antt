-- What is left of a task says more where its state does.
use Rattle.std.proofs.Common.{ℕ, Bool, true, false, List, Result, Ok, Err}
use Rattle.text_lines.specs.declared.fault.Cause.{Cause}
use Rattle.text_lines.specs.declared.fault.Cause.TheVariants.{Reading, Task}
use Rattle.text_lines.specs.declared.fault.Stopped.{Stopped}
use Rattle.capture_file.specs.declared.fault.CaptureCause.{CaptureCause}
use Rattle.capture_file.specs.declared.fault.CaptureCause.TheVariants as causes
use Rattle.capture_file.specs.declared.fault.CaptureStop.{CaptureStop}
use Rattle.datagram_source.specs.declared.input.InputOutcome.{InputOutcome}
use Rattle.datagram_source.specs.declared.input.InputOutcome.TheVariants.{Lines, Capture}
use Rattle.datagram_source.specs.Rules.{DatagramRules}
use Rattle.datagram_source.specs.Left.{SaidIf, LeavesBefore, LeavesUntil, LeavesLines, LeavesPacketsBefore, LeavesPacketsUntil}
use Rattle.datagram_source.specs.Left.{LeavesCapture, LeavesInput}

said_as : (b : Bool) (one other : Type 0) → (one → other) → SaidIf b one → SaidIf b other
said_as true one other also said = also said
said_as false one other also said = tt

module _ {S F : Type 0} (rules : DatagramRules S F) (start : S) (octets : List ℕ) (One Other : S → Type 0)
    (also : (s : S) → One s → Other s)
  where
    before_as : (line : ℕ) → LeavesBefore rules start octets line One → LeavesBefore rules start octets line Other
    before_as line (earlier, numbered, read, text, taken, is) = (earlier, numbered, read, text, taken, also read.state is)

    until_as : (line : ℕ) (what : Cause F) → LeavesUntil rules start octets line what One → LeavesUntil rules start octets line what Other
    until_as line (Reading fault) left = before_as line left
    until_as line (Task fault) left = said_as (rules.keeps fault) _ _ (before_as line) left

    lines_as : (answer : Result ℕ (Stopped (Cause F))) → LeavesLines rules start octets answer One → LeavesLines rules start octets answer Other
    lines_as (Ok count) (read, text, taken, ended, last, ends, is) = (read, text, taken, ended, last, ends, also ended is)
    lines_as (Err stop) left = until_as stop.line stop.what left

    packets_before_as : (packets : ℕ) → LeavesPacketsBefore rules start octets packets One
        → LeavesPacketsBefore rules start octets packets Other
    packets_before_as packets (parts, rest, state, text, taken, numbered, is) = (parts, rest, state, text, taken, numbered, also state is)

    packets_until_as : (packets : ℕ) (what : CaptureCause F) → LeavesPacketsUntil rules start octets packets what One
        → LeavesPacketsUntil rules start octets packets what Other
    packets_until_as packets (causes.Task fault) left = said_as (rules.keeps fault) _ _ (packets_before_as packets) left
    packets_until_as packets causes.Read left = packets_before_as packets left
    packets_until_as packets causes.Memory left = packets_before_as packets left
    packets_until_as packets (causes.Capture fault) left = packets_before_as packets left

    capture_as : (answer : Result ℕ (CaptureStop F)) → LeavesCapture rules start octets answer One
        → LeavesCapture rules start octets answer Other
    capture_as (Ok count) (parts, state, text, taken, ended, last, ends, is) = (parts, state, text, taken, ended, last, ends, also ended is)
    capture_as (Err stop) left = packets_until_as stop.packets stop.what left

    pub left_as : (outcome : InputOutcome F) → LeavesInput rules start octets outcome One → LeavesInput rules start octets outcome Other
    left_as (Lines answer) left = lines_as answer left
    left_as (Capture answer) left = capture_as answer left
