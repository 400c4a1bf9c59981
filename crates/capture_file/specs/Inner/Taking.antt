-- How far a capture was taken.
use Rattle.std.specs.Prelude.{◌≡◌, ℕ, ◌+◌, ◌^◌, ◌<◌, min, List, [], length, Option, Some, None, option_to_list}
use Rattle.std.specs.Io.KnownBytes.{Appends, Consumes}
use Rattle.text_lines.specs.Counted.{greatest_count}
use Rattle.text_lines.specs.Task.{WentOut}
use Rattle.capture_file.specs.declared.fault.CaptureCause.{CaptureCause}
use Rattle.capture_file.specs.declared.fault.CaptureCause.TheVariants.{Read, Memory, Capture, Task}
use Rattle.capture_file.specs.declared.fault.CaptureStop.{CaptureStop}
use Rattle.capture_file.specs.declared.part.PartStop.{PartStop}
use Rattle.capture_file.specs.declared.part.PartStop.TheVariants as stops
use Rattle.capture_file.specs.declared.progress.Progress.{Progress}
use Rattle.capture_file.specs.Packet.{PacketOf}
use Rattle.capture_file.specs.Parts.{Form, Part, AreParts, form_behind, octets_of, packets_of}
use Rattle.capture_file.specs.Task.{PacketRules, TakesPackets}

-- behind a part of so many octets, which may be a packet
pub record IsBehind (progress : Progress) (size : ℕ) (packet : Option PacketOf) (behind : Progress) : Type 0 where
  pub packets : behind.packets ≡ progress.packets + length (option_to_list packet)
  pub octets : behind.octets ≡ progress.octets + size
  pub within : behind.octets < 2 ^ 64

-- what it says that the next part isn't read
abbrev pub StopsIn : {F : Type 0} → Progress → PartStop → CaptureStop F → Type 0
StopsIn progress stops.Read stop = stop ≡ record { packets = progress.packets; octet = progress.octets; what = Read }
StopsIn progress stops.Memory stop = stop ≡ record { packets = progress.packets; octet = progress.octets; what = Memory }
StopsIn progress (stops.Fault fault place) stop = stop ≡ record {
  packets = progress.packets;
  octet = min (progress.octets + place) greatest_count;
  what = Capture fault;
}

-- a part takes a task from a state to another; one that is no packet leaves it as it is
abbrev pub TakesPart : {S A F : Type 0} → PacketRules S A F → (number : ℕ) → Option PacketOf → S → S → List ℕ → Type 0
TakesPart rules number None state later written = (later ≡ state) × (written ≡ [])
TakesPart rules number (Some packet) state later written = rules.Takes number packet state later written

-- by which cause the packet of a part isn't taken
abbrev pub StopsTakingFor : {S A F : Type 0} → PacketRules S A F → Progress → Option PacketOf → S → (before after : Option (List ℕ))
    → CaptureCause F → Type 0
StopsTakingFor rules progress packet state before after Memory = Appends before after []
StopsTakingFor rules progress (Some packet) state before after (Task fault) =
    (written : List ℕ) × rules.Stops (progress.packets + 1) packet state fault written
    × WentOut (rules.is_of_writer fault) (Appends before after written)
StopsTakingFor rules progress packet state before after what = ⊥

-- why the packet of a part isn't taken
abbrev pub StopsTaking : {S A F : Type 0} → PacketRules S A F → Progress → Option PacketOf → S → (before after : Option (List ℕ))
    → CaptureStop F → Type 0
StopsTaking rules progress packet state before after stop =
    (stop.packets ≡ progress.packets) × (stop.octet ≡ progress.octets)
    × StopsTakingFor rules progress packet state before after stop.what

-- So far was a capture taken: what stands before the next part, what was read of the input and what was written.
pub record IsTaken {S A F : Type 0} (rules : PacketRules S A F) (start : S) (form : Form) (progress : Progress)
    (input left before now : Option (List ℕ)) (state : S) : Type 0 where
  pub parts : List Part
  pub are : AreParts parts
  pub form_is : form ≡ form_behind parts
  pub read : Consumes input left (octets_of parts)
  pub packets : progress.packets ≡ length (packets_of parts)
  pub octets : progress.octets ≡ length (octets_of parts)
  pub text : List ℕ
  pub taken : TakesPackets rules start (packets_of parts) state text
  pub wrote : Appends before now text
