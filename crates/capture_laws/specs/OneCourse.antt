-- Tasks of which a packet does one thing to a state.
use Rattle.std.specs.Prelude.{◌≡◌, ℕ, List, true, Result, MatchResult, ⊤}
use Rattle.capture_file.specs.declared.fault.CaptureCause.{CaptureCause}
use Rattle.capture_file.specs.declared.fault.CaptureCause.TheVariants.{Read, Memory, Capture, Task}
use Rattle.capture_file.specs.declared.fault.CaptureStop.{CaptureStop}
use Rattle.capture_file.specs.Packet.{PacketOf}
use Rattle.capture_file.specs.Task.{PacketRules}

-- a fault of a device or of memory, by which of the task's faults are
abbrev pub IsOfDevice : {F : Type 0} → (F → Type 0) → CaptureCause F → Type 0
IsOfDevice Device Read = Unit {0}
IsOfDevice Device Memory = Unit {0}
IsOfDevice Device (Capture fault) = ⊥
IsOfDevice Device (Task fault) = Device fault

-- A packet does one thing to a state, and the end gives one answer, but for faults of a device or of memory.
pub record HasOneCourse {S A F : Type 0} (rules : PacketRules S A F) (Device : F → Type 0) : Type 0 where
  pub one_step : (number : ℕ) (packet : PacketOf) (state one other : S) (text text' : List ℕ) → rules.Takes number packet state one text
      → rules.Takes number packet state other text' → (other ≡ one) × (text' ≡ text)
  pub no_fault : (number : ℕ) (packet : PacketOf) (state later : S) (text text' : List ℕ) (fault : F) → (Device fault → ⊥)
      → rules.Takes number packet state later text → rules.Stops number packet state fault text' → ⊥
  pub one_fault : (number : ℕ) (packet : PacketOf) (state : S) (text text' : List ℕ) (one other : F) → (Device one → ⊥) → (Device other → ⊥)
      → rules.Stops number packet state one text → rules.Stops number packet state other text' → (other ≡ one) × (text' ≡ text)
  pub one_end : (packets : ℕ) (state : S) (text text' : List ℕ) (one other : A) → rules.Ends packets state one text → rules.Ends packets state other text'
      → (other ≡ one) × (text' ≡ text)
  pub no_fault_at_end : (packets : ℕ) (state : S) (text text' : List ℕ) (answer : A) (fault : F) → (Device fault → ⊥) → rules.Ends packets state answer text
      → rules.StopsAtEnd state fault text' → ⊥
  pub one_fault_at_end : (state : S) (text text' : List ℕ) (one other : F) → (Device one → ⊥) → (Device other → ⊥) → rules.StopsAtEnd state one text
      → rules.StopsAtEnd state other text' → (other ≡ one) × (text' ≡ text)
  pub writer : (fault : F) → rules.is_of_writer fault ≡ true → Device fault

-- an answer that isn't a fault of a device or of memory
abbrev pub IsSure : {A F : Type 0} → (F → Type 0) → Result A (CaptureStop F) → Type 0
IsSure Device answer = MatchResult answer (λ _. ⊤) (λ stop. IsOfDevice Device stop.what → ⊥)
