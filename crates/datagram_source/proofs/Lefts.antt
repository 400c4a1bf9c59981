-- What is left of a task, by what the loops over lines and packets leave.
use Rattle.std.proofs.Common.{◌≡◌, ℕ, ◌+◌, Bool, true, false, List, [], length, take, Result, Ok, Err, refl}
use Rattle.text_lines.specs.declared.fault.Cause.{Cause}
use Rattle.text_lines.specs.declared.fault.Cause.TheVariants.{Reading, Task}
use Rattle.text_lines.specs.declared.fault.Stopped.{Stopped}
use Rattle.text_lines.specs.Lines.{lines_of}
use Rattle.text_lines.specs.Task as lines
use Rattle.capture_file.specs.declared.fault.CaptureCause.{CaptureCause}
use Rattle.capture_file.specs.declared.fault.CaptureCause.TheVariants as causes
use Rattle.capture_file.specs.declared.fault.CaptureStop.{CaptureStop}
use Rattle.capture_file.specs.Parts.{Part, packets_of}
use Rattle.capture_file.specs.Task as packets
use Rattle.datagram_source.specs.declared.input.InputOutcome.{InputOutcome}
use Rattle.datagram_source.specs.declared.input.InputOutcome.TheVariants.{Lines}
use Rattle.datagram_source.specs.Rules.{DatagramRules, LinesRead, nothing_read, line_rules, packet_rules}
use Rattle.datagram_source.specs.Left.{SaidIf, LeavesUntil, LeavesLines, LeavesPacketsUntil, LeavesCapture, LeavesInput}
use Rattle.datagram_source.specs.Inner.Outcomes.{IsKept, IsEnded}

said_if : (b : Bool) (said : Type 0) → (b ≡ true → said) → SaidIf b said
said_if true said is = is refl
said_if false said is = tt

unsaid : (b : Bool) (said : Type 0) → b ≡ false → SaidIf b said
unsaid true said is = absurd cc
unsaid false said is = tt

-- so many lines were read, and their task is in this state
abbrev pub AreLines : {S T L : Type 0} → (T → S → Type 0) → (task : L → T) → (count : L → ℕ) → L → LinesRead S → Type 0
AreLines is_at task count source r = (count source ≡ r.count) × is_at (task source) r.state

-- ---- lines
module _ {S F T L : Type 0} (rules : DatagramRules S F) (is_at : T → S → Type 0) (task : L → T) (count : L → ℕ) (start : S)
    (octets : List ℕ) (source : L)
  where
    lines_until : (earlier line : ℕ) (what : Cause F) (read : LinesRead S) (text : List ℕ) → line ≡ earlier + 1
        → lines.TakesLines (line_rules rules) 1 (take earlier (lines_of octets)) (nothing_read start) read text
        → lines.IsLeftAt (AreLines is_at task count) (λ old new fault. IsKept rules is_at (task old) (task new) fault) read source what
        → LeavesUntil rules start octets line what (is_at (task source))
    lines_until earlier line (Reading fault) read text numbered taken at = (earlier, numbered, read, text, taken, at.1)
    lines_until earlier line (Task fault) read text numbered taken (before, at, kept) =
        said_if (rules.keeps fault) _ (λ keeps. (earlier, numbered, read, text, taken, kept keeps read.state at.1))

    pub lines_left : (answer : Result ℕ (Stopped (Cause F)))
        → lines.LeavesTask (line_rules rules) (AreLines is_at task count)
        (λ old new fault. IsKept rules is_at (task old) (task new) fault) (λ old new. IsEnded rules is_at (task old) (task new))
        (nothing_read start) octets source answer → LeavesLines rules start octets answer (is_at (task source))
    lines_left (Ok done) (read, text, taken, before, at, ends) =
        let (ended, last, is, there) = ends read.state at.1 in (read, text, taken, ended, last, is, there)
    lines_left (Err stop) (earlier, numbered, read, text, taken, left) =
        lines_until earlier stop.line stop.what read text numbered taken left

-- ---- packets
module _ {S F T L : Type 0} (rules : DatagramRules S F) (is_at : T → S → Type 0) (task : L → T) (start : S) (octets : List ℕ)
    (source : L)
  where
    packets_until : (count : ℕ) (what : CaptureCause F) (parts : List Part) (rest : List ℕ) (state : S) (text : List ℕ)
        → packets.HasTaken (packet_rules rules) start octets parts rest state text → count ≡ length (packets_of parts)
        → packets.IsLeftAt (λ l. is_at (task l)) (λ old new fault. IsKept rules is_at (task old) (task new) fault) state source what
        → LeavesPacketsUntil rules start octets count what (is_at (task source))
    packets_until count causes.Read parts rest state text has numbered at = (parts, rest, state, text, has, numbered, at)
    packets_until count causes.Memory parts rest state text has numbered at = (parts, rest, state, text, has, numbered, at)
    packets_until count (causes.Capture fault) parts rest state text has numbered at = (parts, rest, state, text, has, numbered, at)
    packets_until count (causes.Task fault) parts rest state text has numbered (before, at, kept) =
        said_if (rules.keeps fault) _ (λ keeps. (parts, rest, state, text, has, numbered, kept keeps state at))

    pub packets_left : (answer : Result ℕ (CaptureStop F))
        → packets.LeavesTask (packet_rules rules) (λ l. is_at (task l))
        (λ old new fault. IsKept rules is_at (task old) (task new) fault) (λ old new. IsEnded rules is_at (task old) (task new))
        start octets source answer → LeavesCapture rules start octets answer (is_at (task source))
    packets_left (Ok done) (parts, state, text, has, before, at, ends) =
        let (ended, last, is, there) = ends state at in (parts, state, text, has, ended, last, is, there)
    packets_left (Err stop) (parts, rest, state, text, has, numbered, left) =
        packets_until stop.packets stop.what parts rest state text has numbered left

-- ---- where nothing was given
module _ {S F : Type 0} (rules : DatagramRules S F) (start : S) (octets : List ℕ) (outcome : InputOutcome F) (Is : S → Type 0) where
  -- of the first line
  pub none_left : (what : Cause F) → outcome ≡ Lines (Err (record { line = 1; what = what })) → Is start
      → LeavesInput rules start octets outcome Is
  none_left (Reading fault) is at = rw is (0, refl, nothing_read start, [], (refl, refl), at)
  none_left (Task fault) is at = rw is (said_if (rules.keeps fault) _ (λ keeps. (0, refl, nothing_read start, [], (refl, refl), at)))

  -- nor a head
  pub no_head_left : (fault : F) → outcome ≡ Lines (Err (record { line = 0; what = Task fault })) → rules.keeps fault ≡ false
      → LeavesInput rules start octets outcome Is
  no_head_left fault is unkept = rw is (unsaid (rules.keeps fault) _ unkept)
