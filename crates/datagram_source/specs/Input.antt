-- What is made of an input: lines, or a capture, which its first octets tell: one, or four where a magic begins with the
-- first.
use Rattle.std.specs.Prelude.{◌≡◌, ◌≢◌, ◌⊎◌, ℕ, ◌<◌, List, [], ◌++◌, length, drop, Option, Some, Result, Err, MatchResult}
use Rattle.std.specs.Option.{ForSome}
use Rattle.std.specs.Io.KnownBytes.{Appends}
use Rattle.text_lines.specs.declared.counted.Counted.{Counted}
use Rattle.text_lines.specs.declared.fault.Cause.{Cause}
use Rattle.text_lines.specs.declared.fault.Cause.TheVariants.{Reading, Task}
use Rattle.text_lines.specs.declared.fault.ReadingFault.TheVariants.{Read}
use Rattle.text_lines.specs.declared.fault.Stopped.{Stopped}
use Rattle.text_lines.specs.declared.line_fault.LineFault.TheVariants.{Write, Field}
use Rattle.text_lines.specs.Counted.{device_of, HasFailed, HasNotFailed}
use Rattle.text_lines.specs.Lines.{lfs_in}
use Rattle.text_lines.specs.Task as lines
use Rattle.capture_file.specs.declared.fault.CaptureStop.{CaptureStop}
use Rattle.capture_file.specs.Beginning.{enough, start_of}
use Rattle.capture_file.specs.Task as packets
use Rattle.capture_file.specs.Wrong.{HasMagic, HasNoMagic}
use Rattle.datagram_source.specs.declared.input.InputOutcome.{InputOutcome}
use Rattle.datagram_source.specs.declared.input.InputOutcome.TheVariants.{Lines, Capture}
use Rattle.datagram_source.specs.Rules.{DatagramRules, nothing_read, line_rules, packet_rules}

-- what an answer over the octets of lines says: the head went out, and then what the lines bring
abbrev pub AnswersLines : {S F : Type 0} → DatagramRules S F → (head : List ℕ) → (start : S) → List ℕ
    → (left before after : Option (List ℕ)) → Result ℕ (Stopped (Cause F)) → Type 0
AnswersLines rules head start octets left before after answer =
    (headed : Option (List ℕ)) × Appends before headed head
    × lines.Answers (line_rules rules) (nothing_read start) octets left headed after answer

-- what an answer over the octets of a capture says: the head went out, and then what the packets bring
abbrev pub AnswersCapture : {S F : Type 0} → DatagramRules S F → (head : List ℕ) → (start : S) → List ℕ
    → (left before after : Option (List ℕ)) → Result ℕ (CaptureStop F) → Type 0
AnswersCapture rules head start octets left before after answer =
    (headed : Option (List ℕ)) × Appends before headed head
    × packets.Answers (packet_rules rules) start octets left headed after answer

-- the head went out, and the first line stops it for this; this is left
pub record StopsEarly {F : Type 0} (head : List ℕ) (left before after : Option (List ℕ)) (unread : List ℕ)
    (what : Cause F) (answer : Result ℕ (Stopped (Cause F))) : Type 0 where
  pub stopped : answer ≡ Err (record { line = 1; what = what })
  pub went : Appends before after head
  pub input : left ≡ Some unread

-- the reader failed within the first four octets
abbrev pub FailsAhead : {F : Type 0} → (head octets : List ℕ) → (left before after : Option (List ℕ))
    → Result ℕ (Stopped (Cause F)) → Type 0
FailsAhead head octets left before after answer =
    (seen : List ℕ) × (unread : List ℕ) × (octets ≡ seen ++ unread) × (length seen < 4)
    × StopsEarly head left before after unread (Reading Read) answer

-- An LF is among the four octets that tell which it is, as a magic begins with the first. Then the first line is refused, since no
-- time begins so, and a tap, a time and a datagram are more octets; of the octets behind it up to three were read.
abbrev pub HasShortLine : {S F : Type 0} → DatagramRules S F → (head octets : List ℕ) → (left before after : Option (List ℕ))
    → Result ℕ (Stopped (Cause F)) → Type 0
HasShortLine rules head octets left before after answer =
    (0 < lfs_in (start_of octets))
    × StopsEarly head left before after (drop (enough octets) octets) (Task (rules.fault_of Field)) answer

-- what came of octets
abbrev pub IsOutcome : {S F : Type 0} → DatagramRules S F → (head : List ℕ) → (start : S) → List ℕ
    → (left before after : Option (List ℕ)) → InputOutcome F → Type 0
IsOutcome rules head start octets left before after (Lines answer) =
    FailsAhead head octets left before after answer
    ⊎ (HasNoMagic (start_of octets)
    × (AnswersLines rules head start octets left before after answer
    ⊎ HasShortLine rules head octets left before after answer))
IsOutcome rules head start octets left before after (Capture answer) =
    HasMagic (start_of octets) × AnswersCapture rules head start octets left before after answer

-- the head couldn't be written, and nothing was read
pub record HasNoHead {S F R W : Type 0} (rules : DatagramRules S F) (head : List ℕ) (outcome : InputOutcome F)
    (input input' : Counted R) (output output' : Counted W) : Type 0 where
  pub some : head ≢ []
  pub stopped : outcome ≡ Lines (Err (record { line = 0; what = Task (rules.fault_of Write) }))
  pub unread : input' ≡ input
  pub failed : HasFailed output output'

-- what an outcome says where the reader tells its octets, and where the writer does
abbrev pub AnswersInput : {S F R W : Type 0} → DatagramRules S F → (head : List ℕ) → (start : S) → (R → Option (List ℕ))
    → (W → Option (List ℕ)) → InputOutcome F → (input input' : Counted R) (output output' : Counted W) → Type 0
AnswersInput rules head start remaining contents outcome input input' output output' =
    HasNoHead rules head outcome input input' output output'
    ⊎ ForSome (remaining (device_of input)) (λ octets.
    IsOutcome rules head start octets (remaining (device_of input')) (contents (device_of output)) (contents (device_of output'))
    outcome)

-- which of the two devices failed at this outcome
abbrev pub OutcomeFailed : {S F R W : Type 0} → DatagramRules S F → InputOutcome F → (input input' : Counted R)
    (output output' : Counted W) → Type 0
OutcomeFailed rules (Lines answer) input input' output output' = MatchResult answer
    (λ _. HasNotFailed input input' × HasNotFailed output output')
    (λ stop. lines.FailedAt (line_rules rules) stop.what input input' output output')
OutcomeFailed rules (Capture answer) input input' output output' = MatchResult answer
    (λ _. HasNotFailed input input' × HasNotFailed output output')
    (λ stop. packets.FailedAt (packet_rules rules) stop.what input input' output output')
