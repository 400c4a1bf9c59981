-- What is made of the packets of a capture, by what a task does with each of them, and at the end. Lists of packets and
-- of parts have the newest in front.
use Rattle.std.specs.Prelude.{◌≡◌, ◌≢◌, ◌⊎◌, ℕ, ◌+◌, min, List, [], ◌∷◌, ◌++◌, length, Bool, false, Option, Some, Result}
use Rattle.std.specs.Prelude.{MatchResult}
use Rattle.std.specs.Io.KnownBytes.{Appends}
use Rattle.text_lines.specs.declared.counted.Counted.{Counted}
use Rattle.text_lines.specs.Counted.{greatest_count, HasFailed, HasNotFailed, HasFailedIf}
use Rattle.text_lines.specs.Task.{WentOut}
use Rattle.capture_file.specs.declared.fault.CaptureCause.{CaptureCause}
use Rattle.capture_file.specs.declared.fault.CaptureCause.TheVariants.{Read, Memory, Capture, Task}
use Rattle.capture_file.specs.declared.fault.CaptureStop.{CaptureStop}
use Rattle.capture_file.specs.Packet.{PacketOf}
use Rattle.capture_file.specs.Parts.{Form, Part, AreParts, form_behind, octets_of, packets_of}
use Rattle.capture_file.specs.Wrong.{IsFault}

-- The rules of a task: from which state to which the packet of a number, counted from 1, takes it, with what is
-- written; at which fault one stops it, with what is written before; what it answers after so many packets, at the end,
-- with what is written; at which fault the end stops it; and which of these faults say that the writer failed.
pub record PacketRules (S A F : Type 0) : Type 1 where
  pub Takes : (number : ℕ) → PacketOf → S → S → List ℕ → Type 0
  pub Stops : (number : ℕ) → PacketOf → S → F → List ℕ → Type 0
  pub Ends : (packets : ℕ) → S → A → List ℕ → Type 0
  pub StopsAtEnd : S → F → List ℕ → Type 0
  pub is_of_writer : F → Bool

-- packets take a task from its start to a state
abbrev pub TakesPackets : {S A F : Type 0} → PacketRules S A F → (start : S) → List PacketOf → S → List ℕ → Type 0
TakesPackets rules start [] state text = (state ≡ start) × (text ≡ [])
TakesPackets {S} rules start (packet ∷ earlier) later text =
    (state : S) × (before : List ℕ) × (written : List ℕ) × TakesPackets rules start earlier state before
    × rules.Takes (length earlier + 1) packet state later written × (text ≡ before ++ written)

-- The octets begin with these parts, behind which are others, and their packets were taken.
pub record HasTaken {S A F : Type 0} (rules : PacketRules S A F) (start : S) (octets : List ℕ) (parts : List Part)
    (rest : List ℕ) (state : S) (text : List ℕ) : Type 0 where
  pub are : AreParts parts
  pub split : octets ≡ octets_of parts ++ rest
  pub taken : TakesPackets rules start (packets_of parts) state text

-- why a task in this state stops where these octets are next, behind these parts, with this written before
abbrev pub StopsAt : {S A F : Type 0} → PacketRules S A F → List Part → S → (rest : List ℕ) → CaptureCause F → (place : ℕ)
    → List ℕ → Type 0
StopsAt rules parts state rest Read place written = (place ≡ 0) × (written ≡ [])
StopsAt rules parts state rest Memory place written = (place ≡ 0) × (written ≡ [])
StopsAt rules parts state rest (Capture fault) place written =
    IsFault (form_behind parts) rest fault place × (written ≡ [])
StopsAt rules parts state rest (Task fault) place written =
    (place ≡ 0)
    × (((octets : List ℕ) × (packet : PacketOf) × (later : Form) × (others : List ℕ) × (rest ≡ octets ++ others)
    × AreParts (record { octets = octets; packet = Some packet; later = later } ∷ parts)
    × rules.Stops (length (packets_of parts) + 1) packet state fault written)
    ⊎ ((rest ≡ []) × (parts ≢ []) × rules.StopsAtEnd state fault written))

-- whether the writer failed at this
abbrev pub is_of_writer : {S A F : Type 0} → PacketRules S A F → CaptureCause F → Bool
is_of_writer rules Read = false
is_of_writer rules Memory = false
is_of_writer rules (Capture fault) = false
is_of_writer rules (Task fault) = rules.is_of_writer fault

-- the octets are a whole capture, all its packets were taken, and the end gave the answer
pub record AnswersCapture {S A F : Type 0} (rules : PacketRules S A F) (start : S) (octets : List ℕ)
    (left before after : Option (List ℕ)) (answer : A) : Type 0 where
  pub parts : List Part
  pub some : parts ≢ []
  pub state : S
  pub text : List ℕ
  pub taken : HasTaken rules start octets parts [] state text
  pub last : List ℕ
  pub ends : rules.Ends (length (packets_of parts)) state answer last
  pub output : Appends before after (text ++ last)
  pub input : left ≡ Some []

-- The packets before a fault were taken, and the fault is in what is next. Octets are counted up to 2^64 - 1.
pub record AnswersUntil {S A F : Type 0} (rules : PacketRules S A F) (start : S) (octets : List ℕ)
    (left before after : Option (List ℕ)) (stop : CaptureStop F) : Type 0 where
  pub parts : List Part
  pub rest : List ℕ
  pub state : S
  pub text : List ℕ
  pub taken : HasTaken rules start octets parts rest state text
  pub packets : stop.packets ≡ length (packets_of parts)
  pub place : ℕ
  pub octet : stop.octet ≡ min (length (octets_of parts) + place) greatest_count
  pub last : List ℕ
  pub stops : StopsAt rules parts state rest stop.what place last
  pub output : WentOut (is_of_writer rules stop.what) (Appends before after (text ++ last))
  pub seen : List ℕ
  pub unread : List ℕ
  pub read : rest ≡ seen ++ unread
  pub input : left ≡ Some unread

-- what an answer over these octets says, of what is left of them and of what was written
abbrev pub Answers : {S A F : Type 0} → PacketRules S A F → (start : S) → List ℕ → (left before after : Option (List ℕ))
    → Result A (CaptureStop F) → Type 0
Answers rules start octets left before after answer = MatchResult answer
    (AnswersCapture rules start octets left before after)
    (AnswersUntil rules start octets left before after)

-- which of the two devices failed at this
abbrev pub FailedAt : {S A F R W : Type 0} → PacketRules S A F → CaptureCause F
    → (input input' : Counted R) (output output' : Counted W) → Type 0
FailedAt rules Read input input' output output' = HasFailed input input' × HasNotFailed output output'
FailedAt rules Memory input input' output output' = HasNotFailed input input' × HasNotFailed output output'
FailedAt rules (Capture fault) input input' output output' = HasNotFailed input input' × HasNotFailed output output'
FailedAt rules (Task fault) input input' output output' =
    HasNotFailed input input' × HasFailedIf (rules.is_of_writer fault) output output'

-- what a task is after a fault, which was in this state before it: it stays so, but at a fault of its own
abbrev pub IsLeftAt : {T S F : Type 0} → (is_at : T → S → Type 0) → (is_left : T → T → F → Type 0) → S → T → CaptureCause F
    → Type 0
IsLeftAt is_at is_left state task Read = is_at task state
IsLeftAt is_at is_left state task Memory = is_at task state
IsLeftAt is_at is_left state task (Capture fault) = is_at task state
IsLeftAt {T} is_at is_left state task (Task what) = (before : T) × is_at before state × is_left before task what

-- All packets took a task from its start to a state, or those before a fault, and this is left of it.
abbrev pub LeavesTask : {T S A F : Type 0} → PacketRules S A F → (is_at : T → S → Type 0) → (is_left : T → T → F → Type 0)
    → (is_ended : T → T → Type 0) → (start : S) → List ℕ → T → Result A (CaptureStop F) → Type 0
LeavesTask {T} {S} rules is_at is_left is_ended start octets task answer = MatchResult answer
    (λ _. (parts : List Part) × (state : S) × (text : List ℕ) × HasTaken rules start octets parts [] state text
    × (before : T) × is_at before state × is_ended before task)
    (λ stop. (parts : List Part) × (rest : List ℕ) × (state : S) × (text : List ℕ)
    × HasTaken rules start octets parts rest state text × (stop.packets ≡ length (packets_of parts))
    × IsLeftAt is_at is_left state task stop.what)
