-- What is made of the lines of an input, by what a task does with each of them, and at the end.
use Rattle.std.specs.Prelude.{◌≡◌, ◌⊎◌, ℕ, ◌+◌, ◌≤◌, List, [], ◌∷◌, ◌++◌, length, take, slice_get, Bool, true, false}
use Rattle.std.specs.Prelude.{Option, Some, None, Result, MatchResult, ⊤}
use Rattle.std.specs.Io.KnownBytes.{Appends}
use Rattle.text_lines.specs.declared.counted.Counted.{Counted}
use Rattle.text_lines.specs.declared.fault.Cause.{Cause}
use Rattle.text_lines.specs.declared.fault.Cause.TheVariants.{Reading, Task}
use Rattle.text_lines.specs.declared.fault.ReadingFault.{ReadingFault}
use Rattle.text_lines.specs.declared.fault.ReadingFault.TheVariants.{Read}
use Rattle.text_lines.specs.declared.fault.Stopped.{Stopped}
use Rattle.text_lines.specs.Counted.{HasNotFailed, HasFailedIf}
use Rattle.text_lines.specs.Lines.{lines_of, lfs_in, after_lines, without_cr, reading_fault, LeavesUnread}
use Rattle.text_lines.specs.Lines.{IsFromReading}

-- The rules of a task: how many lines it allows; from which state to which a line takes it, with what is written; at
-- which fault a line stops it, with what is written before; what it answers after so many lines, at the end, with what is
-- written; at which fault the end stops it; and which of these faults say that the writer failed.
pub record Rules (S A F : Type 0) : Type 1 where
  pub lines_limit : ℕ
  pub Takes : List ℕ → S → S → List ℕ → Type 0
  pub Stops : List ℕ → S → F → List ℕ → Type 0
  pub Ends : ℕ → S → A → List ℕ → Type 0
  pub StopsAtEnd : S → F → List ℕ → Type 0
  pub is_of_writer : F → Bool

-- lines without a fault in reading, of which the first has this number, take a task from one state to another
abbrev pub TakesLines : {S A F : Type 0} → Rules S A F → ℕ → List (List ℕ) → S → S → List ℕ → Type 0
TakesLines rules number [] state later written = (later ≡ state) × (written ≡ [])
TakesLines {S} rules number (line ∷ lines) state later written =
    (next : S) × (first : List ℕ) × (others : List ℕ) × (reading_fault rules.lines_limit number line ≡ None)
    × rules.Takes (without_cr line) state next first
    × TakesLines rules (number + 1) lines next later others × (written ≡ first ++ others)

-- what went out is known, but where the writer failed
abbrev pub WentOut : Bool → Type 0 → Type 0
WentOut true known = ⊤
WentOut false known = known

-- the line of this number has this fault in reading; a reader fails before the line is there
abbrev pub FaultsInReading : ReadingFault → (limit number : ℕ) → Option (List ℕ) → Type 0
FaultsInReading Read limit number line = ⊤
FaultsInReading fault limit number None = ⊥
FaultsInReading fault limit number (Some line) = reading_fault limit number line ≡ Some fault

-- a task in this state stops at the line after so many, with this written before: in reading it, which leaves this
-- unread
abbrev pub StopsBefore : {S A F : Type 0} → Rules S A F → ℕ → S → List ℕ → Cause F → List ℕ → Option (List ℕ) → Type 0
StopsBefore rules earlier state octets (Reading fault) written left =
    (earlier ≤ lfs_in octets) × FaultsInReading fault rules.lines_limit (earlier + 1)
    (slice_get (lines_of octets) earlier) × (written ≡ [])
    × LeavesUnread fault rules.lines_limit (earlier + 1) (after_lines earlier octets) left
StopsBefore rules earlier state octets (Task fault) written left =
    ((line : List ℕ) × (earlier ≤ lfs_in octets) × (slice_get (lines_of octets) earlier ≡ Some line)
    × (reading_fault rules.lines_limit (earlier + 1) line ≡ None)
    × rules.Stops (without_cr line) state fault written × (left ≡ Some (after_lines (earlier + 1) octets)))
    ⊎ ((earlier ≡ length (lines_of octets)) × rules.StopsAtEnd state fault written × (left ≡ Some []))

-- whether the writer failed at this
abbrev pub is_of_writer : {S A F : Type 0} → Rules S A F → Cause F → Bool
is_of_writer rules (Reading fault) = false
is_of_writer rules (Task fault) = rules.is_of_writer fault

-- all lines of an input of these octets were taken, the end gave the answer, and the input is at its end
pub record AnswersAll {S A F : Type 0} (rules : Rules S A F) (start : S) (octets : List ℕ)
    (left before after : Option (List ℕ)) (answer : A) : Type 0 where
  pub state : S
  pub text : List ℕ
  pub taken : TakesLines rules 1 (lines_of octets) start state text
  pub last : List ℕ
  pub ends : rules.Ends (length (lines_of octets)) state answer last
  pub output : Appends before after (text ++ last)
  pub input : left ≡ Some []

-- The lines before a fault, each with its LF, were taken. The fault is that of the next line, of which and after which
-- the rest is unread, or that of the end.
pub record AnswersUntil {S A F : Type 0} (rules : Rules S A F) (start : S) (octets : List ℕ)
    (left before after : Option (List ℕ)) (line : ℕ) (what : Cause F) : Type 0 where
  pub earlier : ℕ
  pub number : line ≡ earlier + 1
  pub state : S
  pub text : List ℕ
  pub taken : TakesLines rules 1 (take earlier (lines_of octets)) start state text
  pub last : List ℕ
  pub stops : StopsBefore rules earlier state octets what last left
  pub output : WentOut (is_of_writer rules what) (Appends before after (text ++ last))

-- what an answer over these octets says, of what is left of them and of what was written
abbrev pub Answers : {S A F : Type 0} → Rules S A F → (start : S) → List ℕ → (left before after : Option (List ℕ))
    → Result A (Stopped (Cause F)) → Type 0
Answers rules start octets left before after answer = MatchResult answer
    (AnswersAll rules start octets left before after)
    (λ stop. AnswersUntil rules start octets left before after stop.line stop.what)

-- which of the two devices failed at this: the writer where the task's fault says so
abbrev pub FailedAt : {S A F R W : Type 0} → Rules S A F → Cause F
    → (input input' : Counted R) (output output' : Counted W) → Type 0
FailedAt rules (Reading fault) input input' output output' =
    IsFromReading fault input input' × HasNotFailed output output'
FailedAt rules (Task fault) input input' output output' =
    HasNotFailed input input' × HasFailedIf (rules.is_of_writer fault) output output'

-- what a task is after a fault, which was in this state before it: it stays so at a fault in reading
abbrev pub IsLeftAt : {T S F : Type 0} → (is_at : T → S → Type 0) → (is_left : T → T → F → Type 0) → S → T → Cause F → Type 0
IsLeftAt is_at is_left state task (Reading fault) = is_at task state
IsLeftAt {T} is_at is_left state task (Task what) = (before : T) × is_at before state × is_left before task what

-- All lines took a task from its start to a state, or those before a fault, and this is left of it.
abbrev pub LeavesTask : {T S A F : Type 0} → Rules S A F → (is_at : T → S → Type 0) → (is_left : T → T → F → Type 0)
    → (is_ended : T → T → Type 0) → (start : S) → List ℕ → T → Result A (Stopped (Cause F)) → Type 0
LeavesTask {T} {S} rules is_at is_left is_ended start octets task answer = MatchResult answer
    (λ _. (state : S) × (text : List ℕ) × TakesLines rules 1 (lines_of octets) start state text
    × (before : T) × is_at before state × is_ended before task)
    (λ stop. (earlier : ℕ) × (stop.line ≡ earlier + 1) × (state : S) × (text : List ℕ)
    × TakesLines rules 1 (take earlier (lines_of octets)) start state text × IsLeftAt is_at is_left state task stop.what)
