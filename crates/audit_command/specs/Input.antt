-- What `audit` makes of an input: results in front of all else, and behind them lines, or a capture.
use Rattle.std.specs.Prelude.{◌≡◌, ◌⊎◌, ℕ, ◌+◌, ◌<◌, ◌≤◌, Bool, true, false, List, [], ◌++◌, All, length, take, drop, Option, Some, Result, Ok, Err, IfOk, if◌then◌else◌}
use Rattle.std.specs.Option.{ForSome}
use Rattle.std.specs.Io.KnownBytes.{Appends}
use Rattle.text_lines.specs.declared.counted.Counted.{Counted}
use Rattle.text_lines.specs.declared.fault.Cause.{Cause}
use Rattle.text_lines.specs.declared.fault.Cause.TheVariants.{Reading, Task}
use Rattle.text_lines.specs.declared.fault.ReadingFault.TheVariants.{Read}
use Rattle.text_lines.specs.declared.fault.Stopped.{Stopped}
use Rattle.text_lines.specs.declared.line_fault.LineFault.{LineFault}
use Rattle.text_lines.specs.declared.line_fault.LineFault.TheVariants.{Field}
use Rattle.text_lines.specs.Counted.{device_of, with_more}
use Rattle.text_lines.specs.Lines.{lines_of, after_lines, lfs_in}
use Rattle.text_lines.specs.Task.{TakesLines, AnswersUntil}
use Rattle.text_lines.specs.Task as lines
use Rattle.capture_file.specs.Beginning.{enough, start_of}
use Rattle.capture_file.specs.Task as packets
use Rattle.capture_file.specs.Wrong.{HasMagic, HasNoMagic}
use Rattle.datagram_source.specs.declared.input.InputOutcome.{InputOutcome}
use Rattle.datagram_source.specs.declared.input.InputOutcome.TheVariants.{Lines, Capture}
use Rattle.datagram_source.specs.Input.{HasNoHead}
use Rattle.datagram_source.specs.Left.{LeavesCapture}
use Rattle.datagram_source.specs.Rules.{packet_rules}
use Rattle.result_audit.specs.Lines.{table_head}
use Rattle.audit_command.specs.declared.ending.Ending.{Ending}
use Rattle.audit_command.specs.declared.lines.Finished.{Finished}
use Rattle.audit_command.specs.Audit.{Audited, audit_rules}
use Rattle.audit_command.specs.Ending.{IsEnding}
use Rattle.audit_command.specs.AuditLines.{LinesRead, nothing_read, is_told, line_rules}

-- what goes out before anything is read
abbrev pub head_text : (is_table : Bool) → List ℕ
head_text is_table = if is_table then table_head else []

-- ---- results in front
-- the first lines, so many, tell results, and were taken
pub record HasTold (start : Audited) (octets : List ℕ) (r : LinesRead) (text : List ℕ) : Type 0 where
  pub within : r.count ≤ length (lines_of octets)
  pub told : All (λ line. is_told line ≡ true) (take r.count (lines_of octets))
  pub taken : TakesLines line_rules 1 (take r.count (lines_of octets)) (nothing_read start) r text

-- a line that tells a result, as all in front of it, stops it
pub record StopsInFront (start : Audited) (octets : List ℕ) (left before after : Option (List ℕ)) (stop : Stopped (Cause LineFault)) : Type 0 where
  pub told : All (λ line. is_told line ≡ true) (take stop.line (lines_of octets))
  pub within : stop.line ≤ length (lines_of octets)
  pub stops : AnswersUntil line_rules (nothing_read start) octets left before after stop.line stop.what

-- ---- behind them
-- the reader failed among the first four octets
pub record FailsAhead (count : ℕ) (behind : List ℕ) (left : Option (List ℕ)) (stop : Stopped (Cause LineFault)) : Type 0 where
  pub stopped : stop ≡ record { line = count + 1; what = Reading Read }
  pub seen : List ℕ
  pub unread : List ℕ
  pub split : behind ≡ seen ++ unread
  pub few : length seen < 4
  pub input : left ≡ Some unread

-- An LF is among the four octets that tell which it is, as a magic begins with the first: the line is refused, and of the octets
-- behind it up to three were read.
pub record HasShortLine (count : ℕ) (behind : List ℕ) (left : Option (List ℕ)) (stop : Stopped (Cause LineFault)) : Type 0 where
  pub stopped : stop ≡ record { line = with_more count 1; what = Task Field }
  pub lf : 0 < lfs_in (start_of behind)
  pub input : left ≡ Some (drop (enough behind) behind)

-- what came of lines, by what is known at their end, or where they stopped behind so many
abbrev pub answer_behind : (count : ℕ) → Result Finished (Stopped (Cause LineFault)) → Result ℕ (Stopped (Cause LineFault))
answer_behind count (Ok finished) = Ok finished.lines
answer_behind count (Err stop) = Err (record { line = with_more stop.line count; what = stop.what })

-- the lines were answered
pub record AnswersLines (r : LinesRead) (behind : List ℕ) (left before after : Option (List ℕ))
    (answer : Result ℕ (Stopped (Cause LineFault))) (ending : Ending) : Type 0 where
  pub given : Result Finished (Stopped (Cause LineFault))
  pub answers : lines.Answers line_rules r behind left before after given
  pub told : answer ≡ answer_behind r.count given
  pub ended : IfOk given (λ finished. ending ≡ finished.ending)

-- nothing of them was taken
pub record StopsAtOnce (At : Stopped (Cause LineFault) → Type 0) (before after : Option (List ℕ))
    (answer : Result ℕ (Stopped (Cause LineFault))) : Type 0 where
  pub stop : Stopped (Cause LineFault)
  pub stopped : answer ≡ Err stop
  pub at : At stop
  pub output : Appends before after []

-- what came of what is behind results; where nothing stopped it, also what is told of results
abbrev pub IsBehind : LinesRead → List ℕ → (left before after : Option (List ℕ)) → InputOutcome LineFault → (ending : Ending) → Type 0
IsBehind r behind left before after (Lines answer) ending =
    StopsAtOnce (FailsAhead r.count behind left) before after answer
    ⊎ ((is_told behind ≡ false) × HasNoMagic (start_of behind)
    × (AnswersLines r behind left before after answer ending ⊎ StopsAtOnce (HasShortLine r.count behind left) before after answer))
IsBehind r behind left before after (Capture answer) ending =
    HasMagic (start_of behind)
    × packets.Answers (packet_rules audit_rules) r.state behind left before after answer
    × LeavesCapture audit_rules r.state behind answer (λ ended. IsEnding ended ending)

-- ---- an input
-- all results in front were taken, and this came of what is behind them
pub record GoesBehind (start : Audited) (octets : List ℕ) (left before after : Option (List ℕ)) (outcome : InputOutcome LineFault)
    (ending : Ending) : Type 0 where
  pub read : LinesRead
  pub text : List ℕ
  pub front : HasTold start octets read text
  pub went : Option (List ℕ)
  pub output : Appends before went text
  pub behind : IsBehind read (after_lines read.count octets) left went after outcome ending

-- what came of octets
abbrev pub IsOutcome : (start : Audited) → List ℕ → (left before after : Option (List ℕ)) → InputOutcome LineFault → (ending : Ending) → Type 0
IsOutcome start octets left before after outcome ending =
    ((stop : Stopped (Cause LineFault)) × (outcome ≡ Lines (Err stop)) × StopsInFront start octets left before after stop)
    ⊎ GoesBehind start octets left before after outcome ending

-- what an outcome says where the reader tells its octets, and where the writer does
abbrev pub AnswersAudit : {R W : Type 0} → (head : List ℕ) → (start : Audited) → (R → Option (List ℕ)) → (W → Option (List ℕ))
    → InputOutcome LineFault → (ending : Ending) → (input input' : Counted R) → (output output' : Counted W) → Type 0
AnswersAudit head start remaining contents outcome ending input input' output output' =
    HasNoHead audit_rules head outcome input input' output output'
    ⊎ ForSome (remaining (device_of input)) (λ octets. (headed : Option (List ℕ)) × Appends (contents (device_of output)) headed head
    × IsOutcome start octets (remaining (device_of input')) headed (contents (device_of output')) outcome ending)
