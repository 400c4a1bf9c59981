-- What `audit` makes of the datagrams and the results of an input. Lists of reports and of answers have the newest in front.
use Rattle.std.specs.Prelude.{◌≡◌, ◌⊎◌, ℕ, Bool, List, [], ◌∷◌, ◌++◌, reverse, Option, Some, None, option_map, MatchOption, if◌then◌else◌}
use Rattle.text_lines.specs.declared.line_fault.LineFault.{LineFault}
use Rattle.text_lines.specs.declared.line_fault.LineFault.TheVariants.{Write, Field, Memory}
use Rattle.text_lines.specs.Fault.{is_write}
use Rattle.datagram_source.specs.declared.lines.LineForm.TheVariants.{Timed}
use Rattle.datagram_source.specs.Datagram.{DatagramOf}
use Rattle.datagram_source.specs.Rules.{DatagramRules, is_field}
use Rattle.recording_measure.specs.declared.completion.Completion.{Completion}
use Rattle.recording_measure.specs.declared.form.Form.TheVariants.{Completions}
use Rattle.recording_measure.specs.declared.watch.WantedPorts.{WantedPorts}
use Rattle.recording_measure.specs.Fresh.{AreFresh}
use Rattle.recording_measure.specs.Measure.{Recording, begun, handed_on, measured_so_far}
use Rattle.recording_measure.specs.Measure as measure
use Rattle.result_audit.specs.declared.answer.Answer.{Answer}
use Rattle.result_audit.specs.declared.report_at.ReportAt.{ReportAt}
use Rattle.result_audit.specs.declared.told.Told.{Told}
use Rattle.result_audit.specs.Auditor.{Auditing, TakesReportAt, HandsOut, passed_by, with_told, at_end}
use Rattle.result_audit.specs.declared.totals.Totals.{Totals}
use Rattle.result_audit.specs.Coverage.{one_more}
use Rattle.result_audit.specs.Totals.{no_answers, with_answer}
use Rattle.result_audit.specs.Lines.{json_text, row_text}
use Rattle.audit_command.specs.declared.task.AuditForm.{AuditForm}

-- what was measured, what became of the results, how they are judged and written, how many were told, and what those come to that were
-- handed out
pub record Audited : Type 0 where
  pub reading : Recording
  pub audit : Auditing
  pub form : AuditForm
  pub told : ℕ
  pub totals : Totals

-- nothing came yet
abbrev pub audit_begun : WantedPorts → AuditForm → Auditing → Audited
audit_begun wanted form a = record {
  reading = begun Completions wanted;
  audit = a;
  form = form;
  told = 0;
  totals = no_answers;
}

-- ---- reports
-- a report with its exchange, which is there
abbrev pub report_of : Completion → Option ReportAt
report_of c = option_map (λ e. record { by = c.by; line = c.line; report = c.report; exchange = e }) c.exchange

-- it is taken
abbrev pub TakesCompletion : Completion → (before after : Auditing) → Type 0
TakesCompletion c before after = MatchOption (report_of c) (after ≡ before) (λ at. TakesReportAt at before after)

-- these are taken, one after the other
abbrev pub TakesAll : List Completion → (before after : Auditing) → Type 0
TakesAll [] before after = after ≡ before
TakesAll (c ∷ earlier) before after = (mid : Auditing) × TakesAll earlier before mid × TakesCompletion c mid after

-- each report that is measured and wasn't handed on is taken, once and in order
pub record TakesFresh (r : Recording) (before after : Auditing) : Type 0 where
  pub completions : List Completion
  pub fresh : AreFresh (measured_so_far r) r.handed (reverse completions)
  pub taken : TakesAll completions before after

-- ---- answers
-- these are handed out, one after the other
abbrev pub HandsOn : List Answer → (before after : Auditing) → Type 0
HandsOn [] before after = after ≡ before
HandsOn (answer ∷ earlier) before after =
    (mid : Auditing) × HandsOn earlier before mid × HandsOut mid (Some answer) after mid.held

-- and no other may be
abbrev pub HandsAll : List Answer → (before after : Auditing) → Type 0
HandsAll answers before after = HandsOn answers before after × HandsOut after None after after.held

-- as they are written
abbrev pub text_of : (is_table : Bool) → Answer → List ℕ
text_of is_table answer = if is_table then row_text answer else json_text answer

abbrev pub texts_of : (is_table : Bool) → List Answer → List ℕ
texts_of is_table [] = []
texts_of is_table (answer ∷ earlier) = texts_of is_table earlier ++ text_of is_table answer

-- what all come to, with those before
abbrev pub totals_with : List Answer → (before : Totals) → Totals
totals_with [] before = before
totals_with (answer ∷ earlier) before = with_answer answer (totals_with earlier before)

-- what may be said once this happened to the results goes out
pub record GoesOut (s : Audited) (happened : Auditing) (later : Audited) (out : List ℕ) : Type 0 where
  pub answers : List Answer
  pub handed : HandsAll answers happened later.audit
  pub form : later.form ≡ s.form
  pub told : later.told ≡ s.told
  pub totals : later.totals ≡ totals_with answers s.totals
  pub texts : out ≡ texts_of s.form.is_table answers

-- some of it went out, each answer whole
pub record GoesInPart (is_table : Bool) (happened upto : Auditing) (out : List ℕ) : Type 0 where
  pub answers : List Answer
  pub handed : HandsOn answers happened upto
  pub texts : out ≡ texts_of is_table answers

-- why it doesn't: memory failed, or the writer did, at the next answer; before that some of it went out
abbrev pub StopsSaying : (is_table : Bool) → (happened : Auditing) → LineFault → List ℕ → Type 0
StopsSaying is_table happened Write out = (upto : Auditing) × (answer : Answer) × (after : Auditing)
    × GoesInPart is_table happened upto out × HandsOut upto (Some answer) after upto.held
StopsSaying is_table happened Field out = ⊥
StopsSaying is_table happened Memory out = (upto : Auditing) × GoesInPart is_table happened upto out

-- ---- a datagram
-- The reports that weren't handed on are taken, the datagrams up to this number were, and what may be said then goes out.
pub record TakesReports (number : ℕ) (s later : Audited) (out : List ℕ) : Type 0 where
  pub reading : later.reading ≡ handed_on s.reading
  pub mid : Auditing
  pub taken : TakesFresh s.reading s.audit mid
  pub goes : GoesOut s (passed_by number mid) later out

-- a datagram is measured as `measure` does, and then reports are taken
pub record TakesDatagram (d : DatagramOf) (s later : Audited) (out : List ℕ) : Type 0 where
  pub reading : Recording
  pub first : List ℕ
  pub measured : measure.Takes d s.reading reading first
  pub rest : List ℕ
  pub reports : TakesReports d.number (record s { reading = reading }) later rest
  pub written : out ≡ first ++ rest

-- memory failed before anything went out
abbrev pub IsWithoutMemory : LineFault → List ℕ → Type 0
IsWithoutMemory fault out = (fault ≡ Memory) × (out ≡ [])

-- why reports aren't taken
abbrev pub StopsReports : (number : ℕ) → Audited → LineFault → List ℕ → Type 0
StopsReports number s fault out =
    IsWithoutMemory fault out
    ⊎ ((mid : Auditing) × TakesFresh s.reading s.audit mid × StopsSaying s.form.is_table (passed_by number mid) fault out)

-- why a datagram isn't taken: it isn't measured, or then reports aren't taken
abbrev pub StopsDatagram : DatagramOf → Audited → LineFault → List ℕ → Type 0
StopsDatagram d s fault out =
    measure.Stops d s.reading fault out
    ⊎ ((reading : Recording) × (first : List ℕ) × (rest : List ℕ) × measure.Takes d s.reading reading first
    × StopsReports d.number (record s { reading = reading }) fault rest × (out ≡ first ++ rest))

-- at the end nothing comes any more
pub record Ends (s later : Audited) (out : List ℕ) : Type 0 where
  pub reading : later.reading ≡ s.reading
  pub goes : GoesOut s (at_end s.audit) later out

abbrev pub audit_rules : DatagramRules Audited LineFault
audit_rules = record {
  line_form = Timed;
  asked = λ s. s.reading.wanted.interface;
  Takes = TakesDatagram;
  Stops = StopsDatagram;
  Ends = Ends;
  StopsAtEnd = λ s fault out. StopsSaying s.form.is_table (at_end s.audit) fault out;
  is_of_writer = is_write;
  keeps = is_field;
  fault_of = λ fault. fault;
}

-- ---- a result
-- it waits for its Sync, or is judged by the newest one, and what may be said then goes out
pub record TakesTold (told : Told) (s later : Audited) (out : List ℕ) : Type 0 where
  pub reading : later.reading ≡ s.reading
  pub goes : GoesOut (record s { told = one_more s.told }) (with_told told s.audit) later out

-- why it doesn't
abbrev pub StopsTold : Told → Audited → LineFault → List ℕ → Type 0
StopsTold told s fault out = StopsSaying s.form.is_table (with_told told s.audit) fault out
