-- What becomes of a datagram that a port hears, and what goes out of it.
use Rattle.std.specs.Prelude.{◌≡◌, ◌≢◌, ℕ, ⊤, Bool, List, [], ◌++◌, Option, Result, MatchResult, option_map}
use Rattle.std.specs.Prelude.{option_and_then}
use Rattle.std.specs.Option.{option_map_or}
use Rattle.std.specs.Result.{result_ok}
use Rattle.std.specs.Io.KnownBytes.{Appends}
use Rattle.slave_port.specs.declared.heard.Report.{Report}
use Rattle.text_lines.specs.declared.line_fault.LineFault.{LineFault}
use Rattle.text_lines.specs.declared.line_fault.LineFault.TheVariants.{Write, Field, Memory}
use Rattle.text_lines.specs.Fault.{is_write}
use Rattle.text_lines.specs.Task.{WentOut}
use Rattle.recording_lines.specs.declared.measurement.Half.TheVariants as halves
use Rattle.recording_measure.specs.Made.{Measured}
use Rattle.recording_model.specs.declared.watched.Watched.{Watched}
use Rattle.recording_model.specs.Recorded.{Recorded}
use Rattle.recording_model.specs.Listening.{report_in, report_at}
use Rattle.recording_measure.specs.declared.listener.Became.{Became}
use Rattle.recording_measure.specs.Inner.Became.{heard_by}
use Rattle.recording_measure.specs.declared.reports.Completed.{Completed}
use Rattle.datagram_source.specs.declared.datagram.Datagram.{Datagram}
use Rattle.datagram_source.specs.Said.{reading_of}
use Rattle.recording_measure.specs.declared.reports.Made.{Made}
use Rattle.recording_measure.specs.declared.form.Form.{Form}
use Rattle.recording_measure.specs.Exchanged.{exchange_at}
use Rattle.recording_measure.specs.Measured.{half_of, texts_as}

-- a datagram without where its octets lie
abbrev pub recorded_of : Datagram → Recorded
recorded_of d = record { line = d.number; time = d.time; said = reading_of d.said }

-- the report in what became of a message
abbrev pub report_by : Became → Option Report
report_by became = option_and_then report_in (heard_by became)

-- the report that a datagram completes, after those before it
abbrev pub completion : Watched → List Recorded → Recorded → Option Completed
completion watched earlier d = option_map
    (λ report. record {
      by = option_map_or (λ m. half_of m.body) (result_ok d.said) halves.Sync;
      report = report;
      exchange = exchange_at watched earlier d;
    })
    (report_at watched earlier d)

-- what was measured, without where its time lies in memory
abbrev pub made_of : Made → Measured
made_of m = record {
  by = m.measured.by;
  own = m.measured.own;
  line = m.measured.line;
  time = m.measured.time.now;
  report = m.measured.report;
  exchange = m.exchange;
}

-- the measurement of a datagram of this number and time, own or not, which completed this
abbrev pub measured_by : Completed → (own : Bool) → (time : List ℕ) → (number : ℕ) → Measured
measured_by completed own time number = record {
  by = completed.by;
  own = own;
  line = number;
  time = time;
  report = completed.report;
  exchange = completed.exchange;
}

-- a fault of what is written, not of a line
abbrev pub IsOfOutput : LineFault → Type 0
IsOfOutput Write = ⊤
IsOfOutput Field = ⊥
IsOfOutput Memory = ⊤

-- a text went out, or nothing of it before a fault
abbrev pub GoesAtOnce : {T : Type 0} → Result T LineFault → List ℕ → (before after : Option (List ℕ)) → Type 0
GoesAtOnce result text before after = MatchResult result
    (λ _. Appends before after text)
    (λ fault. IsOfOutput fault × WentOut (is_write fault) (Appends before after []))

-- what of measurements may be left at a fault: one or more where the writer failed
abbrev pub MayLeave : LineFault → List Measured → Type 0
MayLeave Write left = left ≢ []
MayLeave Field left = ⊥
MayLeave Memory left = ⊤

-- the texts of some of these measurements, which have the newest in front, went out before this fault
abbrev pub GoesUntil : Form → LineFault → List Measured → (before after : Option (List ℕ)) → Type 0
GoesUntil form fault ms before after =
    (went : List Measured) × (left : List Measured) × MayLeave fault left × (ms ≡ left ++ went)
    × WentOut (is_write fault) (Appends before after (texts_as form went))

-- the texts of all of them went out, or of some before a fault
abbrev pub Goes : {T : Type 0} → Form → Result T LineFault → List Measured → (before after : Option (List ℕ)) → Type 0
Goes form result ms before after = MatchResult result
    (λ _. Appends before after (texts_as form ms))
    (λ fault. GoesUntil form fault ms before after)
