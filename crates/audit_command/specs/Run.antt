-- How `audit` runs.
use Rattle.std.specs.Prelude.{◌≡◌, ◌⊎◌, ℕ, ℤ, pos, not, List, Option, Some, None, Err}
use Rattle.std.specs.Option.{option_map_or}
use Rattle.ptp_units.specs.Moment.{stamp_of}
use Rattle.text_lines.specs.declared.counted.Counted.{Counted}
use Rattle.text_lines.specs.declared.fault.Cause.TheVariants.{Task}
use Rattle.text_lines.specs.declared.line_fault.LineFault.{LineFault}
use Rattle.text_lines.specs.declared.line_fault.LineFault.TheVariants.{Memory}
use Rattle.datagram_text.specs.Shown.{stamp_text}
use Rattle.datagram_source.specs.declared.input.InputOutcome.{InputOutcome}
use Rattle.datagram_source.specs.declared.input.InputOutcome.TheVariants.{Lines}
use Rattle.datagram_source.specs.Input.{OutcomeFailed}
use Rattle.recording_measure.specs.declared.watch.WantedPorts.{WantedPorts}
use Rattle.result_audit.specs.Auditor.{Auditing, Begins}
use Rattle.result_verdict.specs.Exact.{exact_in, nanosecond}
use Rattle.command_options.specs.declared.AuditOptions.{AuditOptions}
use Rattle.capture_report.specs.Status.{outcome_status, judged}
use Rattle.audit_command.specs.declared.task.AuditForm.{AuditForm}
use Rattle.audit_command.specs.Audit.{audit_begun, audit_rules}
use Rattle.audit_command.specs.declared.ending.Ending.{Ending}
use Rattle.audit_command.specs.Ending.{is_wrong}
use Rattle.audit_command.specs.Input.{AnswersAudit, head_text}

-- ---- what is asked for
-- whom `audit` is asked to watch
abbrev pub wanted_of : AuditOptions → WantedPorts
wanted_of options = record {
  slave = options.slave;
  master = options.master;
  domain = options.domain;
  interface = options.interface;
  readings = options.readings;
}

-- by so many nanoseconds a number may be off: the seconds of a time, with nine decimals
abbrev pub told_tolerance : ℕ → ℤ
told_tolerance tolerance = option_map_or (λ exact. exact) (exact_in (stamp_text (stamp_of tolerance))) (pos 0)

-- 1 ns, unless asked for
abbrev pub tolerance_of : Option ℕ → ℤ
tolerance_of None = pos nanosecond
tolerance_of (Some tolerance) = told_tolerance tolerance

-- how results are judged, and written
abbrev pub form_of : AuditOptions → AuditForm
form_of options = record {
  tolerance = tolerance_of options.tolerance;
  has_path = not options.offset_only;
  is_table = options.csv;
}

-- ---- a run
-- memory failed before anything was read or written
pub record IsUnbegun {R W : Type 0} (outcome : InputOutcome LineFault) (input input' : Counted R) (output output' : Counted W) : Type 0 where
  pub stopped : outcome ≡ Lines (Err (record { line = 0; what = Task Memory }))
  pub unread : input' ≡ input
  pub unwritten : output' ≡ output

-- `audit` ran by these options: what came of its input, and whether a result that was handed out is wrong, gave the status, and say
-- what was read and written. What is told of results is of all that came, where nothing stopped it.
abbrev pub RunsAudit : {R W : Type 0} → (R → Option (List ℕ)) → (W → Option (List ℕ)) → AuditOptions → ℕ
    → (input input' : Counted R) (output output' : Counted W) → Type 0
RunsAudit remaining contents options status input input' output output' =
    (outcome : InputOutcome LineFault) × (ending : Ending) × (status ≡ judged (outcome_status outcome) (is_wrong ending))
    × OutcomeFailed audit_rules outcome input input' output output'
    × (IsUnbegun outcome input input' output output'
    ⊎ ((a : Auditing) × Begins (tolerance_of options.tolerance) a
    × AnswersAudit (head_text options.csv) (audit_begun (wanted_of options) (form_of options) a) remaining contents outcome ending
    input input' output output'))
