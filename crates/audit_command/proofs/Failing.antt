-- Which device failed, where nothing failed before.
use Rattle.std.proofs.Common.{◌∙◌, Bool, true, false, Ok, Err, ap}
use Rattle.text_lines.specs.declared.counted.Counted.{Counted}
use Rattle.text_lines.specs.declared.fault.Cause.{Cause}
use Rattle.text_lines.specs.declared.fault.Cause.TheVariants as cause
use Rattle.text_lines.specs.declared.fault.ReadingFault.{ReadingFault}
use Rattle.text_lines.specs.declared.fault.ReadingFault.TheVariants as reading
use Rattle.text_lines.specs.declared.line_fault.LineFault.{LineFault}
use Rattle.text_lines.specs.Counted.{HasNotFailed, HasFailedIf, one_more}
use Rattle.text_lines.specs.Fault.{is_write}
use Rattle.text_lines.specs.Lines.{IsFromReading}
use Rattle.text_lines.specs.Task as lines
use Rattle.capture_file.specs.declared.fault.CaptureCause.{CaptureCause}
use Rattle.capture_file.specs.declared.fault.CaptureCause.TheVariants as capture
use Rattle.capture_file.specs.Task as packets
use Rattle.datagram_source.specs.declared.input.InputOutcome.{InputOutcome}
use Rattle.datagram_source.specs.declared.input.InputOutcome.TheVariants.{Lines, Capture}
use Rattle.datagram_source.specs.Input.{OutcomeFailed}
use Rattle.datagram_source.specs.Rules.{line_rules, packet_rules}
use Rattle.audit_command.specs.Audit.{audit_rules}

fails_if : {T : Type 0} (test : Bool) (a b c : Counted T) → HasNotFailed a b → HasFailedIf test b c → HasFailedIf test a c
fails_if true a b c none fails = fails ∙ ap one_more none
fails_if false a b c none fails = fails ∙ none

reading_fails : {R : Type 0} (fault : ReadingFault) (a b c : Counted R) → HasNotFailed a b → IsFromReading fault b c → IsFromReading fault a c
reading_fails reading.Read a b c none fails = fails ∙ ap one_more none
reading_fails reading.LineTooLong a b c none fails = fails ∙ none
reading_fails reading.TooManyLines a b c none fails = fails ∙ none

lines_fail : {R W : Type 0} (what : Cause LineFault) (a b c : Counted R) (x y z : Counted W) → HasNotFailed a b → HasNotFailed x y
    → lines.FailedAt (line_rules audit_rules) what b c y z → lines.FailedAt (line_rules audit_rules) what a c x z
lines_fail (cause.Reading fault) a b c x y z input output (first, second) = (reading_fails fault a b c input first, second ∙ output)
lines_fail (cause.Task fault) a b c x y z input output (first, second) = (first ∙ input, fails_if (is_write fault) x y z output second)

packets_fail : {R W : Type 0} (what : CaptureCause LineFault) (a b c : Counted R) (x y z : Counted W) → HasNotFailed a b → HasNotFailed x y
    → packets.FailedAt (packet_rules audit_rules) what b c y z → packets.FailedAt (packet_rules audit_rules) what a c x z
packets_fail capture.Read a b c x y z input output (first, second) = (first ∙ ap one_more input, second ∙ output)
packets_fail capture.Memory a b c x y z input output (first, second) = (first ∙ input, second ∙ output)
packets_fail (capture.Capture fault) a b c x y z input output (first, second) = (first ∙ input, second ∙ output)
packets_fail (capture.Task fault) a b c x y z input output (first, second) = (first ∙ input, fails_if (is_write fault) x y z output second)

pub fails_behind : {R W : Type 0} (outcome : InputOutcome LineFault) (a b c : Counted R) (x y z : Counted W) → HasNotFailed a b → HasNotFailed x y
    → OutcomeFailed audit_rules outcome b c y z → OutcomeFailed audit_rules outcome a c x z
fails_behind (Lines (Ok count)) a b c x y z input output (first, second) = (first ∙ input, second ∙ output)
fails_behind (Lines (Err stop)) a b c x y z input output fails = lines_fail stop.what a b c x y z input output fails
fails_behind (Capture (Ok count)) a b c x y z input output (first, second) = (first ∙ input, second ∙ output)
fails_behind (Capture (Err stop)) a b c x y z input output fails = packets_fail stop.what a b c x y z input output fails
