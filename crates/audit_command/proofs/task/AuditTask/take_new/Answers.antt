use Rattle.std.proofs.Common.{reverse, refl}
use Rattle.recording_measure.specs.Measure.{measured_so_far}
use Rattle.recording_measure.proofs.Heard.{on_ok_then}
use Rattle.result_audit.specs.Auditor.{auditing_of}
use Rattle.audit_command.proofs.Going.{newest_in_front}
use Rattle.audit_command.proofs.task.AuditTask.take_new.Goals as goal

pub returns : goal.returns
returns c =
    on_ok_then c.pass.result (λ passed. record {
      mid = auditing_of c.take_completions.new.auditor;
      taken = λ r at asked. record {
        completions = reverse c.completions.result.now;
        fresh = newest_in_front (measured_so_far r) r.handed c.completions.result.now (c.completions.ensures.fresh r at asked);
        taken = c.in_ok-take_completions.ensures;
      };
      audit = passed;
      reading = λ r at asked. c.in_ok-hand_on.ensures r at asked;
      form = refl;
      tally = refl;
    }) c.pass.ensures
