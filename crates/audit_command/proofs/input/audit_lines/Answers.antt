use Rattle.std.proofs.Common.{refl, sym, subst, Result}
use Rattle.std.specs.Prelude.{ℕ}
use Rattle.text_lines.specs.declared.fault.Cause.{Cause}
use Rattle.text_lines.specs.declared.fault.Stopped.{Stopped}
use Rattle.text_lines.specs.declared.line_fault.LineFault.{LineFault}
use Rattle.datagram_source.specs.declared.input.InputOutcome.TheVariants.{Lines}
use Rattle.datagram_source.specs.Input.{OutcomeFailed}
use Rattle.audit_command.specs.Audit.{audit_rules}
use Rattle.audit_command.proofs.Inputs.{fails_alike}
use Rattle.audit_command.proofs.input.audit_lines.Goals as goal

pub answer_lines_behind-given-requires-clause-stands : goal.answer_lines_behind-given-requires-clause-stands
answer_lines_behind-given-requires-clause-stands g c =
    (record { count = c.args.count; state = c.requires.stands.0 }, (refl {a = c.args.count}, c.requires.stands.1))

pub returns-clause-answered : goal.returns-clause-answered
returns-clause-answered g c = λ s at octets known. record {
  given = c.answer_lines_behind-given.result;
  answers = c.answer_lines_behind-given.ensures.answered (record { count = c.args.count; state = s }) (refl {a = c.args.count}, at) octets known;
  told = c.answer_behind.ensures;
  ended = c.ending_of.ensures;
}

pub returns-clause-failures : goal.returns-clause-failures
returns-clause-failures g c =
    subst (λ (answer : Result ℕ (Stopped (Cause LineFault))). OutcomeFailed audit_rules (Lines answer) c.args.input.now
    c.answer_lines_behind-given.new.input c.args.output.now c.answer_lines_behind-given.new.output) (sym c.answer_behind.ensures)
    (fails_alike c.args.count c.answer_lines_behind-given.result _ _ _ _ c.answer_lines_behind-given.ensures.failures)
