use Rattle.std.proofs.Common.{◌++◌}
use Rattle.datagram_source.specs.declared.input.InputOutcome.TheVariants.{Capture}
use Rattle.datagram_source.proofs.LeftAs.{left_as}
use Rattle.audit_command.specs.Audit.{Audited, audit_rules}
use Rattle.audit_command.specs.Ending.{IsEnding}
use Rattle.audit_command.specs.Inner.Task.{IsAt}
use Rattle.audit_command.proofs.input.audit_capture.Goals as goal

pub returns-clause-answered : goal.returns-clause-answered
returns-clause-answered g c = λ s at octets known.
    let answer = c.answer_capture_behind-answer in (
      answer.ensures.answered s at octets known,
      left_as audit_rules s (c.args.start.now ++ octets) (IsAt answer.result.1)
          (λ (ended : Audited). IsEnding ended c.ending.result) (λ ended there. c.ending.ensures ended there)
          (Capture answer.result.0) (answer.ensures.left s at octets known),
    )
