use Rattle.std.proofs.Common.{◌++◌, refl}
use Rattle.datagram_source.specs.Rules.{nothing_read}
use Rattle.datagram_source.specs.declared.lines.LineSource.{LineSource}
use Rattle.datagram_source.proofs.Lefts.{lines_left}
use Rattle.datagram_source.proofs.input.answer_lines.Goals as goal

pub answer_lines_behind-answer-requires-clause-stands : goal.answer_lines_behind-answer-requires-clause-stands
answer_lines_behind-answer-requires-clause-stands g c = (nothing_read c.requires.stands.0, (refl, c.requires.stands.1))

pub returns-clause-left : goal.returns-clause-left
returns-clause-left g c = λ state at octets known.
    lines_left g.T.DatagramTask.rules g.T.DatagramTask.is_at (λ (s : LineSource _ _). s.task) (λ (s : LineSource _ _). s.count) state
    (c.args.start.now ++ octets) c.answer_lines_behind-answer.new.task _
    (c.answer_lines_behind-answer.ensures.left (nothing_read state) (refl, at) octets known)
