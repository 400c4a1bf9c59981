use Rattle.std.proofs.Common.{[], ◌∙◌, refl, sym}
use Rattle.std.proofs.KnownBytes.{Appends-nil}
use Rattle.datagram_source.specs.Datagram.{datagram_of}
use Rattle.recording_measure.proofs.OwnMessages.{adds_captured, captured_nothing, not_own}
use Rattle.recording_measure.proofs.task.MeasureTask.take_captured.Goals as goal

pub returns-in-Own-clause-taken : goal.returns-in-Own-clause-taken
returns-in-Own-clause-taken g c = λ r at. (
  r,
  captured_nothing r.by c.in-Own.field-0 (datagram_of c.args.datagram.now) r (sym at.by ∙ c.in-Own.is),
  at,
  [],
  refl,
  Appends-nil _,
)

pub returns-in-Any-clause-taken : goal.returns-in-Any-clause-taken
returns-in-Any-clause-taken g c = λ r at.
    adds_captured c.take_captured.result (datagram_of c.args.datagram.now) r c.take_captured.new.self _ _ _
    (λ own is. not_own c.args.self.now.by c.in-Any.is own (at.by ∙ is)) refl at.by at.passed (c.take_captured.ensures.taken r at.measuring)
