use Rattle.std.proofs.Common.{Bool, subst}
use Rattle.std.specs.Prelude.{not, ◌&&◌}
use Rattle.datagram_source.specs.Datagram.{datagram_of}
use Rattle.recording_measure.specs.Measure.{more_if}
use Rattle.recording_measure.specs.Inner.Task.{AreCounted}
use Rattle.recording_measure.proofs.OwnMessages.{counted_measuring}
use Rattle.recording_measure.proofs.task.MeasureTask.count.Goals as goal

pub returns : goal.returns
returns c = λ r at. record {
  measuring = counted_measuring (datagram_of c.args.datagram.now) c.args.is_taken c.args.tells r c.args.self.now.measuring at.measuring;
  by = at.by;
  passed = subst (λ (b : Bool). AreCounted (more_if b r.captured) (more_if (c.args.tells && not c.args.is_taken) r.untaken) c.count.new.self)
      c.is_message.ensures
      (subst (λ (b : Bool). AreCounted (more_if c.is_message.result r.captured) (more_if b r.untaken) c.count.new.self) c.is_untaken.ensures
      (c.count.ensures r.captured r.untaken at.passed));
}
