-- The parts so far were read and taken, and no device failed.
use Rattle.std.proofs.Common.{◌-◌, ◌^◌, ◌<◌, ◌≤◌, length}
use Rattle.std.specs.Io.KnownBytes.{prepend_known}
use Rattle.text_lines.specs.Counted.{device_of, HasNotFailed}
use Rattle.capture_file.specs.Inner.Front.{front_of}
use Rattle.capture_file.specs.Inner.Reading.{form_of, begun_with}
use Rattle.capture_file.specs.Inner.Taking.{IsTaken}
use Rattle.capture_file.proofs.task.answer_packets_behind.Given as goal

abbrev pub invariant-loop-part : goal.invariant-loop-part
invariant-loop-part g l = record {
  stands : (state : g.T.PacketTask.State) × g.T.PacketTask.is_at l.task state;
  taken : (start : g.T.PacketTask.State) → g.T.PacketTask.is_at l.initial.task start → (state : g.T.PacketTask.State) × g.T.PacketTask.is_at l.task state
      × IsTaken g.T.PacketTask.rules start (form_of l.form) l.progress (prepend_known l.fn.start (g.R.Read.remaining (device_of l.initial.input)))
      (prepend_known (begun_with (form_of l.form) (front_of l.front)) (g.R.Read.remaining (device_of l.input)))
      (g.W.Write.contents (device_of l.initial.output)) (g.W.Write.contents (device_of l.output)) state;
  begun : length (begun_with (form_of l.form) (front_of l.front)) ≤ 4;
  within : l.progress.octets < 2 ^ 64;
  input : HasNotFailed l.initial.input l.input;
  output : HasNotFailed l.initial.output l.output;
}

abbrev pub decreases-loop-part : goal.decreases-loop-part
decreases-loop-part g l = 2 ^ 64 - l.progress.octets
