-- The messages of the readings so far were taken.
use Rattle.std.proofs.Common.{◌≡◌, List, ◌++◌, length}
use Rattle.std.specs.Prelude.{flat_map}
use Rattle.std.specs.Io.KnownBytes.{Appends}
use Rattle.text_lines.specs.Counted.{device_of, HasNotFailed}
use Rattle.datagram_source.specs.Datagram.{datagram_of}
use Rattle.recording_measure.specs.declared.own.OwnMessage.{OwnMessage}
use Rattle.recording_measure.specs.Made.{Measured}
use Rattle.recording_measure.specs.Measured.{texts_as}
use Rattle.recording_measure.specs.Own.{messages_of}
use Rattle.recording_measure.specs.Measure.{Recording, measured_so_far, TakesOwn}
use Rattle.recording_measure.specs.Inner.Task.{IsTask}
use Rattle.recording_measure.proofs.task.MeasureTask.take_own.Given as goal

abbrev pub invariant-loop-own : goal.invariant-loop-own
invariant-loop-own g l = record {
  taken : (r : Recording) → IsTask l.initial.self r
      → (done : List OwnMessage)
      × (flat_map (λ it. messages_of l.signaling.header l.slave it.master it.reading) l.initial.own-iterator
      ≡ done ++ flat_map (λ it. messages_of l.signaling.header l.slave it.master it.reading) l.own-iterator)
      × (mid : Recording) × TakesOwn (datagram_of l.datagram) done r mid × IsTask l.self mid
      × (ms : List Measured) × (measured_so_far mid ≡ ms ++ measured_so_far r)
      × Appends (g.W.Write.contents (device_of l.fn.output)) (g.W.Write.contents (device_of l.output)) (texts_as r.form ms);
  stands : (r : Recording) × IsTask l.self r;
  writer : HasNotFailed l.fn.output l.output;
}

abbrev pub decreases-loop-own : goal.decreases-loop-own
decreases-loop-own g l = length l.own-iterator
