use Rattle.std.proofs.Common.{Option, subst}
use Rattle.text_lines.specs.Counted.{device_of}
use Rattle.datagram_source.specs.Datagram.{datagram_of}
use Rattle.signaling_codec.specs.declared.signaling.Signaling.{Signaling}
use Rattle.recording_measure.specs.Measure.{IsTold}
use Rattle.recording_measure.proofs.OwnMessages.{reads_captured, reads_own, never_kept}
use Rattle.recording_measure.proofs.task.MeasureTaskDatagramTask.take.Goals as goal

pub returns-in-Some-clause-taken : goal.returns-in-Some-clause-taken
returns-in-Some-clause-taken g c = λ r at. reads_own c.take_own.result (datagram_of c.args.datagram.now) c.in-Some.signaling
    c.told-told.result.1 r c.take_own.new.self _ _
    (subst (λ (told : Option Signaling). IsTold r c.args.datagram.now.octets.now told) c.in-Some.is (c.told-told.ensures.told r at))
    c.told-told.ensures.tells (c.take_own.ensures.taken _ (c.count.ensures r at))

pub returns-in-Some-clause-kept : goal.returns-in-Some-clause-kept
returns-in-Some-clause-kept g c = λ what is field r at.
    let d = datagram_of c.args.datagram.now in
    absurd (never_kept c.take_own.result what d r c.take_own.new.self (g.W.Write.contents (device_of c.args.output.now))
    (g.W.Write.contents (device_of c.take_own.new.output))
    (reads_own c.take_own.result d c.in-Some.signaling c.told-told.result.1 r c.take_own.new.self
    (g.W.Write.contents (device_of c.args.output.now)) (g.W.Write.contents (device_of c.take_own.new.output))
    (subst (λ (told : Option Signaling). IsTold r c.args.datagram.now.octets.now told) c.in-Some.is (c.told-told.ensures.told r at))
    c.told-told.ensures.tells (c.take_own.ensures.taken _ (c.count.ensures r at))) is field)

pub returns-in-None-clause-taken : goal.returns-in-None-clause-taken
returns-in-None-clause-taken g c = λ r at. reads_captured c.take_captured.result (datagram_of c.args.datagram.now) c.told-told.result.1 r
    c.take_captured.new.self _ _
    (subst (λ (told : Option Signaling). IsTold r c.args.datagram.now.octets.now told) c.in-None.is (c.told-told.ensures.told r at))
    c.told-told.ensures.tells (c.take_captured.ensures.taken _ (c.count-in-None.ensures r at))

pub returns-in-None-clause-kept : goal.returns-in-None-clause-kept
returns-in-None-clause-kept g c = λ what is field r at.
    let d = datagram_of c.args.datagram.now in
    absurd (never_kept c.take_captured.result what d r c.take_captured.new.self (g.W.Write.contents (device_of c.args.output.now))
    (g.W.Write.contents (device_of c.take_captured.new.output))
    (reads_captured c.take_captured.result d c.told-told.result.1 r c.take_captured.new.self
    (g.W.Write.contents (device_of c.args.output.now)) (g.W.Write.contents (device_of c.take_captured.new.output))
    (subst (λ (told : Option Signaling). IsTold r c.args.datagram.now.octets.now told) c.in-None.is (c.told-told.ensures.told r at))
    c.told-told.ensures.tells (c.take_captured.ensures.taken _ (c.count-in-None.ensures r at))) is field)
