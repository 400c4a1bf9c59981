use Rattle.std.proofs.Common.{◌≡◌, ◌∙◌, ◌++◌, List, [], Ok, Err, refl, sym, ap, subst, rules}
use Rattle.std.specs.Prelude.{⊤, flat_map}
use Rattle.std.proofs.KnownBytes.{Appends-nil}
use Rattle.std.proofs.lemmas.List.{append_assoc, append-nil}
use Rattle.std.proofs.lemmas.Result.{err_from_is_err_and}
use Rattle.text_lines.specs.Counted.{device_of}
use Rattle.datagram_source.specs.Datagram.{datagram_of}
use Rattle.event_codec.specs.declared.port.PortIdentity.{PortIdentity}
use Rattle.signaling_codec.specs.declared.reading.OwnReading.{OwnReading}
use Rattle.recording_measure.specs.declared.own.OwnMessage.{OwnMessage}
use Rattle.recording_measure.specs.Measure.{with_own}
use Rattle.recording_measure.specs.Own.{messages_of, messages_in}
use Rattle.recording_measure.specs.Inner.Task.{AddsOwn}
use Rattle.recording_measure.proofs.OwnMessages.{adds_until, adds_after}
use Rattle.recording_measure.proofs.task.MeasureTask.take_own.Goals as goal

pub loop-own-init : goal.loop-own-init
loop-own-init g c = record {
  taken = λ r at. ([], refl, r, refl, at, [], refl, Appends-nil _);
  stands = (with_own c.requires.stands.0.by c.slave_by-slave.result c.requires.stands.0, c.begin_own.ensures c.requires.stands.0 c.requires.stands.1);
  writer = search rules;
}

pub loop-own-preserved : goal.loop-own-preserved
loop-own-preserved g c =
    let messages : OwnReading → List OwnMessage =
    λ it. messages_of c.args.signaling.now.header c.slave_by-slave.result it.master it.reading in record {
      taken = λ r at.
          let (done, whole, mid, takes, there, ms, grown, went) = c.loop-own.invariant.taken r at in
          let first = messages c.in-Some.own in
          let (later, all, is, more, brought, out) = adds_after {T = ⊤} (Ok tt) (datagram_of c.args.datagram.now) done first r mid ms
          c.take_reading.new.self _ _ _ takes grown went (c.in_ok-take_reading.ensures.taken mid there) in (
            done ++ first,
            whole ∙ ap (λ (readings : List OwnReading). done ++ flat_map messages readings) c.in-Some.ensures.steps
                ∙ sym (append_assoc done first (flat_map messages c.next.new.self)),
            later,
            all,
            is,
            more,
            brought,
            out,
          );
      stands =
          let taken = c.in_ok-take_reading.ensures.taken c.loop-own.invariant.stands.0 c.loop-own.invariant.stands.1 in
          (taken.0, taken.2);
      writer = search rules;
    }

pub returns-in_err-take_reading-clause-taken : goal.returns-in_err-take_reading-clause-taken
returns-in_err-take_reading-clause-taken g c = λ r at.
    let e = err_from_is_err_and c.from_residual.result c.from_residual.ensures.1 in
    let slave = c.slave_by-slave.result in
    let told = datagram_of c.args.datagram.now in
    let messages : OwnReading → List OwnMessage = λ it. messages_of c.args.signaling.now.header slave it.master it.reading in
    let own = with_own r.by slave r in
    let (done, whole, mid, takes, there, ms, grown, went) = c.loop-own.invariant.taken own (c.begin_own.ensures r at) in
    let first = messages c.in-Some.own in
    let others = flat_map messages c.next.new.self in
    let all : done ++ (first ++ others) ≡ messages_in slave c.args.signaling.now =
    sym (whole ∙ ap (λ (readings : List OwnReading). done ++ flat_map messages readings) c.in-Some.ensures.steps)
    ∙ ap (flat_map messages) (c.into_iter-own-iterator.ensures.into_iter_gives ∙ c.readings-own-items.ensures) in
    subst (λ (s : PortIdentity). AddsOwn c.from_residual.result told (messages_in s c.args.signaling.now) (with_own r.by s r)
    c.take_reading.new.self (g.W.Write.contents (device_of c.args.output.now)) (g.W.Write.contents (device_of c.take_reading.new.output)))
    (c.slave_by-slave.ensures r at)
    (subst (λ (list : List OwnMessage). AddsOwn c.from_residual.result told list own c.take_reading.new.self
    (g.W.Write.contents (device_of c.args.output.now)) (g.W.Write.contents (device_of c.take_reading.new.output))) all
    (rw (e.1, e.2) (adds_after {T = ⊤} (Err c.in_err-take_reading.field-0.0) told done (first ++ others) own mid ms c.take_reading.new.self _ _ _ takes grown went
    (adds_until ⊤ c.in_err-take_reading.field-0.0 told first others mid c.take_reading.new.self c.take_reading.new.self _ _
    (c.in_err-take_reading.ensures.taken mid there)))))

pub returns-clause-taken : goal.returns-clause-taken
returns-clause-taken g c = λ r at.
    let slave = c.slave_by-slave.result in
    let told = datagram_of c.args.datagram.now in
    let messages : OwnReading → List OwnMessage = λ it. messages_of c.args.signaling.now.header slave it.master it.reading in
    let own = with_own r.by slave r in
    let (done, whole, mid, takes, there, ms, grown, went) = c.loop-own.invariant.taken own (c.begin_own.ensures r at) in
    let all : done ≡ messages_in slave c.args.signaling.now =
    sym (whole ∙ ap (λ (readings : List OwnReading). done ++ flat_map messages readings) c.in-None.ensures.steps.0 ∙ append-nil done)
    ∙ ap (flat_map messages) (c.into_iter-own-iterator.ensures.into_iter_gives ∙ c.readings-own-items.ensures) in
    subst (λ (s : PortIdentity). AddsOwn {T = ⊤} (Ok tt) told (messages_in s c.args.signaling.now) (with_own r.by s r)
    c.loop-own.self (g.W.Write.contents (device_of c.args.output.now)) (g.W.Write.contents (device_of c.loop-own.output)))
    (c.slave_by-slave.ensures r at)
    (subst (λ (list : List OwnMessage). AddsOwn {T = ⊤} (Ok tt) told list own c.loop-own.self
    (g.W.Write.contents (device_of c.args.output.now)) (g.W.Write.contents (device_of c.loop-own.output))) all
    (mid, takes, there, ms, grown, went))
