use Rattle.std.proofs.Common.{◌∙◌, List, [], ◌∷◌, sym, ap, subst}
use Rattle.std.specs.Prelude.{⊤}
use Rattle.std.proofs.lemmas.Result.{err_from_is_err_and}
use Rattle.text_lines.specs.Counted.{device_of}
use Rattle.datagram_source.specs.Datagram.{datagram_of}
use Rattle.recording_measure.specs.declared.own.OwnMessage.{OwnMessage}
use Rattle.recording_measure.specs.Own.{messages_of}
use Rattle.recording_measure.specs.Inner.Task.{AddsOwn}
use Rattle.recording_measure.proofs.OwnMessages.{adds_until, adds_after}
use Rattle.recording_measure.proofs.task.MeasureTask.take_reading.Goals as goal

pub returns-in-Sync-clause-taken : goal.returns-in-Sync-clause-taken
returns-in-Sync-clause-taken g c = λ r at.
    let same = c.sync_of.ensures c.args.slave
    ∙ ap (messages_of c.args.header.now c.args.slave c.args.own.now.master) (sym c.in-Sync.is) in
    subst (λ (ms : List OwnMessage). AddsOwn c.take_message.result (datagram_of c.args.datagram.now) ms r c.take_message.new.self
    (g.W.Write.contents (device_of c.args.output.now)) (g.W.Write.contents (device_of c.take_message.new.output))) same
    (c.take_message.ensures.taken r at)

pub returns-in_err-take_message-in-Delay-clause-taken : goal.returns-in_err-take_message-in-Delay-clause-taken
returns-in_err-take_message-in-Delay-clause-taken g c = λ r at.
    let e = err_from_is_err_and c.from_residual.result c.from_residual.ensures.1 in
    let first = c.take_message-in-Delay in
    let messages = c.exchange_of-request.result in
    let same = c.exchange_of-request.ensures
    ∙ ap (messages_of c.args.header.now c.args.slave c.args.own.now.master) (sym c.in-Delay.is) in
    subst (λ (ms : List OwnMessage). AddsOwn c.from_residual.result (datagram_of c.args.datagram.now) ms r first.new.self
    (g.W.Write.contents (device_of c.args.output.now)) (g.W.Write.contents (device_of first.new.output))) same
    (rw (e.1, e.2) (adds_until ⊤ c.in_err-take_message-in-Delay.field-0.0 (datagram_of c.args.datagram.now) (messages.0 ∷ [])
    (messages.1 ∷ []) r first.new.self first.new.self _ _ (c.in_err-take_message-in-Delay.ensures.taken r at)))

pub returns-in_ok-take_message-in-Delay-clause-taken : goal.returns-in_ok-take_message-in-Delay-clause-taken
returns-in_ok-take_message-in-Delay-clause-taken g c = λ r at.
    let next = c.take_message-in-Delay-2 in
    let messages = c.exchange_of-request.result in
    let same = c.exchange_of-request.ensures
    ∙ ap (messages_of c.args.header.now c.args.slave c.args.own.now.master) (sym c.in-Delay.is) in
    let (mid, takes, there, ms, grown, went) = c.in_ok-take_message-in-Delay.ensures.taken r at in
    subst (λ (ms : List OwnMessage). AddsOwn next.result (datagram_of c.args.datagram.now) ms r next.new.self
    (g.W.Write.contents (device_of c.args.output.now)) (g.W.Write.contents (device_of next.new.output))) same
    (adds_after next.result (datagram_of c.args.datagram.now) (messages.0 ∷ []) (messages.1 ∷ []) r mid ms next.new.self _ _ _
    takes grown went (next.ensures.taken mid there))
