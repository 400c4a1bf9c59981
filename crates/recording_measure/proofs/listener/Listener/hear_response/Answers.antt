use Rattle.std.proofs.Common.{◌≡◌, ◌∙◌, ◌∷◌, true, false, Option, Some, Ok, sym, ap, subst}
use Rattle.event_codec.specs.Packet.{Contents, contents}
use Rattle.pairing.specs.Marked.{entry}
use Rattle.sync_watch.specs.Told.{known}
use Rattle.event_codec.specs.Port.{is_same_port}
use Rattle.std.specs.Prelude.{◌&&◌, is_some}
use Rattle.slave_port.specs.History.{Call, General}
use Rattle.recording_model.specs.declared.watched.Watched.{Watched}
use Rattle.recording_model.specs.Listening.{Listening, table_capacity, is_of}
use Rattle.recording_model.specs.Listening.{hears_ready}
use Rattle.recording_measure.specs.Inner.Became.{became_by, became_called}
use Rattle.recording_measure.specs.Inner.StandsFor.{StandsFor}
use Rattle.recording_measure.proofs.Judged.{response-other, response-judged, says-newer, says-repeated}
use Rattle.recording_measure.proofs.listener.Listener.hear_response.Goals as goal

pub returns-then-not-is_answer-clause-listens : goal.returns-then-not-is_answer-clause-listens
returns-then-not-is_answer-clause-listens c = λ w l is.
    let m : Contents = contents c.args.message.now in
    let call : Call = General (Ok m) c.args.line in
    let other : (is_of w w.master m.header && is_same_port c.args.requesting w.slave) ≡ false =
    subst (λ (v : Watched). (is_of v v.master m.header && is_same_port c.args.requesting v.slave) ≡ false) is.watched
    (sym c.is_answer.ensures ∙ c.if-not-is_answer.true) in
    let heard = c.tell_general.ensures.listens w l is in
    subst (λ (r : Option Listening).
    StandsFor w c.tell_general.new.self (hears_ready false call r l))
    (sym (response-other w c.args.line c.args.time m l c.args.requesting other)) heard

pub returns-then-not-is_answer-clause-became : goal.returns-then-not-is_answer-clause-became
returns-then-not-is_answer-clause-became c = λ w l is.
    let m : Contents = contents c.args.message.now in
    let call : Call = General (Ok m) c.args.line in
    let other : (is_of w w.master m.header && is_same_port c.args.requesting w.slave) ≡ false =
    subst (λ (v : Watched). (is_of v v.master m.header && is_same_port c.args.requesting v.slave) ≡ false) is.watched
    (sym c.is_answer.ensures ∙ c.if-not-is_answer.true) in
    ap (λ h. became_by false (Some h)) (c.tell_general.ensures.reply w l is)
    ∙ ap (became_called false call w) (sym (response-other w c.args.line c.args.time m l c.args.requesting other))

pub returns-in-Newer-clause-listens : goal.returns-in-Newer-clause-listens
returns-in-Newer-clause-listens c = λ w l is.
    let m : Contents = contents c.args.message.now in
    let call : Call = General (Ok m) c.args.line in
    let of : (is_of w w.master m.header && is_same_port c.args.requesting w.slave) ≡ true =
    subst (λ (v : Watched). (is_of v v.master m.header && is_same_port c.args.requesting v.slave) ≡ true) is.watched
    (sym c.is_answer.ensures ∙ c.if-not-is_answer.false) in
    let says = c.judge_response.ensures.judgement w l is in
    let again = says-newer (is_some (known table_capacity m.header.sequence.0 l.responses)) c.judge_response.result says c.in-Newer.is in
    let one = response-judged w c.args.line c.args.time m l c.args.requesting false of again in
    let k : Listening = record l { responses = entry m.header.sequence.0 c.args.time ∷ l.responses } in
    let now = subst (StandsFor w c.judge_response.new.self) one.1 (c.judge_response.ensures.listens w l is) in
    let heard = c.tell_general-in-Newer.ensures.listens w k now in
    subst (λ (r : Option Listening).
    StandsFor w c.tell_general-in-Newer.new.self (hears_ready false call r l))
    (sym one.0) heard

pub returns-in-Newer-clause-became : goal.returns-in-Newer-clause-became
returns-in-Newer-clause-became c = λ w l is.
    let m : Contents = contents c.args.message.now in
    let call : Call = General (Ok m) c.args.line in
    let of : (is_of w w.master m.header && is_same_port c.args.requesting w.slave) ≡ true =
    subst (λ (v : Watched). (is_of v v.master m.header && is_same_port c.args.requesting v.slave) ≡ true) is.watched
    (sym c.is_answer.ensures ∙ c.if-not-is_answer.false) in
    let says = c.judge_response.ensures.judgement w l is in
    let again = says-newer (is_some (known table_capacity m.header.sequence.0 l.responses)) c.judge_response.result says c.in-Newer.is in
    let one = response-judged w c.args.line c.args.time m l c.args.requesting false of again in
    let k : Listening = record l { responses = entry m.header.sequence.0 c.args.time ∷ l.responses } in
    let now = subst (StandsFor w c.judge_response.new.self) one.1 (c.judge_response.ensures.listens w l is) in
    ap (λ h. became_by false (Some h)) (c.tell_general-in-Newer.ensures.reply w k now)
    ∙ ap (became_called false call w) (sym one.0)

pub returns-in-Repeated : goal.returns-in-Repeated
returns-in-Repeated c = record {
  listens = λ w l is.
      let m : Contents = contents c.args.message.now in
      let call : Call = General (Ok m) c.args.line in
      let of : (is_of w w.master m.header && is_same_port c.args.requesting w.slave) ≡ true =
      subst (λ (v : Watched). (is_of v v.master m.header && is_same_port c.args.requesting v.slave) ≡ true) is.watched
      (sym c.is_answer.ensures ∙ c.if-not-is_answer.false) in
      let says = c.judge_response.ensures.judgement w l is in
      let again = says-repeated (is_some (known table_capacity m.header.sequence.0 l.responses)) c.judge_response.result says c.in-Repeated.is in
      let one = response-judged w c.args.line c.args.time m l c.args.requesting true of again in
      subst (λ (r : Option Listening). StandsFor w c.judge_response.new.self (hears_ready false call r l))
      (sym one.0)
      (subst (StandsFor w c.judge_response.new.self) one.1 (c.judge_response.ensures.listens w l is));
  became = λ w l is.
      let m : Contents = contents c.args.message.now in
      let call : Call = General (Ok m) c.args.line in
      let of : (is_of w w.master m.header && is_same_port c.args.requesting w.slave) ≡ true =
      subst (λ (v : Watched). (is_of v v.master m.header && is_same_port c.args.requesting v.slave) ≡ true) is.watched
      (sym c.is_answer.ensures ∙ c.if-not-is_answer.false) in
      let says = c.judge_response.ensures.judgement w l is in
      let again = says-repeated (is_some (known table_capacity m.header.sequence.0 l.responses)) c.judge_response.result says c.in-Repeated.is in
      let one = response-judged w c.args.line c.args.time m l c.args.requesting true of again in
      ap (became_called false call w) (sym one.0);
}
