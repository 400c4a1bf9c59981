use Rattle.std.proofs.Common.{◌≡◌, ◌∙◌, ◌∷◌, true, false, Option, Some, Ok, sym, ap, subst}
use Rattle.event_codec.specs.Packet.{Contents, contents}
use Rattle.sync_watch.specs.declared.arrival.Arrival.{Arrival}
use Rattle.sync_watch.specs.Told.{FollowUp}
use Rattle.sync_watch.specs.Judged.{is_repeated}
use Rattle.slave_port.specs.History.{Call, General}
use Rattle.recording_model.specs.declared.watched.Watched.{Watched}
use Rattle.recording_model.specs.Listening.{Listening, table_capacity, is_of, arrival_of}
use Rattle.recording_model.specs.Listening.{hears_ready}
use Rattle.recording_measure.specs.Inner.Became.{became_by, became_called}
use Rattle.recording_measure.specs.Inner.StandsFor.{StandsFor}
use Rattle.recording_measure.proofs.Judged.{follow_up-other, follow_up-judged, says-newer, says-repeated}
use Rattle.recording_measure.proofs.listener.Listener.hear_follow_up.Goals as goal

pub returns-then-not-is_of-clause-listens : goal.returns-then-not-is_of-clause-listens
returns-then-not-is_of-clause-listens c = λ w l is.
    let m : Contents = contents c.args.message.now in
    let call : Call = General (Ok m) c.args.line in
    let other : is_of w w.master m.header ≡ false =
    subst (λ (v : Watched). is_of v v.master m.header ≡ false) is.watched (sym c.is_of.ensures ∙ c.if-not-is_of.true) in
    let heard = c.tell_general.ensures.listens w l is in
    subst (λ (r : Option Listening).
    StandsFor w c.tell_general.new.self (hears_ready false call r l))
    (sym (follow_up-other w c.args.line c.args.time m l other)) heard

pub returns-then-not-is_of-clause-became : goal.returns-then-not-is_of-clause-became
returns-then-not-is_of-clause-became c = λ w l is.
    let m : Contents = contents c.args.message.now in
    let call : Call = General (Ok m) c.args.line in
    let other : is_of w w.master m.header ≡ false =
    subst (λ (v : Watched). is_of v v.master m.header ≡ false) is.watched (sym c.is_of.ensures ∙ c.if-not-is_of.true) in
    ap (λ h. became_by false (Some h)) (c.tell_general.ensures.reply w l is)
    ∙ ap (became_called false call w) (sym (follow_up-other w c.args.line c.args.time m l other))

pub returns-in-Newer-clause-listens : goal.returns-in-Newer-clause-listens
returns-in-Newer-clause-listens c = λ w l is.
    let m : Contents = contents c.args.message.now in
    let call : Call = General (Ok m) c.args.line in
    let of : is_of w w.master m.header ≡ true =
    subst (λ (v : Watched). is_of v v.master m.header ≡ true) is.watched (sym c.is_of.ensures ∙ c.if-not-is_of.false) in
    let says = c.judge_follow_up.ensures.judgement w l is in
    let a : Arrival = arrival_of m.header c.args.time in
    let again = says-newer (is_repeated a table_capacity l.heard) c.judge_follow_up.result says c.in-Newer.is in
    let one = follow_up-judged w c.args.line c.args.time m l false of again in
    let k : Listening = record l { heard = FollowUp a ∷ l.heard } in
    let now = subst (StandsFor w c.judge_follow_up.new.self) one.known_is (c.judge_follow_up.ensures.listens w l is) in
    let heard = c.tell_general-in-Newer.ensures.listens w k now in
    subst (λ (r : Option Listening).
    StandsFor w c.tell_general-in-Newer.new.self (hears_ready false call r l))
    (sym one.ready_is) heard

pub returns-in-Newer-clause-became : goal.returns-in-Newer-clause-became
returns-in-Newer-clause-became c = λ w l is.
    let m : Contents = contents c.args.message.now in
    let call : Call = General (Ok m) c.args.line in
    let of : is_of w w.master m.header ≡ true =
    subst (λ (v : Watched). is_of v v.master m.header ≡ true) is.watched (sym c.is_of.ensures ∙ c.if-not-is_of.false) in
    let says = c.judge_follow_up.ensures.judgement w l is in
    let a : Arrival = arrival_of m.header c.args.time in
    let again = says-newer (is_repeated a table_capacity l.heard) c.judge_follow_up.result says c.in-Newer.is in
    let one = follow_up-judged w c.args.line c.args.time m l false of again in
    let k : Listening = record l { heard = FollowUp a ∷ l.heard } in
    let now = subst (StandsFor w c.judge_follow_up.new.self) one.known_is (c.judge_follow_up.ensures.listens w l is) in
    ap (λ h. became_by false (Some h)) (c.tell_general-in-Newer.ensures.reply w k now)
    ∙ ap (became_called false call w) (sym one.ready_is)

pub returns-in-Repeated : goal.returns-in-Repeated
returns-in-Repeated c = record {
  listens = λ w l is.
      let m : Contents = contents c.args.message.now in
      let call : Call = General (Ok m) c.args.line in
      let of : is_of w w.master m.header ≡ true =
      subst (λ (v : Watched). is_of v v.master m.header ≡ true) is.watched (sym c.is_of.ensures ∙ c.if-not-is_of.false) in
      let says = c.judge_follow_up.ensures.judgement w l is in
      let a : Arrival = arrival_of m.header c.args.time in
      let again = says-repeated (is_repeated a table_capacity l.heard) c.judge_follow_up.result says c.in-Repeated.is in
      let one = follow_up-judged w c.args.line c.args.time m l true of again in
      subst (λ (r : Option Listening). StandsFor w c.judge_follow_up.new.self (hears_ready false call r l))
      (sym one.ready_is)
      (subst (StandsFor w c.judge_follow_up.new.self) one.known_is (c.judge_follow_up.ensures.listens w l is));
  became = λ w l is.
      let m : Contents = contents c.args.message.now in
      let call : Call = General (Ok m) c.args.line in
      let of : is_of w w.master m.header ≡ true =
      subst (λ (v : Watched). is_of v v.master m.header ≡ true) is.watched (sym c.is_of.ensures ∙ c.if-not-is_of.false) in
      let says = c.judge_follow_up.ensures.judgement w l is in
      let a : Arrival = arrival_of m.header c.args.time in
      let again = says-repeated (is_repeated a table_capacity l.heard) c.judge_follow_up.result says c.in-Repeated.is in
      let one = follow_up-judged w c.args.line c.args.time m l true of again in
      ap (became_called false call w) (sym one.ready_is);
}
