use Rattle.std.proofs.Common.{◌≡◌, ◌∙◌, true, false, Some, Ok, sym, ap, subst}
use Rattle.event_codec.specs.Packet.{Contents, contents}
use Rattle.sync_watch.specs.declared.judgement.Judgement.TheVariants.{Newer, Repeated, BeganAnew}
use Rattle.slave_port.specs.History.{Call, Event}
use Rattle.recording_model.specs.declared.watched.Watched.{Watched}
use Rattle.recording_model.specs.Listening.{is_of}
use Rattle.recording_measure.specs.Inner.Became.{became_by}
use Rattle.recording_measure.specs.Inner.StandsFor.{StandsFor}
use Rattle.recording_measure.proofs.Judged.{sync-begins, sync-begins-not, sync-other, sync-other-reply, sync-judged, sync-judged-reply, with_sync-judged, sync-anew}
use Rattle.recording_measure.proofs.listener.Listener.hear_sync.Goals as goal

pub returns-then-not-is_of-clause-listens : goal.returns-then-not-is_of-clause-listens
returns-then-not-is_of-clause-listens c = λ w l is.
    let m : Contents = contents c.args.message.now in
    let call : Call = Event (Ok m) c.args.time c.args.line in
    let other : is_of w w.master m.header ≡ false =
    subst (λ (v : Watched). is_of v v.master m.header ≡ false) is.watched (sym c.is_of.ensures ∙ c.if-not-is_of.true) in
    subst (StandsFor w c.tell_event.new.self)
    (sym (sync-other w c.args.line c.args.time m l other)) (c.tell_event.ensures.listens w l is)

pub returns-then-not-is_of-clause-became : goal.returns-then-not-is_of-clause-became
returns-then-not-is_of-clause-became c = λ w l is.
    let m : Contents = contents c.args.message.now in
    let call : Call = Event (Ok m) c.args.time c.args.line in
    let other : is_of w w.master m.header ≡ false =
    subst (λ (v : Watched). is_of v v.master m.header ≡ false) is.watched (sym c.is_of.ensures ∙ c.if-not-is_of.true) in
    let same = ap Some (c.tell_event.ensures.reply w l is)
    ∙ sym (sync-other-reply w c.args.line c.args.time m l other) in
    let begins = sync-begins-not w c.args.line c.args.time m l other in
    λ i. became_by (sym begins i) (same i)

pub returns-in-Newer-clause-listens : goal.returns-in-Newer-clause-listens
returns-in-Newer-clause-listens c = λ w l is.
    let m : Contents = contents c.args.message.now in
    let of : is_of w w.master m.header ≡ true =
    subst (λ (v : Watched). is_of v v.master m.header ≡ true) is.watched (sym c.is_of.ensures ∙ c.if-not-is_of.false) in
    let says = sym (c.judge_sync.ensures.judgement w l is) ∙ c.in-Newer.is in
    let known_now = subst (StandsFor w c.judge_sync.new.self)
    (with_sync-judged w c.args.line c.args.time m l Newer says) (c.judge_sync.ensures.listens w l is) in
    subst (StandsFor w c.hear_counted.new.self) (sym (sync-judged w c.args.line c.args.time m l Newer of says))
    (c.hear_counted.ensures.listens w _ known_now)

pub returns-in-Repeated-clause-listens : goal.returns-in-Repeated-clause-listens
returns-in-Repeated-clause-listens c = λ w l is.
    let m : Contents = contents c.args.message.now in
    let call : Call = Event (Ok m) c.args.time c.args.line in
    let of : is_of w w.master m.header ≡ true =
    subst (λ (v : Watched). is_of v v.master m.header ≡ true) is.watched (sym c.is_of.ensures ∙ c.if-not-is_of.false) in
    let says = sym (c.judge_sync.ensures.judgement w l is) ∙ c.in-Repeated.is in
    subst (StandsFor w c.judge_sync.new.self)
    (with_sync-judged w c.args.line c.args.time m l Repeated says
    ∙ sym (sync-judged w c.args.line c.args.time m l Repeated of says)) (c.judge_sync.ensures.listens w l is)

pub returns-in-Newer-clause-became : goal.returns-in-Newer-clause-became
returns-in-Newer-clause-became c = λ w l is.
    let m : Contents = contents c.args.message.now in
    let of : is_of w w.master m.header ≡ true =
    subst (λ (v : Watched). is_of v v.master m.header ≡ true) is.watched (sym c.is_of.ensures ∙ c.if-not-is_of.false) in
    let says = sym (c.judge_sync.ensures.judgement w l is) ∙ c.in-Newer.is in
    let known_now = subst (StandsFor w c.judge_sync.new.self)
    (with_sync-judged w c.args.line c.args.time m l Newer says) (c.judge_sync.ensures.listens w l is) in
    let same = ap Some (c.hear_counted.ensures.reply w _ known_now)
    ∙ sym (sync-judged-reply w c.args.line c.args.time m l Newer of says) in
    let begins = sync-begins w c.args.line c.args.time m l Newer of says in
    λ i. became_by (sym begins i) (same i)

pub returns-in-Repeated-clause-became : goal.returns-in-Repeated-clause-became
returns-in-Repeated-clause-became c = λ w l is.
    let m : Contents = contents c.args.message.now in
    let of : is_of w w.master m.header ≡ true =
    subst (λ (v : Watched). is_of v v.master m.header ≡ true) is.watched (sym c.is_of.ensures ∙ c.if-not-is_of.false) in
    let says = sym (c.judge_sync.ensures.judgement w l is) ∙ c.in-Repeated.is in
    let same = sync-judged-reply w c.args.line c.args.time m l Repeated of says in
    let begins = sync-begins w c.args.line c.args.time m l Repeated of says in
    λ i. became_by (sym begins i) (sym same i)

pub returns-in-BeganAnew-clause-listens : goal.returns-in-BeganAnew-clause-listens
returns-in-BeganAnew-clause-listens c = λ w l is.
    let m : Contents = contents c.args.message.now in
    let call : Call = Event (Ok m) c.args.time c.args.line in
    let of : is_of w w.master m.header ≡ true =
    subst (λ (v : Watched). is_of v v.master m.header ≡ true) is.watched (sym c.is_of.ensures ∙ c.if-not-is_of.false) in
    let says = sym (c.judge_sync.ensures.judgement w l is) ∙ c.in-BeganAnew.is in
    let known_now = subst (StandsFor w c.tell_master.new.self) (sync-anew w c.args.line c.args.time m l says)
    (c.tell_master.ensures c.args.line w _ (c.judge_sync.ensures.listens w l is)) in
    subst (StandsFor w c.hear_counted-in-BeganAnew.new.self) (sym (sync-judged w c.args.line c.args.time m l BeganAnew of says))
    (c.hear_counted-in-BeganAnew.ensures.listens w _ known_now)

pub returns-in-BeganAnew-clause-became : goal.returns-in-BeganAnew-clause-became
returns-in-BeganAnew-clause-became c = λ w l is.
    let m : Contents = contents c.args.message.now in
    let call : Call = Event (Ok m) c.args.time c.args.line in
    let of : is_of w w.master m.header ≡ true =
    subst (λ (v : Watched). is_of v v.master m.header ≡ true) is.watched (sym c.is_of.ensures ∙ c.if-not-is_of.false) in
    let says = sym (c.judge_sync.ensures.judgement w l is) ∙ c.in-BeganAnew.is in
    let known_now = subst (StandsFor w c.tell_master.new.self) (sync-anew w c.args.line c.args.time m l says)
    (c.tell_master.ensures c.args.line w _ (c.judge_sync.ensures.listens w l is)) in
    let same = ap Some (c.hear_counted-in-BeganAnew.ensures.reply w _ known_now)
    ∙ sym (sync-judged-reply w c.args.line c.args.time m l BeganAnew of says) in
    let begins = sync-begins w c.args.line c.args.time m l BeganAnew of says in
    λ i. became_by (sym begins i) (same i)
