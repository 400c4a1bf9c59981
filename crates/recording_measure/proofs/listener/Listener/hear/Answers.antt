use Rattle.std.proofs.Common.{◌∙◌, sym, ap, subst}
use Rattle.event_codec.specs.declared.message.Body.{Body}
use Rattle.event_codec.specs.declared.message.Body.TheVariants.{Sync, DelayResp}
use Rattle.event_codec.specs.Packet.{Contents, contents}
use Rattle.recording_model.specs.Listening.{answered, hears}
use Rattle.recording_measure.specs.Exchanged.{exchanged}
use Rattle.recording_measure.specs.Inner.Became.{heard_by, exchange_by}
use Rattle.recording_measure.specs.Inner.StandsFor.{StandsFor}
use Rattle.recording_measure.proofs.Replied.{heard-became, exchange-became}
use Rattle.recording_measure.proofs.listener.Listener.hear.Goals as goal

pub returns-in-DelayReq-clause-listens : goal.returns-in-DelayReq-clause-listens
returns-in-DelayReq-clause-listens c = λ w l is.
    let m : Contents = contents c.args.message.now in
    subst (StandsFor w c.hear_request.new.self)
    (sym (ap (λ (b : Body). hears w c.args.line c.args.time m b l) c.in-DelayReq.is))
    (c.hear_request.ensures.listens w l is)

pub returns-in-FollowUp-clause-listens : goal.returns-in-FollowUp-clause-listens
returns-in-FollowUp-clause-listens c = λ w l is.
    let m : Contents = contents c.args.message.now in
    subst (StandsFor w c.hear_follow_up.new.self)
    (sym (ap (λ (b : Body). hears w c.args.line c.args.time m b l) c.in-FollowUp.is))
    (c.hear_follow_up.ensures.listens w l is)

pub returns-in-DelayResp-clause-listens : goal.returns-in-DelayResp-clause-listens
returns-in-DelayResp-clause-listens c = λ w l is.
    let m : Contents = contents c.args.message.now in
    subst (StandsFor w c.hear_response.new.self)
    (sym (ap (λ (b : Body). hears w c.args.line c.args.time m b l) c.in-DelayResp.is))
    (c.hear_response.ensures.listens w l is)

pub returns-in-Sync-clause-answered : goal.returns-in-Sync-clause-answered
returns-in-Sync-clause-answered c = λ w l is.
    let m : Contents = contents c.args.message.now in
    ap heard_by (c.hear_sync.ensures.became w l is)
    ∙ heard-became w c.args.line c.args.time m (Sync c.in-Sync.origin) l
    ∙ sym (ap (λ (b : Body). answered w c.args.line c.args.time m b l) c.in-Sync.is)

pub returns-in-DelayResp-clause-answered : goal.returns-in-DelayResp-clause-answered
returns-in-DelayResp-clause-answered c = λ w l is.
    let m : Contents = contents c.args.message.now in
    ap heard_by (c.hear_response.ensures.became w l is)
    ∙ heard-became w c.args.line c.args.time m (DelayResp c.in-DelayResp.receive c.in-DelayResp.requesting) l
    ∙ sym (ap (λ (b : Body). answered w c.args.line c.args.time m b l) c.in-DelayResp.is)

pub returns-in-Sync-clause-exchanged : goal.returns-in-Sync-clause-exchanged
returns-in-Sync-clause-exchanged c = λ w l is.
    let m : Contents = contents c.args.message.now in
    ap exchange_by (c.hear_sync.ensures.became w l is)
    ∙ exchange-became w c.args.line c.args.time m (Sync c.in-Sync.origin) l
    ∙ sym (ap (λ (b : Body). exchanged w c.args.line c.args.time m b l) c.in-Sync.is)

pub returns-in-DelayResp-clause-exchanged : goal.returns-in-DelayResp-clause-exchanged
returns-in-DelayResp-clause-exchanged c = λ w l is.
    let m : Contents = contents c.args.message.now in
    ap exchange_by (c.hear_response.ensures.became w l is)
    ∙ exchange-became w c.args.line c.args.time m (DelayResp c.in-DelayResp.receive c.in-DelayResp.requesting) l
    ∙ sym (ap (λ (b : Body). exchanged w c.args.line c.args.time m b l) c.in-DelayResp.is)
