use Rattle.std.proofs.Common.{subst, sym, Option}
use Rattle.event_codec.specs.declared.port.PortIdentity.{PortIdentity}
use Rattle.event_codec.specs.Packet.{Contents, contents}
use Rattle.recording_summary.specs.declared.whom.Known.{Known}
use Rattle.recording_measure.specs.declared.watch.Watch.{Watch}
use Rattle.recording_measure.specs.Inner.Watching.{Notices}
use Rattle.recording_measure.proofs.Watches.{IsWatch-notices, Notices-takes, Takes, Takes-sync, Takes-request}
use Rattle.recording_measure.proofs.Watches.{Takes-general}
use Rattle.recording_measure.proofs.watch.Watch.notice.Goals as goal
use Rattle.recording_measure.proofs.watch.Watch.notice.Goals.{in-Sync, in-DelayReq, in-FollowUp}

pub returns : goal.returns
returns c = λ w d ds said numbered is.
    let m : Contents = contents c.args.message.now in
    let takes : Takes d c.args.self.now c.match-message.self = elim c.match-message.branch [
      | in-Sync b ↦ subst (Takes d c.args.self.now) (sym b.self-is)
          (Takes-sync d m c.args.self.now b.notice_sync.new.self b.in-Sync.origin c.args.line said numbered b.in-Sync.is
          b.notice_sync.ensures.domain b.notice_sync.ensures.master b.notice_sync.ensures.others)
      | in-DelayReq b ↦ subst (Takes d c.args.self.now) (sym b.self-is)
          (Takes-request d m c.args.self.now b.notice_request.new.self b.in-DelayReq.origin c.args.line said numbered b.in-DelayReq.is
          b.notice_request.ensures.requests b.notice_request.ensures.others)
      | in-FollowUp b ↦ Takes-general d m c.args.self.now c.match-message.self said b.in-FollowUp.is b.self-is
    ] in
    let watch : Option (Known PortIdentity) → Watch = λ slave. record c.match-message.self { slave = slave } in
    let notices =
    Notices-takes d c.args.self.now c.match-message.self c.requester.result takes c.requester.ensures.source in
    IsWatch-notices w d ds c.args.self.now (watch c.or-self.result) c.requester.ensures.domain is
    (subst (λ (slave : Option (Known PortIdentity)). Notices d c.args.self.now (watch slave)) (sym c.or-self.ensures)
    notices)
