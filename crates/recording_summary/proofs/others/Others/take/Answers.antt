use Rattle.std.proofs.Common.{◌∙◌, Option, ap}
use Rattle.std.specs.Option.{option_map_or}
use Rattle.event_codec.specs.declared.port.PortIdentity.{PortIdentity}
use Rattle.recording_summary.specs.declared.others.Senders.{Senders}
use Rattle.recording_summary.specs.Others.{with_sender, senders, other_master, other_slave}
use Rattle.recording_summary.proofs.others.Others.take.Goals as goal

pub returns : goal.returns
returns c = λ earlier so.
    let with : Option PortIdentity → Senders → Senders = λ (o : Option PortIdentity) (s : Senders). option_map_or (λ port. with_sender port s) o s in
    record {
      masters = c.take_some.ensures ∙ ap (with c.other_master.result) so.masters
          ∙ ap (λ (o : Option PortIdentity). with o (senders other_master earlier)) c.other_master.ensures;
      slaves = c.take_some-2.ensures ∙ ap (with c.other_slave.result) so.slaves
          ∙ ap (λ (o : Option PortIdentity). with o (senders other_slave earlier)) c.other_slave.ensures;
      domains = c.count_domain.ensures earlier c.args.meeting.now c.other_domain.ensures so.domains;
      turn = c.take.ensures earlier so.turn;
      repeats = c.take-2.ensures earlier so.repeats;
      flows = c.take-3.ensures earlier so.flows;
    }
