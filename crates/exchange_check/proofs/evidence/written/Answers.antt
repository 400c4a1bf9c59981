use Rattle.std.proofs.Common.{◌∙◌, sym, subst, ap}
use Rattle.std.proofs.lemmas.Option.{none-some}
use Rattle.event_codec.specs.EncodeRefusal.{encode_refusal}
use Rattle.event_codec.specs.Packet.{Contents, Packet}
use Rattle.exchange_check.proofs.OctetsAt.{room-for}
use Rattle.exchange_check.proofs.evidence.written.Goals as goal

pub returns-in-Err : goal.returns-in-Err
returns-in-Err c b packet =
    absurd (none-some _ (sym (room-for c.args.message.now)
    ∙ sym (ap (λ (m : Contents). encode_refusal m 54) c.message.ensures) ∙ c.in-Err.ensures.refused))

pub returns-in-Ok : goal.returns-in-Ok
returns-in-Ok c b packet =
    c.filled.ensures ∙ c.in-Ok.ensures.again b (subst (λ (m : Contents). Packet m b) (sym c.message.ensures) packet)
