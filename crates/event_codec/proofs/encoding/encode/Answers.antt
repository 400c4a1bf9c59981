use Rattle.std.proofs.Common.{◌≡◌, ◌+◌, ℕ, length, take, ap, ◌∙◌, rules}
use Rattle.event_codec.specs.Packet.{contents}
use Rattle.event_codec.proofs.Again.{octets_same}
use Rattle.event_codec.proofs.encoding.encode.Goals as goal

pub returns-in-Ok-clause-again : goal.returns-in-Ok-clause-again
returns-in-Ok-clause-again c = λ b p.
    let whole : c.fields_length-fields_length.result + length c.args.message.now.suffix.now ≡ c.in-Ok.length_field = search rules in
    ap (λ (k : ℕ). take k c.put_message.new.buffer) whole ∙ octets_same (contents c.args.message.now) _ b c.put_message.ensures.written p
