use Rattle.std.proofs.Common.{◌≡◌, ℕ, ◌∙◌, ◌≤◌, IsOkAnd, length, take, sym, subst, rules}
use Rattle.std.proofs.lemmas.List.{length-take-le}
use Rattle.event_codec.specs.Packet.{Contents, contents}
use Rattle.event_codec.specs.Refusal.{message_length}
use Rattle.event_codec.proofs.Lengths.{length-Packet}
use Rattle.event_codec.proofs.laws.decode_of_encode.Goals as goal

pub returns-clause-same : goal.returns-clause-same
returns-clause-same c =
    let m : Contents = contents c.args.message.now in
    let n : ℕ = c.in_ok-encode.field-0 in
    let written = c.in_ok-encode.ensures.written in
    let whole : n ≤ length c.encode.new.buffer = search rules in
    let end : n ≡ message_length m = sym (length-take-le n c.encode.new.buffer whole) ∙ length-Packet m (take n c.encode.new.buffer) written.1 in
    subst (λ (k : ℕ). IsOkAnd c.decode.result (λ r. (contents r.0 ≡ m) × (r.1 ≡ k))) end (c.decode.ensures.only m n whole written.1)
