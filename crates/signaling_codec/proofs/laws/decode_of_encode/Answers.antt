use Rattle.std.proofs.Common.{ℕ, ◌≤◌, length, rules}
use Rattle.signaling_codec.specs.Written.{message_of}
use Rattle.signaling_codec.proofs.laws.decode_of_encode.Goals as goal

pub returns-clause-same : goal.returns-clause-same
returns-clause-same c =
    let n : ℕ = c.in_ok-encode_signaling.field-0 in
    let written = c.in_ok-encode_signaling.ensures.written in
    let whole : n ≤ length c.encode_signaling.new.buffer = search rules in
    c.decode_signaling.ensures.only (message_of c.args.header.now c.args.target c.args.tlvs.now) n whole written.1
