use Rattle.std.proofs.Common.{◌∙◌, ◌^◌, refl}
use Rattle.std.proofs.lemmas.Bool.{lt-ltb, le-ltb}
use Rattle.std.proofs.lemmas.Result.{err_from_is_err_and}
use Rattle.event_codec.specs.Layout.{number}
use Rattle.event_codec.proofs.Front.{decode_refusal-packet}
use Rattle.event_codec.proofs.decoding.message_at_front.Goals as goal

pub returns-in_err-timestamp-clause-refused : goal.returns-in_err-timestamp-clause-refused
returns-in_err-timestamp-clause-refused c =
    let kind = c.in_ok-kind.ensures in
    let packet = c.in_ok-packet.ensures in
    let refusal = decode_refusal-packet c.args.octets.now c.in_ok-packet.packet.now c.in_ok-kind.kind kind.0 kind.1 kind.2 packet.2 packet.0 packet.1 in
    let e = err_from_is_err_and c.from_residual-in_err-timestamp.result c.from_residual-in_err-timestamp.ensures.1 in
    rw (e.1, e.2, c.in_err-timestamp.ensures.0) (refusal ∙ rw (le-ltb (number c.in_ok-packet.packet.now 40 4) (10 ^ 9) c.in_err-timestamp.ensures.1) refl)

pub returns-clause-refused : goal.returns-clause-refused
returns-clause-refused c =
    let kind = c.in_ok-kind.ensures in
    let packet = c.in_ok-packet.ensures in
    let refusal = decode_refusal-packet c.args.octets.now c.in_ok-packet.packet.now c.in_ok-kind.kind kind.0 kind.1 kind.2 packet.2 packet.0 packet.1 in
    refusal ∙ rw (lt-ltb (number c.in_ok-packet.packet.now 40 4) (10 ^ 9) c.message_of.ensures.timestamp.within_second) refl
