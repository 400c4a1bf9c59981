use Rattle.std.proofs.Common.{◌≡◌, ℕ, List, ◌%◌, get_or, sym, ◌∙◌, arith}
use Rattle.signaling_codec.proofs.Front.{refusal_other, header_none, header_other}
use Rattle.signaling_codec.proofs.decoding.signaling_header.Goals as goal

pub returns-in_default : goal.returns-in_default
returns-in_default c = refusal_other c.args.octets.now (header_none c.args.octets.now c.in_default.field-0 c.in_default.ensures)

pub returns-then-kind-ne-SIGNALING : goal.returns-then-kind-ne-SIGNALING
returns-then-kind-ne-SIGNALING c =
    let b : List ℕ = c.args.octets.now in
    let has = c.in-Ok.ensures.1 in
    let kind : get_or b 0 0 % 16 ≡ c.in-Ok.kind = omega (arith, has.0, has.1.major_sdo_and_type) in
    refusal_other b (header_other b (λ e. c.if-kind-ne-SIGNALING.true (sym kind ∙ e)))
