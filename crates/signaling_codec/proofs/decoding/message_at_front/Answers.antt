use Rattle.std.proofs.Common.{ℕ, List, sym, ap, ◌∙◌, rules}
use Rattle.std.proofs.lemmas.Result.{err_from_is_err_and}
use Rattle.signaling_codec.specs.Refusal.{tlvs_refusal}
use Rattle.signaling_codec.proofs.Front.{refusal_whole, signaling_read, part_is}
use Rattle.signaling_codec.proofs.decoding.message_at_front.Goals as goal

pub returns-in_err-tlvs-clause-refused : goal.returns-in_err-tlvs-clause-refused
returns-in_err-tlvs-clause-refused c =
    let b : List ℕ = c.args.octets.now in
    let whole = c.in_ok-message.ensures in
    let e = err_from_is_err_and c.from_residual-in_err-tlvs.result c.from_residual-in_err-tlvs.ensures.1 in
    rw (e.1, e.2)
    (refusal_whole b c.in_ok-header.ensures.0 whole.2 whole.0
    ∙ sym (ap (tlvs_refusal 0) (part_is b c.in_ok-message.message.now whole.0 whole.1)) ∙ c.in_err-tlvs.ensures)

pub returns-clause-read : goal.returns-clause-read
returns-clause-read c =
    let b : List ℕ = c.args.octets.now in
    let whole = c.in_ok-message.ensures in
    let header = c.in_ok-header.ensures in
    (whole.0, signaling_read _ b c.in_ok-message.message.now (λ k. search (rules, c.type_inv.octets k)) whole.0 whole.1 whole.2 header.1 c.port_identity_at.ensures c.in_ok-tlvs.ensures)

pub returns-clause-refused : goal.returns-clause-refused
returns-clause-refused c =
    let b : List ℕ = c.args.octets.now in
    let whole = c.in_ok-message.ensures in
    refusal_whole b c.in_ok-header.ensures.0 whole.2 whole.0
    ∙ sym (ap (tlvs_refusal 0) (part_is b c.in_ok-message.message.now whole.0 whole.1)) ∙ c.in_ok-tlvs.ensures.1
