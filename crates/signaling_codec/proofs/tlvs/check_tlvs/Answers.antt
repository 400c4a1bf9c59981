use Rattle.std.proofs.Common.{◌≡◌, ◌<◌, List, ℕ, length, drop, Option, sym, ap, ◌∙◌, arith}
use Rattle.std.specs.Option.{option_or}
use Rattle.std.proofs.lemmas.Bool.{eqb-true}
use Rattle.std.proofs.lemmas.Bool.Decides.{nat_tests}
use Rattle.std.proofs.lemmas.Result.{err_from_is_err_and}
use Rattle.signaling_codec.specs.declared.refusal.SignalingRefusal.{SignalingRefusal}
use Rattle.signaling_codec.specs.Tlv.{tlv_length}
use Rattle.signaling_codec.specs.Refusal.{tlvs_refusal}
use Rattle.signaling_codec.proofs.Walk.{tlvs_refusal-first, tlvs_refusal-end}
use Rattle.signaling_codec.proofs.tlvs.check_tlvs.Goals as goal

pub returns-in_err-rest : goal.returns-in_err-rest
returns-in_err-rest c =
    let rest : List ℕ = c.loop-rest.rest.now in
    let some : 0 < length rest = grind (arith, nat_tests, c.loop-rest-test.ensures) in
    let e = err_from_is_err_and c.from_residual.result c.from_residual.ensures.1 in
    rw (e.1, e.2)
    (sym c.loop-rest.invariant ∙ tlvs_refusal-first rest some
    ∙ ap (λ (o : Option SignalingRefusal). option_or o (tlvs_refusal 0 (drop (tlv_length rest) rest))) c.in_err-rest.ensures)

pub loop-rest-preserved : goal.loop-rest-preserved
loop-rest-preserved c =
    let rest : List ℕ = c.loop-rest.rest.now in
    let some : 0 < length rest = grind (arith, nat_tests, c.loop-rest-test.ensures) in
    let sound = c.in_ok-rest.ensures in
    ap (tlvs_refusal 0) sound.2
    ∙ sym (tlvs_refusal-first rest some ∙ ap (λ (o : Option SignalingRefusal). option_or o (tlvs_refusal 0 (drop (tlv_length rest) rest))) sound.0)
    ∙ c.loop-rest.invariant

pub returns : goal.returns
returns c =
    let none : length c.loop-rest.rest.now ≡ 0 = eqb-true (length c.loop-rest.rest.now) 0 (sym c.loop-rest-test.ensures) in
    sym c.loop-rest.invariant ∙ tlvs_refusal-end c.loop-rest.rest.now none
