use Rattle.std.proofs.Common.{◌≡◌, ◌+◌, ◌≤◌, ℕ, List, take, map, sym, ap, subst, ◌∙◌, arith}
use Rattle.std.specs.List.{sum_by}
use Rattle.std.proofs.lemmas.List.{take_all}
use Rattle.signaling_codec.specs.declared.encoding.Tlv.{Tlv}
use Rattle.signaling_codec.specs.EncodeRefusal.{octets_of}
use Rattle.signaling_codec.specs.Written.{tlv_written}
use Rattle.signaling_codec.proofs.Writing.{sum_more, sum_within}
use Rattle.signaling_codec.proofs.encoding.message_length.Goals as goal

pub returns-then-more-from : goal.returns-then-more-from
returns-then-more-from c =
    let xs : List Tlv = c.args.tlvs.now in
    let k : ℕ = c.loop-tlv.tlv-index in
    let so_far : c.loop-tlv.length ≡ 44 + sum_by octets_of (map tlv_written (take k xs)) = c.loop-tlv.invariant in
    let within : sum_by octets_of (map tlv_written (take k xs)) + octets_of (tlv_written c.tlv-item.result) ≤ sum_by octets_of (map tlv_written xs) =
    subst (λ (t : Tlv). sum_by octets_of (map tlv_written (take k xs)) + octets_of (tlv_written t) ≤ sum_by octets_of (map tlv_written xs)) (sym c.tlv-item.is)
    (sum_within xs k c.tlv-item.result c.loop-tlv-test.true) in
    omega (arith, c.octets_of-more.ensures)

pub loop-tlv-preserved : goal.loop-tlv-preserved
loop-tlv-preserved c =
    let xs : List Tlv = c.args.tlvs.now in
    let k : ℕ = c.loop-tlv.tlv-index in
    let so_far : c.loop-tlv.length ≡ 44 + sum_by octets_of (map tlv_written (take k xs)) = c.loop-tlv.invariant in
    let sum : sum_by octets_of (map tlv_written (take (k + 1) xs)) ≡ sum_by octets_of (map tlv_written (take k xs)) + octets_of (tlv_written c.tlv-item.result) =
    sum_more xs k c.tlv-item.result c.loop-tlv-test.true ∙ ap (λ (t : Tlv). sum_by octets_of (map tlv_written (take k xs)) + octets_of (tlv_written t)) (sym c.tlv-item.is) in
    omega (arith, c.octets_of-more.ensures)

pub returns : goal.returns
returns c =
    let xs : List Tlv = c.args.tlvs.now in
    c.loop-tlv.invariant
    ∙ ap (λ (x : List Tlv). 44 + sum_by octets_of (map tlv_written x)) (take_all c.loop-tlv.tlv-index xs c.loop-tlv-test.false)
