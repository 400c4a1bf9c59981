use Rattle.std.proofs.Common.{◌≡◌, ◌+◌, ◌≤◌, ℕ, List, [], ◌∷◌, ◌++◌, take, map, refl, sym, ap, subst, ◌∙◌, arith}
use Rattle.std.specs.List.{sum_by}
use Rattle.std.proofs.lemmas.List.{length-append, take_all}
use Rattle.signaling_codec.specs.declared.encoding.Tlv.{Tlv}
use Rattle.signaling_codec.specs.Tlv.{TlvOf, AreTlvs}
use Rattle.signaling_codec.specs.EncodeRefusal.{octets_of}
use Rattle.signaling_codec.specs.Written.{tlv_written}
use Rattle.signaling_codec.proofs.Writing.{puts_none, puts_join, tlvs_more, written_more, sum_more, sum_within}
use Rattle.signaling_codec.proofs.encoding.put_tlvs.Goals as goal

pub loop-tlv-init : goal.loop-tlv-init
loop-tlv-init c = ([], puts_none c.args.buffer.now c.args.at, refl, refl)

pub put_tlv-end-requires-clause-room : goal.put_tlv-end-requires-clause-room
put_tlv-end-requires-clause-room c =
    let so_far = c.loop-tlv.invariant in
    let xs : List Tlv = c.args.tlvs.now in
    let k : ℕ = c.loop-tlv.tlv-index in
    let within : sum_by octets_of (map tlv_written (take k xs)) + octets_of (tlv_written c.tlv-item.result) ≤ sum_by octets_of (map tlv_written xs) =
    subst (λ (t : Tlv). sum_by octets_of (map tlv_written (take k xs)) + octets_of (tlv_written t) ≤ sum_by octets_of (map tlv_written xs)) (sym c.tlv-item.is)
    (sum_within xs k c.tlv-item.result c.loop-tlv-test.true) in
    omega (arith, so_far.1.ends, so_far.3, c.requires.room, c.loop-tlv.auto.buffer)

pub put_tlv-end-requires-clause-short : goal.put_tlv-end-requires-clause-short
put_tlv-end-requires-clause-short c =
    let xs : List Tlv = c.args.tlvs.now in
    let k : ℕ = c.loop-tlv.tlv-index in
    let within : sum_by octets_of (map tlv_written (take k xs)) + octets_of (tlv_written c.tlv-item.result) ≤ sum_by octets_of (map tlv_written xs) =
    subst (λ (t : Tlv). sum_by octets_of (map tlv_written (take k xs)) + octets_of (tlv_written t) ≤ sum_by octets_of (map tlv_written xs)) (sym c.tlv-item.is)
    (sum_within xs k c.tlv-item.result c.loop-tlv-test.true) in
    omega (arith, c.requires.short)

pub loop-tlv-preserved : goal.loop-tlv-preserved
loop-tlv-preserved c =
    let so_far = c.loop-tlv.invariant in
    let next = c.put_tlv-end.ensures in
    let xs : List Tlv = c.args.tlvs.now in
    let k : ℕ = c.loop-tlv.tlv-index in
    let more : map tlv_written (take (k + 1) xs) ≡ map tlv_written (take k xs) ++ tlv_written c.tlv-item.result ∷ [] =
    written_more xs k c.tlv-item.result c.loop-tlv-test.true ∙ ap (λ (t : Tlv). map tlv_written (take k xs) ++ tlv_written t ∷ []) (sym c.tlv-item.is) in
    let sum : sum_by octets_of (map tlv_written (take (k + 1) xs)) ≡ sum_by octets_of (map tlv_written (take k xs)) + octets_of (tlv_written c.tlv-item.result) =
    sum_more xs k c.tlv-item.result c.loop-tlv-test.true ∙ ap (λ (t : Tlv). sum_by octets_of (map tlv_written (take k xs)) + octets_of (tlv_written t)) (sym c.tlv-item.is) in (
      so_far.0 ++ next.0,
      puts_join c.args.buffer.now c.loop-tlv.buffer c.put_tlv-end.new.buffer c.args.at c.loop-tlv.end c.put_tlv-end.result so_far.0 next.0 so_far.1 next.1,
      subst (λ (ts : List TlvOf). AreTlvs ts (so_far.0 ++ next.0)) (sym more)
          (tlvs_more (map tlv_written (take k xs)) (tlv_written c.tlv-item.result) so_far.0 next.0 so_far.2 next.2 next.3),
      omega (arith, length-append so_far.0 next.0, so_far.3, next.4, sum),
    )

pub returns : goal.returns
returns c =
    let so_far = c.loop-tlv.invariant in
    let xs : List Tlv = c.args.tlvs.now in
    let all : take c.loop-tlv.tlv-index xs ≡ xs = take_all c.loop-tlv.tlv-index xs c.loop-tlv-test.false in (
      so_far.0,
      so_far.1,
      subst (λ (x : List Tlv). AreTlvs (map tlv_written x) so_far.0) all so_far.2,
      so_far.3 ∙ ap (λ (x : List Tlv). sum_by octets_of (map tlv_written x)) all,
    )
