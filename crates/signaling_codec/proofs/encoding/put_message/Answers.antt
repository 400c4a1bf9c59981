use Rattle.std.proofs.Common.{◌≡◌, ◌<◌, ℕ, List, ◌++◌, length, take, drop, sym, ap, subst, ◌∙◌, arith, rules}
use Rattle.std.proofs.lemmas.List.{length-take-le, get_or-take}
use Rattle.signaling_codec.specs.Written.{message_of}
use Rattle.signaling_codec.specs.Inner.Puts.{Puts}
use Rattle.signaling_codec.proofs.Writing.{puts_join, message_written}
use Rattle.signaling_codec.proofs.encoding.put_message.Goals as goal

pub returns-clause-whole : goal.returns-clause-whole
returns-clause-whole c =
    let header_len : length c.header_octets.result ≡ 34 = search rules in
    let target_len : length c.identity_octets.result ≡ 10 = search rules in
    omega (arith, c.put-end.ensures.ends, c.put-end-2.ensures.ends, c.put_tlvs.ensures.1.ends, c.put_tlvs.ensures.3, c.requires.whole)

pub returns-clause-written : goal.returns-clause-written
returns-clause-written c =
    let header : List ℕ = c.header_octets.result in
    let target : List ℕ = c.identity_octets.result in
    let tlvs = c.put_tlvs.ensures in
    let old : List ℕ = c.args.buffer.now in
    let new : List ℕ = c.put_tlvs.new.buffer in
    let n : ℕ = c.args.length_field in
    let header_len : length header ≡ 34 = search rules in
    let target_len : length target ≡ 10 = search rules in
    let front = puts_join old c.put-end.new.buffer c.put-end-2.new.buffer 0 c.put-end.result c.put-end-2.result header target c.put-end.ensures c.put-end-2.ensures in
    let all : Puts old new 0 c.put_tlvs.result ((header ++ target) ++ tlvs.0) =
    puts_join old c.put-end-2.new.buffer new 0 c.put-end-2.result c.put_tlvs.result (header ++ target) tlvs.0 front tlvs.1 in
    let whole : c.put_tlvs.result ≡ n =
    omega (arith, c.put-end.ensures.ends, c.put-end-2.ensures.ends, tlvs.1.ends, tlvs.3, c.requires.whole) in
    let parts : take n new ≡ (header ++ target) ++ tlvs.0 = ap (λ (k : ℕ). take k new) (sym whole) ∙ all.front in
    let room : length new ≡ length old = search rules in
    let size : n ≡ length (take n new) = sym (length-take-le n new (omega (arith, c.requires.room))) in
    let fits = λ (k : ℕ) (lt : k < length (take n new)). subst (λ (x : ℕ). x < 256) (sym (get_or-take n new k 0 (omega (arith, size)))) (search (rules, c.type_inv.buffer k)) in
    message_written (message_of c.args.header.now c.args.target c.args.tlvs.now) n (take n new) header target tlvs.0 parts size fits header_len target_len c.header_octets.ensures c.identity_octets.ensures tlvs.2

pub returns-clause-after : goal.returns-clause-after
returns-clause-after c =
    let header : List ℕ = c.header_octets.result in
    let target : List ℕ = c.identity_octets.result in
    let tlvs = c.put_tlvs.ensures in
    let old : List ℕ = c.args.buffer.now in
    let new : List ℕ = c.put_tlvs.new.buffer in
    let header_len : length header ≡ 34 = search rules in
    let target_len : length target ≡ 10 = search rules in
    let front = puts_join old c.put-end.new.buffer c.put-end-2.new.buffer 0 c.put-end.result c.put-end-2.result header target c.put-end.ensures c.put-end-2.ensures in
    let all : Puts old new 0 c.put_tlvs.result ((header ++ target) ++ tlvs.0) =
    puts_join old c.put-end-2.new.buffer new 0 c.put-end-2.result c.put_tlvs.result (header ++ target) tlvs.0 front tlvs.1 in
    let whole : c.put_tlvs.result ≡ c.args.length_field =
    omega (arith, c.put-end.ensures.ends, c.put-end-2.ensures.ends, tlvs.1.ends, tlvs.3, c.requires.whole) in
    subst (λ (k : ℕ). drop k new ≡ drop k old) whole all.behind
