use Rattle.std.proofs.Common.{◌≡◌, ◌∙◌, ℕ, ◌+◌, ◌-◌, ◌<◌, ◌≤◌, ◌++◌, List, length, take, drop, get_or, ap, sym, subst, arith, rules}
use Rattle.std.proofs.lemmas.List.{length-append, length-take-le, take_at, drop_at, get_or-take}
use Rattle.std.proofs.lemmas.Slice.{take-put_mid, drop-put_mid}
use Rattle.event_codec.specs.Layout.{number_of, type_of, fields_length, stamp_in}
use Rattle.event_codec.specs.Packet.{Contents, Packet, IsHeader, IsTimestampAt, IsRequesting, contents}
use Rattle.event_codec.proofs.Fields.{fields_length_above}
use Rattle.event_codec.proofs.Agreement.{after, take_agrees, drop_further, IsHeader-agrees, IsTimestampAt-agrees, IsRequesting-agrees}
use Rattle.event_codec.proofs.encoding.put_message.Goals as goal

-- the fields, and after them the suffix
Packet-from_fields : (m : Contents) (n : ℕ) (fields final : List ℕ) → n ≡ fields_length (type_of m.body) + length m.suffix → n ≤ length fields
    → take n final ≡ take (fields_length (type_of m.body)) fields ++ m.suffix → ((k : ℕ) → get_or final k 0 < 256)
    → IsHeader m.header (number_of (type_of m.body)) n fields → IsTimestampAt (stamp_in m.body) fields 34 → IsRequesting m.body fields → Packet m (take n final)
Packet-from_fields m n fields final whole room parts octets header timestamp requesting =
    let f : ℕ = fields_length (type_of m.body) in
    let above = fields_length_above (type_of m.body) in
    let front : List ℕ = take f fields in
    let len : length front ≡ f = length-take-le f fields (omega arith) in
    let long : length (take n final) ≡ n = ap (length {A = ℕ}) parts ∙ length-append front m.suffix ∙ omega arith in
    let agree : take f (take n final) ≡ take f fields = ap (take f) parts ∙ take_at front m.suffix f len in
    let fields_44 : take 44 (take n final) ≡ take 44 fields = take_agrees f 44 (take n final) fields agree above in
    let rest : 16 + (f - 16) ≡ f = omega arith in
    record {
      octets = λ k lt. subst (λ (x : ℕ). x < 256) (sym (get_or-take n final k 0 (omega arith))) (octets k);
      least = omega arith;
      header = rw long (IsHeader-agrees m.header (number_of (type_of m.body)) n (take n final) fields (take_agrees 44 34 (take n final) fields fields_44 (omega arith)) header);
      timestamp = IsTimestampAt-agrees 10 34 34 (take n final) fields (after 34 10 (take n final) fields fields_44) (stamp_in m.body) 0 (omega arith) timestamp;
      requesting = IsRequesting-agrees m.body (take n final) fields (after 16 (f - 16) (take n final) fields (rw rest agree)) requesting;
      suffix = sym (ap (drop f) parts ∙ drop_at front m.suffix f len);
    }

pub returns-clause-written : goal.returns-clause-written
returns-clause-written c =
    let m : Contents = contents c.args.message.now in
    let end : c.fields_length-fields_length.result ≡ fields_length (type_of m.body) = search rules in
    let parts = take-put_mid c.fields_length-fields_length.result _ c.put_fields.new.buffer c.copy_from_slice.new.self c.args.message_length (search rules) (search rules)
    ∙ ap (λ (f : ℕ). take f c.put_fields.new.buffer ++ c.copy_from_slice.new.self) end
    ∙ ap (λ (x : List ℕ). take (fields_length (type_of m.body)) c.put_fields.new.buffer ++ x) c.copy_from_slice.ensures.after in
    Packet-from_fields m c.args.message_length c.put_fields.new.buffer _ c.requires.whole (search rules) parts (λ k. search (rules, c.type_inv.buffer k))
    c.put_fields.ensures.header c.put_fields.ensures.timestamp c.put_fields.ensures.requesting

pub returns-clause-after : goal.returns-clause-after
returns-clause-after c =
    drop-put_mid c.fields_length-fields_length.result _ c.put_fields.new.buffer c.copy_from_slice.new.self c.args.message_length (search rules) (search rules) (search rules)
    ∙ drop_further (fields_length (type_of c.args.message.now.body)) c.args.message_length c.put_fields.new.buffer c.args.buffer.now (omega arith) c.put_fields.ensures.after
