use Rattle.std.proofs.Common.{◌≡◌, ℕ, ◌<◌, ◌≤◌, true, false, Result, Ok, Err, Some, None, refl, ap, ◌∙◌, arith, lit≤, ltb, List, length, take, drop, subst, rules, replicate}
use Rattle.std.specs.Prelude.{MatchResult, IfOk}
use Rattle.std.specs.Result.{is_ok}
use Rattle.std.proofs.lemmas.Bool.{le-ltb, lt-ltb}
use Rattle.std.proofs.lemmas.List.{length-replicate, length-take-le, take_all}
use Rattle.event_codec.specs.declared.message_type.MessageType.{MessageType}
use Rattle.event_codec.specs.declared.message_type.MessageType.TheVariants.{Sync, DelayReq, FollowUp, DelayResp}
use Rattle.event_codec.specs.declared.refusal.EncodeRefusal.{EncodeRefusal}
use Rattle.event_codec.specs.Layout.{type_of, fields_length}
use Rattle.event_codec.specs.Packet.{Contents, Packet, contents}
use Rattle.event_codec.specs.Refusal.{message_length}
use Rattle.event_codec.specs.EncodeRefusal.{encode_refusal}
use Rattle.event_codec.proofs.profile.PortMessage.octets.Goals as goal

fields_few : (kind : MessageType) → fields_length kind ≤ 54
fields_few Sync = lit≤ tt
fields_few DelayReq = lit≤ tt
fields_few FollowUp = lit≤ tt
fields_few DelayResp = lit≤ tt

-- a buffer of just the message's length takes a message that isn't too long
fits : (m : Contents) (room : ℕ) (r : Result ℕ EncodeRefusal) → message_length m ≡ room → room < 65536
    → MatchResult r (λ _. encode_refusal m room ≡ None) (λ e. encode_refusal m room ≡ Some e) → is_ok r ≡ true
fits m room (Ok n) exact short refused = refl
fits m room (Err e) exact short refused =
    let enough : ltb room (message_length m) ≡ false = le-ltb _ _ (omega arith) in
    let few : ltb (message_length m) 65536 ≡ true = lt-ltb _ _ (omega arith) in
    let none : encode_refusal m room ≡ None = rw (enough, few) refl in
    absurd cc

-- and its octets fill the buffer
Packet-whole : (m : Contents) (r : Result ℕ EncodeRefusal) (old new : List ℕ) → is_ok r ≡ true → length new ≡ length old → fields_length (type_of m.body) ≡ length old
    → IfOk r (λ n. (n ≤ length old) × Packet m (take n new) × (drop n new ≡ drop n old)) → Packet m new
Packet-whole m (Ok n) old new ok same room h =
    let all : take n new ≡ new = take_all n new (omega (arith, h.1.least, length-take-le n new (omega arith))) in
    subst (Packet m) all h.1
Packet-whole m (Err e) old new ok same room h = absurd cc

pub prove-unreachable-requires : goal.prove-unreachable-requires
prove-unreachable-requires g c =
    let few : fields_length (type_of c.args.self.body) ≤ 54 = fields_few (type_of c.args.self.body) in
    let zeros : List ℕ = replicate g.row.N 0 in
    let room : length zeros ≡ g.row.N = length-replicate {A = ℕ} g.row.N 0 in
    let exact : message_length (contents c.message.result) ≡ length zeros = ap message_length c.message.ensures ∙ omega arith in
    let short : length zeros < 65536 = omega arith in
    let ok : is_ok c.encode-written.result ≡ true =
    fits (contents c.message.result) (length zeros) c.encode-written.result exact short c.encode-written.ensures.refused in
    absurd cc

pub returns : goal.returns
returns g c =
    let zeros : List ℕ = replicate g.row.N 0 in
    let room : length zeros ≡ g.row.N = length-replicate {A = ℕ} g.row.N 0 in
    let fields : fields_length (type_of (contents c.message.result).body) ≡ length zeros =
    ap (λ (m : Contents). fields_length (type_of m.body)) c.message.ensures ∙ omega arith in
    subst (λ m. Packet m c.encode-written.new.buffer) c.message.ensures
    (Packet-whole (contents c.message.result) c.encode-written.result zeros c.encode-written.new.buffer (search rules) (search rules) fields
    c.encode-written.ensures.written)
