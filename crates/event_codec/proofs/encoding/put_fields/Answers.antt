use Rattle.std.proofs.Common.{◌≡◌, ◌∙◌, ℕ, List, [], refl, sym, arith, rules}
use Rattle.std.proofs.lemmas.List.{take_all}
use Rattle.ptp_units.specs.Moment.{Stamp}
use Rattle.event_codec.specs.declared.message.Body.{Body}
use Rattle.event_codec.specs.declared.message.Body.TheVariants.{Sync, DelayReq, FollowUp, DelayResp}
use Rattle.event_codec.specs.declared.port.PortIdentity.{PortIdentity}
use Rattle.event_codec.specs.Layout.{type_of, fields_length}
use Rattle.event_codec.specs.Packet.{IsRequesting}
use Rattle.event_codec.proofs.Agreement.{after, take_agrees, drop_further, IsHeader-agrees, IsIdentityAt-agrees, IsTimestampAt-agrees}
use Rattle.event_codec.proofs.encoding.put_fields.Goals as goal

pub returns-in-DelayResp-clause-header : goal.returns-in-DelayResp-clause-header
returns-in-DelayResp-clause-header c =
    let octets : List ℕ = c.header_octets.result in
    let front = take_agrees 44 34 c.put-in-DelayResp.new.buffer c.put-2.new.buffer c.put-in-DelayResp.ensures.before (omega arith)
    ∙ c.put-2.ensures.before ∙ c.put.ensures.here ∙ sym (take_all 34 octets (search rules)) in
    IsHeader-agrees c.args.message.now.header _ c.args.message_length c.put-in-DelayResp.new.buffer octets front (rw (← c.message_type.ensures) c.header_octets.ensures)

pub returns-in-DelayResp-clause-timestamp : goal.returns-in-DelayResp-clause-timestamp
returns-in-DelayResp-clause-timestamp c =
    let octets : List ℕ = c.timestamp_octets.result in
    let here = after 34 10 c.put-in-DelayResp.new.buffer c.put-2.new.buffer c.put-in-DelayResp.ensures.before ∙ c.put-2.ensures.here ∙ sym (take_all 10 octets (search rules)) in
    IsTimestampAt-agrees 10 34 0 c.put-in-DelayResp.new.buffer octets here _ 0 (omega arith) (rw (← c.timestamp.ensures) c.timestamp_octets.ensures)

pub returns-in-DelayResp-clause-requesting : goal.returns-in-DelayResp-clause-requesting
returns-in-DelayResp-clause-requesting c =
    let octets : List ℕ = c.identity_octets.result in
    let here = c.put-in-DelayResp.ensures.here ∙ sym (take_all 10 octets (search rules)) in
    rw c.in-DelayResp.is (IsIdentityAt-agrees 10 44 0 c.put-in-DelayResp.new.buffer octets here _ 0 (omega arith) c.identity_octets.ensures)

pub returns-in-DelayResp-clause-after : goal.returns-in-DelayResp-clause-after
returns-in-DelayResp-clause-after c =
    rw c.in-DelayResp.is (c.put-in-DelayResp.ensures.after
    ∙ drop_further 44 54 c.put-2.new.buffer c.put.new.buffer (omega arith) c.put-2.ensures.after
    ∙ drop_further 34 54 c.put.new.buffer c.args.buffer.now (omega arith) c.put.ensures.after)

pub returns-in_default-clause-header : goal.returns-in_default-clause-header
returns-in_default-clause-header c =
    let octets : List ℕ = c.header_octets.result in
    let front = c.put-2.ensures.before ∙ c.put.ensures.here ∙ sym (take_all 34 octets (search rules)) in
    IsHeader-agrees c.args.message.now.header _ c.args.message_length c.put-2.new.buffer octets front (rw (← c.message_type.ensures) c.header_octets.ensures)

pub returns-in_default-clause-timestamp : goal.returns-in_default-clause-timestamp
returns-in_default-clause-timestamp c =
    let octets : List ℕ = c.timestamp_octets.result in
    let here = c.put-2.ensures.here ∙ sym (take_all 10 octets (search rules)) in
    IsTimestampAt-agrees 10 34 0 c.put-2.new.buffer octets here _ 0 (omega arith) (rw (← c.timestamp.ensures) c.timestamp_octets.ensures)

no_requesting : (x : Body) (b : List ℕ) → ((t : Stamp) (p : PortIdentity) → x ≡ DelayResp t p → ⊥) → IsRequesting x b × (fields_length (type_of x) ≡ 44)
no_requesting (Sync t) b other = (tt, refl)
no_requesting (DelayReq t) b other = (tt, refl)
no_requesting (FollowUp t) b other = (tt, refl)
no_requesting (DelayResp t p) b other = absurd (other t p refl)

pub returns-in_default-clause-requesting : goal.returns-in_default-clause-requesting
returns-in_default-clause-requesting c = (no_requesting c.args.message.now.body _ c.in_default.not-DelayResp).0

pub returns-in_default-clause-after : goal.returns-in_default-clause-after
returns-in_default-clause-after c =
    rw (no_requesting c.args.message.now.body [] c.in_default.not-DelayResp).1 (c.put-2.ensures.after ∙ drop_further 34 44 c.put.new.buffer c.args.buffer.now (omega arith) c.put.ensures.after)
