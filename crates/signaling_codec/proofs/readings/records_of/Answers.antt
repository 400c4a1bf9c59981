use Rattle.std.proofs.Common.{◌≡◌, ℕ, ◌-◌, ◌<◌, List, length, take, drop, refl, sym, ap, ◌∙◌, arith}
use Rattle.std.proofs.lemmas.List.{length-drop}
use Rattle.std.proofs.lemmas.Slice.{between_to_end}
use Rattle.signaling_codec.specs.Tlv.{readings_in}
use Rattle.signaling_codec.specs.Inner.Parsed.{identity_at}
use Rattle.signaling_codec.proofs.Left.{is_read, nothing_read, no_records}
use Rattle.signaling_codec.proofs.readings.records_of.Goals as goal

pub returns-in_default : goal.returns-in_default
returns-in_default c = nothing_read c.args.tlv.number c.args.tlv.value.now (sym c.from_number.ensures ∙ c.in_default.is)

pub returns-then-value-le10 : goal.returns-then-value-le10
returns-then-value-le10 c =
    let v : List ℕ = c.args.tlv.value.now in
    let read = is_read c.in-Some.kind c.args.tlv.number v (sym c.from_number.ensures ∙ c.in-Some.is) c.requires in
    let none : length (drop 10 v) ≡ 0 = omega (arith, length-drop 10 v) in
    ap readings_in read.same ∙ no_records c.in-Some.kind (identity_at v 0) (drop 10 v) none

pub returns : goal.returns
returns c =
    let v : List ℕ = c.args.tlv.value.now in
    let read = is_read c.in-Some.kind c.args.tlv.number v (sym c.from_number.ensures ∙ c.in-Some.is) c.requires in
    let all : take (length v - 10) (drop 10 v) ≡ drop 10 v = between_to_end v 10 (length v) (omega arith) in
    let some : 0 < length (drop 10 v) = omega (arith, length-drop 10 v) in
    rw (all, c.port_identity_at.ensures) (some, read.records, sym read.same, refl)
