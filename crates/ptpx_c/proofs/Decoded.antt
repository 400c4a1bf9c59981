-- What a decoder answers, as fields.
use Rattle.std.proofs.Common.{ℕ, ◌<◌, ◌≤◌, List, length, Ok, Err, refl, ap, arith, lit≤}
use Rattle.std.specs.Prelude.{slice_index}
use Rattle.std.proofs.lemmas.List.{length-drop}
use Rattle.event_codec.specs.declared.message.Message.{Message}
use Rattle.event_codec.specs.declared.message.Body.{Body}
use Rattle.event_codec.specs.declared.message.Body.TheVariants as bodies
use Rattle.event_codec.specs.Layout.{number, type_of, fields_length}
use Rattle.event_codec.specs.Packet.{Contents, Packet, contents}
use Rattle.event_codec.specs.Reading.{Reading, Answers}
use Rattle.ptpx_c.specs.declared.message.RawMessage.{RawMessage}
use Rattle.ptpx_c.specs.Messages.{fields_of, IsDecoded}

-- two octets are a number of 16 bits
two_octets : (b : List ℕ) → slice_index b 2 < 256 → slice_index b 3 < 256 → number b 2 2 < 65536
two_octets b high low = omega arith

four_octets : (body : Body) → 4 ≤ fields_length (type_of body)
four_octets (bodies.Sync origin) = lit≤ tt
four_octets (bodies.DelayReq origin) = lit≤ tt
four_octets (bodies.FollowUp precise) = lit≤ tt
four_octets (bodies.DelayResp receive requesting) = lit≤ tt

-- a suffix is shorter than what messageLength can't say
pub suffix_fits : (m : Contents) (b : List ℕ) → Packet m b → length m.suffix < 65536
suffix_fits m b p =
    let four : 4 ≤ length b = omega (arith, four_octets m.body, p.least) in
    let small : number b 2 2 < 65536 = two_octets b (p.octets 2 (omega arith)) (p.octets 3 (omega arith)) in
    omega (arith, p.header.message_length, ap (length {A = ℕ}) p.suffix, length-drop (fields_length (type_of m.body)) b, small)

-- what octets say, as the fields of the message read from them
pub decoded_as_read : (m : Message) (used : ℕ) (said : Reading) (old : RawMessage) → Answers (Ok (m, used)) said
    → IsDecoded said 0 old (fields_of (contents m))
decoded_as_read m used (Ok read) old h = (refl, ap fields_of h.0)
decoded_as_read m used (Err refusal) old h = absurd h
