-- What a message says that was read is what its octets say.
use Rattle.std.proofs.Common.{◌≡◌, ◌∙◌, ℕ, ◌%◌, ◌+◌, ◌<◌, ◌≤◌, ◌&&◌, List, length, take, Some, None}
use Rattle.std.proofs.Common.{sym, ap, arith, ◌==◌, if◌then◌else◌}
use Rattle.std.specs.Prelude.{slice_index, is_none}
use Rattle.std.specs.Int.{w64, cast_signed}
use Rattle.std.proofs.lemmas.List.{length-take-le}
use Rattle.ptp_units.specs.Moment.{stamp}
use Rattle.event_codec.specs.declared.message.Body.{Body}
use Rattle.event_codec.specs.declared.message.Body.TheVariants as bodies
use Rattle.event_codec.specs.Layout.{number, number_of, type_of, fields_length}
use Rattle.event_codec.specs.Packet.{Contents, Packet}
use Rattle.event_codec.specs.Refusal.{decode_refusal}
use Rattle.event_codec.proofs.Fields.{fields_length_above}
use Rattle.event_codec.proofs.Numbers.{number-take}
use Rattle.trace_model.specs.ByMessages.{said_in}
use Rattle.exchange_check.specs.Inner.Messages.{said_by}

small_type : (body : Body) → number_of (type_of body) < 16
small_type (bodies.Sync origin) = omega arith
small_type _ = omega arith

module _ (m : Contents) (n : ℕ) (b : List ℕ) (within : n ≤ length b) (p : Packet m (take n b))
    (unrefused : decode_refusal b ≡ None) where
  long : 44 ≤ n
  long =
      let least : 44 ≤ fields_length (type_of m.body) = fields_length_above (type_of m.body) in
      let whole : length (take n b) ≡ n = length-take-le n b within in
      omega (arith, least, p.least, whole)

  same : (i count : ℕ) → i + count ≤ n → number (take n b) i count ≡ number b i count
  same i count h = number-take b n i count h

  kind_is : number_of (type_of m.body) ≡ slice_index b 0 % 16
  kind_is =
      let first : slice_index (take n b) 0 ≡ slice_index b 0 = omega (arith, same 0 1 (omega (arith, long))) in
      let small : number_of (type_of m.body) < 16 = small_type m.body in
      omega (arith, first, small, p.header.major_sdo_and_type)

  pub said-read : (kind : ℕ) → said_by kind m.header m.body ≡ said_in kind b
  said-read kind = λ i. if is_none (sym unrefused i) && (kind_is i == kind) then Some (record {
    timestamp = stamp ((p.timestamp.seconds ∙ same 34 6 (omega (arith, long))) i)
        ((p.timestamp.nanoseconds ∙ same 40 4 (omega (arith, long))) i);
    correction = (p.header.correction ∙ ap (cast_signed w64) (same 8 8 (omega (arith, long)))) i;
  }) else None
