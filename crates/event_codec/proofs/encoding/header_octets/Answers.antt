use Rattle.std.proofs.Common.{◌≡◌, ◌∙◌, ℤ, ℕ, FitsSigned, List, take, sym, ap, refl, arith, rules}
use Rattle.std.specs.Int.{w8, w64, cast_signed, cast_unsigned, to_be_bytes}
use Rattle.std.proofs.lemmas.Int.{ints, to_z-of_z}
use Rattle.event_codec.specs.Layout.{number}
use Rattle.event_codec.proofs.Numbers.{cells, cells_all, number-to_be_bytes_2, number-to_be_bytes_8}
use Rattle.event_codec.proofs.encoding.header_octets.Goals as goal

pub returns : goal.returns
unfolding cells
returns c =
    let h = c.args.header.now in
    let identity : List ℕ = c.identity_octets.result in
    let correction : FitsSigned w64 h.correction.0 = search rules in
    let log : FitsSigned w8 h.log = search rules in
    let octets : c.to_be_bytes-2.result ≡ to_be_bytes w64 (cast_unsigned w64 h.correction.0) =
    c.to_be_bytes-2.ensures ∙ ap (λ (z : ℤ). to_be_bytes w64 (cast_unsigned w64 z)) (to_z-of_z w64 h.correction.0 correction) in
    let value : number c.to_be_bytes-2.result 0 8 ≡ cast_unsigned w64 h.correction.0 =
    ap (λ (x : List ℕ). number x 0 8) octets ∙ number-to_be_bytes_8 (cast_unsigned w64 h.correction.0) (omega (arith, ints, correction)) in
    record {
      major_sdo_and_type = search rules;
      minor_version_and_version = search rules;
      message_length = ap (λ (x : List ℕ). number x 0 2) c.to_be_bytes.ensures ∙ number-to_be_bytes_2 c.args.message_length (search rules);
      domain = refl;
      minor_sdo = refl;
      flags = cells_all h.flags 0 2 (search rules);
      correction = sym (ap (cast_signed w64) value ∙ to_z-of_z w64 h.correction.0 correction);
      specific = cells_all h.specific 0 4 (search rules);
      source = record { clock = c.identity_octets.ensures.clock ∙ ap (take 8) (cells_all identity 0 10 (search rules)); port = c.identity_octets.ensures.port };
      sequence = c.sequence_octets.ensures;
      control = refl;
      log = sym (ap (cast_signed w8) (c.cast_unsigned-log.ensures ∙ ap (cast_unsigned w8) (to_z-of_z w8 h.log log)) ∙ to_z-of_z w8 h.log log);
    }
