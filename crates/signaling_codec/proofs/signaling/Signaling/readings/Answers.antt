use Rattle.std.proofs.Common.{List, [], ◌++◌, refl, sym, ap, ◌∙◌}
use Rattle.signaling_codec.specs.declared.reading.OwnReading.{OwnReading}
use Rattle.signaling_codec.specs.declared.tlv_type.TlvType.TheVariants.{SyncTiming}
use Rattle.signaling_codec.specs.Tlv.{readings_of}
use Rattle.signaling_codec.specs.Inner.Parsed.{tlvs_in}
use Rattle.signaling_codec.proofs.Left.{no_records, nothing_sound}
use Rattle.signaling_codec.proofs.signaling.Signaling.readings.Goals as goal

pub invariant_of-result : goal.invariant_of-result
invariant_of-result c = record { records = nothing_sound; tlvs = c.octets.ensures.1 }

pub returns : goal.returns
returns c =
    ap (λ (x : List OwnReading). x ++ readings_of (tlvs_in 0 c.octets.result.now)) (no_records SyncTiming c.args.self.now.header.source [] refl)
    ∙ ap readings_of (sym c.octets.ensures.0)
