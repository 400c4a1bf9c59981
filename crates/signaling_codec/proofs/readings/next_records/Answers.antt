use Rattle.std.proofs.Common.{◌++◌, List, ap, ◌∙◌, arith}
use Rattle.signaling_codec.specs.declared.reading.OwnReading.{OwnReading}
use Rattle.signaling_codec.specs.Tlv.{readings_of}
use Rattle.signaling_codec.specs.Inner.Parsed.{tlvs_in}
use Rattle.signaling_codec.proofs.Left.{has_next, no_next}
use Rattle.signaling_codec.proofs.readings.next_records.Goals as goal

pub records_of-requires : goal.records_of-requires
records_of-requires c =
    let e = c.in-Some.ensures in
    let tlv = c.in-Some.tlv in
    (has_next c.loop-tlv.rest.now tlv.number tlv.value.now tlv.rest.now (omega (arith, e.0)) c.loop-tlv.invariant.sound e.2 e.3 e.4).sound

pub returns-in-Some-records_of : goal.returns-in-Some-records_of
returns-in-Some-records_of c =
    let e = c.in-Some.ensures in
    let tlv = c.in-Some.tlv in
    let h = has_next c.loop-tlv.rest.now tlv.number tlv.value.now tlv.rest.now (omega (arith, e.0)) c.loop-tlv.invariant.sound e.2 e.3 e.4 in
    let found = c.in-Some-records_of.ensures in
    (found.0, record { records = found.1; tlvs = rw found.3 h.rest_sound }, rw (found.2, found.3) (c.loop-tlv.invariant.same ∙ h.readings))

pub loop-tlv-preserved : goal.loop-tlv-preserved
loop-tlv-preserved c =
    let e = c.in-Some.ensures in
    let tlv = c.in-Some.tlv in
    let h = has_next c.loop-tlv.rest.now tlv.number tlv.value.now tlv.rest.now (omega (arith, e.0)) c.loop-tlv.invariant.sound e.2 e.3 e.4 in
    record {
      sound = h.rest_sound;
      same = c.loop-tlv.invariant.same ∙ h.readings
          ∙ ap (λ (x : List OwnReading). x ++ readings_of (tlvs_in 0 tlv.rest.now)) c.in_default-records_of.ensures;
    }

pub returns : goal.returns
returns c = c.loop-tlv.invariant.same ∙ no_next c.loop-tlv.rest.now c.loop-tlv.invariant.sound c.in_default.ensures
