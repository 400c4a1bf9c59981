use Rattle.std.proofs.Common.{◌∙◌}
use Rattle.tap_follow.proofs.TapNames.{taken_name, front_name, IsTapName-place}
use Rattle.tap_follow.proofs.tap.tap_of_place.Goals as goal

pub returns : goal.returns
returns c = taken_name c.new.result _ _ c.new.ensures.some c.new.ensures.text
    (front_name c.as_bytes-digits.result.now c.copy_from_slice.new.self _ _ c.copy_from_slice.ensures.after
    (c.as_bytes-digits.ensures.value ∙ c.format.ensures.text))
    (IsTapName-place c.args.place c.ranges.place.fits)
