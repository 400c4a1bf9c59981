-- Numbers of halves of 2^-16 ns as nanoseconds, worked by hand.
use Rattle.std.proofs.Common.{◌≡◌, pos, negsuc, codes, refl}
use Rattle.std.specs.Fmt.{digits}
use Rattle.ptp_units.specs.Nanoseconds.{decimals, nanoseconds_text}

-- the least part of a nanosecond, twelve and a half below 0, a thousand, and none
least_part : nanoseconds_text (pos 1) ≡ codes "0.00000762939453125"
unfolding digits decimals
least_part = refl

below : nanoseconds_text (negsuc 1638399) ≡ codes "-12.5"
unfolding digits decimals
below = refl

thousand : nanoseconds_text (pos 131072000) ≡ codes "1000"
unfolding digits decimals
thousand = refl

none : nanoseconds_text (pos 0) ≡ codes "0"
unfolding digits decimals
none = refl
