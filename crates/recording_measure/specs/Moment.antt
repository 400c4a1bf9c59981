-- Moments (IEEE 1588-2019, 5.3.3) as seconds, with all the decimals that they have.
use Rattle.std.specs.Prelude.{ℕ, ◌*◌, List, ◌++◌}
use Rattle.ptp_units.specs.Moment.{stamp_of, fraction_of}
use Rattle.ptp_units.specs.Nanoseconds.{decimals}
use Rattle.datagram_text.specs.Shown.{stamp_text}

-- seconds with nine decimals, and what is left of a nanosecond behind these
unfoldable pub moment_text : (time : ℕ) → List ℕ
moment_text time = stamp_text (stamp_of time) ++ decimals 17 (2 * fraction_of time)
