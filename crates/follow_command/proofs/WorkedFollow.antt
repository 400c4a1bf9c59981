-- Worked cases of how `follow` ends: after what sums are written, and what a limit makes of the status.
use Rattle.std.proofs.Common.{◌≡◌, true, false, ℕ, ℤ, pos, negsuc, [], ◌∷◌, Some, None, Ok, Err, codes, refl}
use Rattle.text_lines.specs.declared.fault.Cause.TheVariants as lines
use Rattle.text_lines.specs.declared.fault.ReadingFault.TheVariants.{Read}
use Rattle.capture_file.specs.declared.fault.CaptureCause.TheVariants as captures
use Rattle.capture_file.specs.declared.fault.CaptureFault.TheVariants.{CutOff}
use Rattle.tap_crossing.specs.declared.crossing.Crossing.{Crossing}
use Rattle.tap_crossing.specs.declared.sighting.Kind.TheVariants as kinds
use Rattle.tap_crossing.specs.Changes.{no_changes}
use Rattle.tap_follow.specs.declared.fault.FollowFault.TheVariants.{Field, Memory, ThirdTap}
use Rattle.datagram_source.specs.declared.input.InputOutcome.TheVariants.{Lines, Capture}
use Rattle.follow_command.specs.Run.{is_beyond_limit, leaves_sums, limited, lacking}

-- ---- sums
at_the_end : leaves_sums (Lines (Ok 60)) ≡ true
at_the_end = refl

after_a_bad_line : leaves_sums (Lines (Err (record { line = 61; what = lines.Task Field }))) ≡ true
after_a_bad_line = refl

after_a_failed_read : leaves_sums (Lines (Err (record { line = 61; what = lines.Reading Read }))) ≡ true
after_a_failed_read = refl

after_a_third_tap : leaves_sums (Lines (Err (record { line = 61; what = lines.Task (ThirdTap (codes "third")) }))) ≡ false
after_a_third_tap = refl

without_memory : leaves_sums (Lines (Err (record { line = 61; what = lines.Task Memory }))) ≡ false
without_memory = refl

after_a_capture : leaves_sums (Capture (Ok 640)) ≡ true
after_a_capture = refl

after_a_cut_capture : leaves_sums (Capture (Err (record { packets = 41; octet = 6300; what = captures.Capture CutOff }))) ≡ true
after_a_cut_capture = refl

without_memory_for_a_packet : leaves_sums (Capture (Err (record { packets = 41; octet = 6300; what = captures.Memory }))) ≡ false
without_memory_for_a_packet = refl

-- ---- limit
-- a Sync with this rest, in units of 2^-16 ns
abbrev rested : ℤ → Crossing
rested rest = record {
  kind = kinds.Sync;
  number = record { 0 = 0 };
  time = 0;
  taken = rest;
  corrected = pos 0;
  rest = rest;
  first_line = 1;
  second_line = 2;
  from_line = None;
  to_line = None;
  event_changes = no_changes;
  other_changes = no_changes;
}

-- 1000 ns as a limit: 1000 s in these units
abbrev microsecond : ℕ
microsecond = 65536000000000000

as_great : is_beyond_limit (Some microsecond) (rested (pos 65536000) ∷ []) ≡ false
as_great = refl

greater : is_beyond_limit (Some microsecond) (rested (pos 65536001) ∷ []) ≡ true
greater = refl

-- -65536000, and one less
as_great_below_0 : is_beyond_limit (Some microsecond) (rested (negsuc 65535999) ∷ []) ≡ false
as_great_below_0 = refl

greater_below_0 : is_beyond_limit (Some microsecond) (rested (negsuc 65536000) ∷ []) ≡ true
greater_below_0 = refl

the_first_of_two : is_beyond_limit (Some microsecond) (rested (pos 0) ∷ rested (pos 65536001) ∷ []) ≡ true
the_first_of_two = refl

the_last_of_two : is_beyond_limit (Some microsecond) (rested (pos 65536001) ∷ rested (pos 0) ∷ []) ≡ true
the_last_of_two = refl

none_crossed : is_beyond_limit (Some 0) [] ≡ false
none_crossed = refl

without_a_limit : is_beyond_limit None (rested (pos 65536001) ∷ []) ≡ false
without_a_limit = refl

-- ---- status
beyond : limited 0 true ≡ 1
beyond = refl

within : limited 0 false ≡ 0
within = refl

beyond_at_a_fault : limited 3 true ≡ 3
beyond_at_a_fault = refl

beyond_at_a_third_tap : limited 2 true ≡ 2
beyond_at_a_third_tap = refl

-- ---- taps that are asked for
without_a_tap : lacking 0 true ≡ 2
without_a_tap = refl

with_both_taps : lacking 0 false ≡ 0
with_both_taps = refl

without_a_tap_at_a_fault : lacking 3 true ≡ 3
without_a_tap_at_a_fault = refl
