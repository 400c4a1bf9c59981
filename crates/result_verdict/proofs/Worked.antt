-- Exact numbers, delays and verdicts, worked by hand.
use Rattle.std.proofs.Common.{◌≡◌, ◌*◌, ◌^◌, ◌+◌, ◌-◌, ℕ, ℤ, pos, negsuc, neg_ℤ, ◌+ℤ◌, ◌-ℤ◌, List, [], ◌∷◌, codes, Some, None, refl}
use Rattle.std.proofs.Common.{lit<}
use Rattle.std.specs.Fmt.{digits}
use Rattle.result_verdict.specs.declared.known.Known.{Known}
use Rattle.result_verdict.specs.declared.path_is.PathIs.TheVariants.{Latest, Response, Median, Mean, Between, Outside}
use Rattle.result_verdict.specs.declared.verdict.Verdict.TheVariants.{Exact, Within, Filtered, Older, Wrong}
use Rattle.result_verdict.specs.Exact.{of_twice, decimals, exact_text, exact_in}
use Rattle.result_verdict.specs.Inner.Normal.{with_parts}
use Rattle.result_verdict.specs.Delays.{in_order, twice_median, total, least, greatest, beyond}
use Rattle.result_verdict.specs.Seconds.{whole_seconds}
use Rattle.result_verdict.specs.Verdict.{offset_error, path_error, sum_error, beyond_known, path_is_of, verdict_of, IsCut}

-- so many thousandths of a nanosecond
abbrev thousandths : ℕ → ℤ
thousandths n = pos (n * 10 ^ 14)

-- so many nanoseconds
abbrev ns : ℕ → ℤ
ns n = pos (n * 10 ^ 17)

-- ---- exact numbers: 2^-17 ns, half a nanosecond below 0, which is kept as -1 and a half, and twelve and a half
least_part : exact_text (of_twice (pos 1)) ≡ codes "0.00000762939453125"
unfolding digits decimals
least_part = refl

half_below : exact_text (of_twice (negsuc 65535)) ≡ codes "-0.5"
unfolding digits decimals
half_below = refl

kept_below : of_twice (negsuc 65535) ≡ with_parts (negsuc 0) (5 * 10 ^ 16)
kept_below = refl

twelve : exact_text (of_twice (pos 1638400)) ≡ codes "12.5"
unfolding digits decimals
twelve = refl

nothing : exact_text (of_twice (pos 0)) ≡ codes "0"
unfolding digits decimals
nothing = refl

-- ---- texts: signs, decimals, the longest ones, and 0 below 0
read_half : exact_in (codes "-0.5") ≡ Some (negsuc (5 * 10 ^ 16 - 1))
read_half = refl

read_last_decimal : exact_in (codes "-7.0000000000000001") ≡ Some (negsuc (7 * 10 ^ 17 + 9))
read_last_decimal = refl

read_longest : exact_in (codes "999999999999999999999999.9999999999999999") ≡ Some (pos (10 ^ 41 - 10))
read_longest = refl

read_nothing : exact_in (codes "-0") ≡ Some (pos 0)
read_nothing = refl

read_nothing_and_decimals : exact_in (codes "-0.0") ≡ Some (pos 0)
read_nothing_and_decimals = refl

-- 25 digits, 17 decimals, a zero in front, no decimals, no whole, a plus, two minuses, an exponent, and no digit
too_long : exact_in (codes "1000000000000000000000000") ≡ None
too_long = refl

too_fine : exact_in (codes "0.00000000000000001") ≡ None
too_fine = refl

zero_in_front : exact_in (codes "-01") ≡ None
zero_in_front = refl

no_decimals : exact_in (codes "5.") ≡ None
no_decimals = refl

no_whole : exact_in (codes "-.5") ≡ None
no_whole = refl

plus : exact_in (codes "+5") ≡ None
plus = refl

two_minuses : exact_in (codes "--5") ≡ None
two_minuses = refl

exponent : exact_in (codes "1e3") ≡ None
exponent = refl

no_digit : exact_in (codes "-") ≡ None
no_digit = refl

empty : exact_in [] ≡ None
empty = refl

-- ---- delays: 560, 530, 520 and 580 ns, the newest in front
abbrev four : List ℤ
four = ns 560 ∷ ns 530 ∷ ns 520 ∷ ns 580 ∷ []

four_in_order : in_order four ≡ ns 520 ∷ ns 530 ∷ ns 560 ∷ ns 580 ∷ []
four_in_order = refl

median_of_four : twice_median four ≡ ns 1090
median_of_four = refl

median_of_three : twice_median (ns 560 ∷ ns 530 ∷ ns 520 ∷ []) ≡ ns 1060
median_of_three = refl

-- two equal delays, and one below 0
equal_ones : in_order (ns 2 ∷ neg_ℤ (ns 1) ∷ ns 2 ∷ []) ≡ neg_ℤ (ns 1) ∷ ns 2 ∷ ns 2 ∷ []
equal_ones = refl

least_of_four : least (ns 500) four ≡ ns 500
least_of_four = refl

greatest_of_four : greatest (ns 500) four ≡ ns 580
greatest_of_four = refl

sum_of_four : total four ≡ ns 2190
sum_of_four = refl

below_all : beyond (ns 500) (ns 580) (ns 498) ≡ ns 2
below_all = refl

above_all : beyond (ns 500) (ns 580) (thousandths 581500) ≡ thousandths 1500
above_all = refl

at_the_least : beyond (ns 500) (ns 580) (ns 500) ≡ pos 0
at_the_least = refl

-- ---- a Sync of which the bracket is 1,000 ns; the latest delay is 500 ns, and those at responses are the four
abbrev known : Known
known = record { bracket = ns 1000; latest = ns 500; responses = record { items = four } }

-- which delay a path delay is, at a tolerance of 1 ns: on the edge of the latest, and 2^-17 ns past it
latest_edge : path_is_of known (ns 499) (ns 1) ≡ Latest
latest_edge = refl

past_latest : path_is_of known (ns 499 +ℤ negsuc 762939453124) (ns 1) ≡ Outside
past_latest = refl

newest_response : path_is_of known (ns 561) (ns 1) ≡ Response 1
newest_response = refl

oldest_response : path_is_of known (ns 579) (ns 1) ≡ Response 4
oldest_response = refl

-- 560 and 530 make 545, 560, 530 and 520 make 530, which is a response, and a third of 1,610; all four make 545, and 547.5
median_of_two : path_is_of known (ns 546) (ns 1) ≡ Median 2
median_of_two = refl

mean_of_three : path_is_of known (thousandths 537500) (ns 1) ≡ Mean 3
mean_of_three = refl

-- three times 535 is 5 short of 1,610
no_mean_of_three : path_is_of known (ns 535) (ns 1) ≡ Between
no_mean_of_three = refl

mean_of_four : path_is_of known (thousandths 548500) (ns 1) ≡ Mean 4
mean_of_four = refl

past_mean_of_four : path_is_of known (thousandths 548501) (ns 1) ≡ Between
past_mean_of_four = refl

-- of other delays: 20, 10 and 40 are none, and have 20 in the middle; with 30 they have 25
abbrev others : Known
others = record known { responses = record { items = ns 20 ∷ ns 10 ∷ ns 40 ∷ ns 30 ∷ [] } }

median_of_four_first : path_is_of others (thousandths 25400) (thousandths 500) ≡ Median 4
median_of_four_first = refl

outside : path_is_of known (thousandths 581500) (ns 1) ≡ Outside
outside = refl

-- where nothing came at a response, there is the latest alone
abbrev alone : Known
alone = record known { responses = record { items = [] } }

latest_alone : path_is_of alone (ns 501) (ns 1) ≡ Latest
latest_alone = refl

outside_alone : path_is_of alone (ns 502) (ns 1) ≡ Outside
outside_alone = refl

-- ---- verdicts
exact : verdict_of known (ns 500) (ns 500) (ns 1) ≡ Exact
exact = refl

-- at no tolerance it is exact all the same
exact_at_none : verdict_of known (ns 500) (ns 500) (pos 0) ≡ Exact
exact_at_none = refl

-- off by 2^-17 ns, and by 1 ns the one way and the other
within_least : verdict_of known (ns 500 +ℤ pos 762939453125) (ns 500) (ns 1) ≡ Within
within_least = refl

within_edges : verdict_of known (ns 501) (ns 499) (ns 1) ≡ Within
within_edges = refl

-- the offset by 545, by 545.5 cut to 545, and 1 ns off from that
filtered : verdict_of known (ns 455) (ns 545) (ns 1) ≡ Filtered
filtered = refl

filtered_half : verdict_of known (thousandths 454500) (ns 545) (ns 1) ≡ Filtered
filtered_half = refl

filtered_edge : verdict_of known (ns 454) (ns 545) (ns 1) ≡ Filtered
filtered_edge = refl

past_filtered : verdict_of known (ns 454 +ℤ negsuc 762939453124) (ns 545) (ns 1) ≡ Wrong
past_filtered = refl

-- the offset by a delay that is 1 ns below the least, and one that is 2 ns below it
filtered_beyond : verdict_of known (ns 502) (ns 499) (ns 1) ≡ Filtered
filtered_beyond = refl

wrong_beyond : verdict_of known (ns 502) (ns 498) (ns 1) ≡ Wrong
wrong_beyond = refl

-- the offset by the latest, with a delay at a response, and off by half a nanosecond
older : verdict_of known (ns 500) (ns 530) (ns 1) ≡ Older
older = refl

older_half : verdict_of known (thousandths 499500) (ns 581) (ns 1) ≡ Older
older_half = refl

past_older : verdict_of known (thousandths 498999) (ns 530) (ns 1) ≡ Wrong
past_older = refl

-- with a delay at no response
wrong : verdict_of known (ns 500) (ns 540) (ns 1) ≡ Wrong
wrong = refl

-- and what it is off by
wrong_offset : offset_error known (ns 498) ≡ neg_ℤ (ns 2)
wrong_offset = refl

wrong_path : path_error known (ns 540) ≡ ns 40
wrong_path = refl

wrong_sum : sum_error known (ns 498) (ns 540) ≡ ns 38
wrong_sum = refl

wrong_between : beyond_known known (ns 540) ≡ pos 0
wrong_between = refl

-- the mean of the newest three, 536 and two thirds, and the offset by it, 463 and a third, both cut upwards
cut_path : IsCut 3 (total (ns 560 ∷ ns 530 ∷ ns 520 ∷ [])) (ns 537)
cut_path = lit< tt

cut_offset : IsCut 3 (ns 3000 -ℤ total (ns 560 ∷ ns 530 ∷ ns 520 ∷ [])) (ns 464)
cut_offset = lit< tt

cut_mean : verdict_of known (ns 464) (ns 537) (ns 2) ≡ Filtered
cut_mean = refl

-- 2 ns below the bracket, at a tolerance of 2 ns: changed by 4 ns it is 2 ns above, and by more it isn't filtered
filtered_low : verdict_of known (ns 461) (ns 537) (ns 2) ≡ Filtered
filtered_low = refl

changed_by_four : verdict_of known (ns 461) (ns 541) (ns 2) ≡ Filtered
changed_by_four = refl

changed_by_more : verdict_of known (ns 461) (ns 541 +ℤ pos 762939453125) (ns 2) ≡ Wrong
changed_by_more = refl

-- wrong at 1 ns, and not at 2 ns
wrong_at_one : verdict_of known (ns 453) (ns 545) (ns 1) ≡ Wrong
wrong_at_one = refl

filtered_at_two : verdict_of known (ns 453) (ns 545) (ns 2) ≡ Filtered
filtered_at_two = refl

-- ---- whole seconds: 37 of them and half a nanosecond, either way, at 1 ns and at none; a second and a half; nothing
seconds_near : whole_seconds (ns 1) (neg_ℤ (pos (37 * 10 ^ 26 + 5 * 10 ^ 16))) ≡ Some 37
seconds_near = refl

seconds_below : whole_seconds (ns 1) (pos (37 * 10 ^ 26 - 5 * 10 ^ 16)) ≡ Some 37
seconds_below = refl

seconds_off : whole_seconds (ns 0) (pos (37 * 10 ^ 26 + 5 * 10 ^ 16)) ≡ None
seconds_off = refl

seconds_exact : whole_seconds (ns 0) (pos (37 * 10 ^ 26)) ≡ Some 37
seconds_exact = refl

seconds_and_half : whole_seconds (ns 1) (pos (15 * 10 ^ 25)) ≡ None
seconds_and_half = refl

no_second : whole_seconds (ns 1) (pos 0) ≡ None
no_second = refl
