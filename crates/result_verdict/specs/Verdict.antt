-- What a result is by a slave's own readings. Of its Sync the bracket is t2 - t1 - correction, and so the offset by a delay is the bracket
-- less the delay (IEEE 1588-2019, 11.2).
use Rattle.std.specs.Prelude.{ℕ, ◌<◌, Bool, ◌&&◌, ℤ, pos, ◌+ℤ◌, ◌-ℤ◌, ◌*ℤ◌, ◌≤ℤ◌, int_le, unsigned_abs, ◌==◌, List, codes, ◌++◌}
use Rattle.std.specs.Prelude.{Option, Some, None, is_some, if◌then◌else◌}
use Rattle.std.specs.Fmt.{decimal}
use Rattle.result_verdict.specs.declared.known.Known.{Known}
use Rattle.result_verdict.specs.declared.path_is.PathIs.{PathIs}
use Rattle.result_verdict.specs.declared.path_is.PathIs.TheVariants.{Latest, Response, Median, Mean, Between, Outside}
use Rattle.result_verdict.specs.declared.verdict.Verdict.{Verdict}
use Rattle.result_verdict.specs.declared.verdict.Verdict.TheVariants.{Exact, Within, Filtered, Older, Wrong}
use Rattle.result_verdict.specs.declared.judged.Judged.{Judged}
use Rattle.result_verdict.specs.Exact.{IsWithin}
use Rattle.result_verdict.specs.Delays.{is_within, least, greatest, beyond, response_of, median_of, mean_of}

-- the offset, less that by the latest delay
abbrev pub offset_error : Known → (offset : ℤ) → ℤ
offset_error known offset = offset -ℤ (known.bracket -ℤ known.latest)

-- the path delay, less the latest
abbrev pub path_error : Known → (path : ℤ) → ℤ
path_error known path = path -ℤ known.latest

-- both together, less the bracket, which they make if the offset is by this path delay
abbrev pub sum_error : Known → (offset path : ℤ) → ℤ
sum_error known offset path = (offset +ℤ path) -ℤ known.bracket

-- the least of the latest delay and those at responses
abbrev pub least_known : Known → ℤ
least_known known = least known.latest known.responses.items

-- the greatest of them
abbrev pub greatest_known : Known → ℤ
greatest_known known = greatest known.latest known.responses.items

-- by how much the path delay lies outside of them
abbrev pub beyond_known : Known → (path : ℤ) → ℤ
beyond_known known path = beyond (least_known known) (greatest_known known) path

-- ---- verdicts
-- there is no difference
abbrev pub is_nothing : ℤ → Bool
is_nothing difference = unsigned_abs difference == 0

-- both results are those by the latest delay
abbrev pub is_exact : Known → (offset path : ℤ) → Bool
is_exact known offset path = is_nothing (offset_error known offset) && is_nothing (path_error known path)

-- both are within the tolerance of those
abbrev pub is_near : Known → (offset path tolerance : ℤ) → Bool
is_near known offset path tolerance =
    is_within tolerance (offset_error known offset) && is_within tolerance (path_error known path)

-- the offset is by the path delay, and this lies among the known ones
abbrev pub is_filtered : Known → (offset path tolerance : ℤ) → Bool
is_filtered known offset path tolerance =
    is_within tolerance (sum_error known offset path) && int_le (beyond_known known path) tolerance

-- the offset is by the latest delay, and the path delay is one at a response
abbrev pub is_older : Known → (offset path tolerance : ℤ) → Bool
is_older known offset path tolerance =
    is_within tolerance (offset_error known offset) && is_some (response_of path tolerance known.responses.items)

-- the first of these, in this order, that holds
abbrev pub first_verdict : (exact near filtered older : Bool) → Verdict
first_verdict exact near filtered older =
    if exact then Exact else if near then Within else if filtered then Filtered else if older then Older else Wrong

-- what a result is
abbrev pub verdict_of : Known → (offset path tolerance : ℤ) → Verdict
verdict_of known offset path tolerance = first_verdict (is_exact known offset path) (is_near known offset path tolerance)
    (is_filtered known offset path tolerance) (is_older known offset path tolerance)

-- ---- what laws speak of
-- a sum divided by so many lies between the least and the greatest known delay
pub record LiesWithin (known : Known) (count : ℕ) (sum : ℤ) : Type 0 where
  pub some : 0 < count
  pub above : (pos count *ℤ least_known known) ≤ℤ sum
  pub below : sum ≤ℤ (pos count *ℤ greatest_known known)

-- a number is less than a nanosecond from a sum divided by so many, as one that was cut to whole nanoseconds either way
abbrev pub IsCut : (count : ℕ) → (sum number : ℤ) → Type 0
IsCut count sum number = IsWithin count ((pos count *ℤ number) -ℤ sum)

-- ---- which delay the path delay is
-- the first of a response, a median and a mean that was found
abbrev pub named : (response median mean : Option ℕ) → PathIs → PathIs
named (Some k) median mean otherwise = Response k
named None (Some n) mean otherwise = Median n
named None None (Some n) otherwise = Mean n
named None None None otherwise = otherwise

-- the first that fits: the latest, a response, a median, a mean
abbrev pub path_is_of : Known → (path tolerance : ℤ) → PathIs
path_is_of known path tolerance =
    if is_within tolerance (path_error known path) then Latest
    else named (response_of path tolerance known.responses.items) (median_of path tolerance known.responses.items)
    (mean_of path tolerance known.responses.items)
    (if int_le (beyond_known known path) tolerance then Between else Outside)

-- all that is told of a result
abbrev pub judged : Known → (offset path tolerance : ℤ) → Judged
judged known offset path tolerance = record {
  beyond = beyond_known known path;
  offset_error = offset_error known offset;
  path_error = path_error known path;
  path_is = path_is_of known path tolerance;
  sum_error = sum_error known offset path;
  verdict = verdict_of known offset path tolerance;
}

-- ---- words
-- which delay, in words
abbrev pub path_text : PathIs → List ℕ
path_text Latest = codes "latest"
path_text (Response k) = codes "response " ++ decimal k
path_text (Median n) = codes "median " ++ decimal n
path_text (Mean n) = codes "mean " ++ decimal n
path_text Between = codes "between"
path_text Outside = codes "outside"

-- a verdict, in a word
abbrev pub verdict_text : Verdict → List ℕ
verdict_text Exact = codes "exact"
verdict_text Within = codes "within"
verdict_text Filtered = codes "filtered"
verdict_text Older = codes "older"
verdict_text Wrong = codes "wrong"
