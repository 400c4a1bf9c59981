-- Whether a first report was measured, by what is counted.
use Rattle.std.proofs.Common.{◌≡◌, ◌∙◌, ℕ, zero, suc, ◌+◌, Bool, List, [], ◌∷◌, ◌++◌, length, drop, cond, Option, Some, None, refl, sym, ap, arith}
use Rattle.std.specs.Prelude.{nat_lt, count_by, is_some, option_to_list}
use Rattle.std.specs.Option.{option_map_or}
use Rattle.std.proofs.lemmas.Bool.{lt-ltb}
use Rattle.std.proofs.lemmas.List.Sums.{sum_by-append, sum_by-cons}
use Rattle.recording_model.specs.declared.watched.Watched.{Watched}
use Rattle.recording_summary.specs.declared.counts.Counts.{Counts}
use Rattle.recording_measure.specs.Made.{Measured}
use Rattle.recording_measure.specs.declared.watch.WantedPorts.{WantedPorts}
use Rattle.recording_measure.specs.Row.{Row, datagrams}
use Rattle.recording_measure.specs.Measured.{measured_at, measurements}
use Rattle.recording_measure.specs.Places.{PlaceName, rows_at}
use Rattle.recording_measure.specs.Chosen.{chosen, heard_at, watched_at, input_watched}
use Rattle.recording_measure.specs.Measure.{Recording, has_reported}
use Rattle.recording_measure.specs.Counts.{Fate, fate_at, fates, early_fate, early_with, early_at, input_fates, at_most}
use Rattle.recording_measure.specs.Inner.Counting.{CountsSoFar}
use Rattle.recording_measure.proofs.Chosen.{measured-unknown}

-- a report was measured then
abbrev is_reported : Fate → Bool
is_reported fate = is_some fate.measured

count_append : (newer older : List Fate)
    → count_by is_reported (newer ++ older) ≡ count_by is_reported newer + count_by is_reported older
count_append newer older = sum_by-append (λ fate. cond (is_reported fate) 1 0) newer older

one_counted : (o : Option Measured) (ms : List Measured) (n : ℕ) → n ≡ length ms
    → cond (is_some o) 1 0 + n ≡ length (option_to_list o ++ ms)
one_counted None ms n same = omega (arith, same)
one_counted (Some m) ms n same = omega (arith, same)

abbrev one : Fate → ℕ
one fate = cond (is_reported fate) 1 0

-- as many as are measured
heard_counted : (w : Watched) (rows : List Row) → count_by is_reported (fates w rows) ≡ length (measurements w rows)
heard_counted w [] = refl
heard_counted w (row ∷ rows) =
    sum_by-cons one (fate_at w rows row) (fates w rows)
    ∙ one_counted (measured_at w rows row) (measurements w rows) (count_by is_reported (fates w rows)) (heard_counted w rows)

-- and none that came too early
early_one : (known : Option Watched) (row : Row) (all : List Fate) → count_by is_reported all ≡ 0
    → count_by is_reported (early_with known row.datagram all) ≡ 0
early_one None row all none = sum_by-cons one (early_fate row.datagram) all ∙ omega (arith, none)
early_one (Some watched) row all none = none

early_counted : (w : WantedPorts) (place : PlaceName) (rows : List Row) → count_by is_reported (early_at w place rows) ≡ 0
early_counted w place [] = refl
early_counted w place (row ∷ rows) =
    early_one (watched_at w place (datagrams (row ∷ rows))) row (early_at w place rows) (early_counted w place rows)

known_counted : (known : Option Watched) (rows : List Row) (early : List Fate) → count_by is_reported early ≡ 0
    → count_by is_reported (option_map_or (λ w. fates w rows) known [] ++ early)
    ≡ length (option_map_or (λ w. measurements w rows) known [])
known_counted None rows early none = none
known_counted (Some w) rows early none = omega (arith, count_append (fates w rows) early, heard_counted w rows, none)

-- ---- whether there is one
any_counted : (n k : ℕ) → n ≡ at_most k → nat_lt 0 n ≡ nat_lt 0 k
any_counted n zero same = ap (nat_lt 0) same
any_counted n (suc k) same = lt-ltb 0 n (omega (arith, same)) ∙ sym (lt-ltb 0 (suc k) (omega arith))

reported_by : (r : Recording) (place : Option PlaceName) (counts : Counts) → chosen r.wanted r.rows ≡ place
    → CountsSoFar r.wanted place r.rows counts → nat_lt 0 counts.reports ≡ has_reported r
reported_by r None counts none so =
    ap (nat_lt 0) so.reports ∙ ap (λ (ms : List Measured). nat_lt 0 (length ms)) (sym (measured-unknown r.wanted r.rows none))
reported_by r (Some place) counts is so =
    let early = early_at r.wanted place (drop (length (heard_at r.wanted r.rows)) (rows_at place r.rows)) in
    any_counted counts.reports (count_by is_reported (input_fates r.wanted place r.rows)) so.reports
    ∙ ap (nat_lt 0) (known_counted (input_watched r.wanted r.rows) (heard_at r.wanted r.rows) early
    (early_counted r.wanted place (drop (length (heard_at r.wanted r.rows)) (rows_at place r.rows))))

pub any_reported : (r : Recording) (counts : Counts) → CountsSoFar r.wanted (chosen r.wanted r.rows) r.rows counts
    → nat_lt 0 counts.reports ≡ has_reported r
any_reported r counts so = reported_by r (chosen r.wanted r.rows) counts refl so
