-- Worked cases: what speaks against the numbers of crossings, and where each begins.
use Rattle.std.proofs.Common.{◌≡◌, ℕ, ℤ, pos, negsuc, true, false, [], ◌∷◌, Some, None, refl}
use Rattle.statistics.specs.declared.cases.Cases.{Cases}
use Rattle.statistics.specs.declared.rounded.Growth.{Growth}
use Rattle.statistics.specs.declared.rounded.Shift.{Shift}
use Rattle.statistics.specs.declared.rounded.Signed.{Signed}
use Rattle.statistics.specs.declared.series.Point.{Point}
use Rattle.statistics.specs.declared.series.Series.{Series}
use Rattle.statistics.specs.declared.step.Change.{Change}
use Rattle.statistics.specs.declared.wide.Wide.{Wide}
use Rattle.tap_crossing.specs.declared.sighting.Kind.{Kind}
use Rattle.tap_crossing.specs.declared.sighting.Kind.TheVariants.{Sync, DelayReq}
use Rattle.tap_sums.specs.declared.beware.Beware.TheVariants.{TakenBelow, RestBelow, Step, Drift, Uncorrected, SteepRate, ClocksDiffer}
use Rattle.tap_sums.specs.declared.beware.Way.{Way}
use Rattle.tap_sums.specs.declared.beware.Ways.{Ways}
use Rattle.tap_sums.specs.declared.course.Course.{Course}
use Rattle.tap_sums.specs.declared.spread.Spread.{Spread}
use Rattle.tap_sums.specs.Beware.{bewares, told_rate, told_asymmetry}

-- ---- what crossings come to
abbrev none : Wide
none = record { low = 0; high = 0 }

abbrev series : ℕ → Series
series count = record {
  count = count;
  above = none;
  below = none;
  squares = none;
  negatives = 0;
  zeros = 0;
  least = None;
  greatest = None;
}

abbrev at : (line : ℕ) → Point
at line = record { line = line; time = 0; value = pos 0 }

abbrev cases : ℕ → Cases
cases count = record { count = count; first = Some (at 7) }

-- so many, and so many that are below 0 or uncorrected
abbrev course : (count taken_below rest_below uncorrected : ℕ) → Course
course count taken_below rest_below uncorrected = record {
  rests = record { all = series count; newest = None; greatest = None };
  trend = record { times = none; squares = none; above = none; below = none };
  taken_below = cases taken_below;
  rest_below = cases rest_below;
  uncorrected = cases uncorrected;
}

-- they took 1 us
abbrev taken : Spread
taken = record { least = pos 0; greatest = pos 65536000; mean = pos 65536000 }

abbrev way : Kind → Course → Way
way kind course = record {
  statistics = record { kind = kind; count = 16; taken = Some taken; corrected = None; rest = None; step = None };
  course = course;
  shift = None;
  growth = None;
}

abbrev ways : (syncs requests : Course) → (asymmetry : ℤ) → Ways
ways syncs requests asymmetry = record {
  syncs = way Sync syncs;
  requests = way DelayReq requests;
  both = record { asymmetry = Some asymmetry; mean_rest = Some (pos 0) };
  rate = None;
}

abbrev good : Course
good = course 16 0 0 0

abbrev size : ℕ → Signed
size n = record { is_negative = false; size = n }

abbrev grows : ℕ → Growth
grows n = record { rate = size n; explains_half = true }

-- ---- what is below 0
-- 12 of 16 aren't most, and an asymmetry of 1 us is one where both ways took that
nothing : bewares (ways (course 16 12 12 15) good (pos 65536000))
    ≡ None ∷ None ∷ None ∷ None ∷ None ∷ None ∷ None ∷ None ∷ None ∷ []
nothing = refl

exchanged : bewares (ways (course 16 13 0 0) (course 16 16 16 0) (pos 6553600001))
    ≡ Some (TakenBelow (record { kind = Sync; cases = cases 13; of = 16; is_of_both = true }))
    ∷ Some (TakenBelow (record { kind = DelayReq; cases = cases 16; of = 16; is_of_both = true }))
    ∷ None ∷ None ∷ None ∷ None ∷ None ∷ None ∷ None ∷ []
exchanged = refl

-- 15 Syncs are too few; an asymmetry of more than 1 us isn't one
off : bewares (ways (course 15 15 15 15) (course 16 13 16 0) (negsuc 65536000))
    ≡ None ∷ Some (TakenBelow (record { kind = DelayReq; cases = cases 13; of = 16; is_of_both = false }))
    ∷ None ∷ None ∷ None ∷ Some (ClocksDiffer (negsuc 65536000)) ∷ None ∷ None ∷ None ∷ []
off = refl

over-corrected : bewares (ways (course 16 0 13 0) (course 16 0 16 0) (pos 0))
    ≡ None ∷ None ∷ Some (RestBelow (record { kind = Sync; cases = cases 13; of = 16; is_of_both = true }))
    ∷ Some (RestBelow (record { kind = DelayReq; cases = cases 16; of = 16; is_of_both = true }))
    ∷ None ∷ None ∷ None ∷ None ∷ None ∷ []
over-corrected = refl

bridge : bewares (ways (course 16 0 0 16) (course 16 0 0 15) (pos 0))
    ≡ None ∷ None ∷ None ∷ None ∷ None ∷ None ∷ Some (Uncorrected Sync (cases 16)) ∷ None ∷ None ∷ []
bridge = refl

-- ---- what moves
-- a step of 100 ns behind 4 crossings
abbrev change : Change
change = record { from = at 9; to = at 11; before = series 4 }

abbrev shift : Shift
shift = record { by = size 100000; explains_most = true }

abbrev stepping : Ways
stepping = let w = ways good good (pos 65536001) in record w {
  syncs = record w.syncs {
    course = record good { rests = record good.rests { greatest = Some change } };
    shift = Some shift;
    growth = Some (grows 100);
  };
  rate = Some (grows 100001);
}

step : bewares stepping
    ≡ None ∷ None ∷ None ∷ None ∷ Some (Step Sync (size 100000) 11) ∷ None ∷ None ∷ None ∷ None ∷ []
step = refl

no-asymmetry : told_asymmetry stepping ≡ None
no-asymmetry = refl

-- a drift of 0.1 ppm
drift : bewares (record stepping { syncs = record stepping.syncs { shift = None } })
    ≡ None ∷ None ∷ None ∷ None ∷ Some (Drift Sync (size 100)) ∷ None ∷ None ∷ None ∷ None ∷ []
drift = refl

-- ---- a rate of 100 ppm is a clock's, and more isn't
abbrev at-rate : ℕ → Ways
at-rate n = record (ways good good (pos 65536000)) { rate = Some (grows n) }

of-clock : told_rate (at-rate 100000) ≡ Some (grows 100000)
of-clock = refl

steep : bewares (at-rate 100001)
    ≡ None ∷ None ∷ None ∷ None ∷ None ∷ None ∷ None ∷ None ∷ Some (SteepRate (size 100001)) ∷ []
steep = refl

not-of-clock : told_rate (at-rate 100001) ≡ None
not-of-clock = refl
