-- Sums as lines of JSON.
use Rattle.std.specs.Prelude.{ℕ, ℤ, pos, List, ◌++◌, codes, Option, Some, None}
use Rattle.std.specs.Fmt.{decimal}
use Rattle.tap_crossing.specs.declared.crossing.Crossing.{Crossing}
use Rattle.tap_crossing.specs.declared.sighting.Kind.TheVariants as kinds
use Rattle.tap_sums.specs.Crossed.{kind_text, units_text}
use Rattle.tap_sums.specs.declared.spread.BothWays.{BothWays}
use Rattle.tap_sums.specs.declared.spread.Spread.{Spread}
use Rattle.tap_sums.specs.declared.spread.Statistics.{Statistics}
use Rattle.tap_sums.specs.Sums.{counted_of, statistics, both_ways}

-- a number of units as nanoseconds, between quotation marks, or null
abbrev pub units_or_null : Option ℤ → List ℕ
units_or_null None = codes "null"
units_or_null (Some units) = codes "\"" ++ units_text units ++ codes "\""

-- the greatest, the least and the mean
abbrev pub members_text : Spread → List ℕ
members_text s =
    codes "\"greatest\":\"" ++ units_text s.greatest
    ++ codes "\",\"least\":\"" ++ units_text s.least
    ++ codes "\",\"mean\":\"" ++ units_text s.mean
    ++ codes "\""

abbrev pub spread_text : Option Spread → List ℕ
spread_text None = codes "\"greatest\":null,\"least\":null,\"mean\":null"
spread_text (Some s) = members_text s

abbrev pub step_units : Option ℕ → Option ℤ
step_units None = None
step_units (Some units) = Some (pos units)

-- the first members of the line of a kind
abbrev pub statistics_front : Statistics → List ℕ
statistics_front s =
    codes "{\"corrected\":{" ++ spread_text s.corrected
    ++ codes "},\"count\":" ++ decimal s.count
    ++ codes ",\"kind\":\"" ++ kind_text s.kind
    ++ codes "\""

-- those of the rest
abbrev pub statistics_rest : Statistics → List ℕ
statistics_rest s =
    codes ",\"rest\":{" ++ spread_text s.rest
    ++ codes ",\"step\":" ++ units_or_null (step_units s.step)

-- and the last ones
abbrev pub statistics_back : Statistics → List ℕ
statistics_back s = codes "},\"taken\":{" ++ spread_text s.taken ++ codes "}}\n"

-- what the crossings of a kind come to, a line
abbrev pub statistics_text : Statistics → List ℕ
statistics_text s = statistics_front s ++ statistics_rest s ++ statistics_back s

-- what both kinds do, a line
abbrev pub both_text : BothWays → List ℕ
both_text b =
    codes "{\"asymmetry\":" ++ units_or_null b.asymmetry
    ++ codes ",\"mean_rest\":" ++ units_or_null b.mean_rest
    ++ codes "}\n"

-- what each kind comes to, and both, three lines
abbrev pub lines_text : (syncs requests : Statistics) → BothWays → List ℕ
lines_text syncs requests both = statistics_text syncs ++ statistics_text requests ++ both_text both

-- the sums over these crossings
abbrev pub sums_text : List Crossing → List ℕ
sums_text all =
    lines_text (statistics kinds.Sync (counted_of kinds.Sync all)) (statistics kinds.DelayReq (counted_of kinds.DelayReq all))
    (both_ways (counted_of kinds.Sync all) (counted_of kinds.DelayReq all))
