-- What is told at the end of an input, in words.
use Rattle.std.specs.Prelude.{ℕ, ◌+◌, ◌*◌, ◌/◌, ◌==◌, nat_lt, ℤ, pos, ◌+ℤ◌, int_lt, unsigned_abs, Bool, true, false, not, ◌||◌}
use Rattle.std.specs.Prelude.{List, [], ◌++◌, codes, flat_map, Option, Some, None, if◌then◌else◌}
use Rattle.std.specs.Fmt.{decimal}
use Rattle.std.specs.Int.{saturate_signed, w128}
use Rattle.rounded_text.specs.Rounded.{thousandths_text}
use Rattle.statistics.specs.declared.cases.Cases.{Cases}
use Rattle.statistics.specs.declared.recent.Middle.{Middle}
use Rattle.statistics.specs.declared.rounded.Growth.{Growth}
use Rattle.statistics.specs.declared.rounded.Signed.{Signed}
use Rattle.statistics.specs.declared.series.Point.{Point}
use Rattle.tap_crossing.specs.declared.sighting.Kind.{Kind}
use Rattle.tap_crossing.specs.declared.sighting.Kind.TheVariants as kinds
use Rattle.tap_sums.specs.declared.beware.Below.{Below}
use Rattle.tap_sums.specs.declared.beware.Beware.{Beware}
use Rattle.tap_sums.specs.declared.beware.Beware.TheVariants.{TakenBelow, RestBelow, Step, Drift, Uncorrected, SteepRate, ClocksDiffer}
use Rattle.tap_sums.specs.declared.changed.Changed.{Changed}
use Rattle.tap_sums.specs.declared.spread.Spread.{Spread}
use Rattle.tap_sums.specs.declared.untold.Untold.{Untold}
use Rattle.tap_follow.specs.declared.ending.Ending.{Ending}
use Rattle.tap_follow.specs.declared.ending.InputUnit.{InputUnit}
use Rattle.tap_follow.specs.declared.ending.InputUnit.TheVariants.{Line, Packet}
use Rattle.tap_follow.specs.declared.ending.KindEnding.{KindEnding}
use Rattle.tap_follow.specs.declared.lost.Lost.{Lost}
use Rattle.tap_follow.specs.declared.lost.Why.{Why}
use Rattle.tap_follow.specs.declared.lost.Why.TheVariants.{Spoiled, TooBig, TwoStepAtFromAlone, OtherTimestamp}

-- ---- numbers
-- units of 2^-16 ns in thousandths of a nanosecond, to the nearest, a half upwards
abbrev pub of_units : (size : ℕ) → ℕ
of_units size = (1000 * size + 32768) / 65536

-- halves of these units
abbrev pub of_halves : (size : ℕ) → ℕ
of_halves size = (1000 * size + 65536) / 131072

-- nanoseconds with three decimals, without a sign where these are 0
unfoldable pub units_text : ℤ → List ℕ
units_text units = thousandths_text (record { is_negative = int_lt units (pos 0); size = of_units (unsigned_abs units) })

unfoldable pub halves_text : ℤ → List ℕ
halves_text halves = thousandths_text (record { is_negative = int_lt halves (pos 0); size = of_halves (unsigned_abs halves) })

-- a number of thousandths
unfoldable pub rounded_text : Signed → List ℕ
rounded_text value = thousandths_text value

-- a number of units without its sign, and half of one
unfoldable pub size_text : ℤ → List ℕ
size_text units = thousandths_text (record { is_negative = false; size = of_units (unsigned_abs units) })

unfoldable pub half_size_text : ℤ → List ℕ
half_size_text units = thousandths_text (record { is_negative = false; size = of_halves (unsigned_abs units) })

-- the mean of the two in the middle, whose sum stays within 128 bits
unfoldable pub middle_text : Middle → List ℕ
middle_text m = halves_text (saturate_signed w128 (m.lower +ℤ m.upper))

-- which of two words fits an asymmetry
unfoldable pub word_text : (units : ℤ) → (below above : List ℕ) → List ℕ
word_text units below above = if int_lt units (pos 0) then below else above

-- ---- names
-- an event message of a kind
unfoldable pub name_of : Kind → List ℕ
name_of kinds.Sync = codes "Sync"
name_of kinds.DelayReq = codes "Delay_Req"

-- more of them
unfoldable pub names_of : Kind → List ℕ
names_of kinds.Sync = codes "Syncs"
names_of kinds.DelayReq = codes "Delay_Reqs"

-- the message that belongs to one
unfoldable pub other_name_of : Kind → List ℕ
other_name_of kinds.Sync = codes "Follow_Up"
other_name_of kinds.DelayReq = codes "Delay_Resp"

unfoldable pub unit_name : InputUnit → List ℕ
unit_name Line = codes "line"
unit_name Packet = codes "packet"

-- so many event messages of a kind
unfoldable pub many_text : Kind → (count : ℕ) → List ℕ
many_text kind count =
    if count == 0 then codes "no " ++ name_of kind
    else if count == 1 then codes "1 " ++ name_of kind
    else decimal count ++ codes " " ++ names_of kind

-- ---- what crossings come to
-- what the numbers below are of
unfoldable pub numbers_text : (count : ℕ) → List ℕ
numbers_text count =
    if count == 0 then []
    else if nat_lt 4096 count then codes "; in ns, rounded, medians of the last 4096:"
    else codes "; in ns, rounded:"

unfoldable pub median_text : Option Middle → List ℕ
median_text None = []
median_text (Some m) = codes ", median " ++ middle_text m

unfoldable pub greater_text : Spread → List ℕ
greater_text s = codes ", mean " ++ units_text s.mean ++ codes ", greatest " ++ units_text s.greatest

-- the least, the median, the mean and the greatest
unfoldable pub values_text : Spread → Option Middle → List ℕ
values_text s median = codes "least " ++ units_text s.least ++ median_text median ++ greater_text s

unfoldable pub spread_text : (name : List ℕ) → Option Spread → Option Middle → List ℕ
spread_text name None median = []
spread_text name (Some s) median = codes "ptpx:   " ++ name ++ codes ": " ++ values_text s median ++ codes "\n"

-- how many messages of a kind crossed, from its first tap to its second
unfoldable pub crossed_text : Kind → (count : ℕ) → (first second : List ℕ) → List ℕ
crossed_text kind count first second =
    codes "ptpx: " ++ many_text kind count ++ codes " crossed from " ++ first ++ codes " to " ++ second
    ++ numbers_text count ++ codes "\n"

-- what these took, were corrected by, and had as rest
unfoldable pub kind_text : KindEnding → (first second : List ℕ) → List ℕ
kind_text e first second =
    crossed_text e.statistics.kind e.statistics.count first second
    ++ spread_text (codes "taken") e.statistics.taken e.taken
    ++ spread_text (codes "corrected") e.statistics.corrected e.corrected
    ++ spread_text (codes "rest") e.statistics.rest e.rest

-- what a rate means
unfoldable pub meaning_text : Growth → List ℕ
meaning_text growth =
    if growth.explains_half then (if growth.rate.is_negative
    then codes "half of how it varies, or more: by so much a clock between the taps tells its residences too long, where its rate is the reason"
    else codes "half of how it varies, or more: by so much a clock between the taps tells its residences too short, where its rate is the reason")
    else codes "less than half of how it varies: stamps or the load of a clock are a likelier reason than its rate"

unfoldable pub rate_text : Option Growth → List ℕ
rate_text None = []
rate_text (Some growth) =
    codes "ptpx: rate: rest of Syncs grows by " ++ rounded_text growth.rate
    ++ codes " ppm of corrected, by least squares (rounded), which explains " ++ meaning_text growth ++ codes "\n"

-- by how much a slave reads offsets too low or too high
unfoldable pub too_text : ℤ → List ℕ
too_text units = half_size_text units ++ codes " ns too " ++ word_text units (codes "low") (codes "high")

unfoldable pub reads_text : (to : List ℕ) → ℤ → List ℕ
reads_text to units =
    codes "If both taps share a clock, a slave behind " ++ (to ++ (codes " reads offsets " ++ too_text units))

unfoldable pub asymmetry_text : Option ℤ → (to : List ℕ) → List ℕ
asymmetry_text None to = []
asymmetry_text (Some units) to =
    codes "ptpx: asymmetry " ++ (units_text units ++ (codes " ns. " ++ (reads_text to units ++ codes "\n")))

unfoldable pub mean_text : Option ℤ → List ℕ
mean_text None = []
mean_text (Some units) =
    codes "ptpx: mean rest of both directions, in which the difference of the taps' clocks cancels: " ++ units_text units
    ++ codes " ns\n"

-- ---- fields that differ between the taps
-- whether a field is named up to this one
abbrev pub is_named : (behind : Bool) → (count : ℕ) → Bool
is_named behind count = behind || not (count == 0)

-- a field that differs in so many messages, if it does in any
unfoldable pub field_text : (behind : Bool) → (field : List ℕ) → (count : ℕ) → List ℕ
field_text behind field count =
    if count == 0 then []
    else (if behind then codes ", " else codes ": ") ++ field ++ codes " in " ++ decimal count

-- whether one is named up to each
abbrev pub named_to_version : Changed → Bool
named_to_version c = is_named (is_named false c.sdo) c.minor_version

abbrev pub named_to_specific : Changed → Bool
named_to_specific c = is_named (is_named (named_to_version c) c.flags) c.specific

abbrev pub named_to_log : Changed → Bool
named_to_log c = is_named (is_named (named_to_specific c) c.control) c.log

unfoldable pub fields_text : Changed → List ℕ
fields_text c =
    field_text false (codes "sdoId") c.sdo
    ++ field_text (is_named false c.sdo) (codes "minorVersionPTP") c.minor_version
    ++ field_text (named_to_version c) (codes "flagField") c.flags
    ++ field_text (is_named (named_to_version c) c.flags) (codes "messageTypeSpecific") c.specific
    ++ field_text (named_to_specific c) (codes "controlField") c.control
    ++ field_text (is_named (named_to_specific c) c.control) (codes "logMessageInterval") c.log
    ++ field_text (named_to_log c) (codes "originTimestamp") c.timestamp

unfoldable pub messages_text : (count : ℕ) → List ℕ
messages_text count = if count == 1 then codes "message" else codes "messages"

-- in so many messages fields differ, if they do in any
unfoldable pub differ_text : Changed → List ℕ
differ_text c = decimal c.messages ++ codes " " ++ messages_text c.messages
    ++ codes " fields other than correctionField differ between the taps" ++ fields_text c

unfoldable pub changed_text : Changed → List ℕ
changed_text c = if c.messages == 0 then [] else codes "ptpx: in " ++ differ_text c ++ codes "\n"

-- ---- what was lost
-- so many were met here, and not there
unfoldable pub where_text : (count : ℕ) → (here there : List ℕ) → List ℕ
where_text count here there =
    if count == 1 then codes "was met at " ++ here ++ codes " and not at " ++ there
    else codes "were met at " ++ here ++ codes " and not at " ++ there

unfoldable pub alone_text : Kind → (count : ℕ) → (here there : List ℕ) → List ℕ
alone_text kind count here there =
    if count == 0 then [] else codes "ptpx: " ++ many_text kind count ++ codes " " ++ where_text count here there ++ codes "\n"

-- so many were met at both taps, and the message that belongs to them wasn't
unfoldable pub missing_text : Kind → (count : ℕ) → List ℕ
missing_text kind count =
    if count == 1 then codes "was met at both taps, and a " ++ other_name_of kind ++ codes " of it is missing"
    else codes "were met at both taps, and a " ++ other_name_of kind ++ codes " of each is missing"

unfoldable pub unanswered_text : Kind → (count : ℕ) → List ℕ
unanswered_text kind count =
    if count == 0 then [] else codes "ptpx: " ++ many_text kind count ++ codes " " ++ missing_text kind count ++ codes "\n"

unfoldable pub lost_text : Kind → Lost → (first second : List ℕ) → List ℕ
lost_text kind lost first second =
    alone_text kind lost.at_first first second ++ alone_text kind lost.at_second second first
    ++ unanswered_text kind lost.unanswered

-- why nothing is told
unfoldable pub why_text : Why → List ℕ
why_text Spoiled = codes "of which a message came twice to a tap"
why_text TooBig = codes "with a correction that is too big to be represented"
why_text (TwoStepAtFromAlone from) = codes "with twoStepFlag only at " ++ from
why_text OtherTimestamp = codes "with timestamps that differ between the taps"

-- nothing is told of so many, for this reason
unfoldable pub nothing_text : Kind → (count : ℕ) → Why → List ℕ
nothing_text kind count why =
    if count == 0 then [] else codes "ptpx: nothing is told of " ++ many_text kind count ++ codes " " ++ why_text why ++ codes "\n"

unfoldable pub untold_text : Kind → Untold → (from : List ℕ) → List ℕ
untold_text kind u from =
    nothing_text kind u.spoiled Spoiled ++ nothing_text kind u.too_big TooBig
    ++ nothing_text kind u.two_step_at_from_alone (TwoStepAtFromAlone from)
    ++ nothing_text kind u.other_timestamp OtherTimestamp

-- ---- what there is to beware of
-- the first of some cases, by its line or packet
unfoldable pub first_text : InputUnit → Option Point → List ℕ
first_text unit None = codes "none of them known"
first_text unit (Some p) = codes "the first at " ++ unit_name unit ++ codes " " ++ decimal p.line

-- what it means that most of a kind took less than 0
unfoldable pub taken_meaning : (is_of_both : Bool) → Kind → (from to : List ℕ) → List ℕ
taken_meaning false kind from to =
    codes "the clock of a tap is off, or the taps are the wrong way round: set both by one clock, or exchange --from and --to"
taken_meaning true kinds.Sync from to =
    codes "as did most Delay_Reqs, so the taps are the wrong way round: --from " ++ to ++ codes " --to " ++ from
    ++ codes " exchanges them"
taken_meaning true kinds.DelayReq from to = codes "as did most Syncs"

-- and that less than 0 rests of most
unfoldable pub rest_meaning : (is_of_both : Bool) → Kind → List ℕ
rest_meaning false kind =
    codes "the clock of a tap is off, or corrections are too big: set both taps by one clock"
rest_meaning true kinds.Sync =
    codes "as those of Delay_Reqs are, so it isn't that one tap is ahead of the other: corrections are too big, a clock that both taps share is slow, or a tap stamps what leaves earlier, or what arrives later, than the clock between does, as software may"
rest_meaning true kinds.DelayReq = codes "as those of Syncs are"

unfoldable pub taken_below_text : InputUnit → (from to : List ℕ) → Below → List ℕ
taken_below_text unit from to b =
    decimal b.cases.count ++ codes " of " ++ decimal b.of ++ codes " " ++ names_of b.kind
    ++ codes " took less than 0 ns, " ++ first_text unit b.cases.first ++ codes ": "
    ++ taken_meaning b.is_of_both b.kind from to

unfoldable pub rest_below_text : InputUnit → Below → List ℕ
rest_below_text unit b =
    decimal b.cases.count ++ codes " of " ++ decimal b.of ++ codes " rests of " ++ names_of b.kind
    ++ codes " are below 0 ns, " ++ first_text unit b.cases.first ++ codes ": "
    ++ rest_meaning b.is_of_both b.kind

unfoldable pub step_text : InputUnit → Kind → (by : Signed) → (line : ℕ) → List ℕ
step_text unit kind by line =
    codes "the rest of " ++ names_of kind ++ codes " steps by " ++ rounded_text by ++ codes " ns (rounded) at "
    ++ unit_name unit ++ codes " " ++ decimal line
    ++ codes ": the clock of a tap was set there, or the way changed, so no asymmetry and no rate is told: follow what is before it and what is behind it apart"

unfoldable pub drift_text : Kind → (rate : Signed) → List ℕ
drift_text kind rate =
    codes "the rest of " ++ names_of kind ++ codes " drifts by " ++ rounded_text rate
    ++ codes " ppm of time (rounded), as clocks of taps do, so no asymmetry and no rate of a clock between them is told: have both taps stamp by one clock"

unfoldable pub uncorrected_text : InputUnit → Kind → Cases → List ℕ
uncorrected_text unit kind cases =
    codes "none of " ++ decimal cases.count ++ codes " " ++ names_of kind ++ codes " was corrected, though each took time, "
    ++ first_text unit cases.first
    ++ codes ": no transparent clock is between the taps, but perhaps a plain bridge, or it doesn't correct these, so that all that they took rests"

unfoldable pub steep_text : (rate : Signed) → List ℕ
steep_text rate =
    codes "the rest of Syncs grows by " ++ rounded_text rate
    ++ codes " ppm of corrected, by least squares (rounded), and no clock is off by more than 100 ppm: stamps or corrections are wrong; compare taken and corrected by --csv"

-- so much behind or ahead
unfoldable pub off_text : ℤ → List ℕ
off_text units = half_size_text units ++ codes " ns " ++ word_text units (codes "behind") (codes "ahead")

-- how far the mean rest of Syncs is from that of Delay_Reqs
unfoldable pub apart_text : ℤ → List ℕ
apart_text units = size_text units ++ codes " ns " ++ word_text units (codes "below") (codes "above")

-- how far the clock of a tap is behind or ahead, if it is one
unfoldable pub clock_text : (to : List ℕ) → ℤ → List ℕ
clock_text to units =
    codes "the clock of " ++ (to ++ (codes " is " ++ (off_text units
    ++ codes ", or one way is so much longer: taps of one clock show which")))

unfoldable pub more_text : (to : List ℕ) → ℤ → List ℕ
more_text to units =
    codes " those of Delay_Reqs, in the mean, more than an asymmetry is as a rule: " ++ clock_text to units

unfoldable pub clocks_text : (to : List ℕ) → (units : ℤ) → List ℕ
clocks_text to units = codes "rests of Syncs are " ++ (apart_text units ++ more_text to units)

unfoldable pub beware_text : InputUnit → (from to : List ℕ) → Beware → List ℕ
beware_text unit from to (TakenBelow b) = taken_below_text unit from to b
beware_text unit from to (RestBelow b) = rest_below_text unit b
beware_text unit from to (Step kind by line) = step_text unit kind by line
beware_text unit from to (Drift kind rate) = drift_text kind rate
beware_text unit from to (Uncorrected kind cases) = uncorrected_text unit kind cases
beware_text unit from to (SteepRate rate) = steep_text rate
beware_text unit from to (ClocksDiffer units) = clocks_text to units

unfoldable pub beware_line : InputUnit → (from to : List ℕ) → Option Beware → List ℕ
beware_line unit from to None = []
beware_line unit from to (Some beware) = codes "ptpx: beware: " ++ beware_text unit from to beware ++ codes "\n"

unfoldable pub bewares_text : InputUnit → (from to : List ℕ) → List (Option Beware) → List ℕ
bewares_text unit from to bewares = flat_map (beware_line unit from to) bewares

-- ---- all
-- the slave isn't known
unfoldable pub slave_text : (is_known : Bool) → (to : List ℕ) → List ℕ
slave_text true to = []
slave_text false to = codes "ptpx: no Delay_Req at " ++ to ++ codes " tells the slave\n"

-- what the crossings of both kinds come to
unfoldable pub figures_text : Ending → List ℕ
figures_text e =
    kind_text e.syncs e.from e.to ++ kind_text e.requests e.to e.from
    ++ rate_text e.rate ++ asymmetry_text e.asymmetry e.to ++ mean_text e.mean_rest ++ changed_text e.changed

-- what there is of both kinds beside these
unfoldable pub beside_text : Ending → List ℕ
beside_text e =
    lost_text e.syncs.statistics.kind e.syncs.lost e.from e.to
    ++ lost_text e.requests.statistics.kind e.requests.lost e.to e.from
    ++ untold_text e.syncs.statistics.kind e.syncs.untold e.from
    ++ untold_text e.requests.statistics.kind e.requests.untold e.from

unfoldable pub ending_text : Ending → List ℕ
ending_text e =
    slave_text e.is_slave_known e.to ++ figures_text e ++ beside_text e ++ bewares_text e.unit e.from e.to e.bewares
