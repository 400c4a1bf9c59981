-- What speaks against the numbers of a recording, in words.
use Rattle.std.specs.Prelude.{ℕ, ◌/◌, ◌%◌, ◌==◌, ℤ, unsigned_abs, Bool, not, if◌then◌else◌, List, [], ◌++◌, codes, flat_map}
use Rattle.std.specs.Prelude.{Option, Some, None}
use Rattle.std.specs.Fmt.{decimal}
use Rattle.datagram_text.specs.Shown.{identity_text, nine_digits}
use Rattle.rounded_text.specs.Rounded.{thousandths_text}
use Rattle.statistics.specs.declared.cases.Cases.{Cases}
use Rattle.statistics.specs.declared.rounded.Signed.{Signed}
use Rattle.statistics.specs.declared.series.Point.{Point}
use Rattle.statistics.specs.declared.spike.Spike.{Spike}
use Rattle.recording_summary.specs.declared.beware.Beware.{Beware}
use Rattle.recording_summary.specs.declared.beware.Beware.TheVariants.{RequestsAtOnce, SyncsAtOnce, PathsBelow, PathsZero, WholeSeconds}
use Rattle.recording_summary.specs.declared.beware.Beware.TheVariants.{OffsetSteps, OffsetRunsAway, OffsetIsSetBack, PathSteps, SyncsEnd, ReportsEnd}
use Rattle.recording_summary.specs.declared.beware.Beware.TheVariants.{Repeated, OtherMasters, OtherSlaves, OtherDomains, OutOfOrder, OldDelay}
use Rattle.recording_summary.specs.declared.beware.Beware.TheVariants.{MissingSyncs, MissingFollowUps, MissingRequests, MissingResponses}
use Rattle.recording_summary.specs.declared.beware.Beware.TheVariants.{CorrectedRequests, MasterAnew, SlaveAnew, OffsetApart, CutShort, WholeMicroseconds}
use Rattle.recording_summary.specs.declared.beware.Jump.{Jump}
use Rattle.recording_summary.specs.declared.beware.Lost.{Lost}
use Rattle.recording_summary.specs.declared.beware.SetBack.{SetBack}
use Rattle.recording_summary.specs.declared.others.Newcomer.{Newcomer}
use Rattle.recording_summary.specs.declared.others.Senders.{Senders}
use Rattle.recording_words.specs.declared.unit.InputUnit.{InputUnit}
use Rattle.recording_words.specs.Unit.{unit_name}
use Rattle.recording_words.specs.Times.{seconds_text, tenths_text, place_text, value_text}
use Rattle.recording_words.specs.Others.{senders_text, domains_text}

-- ---- parts that several have
-- the first of some cases, by its line or packet
unfoldable pub first_text : InputUnit → Option Point → List ℕ
first_text unit None = codes "none of them known"
first_text unit (Some p) = codes "the first " ++ place_text unit p.line

-- a time in units of 2^-16 ns, in seconds with nine decimals, rounded down
unfoldable pub moment_text : (time : ℕ) → List ℕ
moment_text time = decimal (time / 65536 / 1000000000) ++ (codes "." ++ nine_digits (time / 65536 % 1000000000))

-- how often somebody began anew
unfoldable pub often_text : (count : ℕ) → List ℕ
often_text count = if count == 1 then codes "once, " else decimal count ++ codes " times, first "

-- when: the line or packet, and its time
unfoldable pub begun_text : InputUnit → Option Point → List ℕ
begun_text unit None = []
begun_text unit (Some p) = place_text unit p.line ++ (codes ", at " ++ moment_text p.time)

-- who began anew, how often, and why else it may look so
unfoldable pub anew_text : InputUnit → Cases → (what why : List ℕ) → List ℕ
anew_text unit cases what why =
    what ++ (codes " anew " ++ (often_text cases.count ++ (begun_text unit cases.first
    ++ (codes ": it was started anew, or " ++ why))))

-- ---- what reports say
-- so many messages, all of which arrive when they leave
unfoldable pub at_once_text : (count : ℕ) → (names : List ℕ) → List ℕ
at_once_text count names =
    codes "all " ++ (decimal count ++ (codes " " ++ (names
    ++ codes " arrive at the time at which they leave: this was recorded at the master's own port; record at the slave's")))

-- so many, of so many, and the least in nanoseconds, exactly
unfoldable pub below_text : InputUnit → (below of : ℕ) → (least : Point) → List ℕ
below_text unit below of least =
    decimal below ++ (codes " of " ++ (decimal of ++ (codes " path delays are below 0, the least " ++ (value_text unit least
    ++ codes ": no message arrives before it leaves, so the times of the slave's or of the master's port are wrong, a clock was set or runs away, or a correction is too big"))))

-- so many path delays of so many are 0
unfoldable pub zeros_text : (zeros of : ℕ) → List ℕ
zeros_text zeros of =
    decimal zeros ++ (codes " of " ++ (decimal of
    ++ codes " path delays are 0 exactly: the times are too coarse for this path, or made up"))

-- the sign of a number
unfoldable pub sign_text : (is_negative : Bool) → List ℕ
sign_text is_negative = if is_negative then codes "-" else []

-- so many seconds, and what takes them away again
unfoldable pub whole_seconds_text : (is_negative : Bool) → (seconds : ℕ) → List ℕ
whole_seconds_text is_negative seconds =
    codes "all offsets are next to " ++ (sign_text is_negative ++ (decimal seconds
    ++ (codes " s: one clock keeps UTC and the other TAI, which is 37 s ahead since 2017, or one isn't set; where the slave's own clock is right, editcap -t "
    ++ (sign_text (not is_negative) ++ (decimal seconds ++ codes " mends a capture")))))

-- by how much what is called so steps, in thousandths of a nanosecond, and from which line or packet on
unfoldable pub jump_text : InputUnit → Jump → (name why : List ℕ) → List ℕ
jump_text unit jump name why =
    codes "the " ++ (name ++ (codes " steps by " ++ (thousandths_text jump.by ++ (codes " ns (rounded) "
    ++ (place_text unit jump.line ++ (codes ": " ++ why))))))

-- a rate in thousandths of a millionth
unfoldable pub running_text : (rate : Signed) → List ℕ
running_text rate =
    codes "the offset runs away by " ++ (thousandths_text rate
    ++ codes " ppm (rounded): the times are of a clock that doesn't follow this master, as that of a tap or of another host, or that was set or was still settling")

-- to which side of the one before offsets are
unfoldable pub side_text : (is_up : Bool) → List ℕ
side_text is_up = if is_up then codes "above" else codes "below"

-- most are to one side, and others to the other one, by so many nanoseconds, rounded down
unfoldable pub set_back_text : InputUnit → SetBack → List ℕ
set_back_text unit s =
    decimal s.count ++ (codes " of " ++ (decimal s.of ++ (codes " offsets are " ++ (side_text s.is_up
    ++ (codes " the one before, and others far " ++ (side_text (not s.is_up) ++ (codes " it, by "
    ++ (decimal (s.size / 131072) ++ (codes " ns at most, " ++ (place_text unit s.line
    ++ codes ": the clock drifts, and is set again and again instead of steered"))))))))))

-- how far an offset is from the nearer one of its neighbours, in nanoseconds, rounded down
unfoldable pub apart_text : InputUnit → Spike → List ℕ
apart_text unit spike =
    codes "the offset " ++ (place_text unit spike.at.line ++ (codes " lies at least " ++ (decimal (spike.size / 131072)
    ++ codes " ns from both of its neighbours, more than a hundred times as far as offsets change else: one of its messages was held up, or has a wrong time")))

-- how old a path delay was, in units of 2^-16 ns
unfoldable pub age_text : (age : ℤ) → List ℕ
age_text age = seconds_text (unsigned_abs age) ++ codes " old"

-- how old the oldest was, and at which line or packet
unfoldable pub oldest_text : InputUnit → (oldest : Point) → List ℕ
oldest_text unit p = age_text p.value ++ (codes " " ++ place_text unit p.line)

-- how many offsets, and how old the oldest path delay was
unfoldable pub old_text : InputUnit → Cases → (oldest : Point) → List ℕ
old_text unit offsets oldest =
    codes "offsets that rest on a path delay older than 10 s: " ++ (decimal offsets.count ++ (codes ", "
    ++ (first_text unit offsets.first ++ (codes "; the oldest was " ++ (oldest_text unit oldest
    ++ codes ": Delay_Reqs or their answers stopped, and the path delay isn't measured anew")))))

-- ---- what messages say
-- the master whose Syncs begin there, or that there is none
unfoldable pub next_text : InputUnit → Option Newcomer → List ℕ
next_text unit None = codes ": it went away"
next_text unit (Some n) =
    codes ", and those of " ++ (identity_text n.port ++ (codes " begin " ++ (place_text unit n.line
    ++ (codes "; --master " ++ (identity_text n.port ++ codes " measures by them")))))

-- the Syncs of the master end so many tenths of a second before the recording does
unfoldable pub end_text : InputUnit → (tenths : ℕ) → Option Newcomer → List ℕ
end_text unit tenths newcomer =
    codes "the Syncs of the master end " ++ (tenths_text tenths ++ (codes " s before the recording does" ++ next_text unit newcomer))

-- no report is of the last so many tenths of a second
unfoldable pub silence_text : (tenths : ℕ) → List ℕ
silence_text tenths =
    codes "no report is of the last " ++ (tenths_text tenths
    ++ codes " s: the slave went away, or it follows another master, whom --master picks, or nobody answers it")

-- the least and the greatest of units of 2^-16 ns in nanoseconds, rounded down, where both are known
unfoldable pub lags_text : (least greatest : Option ℕ) → List ℕ
lags_text (Some least) (Some greatest) =
    codes ", from " ++ (decimal (least / 65536) ++ (codes " to " ++ (decimal (greatest / 65536) ++ codes " ns after the first")))
lags_text _ _ = []

-- so many messages that repeat others, and how much later these came
unfoldable pub repeated_text : (count : ℕ) → (least greatest : Option ℕ) → List ℕ
repeated_text count least greatest =
    codes "messages with a number that came before: " ++ (decimal count ++ (lags_text least greatest
    ++ codes "; a mirror of both directions writes each twice, and the first of each was used"))

-- who the other masters are
unfoldable pub masters_text : Senders → List ℕ
masters_text masters = codes "messages of other masters of the domain: " ++ (senders_text masters ++ codes "; --master picks one")

-- who the other slaves are
unfoldable pub slaves_text : Senders → List ℕ
slaves_text slaves = codes "Delay_Reqs of other slaves of the domain: " ++ (senders_text slaves ++ codes "; --slave picks one")

-- which the other domains are
unfoldable pub other_domains_text : (counts : List ℕ) → List ℕ
other_domains_text counts = codes "messages of other domains: " ++ (domains_text counts ++ codes "; --domain picks one")

-- so many times that are before the one before
unfoldable pub falls_text : InputUnit → (falls : ℕ) → List ℕ
falls_text unit falls =
    codes "times that are before that of the " ++ (unit_name unit ++ (codes " before: " ++ (decimal falls
    ++ (codes "; a clock was set, or the " ++ (unit_name unit
    ++ codes "s aren't in order, and what is told of missing messages may come of that: reordercap sorts a capture")))))

-- so many, of so many
unfoldable pub missing_text : Lost → (what : List ℕ) → List ℕ
missing_text lost what = decimal lost.missing ++ (codes " of " ++ (decimal lost.of ++ (codes " " ++ what)))

-- how many Delay_Reqs have a correction, and the first of them
unfoldable pub corrected_text : InputUnit → Cases → List ℕ
corrected_text unit cases =
    codes "Delay_Reqs that have a correction where they were recorded: " ++ (decimal cases.count ++ (codes ", "
    ++ (first_text unit cases.first
    ++ codes "; a transparent clock stands between the slave and this place, and both results are off by half of the time in it, unless the slave itself corrects an asymmetry: record in front of it")))

-- so many datagrams that are cut short
unfoldable pub cut_text : (cut : ℕ) → List ℕ
cut_text cut =
    codes "datagrams that are cut short (201, 205): " ++ (decimal cut ++ codes "; a snap length does that, so record whole packets")

-- ---- all of these, with who else is there
-- a beware, in words
unfoldable pub beware_text : InputUnit → (masters slaves : Senders) → (domains : List ℕ) → Beware → List ℕ
beware_text unit masters slaves domains (RequestsAtOnce count) = at_once_text count (codes "requests")
beware_text unit masters slaves domains (SyncsAtOnce count) = at_once_text count (codes "Syncs")
beware_text unit masters slaves domains (PathsBelow below of least) = below_text unit below of least
beware_text unit masters slaves domains (PathsZero zeros of) = zeros_text zeros of
beware_text unit masters slaves domains (WholeSeconds is_negative seconds) = whole_seconds_text is_negative seconds
beware_text unit masters slaves domains (OffsetSteps jump) =
    jump_text unit jump (codes "offset") (codes "a clock was set there, or the way changed")
beware_text unit masters slaves domains (OffsetRunsAway rate) = running_text rate
beware_text unit masters slaves domains (OffsetIsSetBack set_back) = set_back_text unit set_back
beware_text unit masters slaves domains (PathSteps jump) =
    jump_text unit jump (codes "path delay") (codes "the way changed, or a clock was set there")
beware_text unit masters slaves domains (SyncsEnd tenths newcomer) = end_text unit tenths newcomer
beware_text unit masters slaves domains (ReportsEnd tenths) = silence_text tenths
beware_text unit masters slaves domains (Repeated count least greatest) = repeated_text count least greatest
beware_text unit masters slaves domains OtherMasters = masters_text masters
beware_text unit masters slaves domains OtherSlaves = slaves_text slaves
beware_text unit masters slaves domains OtherDomains = other_domains_text domains
beware_text unit masters slaves domains (OutOfOrder falls) = falls_text unit falls
beware_text unit masters slaves domains (OldDelay offsets oldest) = old_text unit offsets oldest
beware_text unit masters slaves domains (MissingSyncs lost) =
    missing_text lost (codes "Syncs are missing, by their numbers: lost on the way or in recording")
beware_text unit masters slaves domains (MissingFollowUps lost) =
    missing_text lost (codes "two-step Syncs have no Follow_Up and give no offset: lost, or general messages (port 320) weren't recorded")
beware_text unit masters slaves domains (MissingRequests lost) =
    missing_text lost (codes "Delay_Reqs are missing, by their numbers: lost on the way or in recording")
beware_text unit masters slaves domains (MissingResponses lost) =
    missing_text lost (codes "Delay_Reqs have no Delay_Resp: lost, or the master doesn't answer them")
beware_text unit masters slaves domains (CorrectedRequests cases) = corrected_text unit cases
beware_text unit masters slaves domains (MasterAnew cases) =
    anew_text unit cases (codes "the master began its numbers")
    (codes "another one took its identity, or many of its Syncs are missing")
beware_text unit masters slaves domains (SlaveAnew cases) =
    anew_text unit cases (codes "the slave began") (codes "many of its Delay_Reqs are missing")
beware_text unit masters slaves domains (OffsetApart spike) = apart_text unit spike
beware_text unit masters slaves domains (CutShort cut) = cut_text cut
beware_text unit masters slaves domains WholeMicroseconds =
    codes "all times are of whole microseconds: no offset is better than 1 us; record with tcpdump --time-stamp-precision nano, or dumpcap"

-- a line for one, if there is one
unfoldable pub beware_line : InputUnit → (masters slaves : Senders) → (domains : List ℕ) → Option Beware → List ℕ
beware_line unit masters slaves domains None = []
beware_line unit masters slaves domains (Some beware) =
    codes "ptpx: beware: " ++ (beware_text unit masters slaves domains beware ++ codes "\n")

-- a line for each, in their order
unfoldable pub bewares_text : InputUnit → (masters slaves : Senders) → (domains : List ℕ) → List (Option Beware) → List ℕ
bewares_text unit masters slaves domains bewares = flat_map (beware_line unit masters slaves domains) bewares
