-- What is counted while an input is measured: what each datagram is, and why it gave no report, if it gave none. Lists have the
-- newest in front.
use Rattle.std.specs.Prelude.{◌≡◌, ℕ, ◌-◌, ◌^◌, ◌==◌, nat_lt, min, Bool, false, not, ◌&&◌, ◌||◌, is_some}
use Rattle.std.specs.Prelude.{if◌then◌else◌, List, [], ◌∷◌, ◌++◌, length, drop, map, filter_map, count_by}
use Rattle.std.specs.Prelude.{Option, Some, None, Ok, Err, option_map}
use Rattle.std.specs.Option.{option_map_or}
use Rattle.std.specs.Result.{result_err}
use Rattle.ptp_units.specs.Sequence.{ahead}
use Rattle.event_codec.specs.declared.message.Header.{Header}
use Rattle.event_codec.specs.declared.message.Body.{Body}
use Rattle.event_codec.specs.declared.message.Body.TheVariants as bodies
use Rattle.event_codec.specs.declared.refusal.DecodeRefusal.{DecodeRefusal}
use Rattle.event_codec.specs.declared.refusal.DecodeRefusal.TheVariants.{Short, Version, OtherType, LengthField, Truncated}
use Rattle.event_codec.specs.declared.refusal.DecodeRefusal.TheVariants.{Nanoseconds}
use Rattle.event_codec.specs.Packet.{Contents}
use Rattle.event_codec.specs.Reading.{Reading}
use Rattle.slave_port.specs.declared.heard.Heard.{Heard}
use Rattle.slave_port.specs.declared.heard.Heard.TheVariants as answers
use Rattle.slave_port.specs.declared.reason.Reason.{Reason}
use Rattle.slave_port.specs.declared.reason.Reason.TheVariants as reasons
use Rattle.slave_port.specs.History.{next_number}
use Rattle.recording_model.specs.declared.watched.Watched.{Watched}
use Rattle.recording_model.specs.Recorded.{Recorded}
use Rattle.recording_model.specs.Listening.{Listening, setup_in, table_capacity, is_of, answered, after_all}
use Rattle.recording_measure.specs.Announced.{announcement_said}
use Rattle.recording_measure.specs.Begins.{sync_begins}
use Rattle.recording_measure.specs.Made.{Measured}
use Rattle.recording_summary.specs.declared.announces.Announcement.{Announcement}
use Rattle.recording_summary.specs.Announces.{AreAnnounces}
use Rattle.recording_summary.specs.Noted.{Noted}
use Rattle.recording_summary.specs.declared.others.Meeting.{Meeting}
use Rattle.recording_summary.specs.Others.{AreOthers}
use Rattle.recording_summary.specs.Quality.{IsQuality}
use Rattle.recording_summary.specs.declared.counts.Counts.{Counts}
use Rattle.recording_summary.specs.declared.kind.Kind.{Kind}
use Rattle.recording_summary.specs.declared.kind.Kind.TheVariants as kinds
use Rattle.recording_summary.specs.declared.no_report.NoReport.{NoReport}
use Rattle.recording_summary.specs.declared.no_report.NoReport.TheVariants as whys
use Rattle.recording_summary.specs.Counts.{place_of, count_at}
use Rattle.recording_measure.specs.declared.watch.WantedPorts.{WantedPorts}
use Rattle.recording_measure.specs.Watch.{watched_in}
use Rattle.recording_measure.specs.Row.{Row, datagrams, heard}
use Rattle.recording_measure.specs.Measured.{measured_at}
use Rattle.recording_measure.specs.Meetings.{meeting_at}
use Rattle.recording_measure.specs.Places.{PlaceName, PlacedRow, rows_at, rows_looked_at}
use Rattle.recording_measure.specs.Chosen.{chosen, heard_at, watched_at, input_watched}

-- ---- what a datagram is
abbrev pub kind_of : Body → Kind
kind_of (bodies.Sync origin) = kinds.Sync
kind_of (bodies.DelayReq origin) = kinds.DelayReq
kind_of (bodies.FollowUp precise) = kinds.FollowUp
kind_of (bodies.DelayResp receive requesting) = kinds.DelayResp

-- a message of another type (IEEE 1588-2019, table 36)
abbrev pub kind_of_type : (number : ℕ) → Kind
kind_of_type number =
    if number == 2 || (number == 3 || number == 10) then kinds.Pdelay
    else if number == 11 then kinds.Announce
    else if number == 12 then kinds.Signaling
    else if number == 13 then kinds.Management
    else kinds.Reserved

-- what isn't one of the four messages
abbrev pub kind_of_refused : DecodeRefusal → Kind
kind_of_refused (OtherType number) = kind_of_type number
kind_of_refused Short = kinds.Malformed
kind_of_refused Version = kinds.Malformed
kind_of_refused LengthField = kinds.Malformed
kind_of_refused Truncated = kinds.Malformed
kind_of_refused Nanoseconds = kinds.Malformed

-- what octets are that say this
abbrev pub kind_said : Reading → Kind
kind_said (Ok m) = kind_of m.body
kind_said (Err refusal) = kind_of_refused refusal

-- ---- why a datagram gave no report
-- one of a kind that isn't one of the four messages
abbrev pub why_refused : Kind → NoReport
why_refused kinds.Pdelay = whys.PeerDelay
why_refused _ = whys.NoPart

-- a message that the port ignored
abbrev pub why_ignored : Reason → NoReport
why_ignored reasons.OtherDomain = whys.OtherDomain
why_ignored reasons.OtherMaster = whys.OtherMaster
why_ignored reasons.NoMaster = whys.OtherMaster
why_ignored reasons.TooBig = whys.TooBig
why_ignored reasons.NotNewer = whys.NotNewer
why_ignored reasons.OtherRequester = whys.OtherSlave
why_ignored reasons.UnknownRequest = whys.Unrecorded
why_ignored reasons.EgressUnknown = whys.Unrecorded
why_ignored (reasons.Decode refusal) = whys.NoPart
why_ignored reasons.WrongType = whys.NoPart

-- a message to which the port answered so; none where it gave a report
abbrev pub why_answered : Heard → Option NoReport
why_answered (answers.Report report) = None
why_answered answers.Held = Some whys.Held
why_answered answers.Completed = Some whys.Alone
why_answered (answers.Ignored reason) = Some (why_ignored reason)

-- a Delay_Req of the slave is the first, or 1 to 256 ahead of the last one
abbrev pub is_next : Watched → Listening → (number : ℕ) → Bool
is_next w l number = not l.asked || nat_lt (ahead number (next_number (setup_in w l) l.calls)) table_capacity

-- a Delay_Req of the slave has the number of the last one
abbrev pub is_last : Watched → Listening → (number : ℕ) → Bool
is_last w l number = ahead number (next_number (setup_in w l) l.calls) == 65535

-- a Delay_Req of the slave
abbrev pub why_own : Watched → Listening → (number : ℕ) → NoReport
why_own w l number =
    if is_next w l number then whys.OfSlave else if is_last w l number then whys.Again else whys.OfSlave

-- any Delay_Req
abbrev pub why_request : Watched → Header → Listening → NoReport
why_request w header l =
    if is_of w w.slave header then why_own w l header.sequence.0
    else if header.domain == w.domain then whys.OtherSlave
    else whys.OtherDomain

-- a message, of which none came before where the port hears it
abbrev pub why_heard : Watched → (line time : ℕ) → Contents → Body → Listening → Option NoReport
why_heard w line time m (bodies.DelayReq origin) l = Some (why_request w m.header l)
why_heard w line time m body l = option_map_or why_answered (answered w line time m body l) (Some whys.Before)

-- any datagram, by what its octets say
abbrev pub why_said : Watched → (line time : ℕ) → Reading → Listening → Option NoReport
why_said w line time (Ok m) l = why_heard w line time m m.body l
why_said w line time (Err refusal) l = Some (why_refused (kind_of_refused refusal))

-- one that isn't heard, since it came before it was known whom to watch
abbrev pub why_early : Reading → NoReport
why_early (Ok m) = whys.TooEarly
why_early (Err refusal) = why_refused (kind_of_refused refusal)

-- ---- who began anew
-- the slave, by a Delay_Req
abbrev pub slave_begins : Watched → Contents → Body → Listening → Bool
slave_begins w m (bodies.DelayReq origin) l =
    is_of w w.slave m.header && (not (is_next w l m.header.sequence.0) && not (is_last w l m.header.sequence.0))
slave_begins w m body l = false

-- the master, by any message
abbrev pub master_begins : Watched → (line time : ℕ) → Contents → Body → Listening → Bool
master_begins w line time m (bodies.Sync origin) l = sync_begins w time m l
master_begins w line time m body l = false

-- ---- what came of each datagram
-- a datagram, what it is, why it gave no report or what was measured at it, whether it says that one began anew, and what the master
-- announces by it
pub record Fate : Type 0 where
  pub datagram : Recorded
  pub kind : Kind
  pub why : Option NoReport
  pub measured : Option Measured
  pub slave_anew : Bool
  pub master_anew : Bool
  pub announced : Option Announcement

-- who began anew, by what octets say
abbrev pub slave_said : Watched → Reading → Listening → Bool
slave_said w (Ok m) l = slave_begins w m m.body l
slave_said w (Err refusal) l = false

abbrev pub master_said : Watched → (line time : ℕ) → Reading → Listening → Bool
master_said w line time (Ok m) l = master_begins w line time m m.body l
master_said w line time (Err refusal) l = false

-- what comes of a datagram of these octets that a port hears in this state, but for what is measured
abbrev pub fate_in : Watched → Recorded → (octets : List ℕ) → Listening → Fate
fate_in w d octets l = record {
  datagram = d;
  kind = kind_said d.said;
  why = why_said w d.line d.time d.said l;
  measured = None;
  slave_anew = slave_said w d.said l;
  master_anew = master_said w d.line d.time d.said l;
  announced = announcement_said w d.line d.said octets;
}

-- what comes of a row, after these that were heard
abbrev pub fate_at : Watched → (earlier : List Row) → Row → Fate
fate_at w earlier row =
    record (fate_in w row.datagram row.octets (after_all w (datagrams earlier))) { measured = measured_at w earlier row }

-- what comes of rows that are heard
abbrev pub fates : Watched → List Row → List Fate
fates w [] = []
fates w (row ∷ earlier) = fate_at w earlier row ∷ fates w earlier

-- what comes of a datagram that isn't heard, since it came too early
abbrev pub early_fate : Recorded → Fate
early_fate d = record {
  datagram = d;
  kind = kind_said d.said;
  why = Some (why_early d.said);
  measured = None;
  slave_anew = false;
  master_anew = false;
  announced = None;
}

-- the same of rows
abbrev pub early_fates : List Row → List Fate
early_fates rows = map (λ row. early_fate row.datagram) rows

-- what comes of all lines: of those that are heard, and of the others, which came before them
abbrev pub fates_in : WantedPorts → List Row → List Fate
fates_in w rows = option_map_or (λ watched. fates watched (heard w rows)) (watched_in w (datagrams rows)) []
    ++ early_fates (drop (length (heard w rows)) rows)

-- of rows at a place those by which it isn't known yet whom they are of, as one that comes too early
abbrev pub early_with : (known : Option Watched) → Recorded → List Fate → List Fate
early_with None d all = early_fate d ∷ all
early_with (Some watched) d all = all

abbrev pub early_at : WantedPorts → PlaceName → List Row → List Fate
early_at w place [] = []
early_at w place (row ∷ earlier) =
    early_with (watched_at w place (datagrams (row ∷ earlier))) row.datagram (early_at w place earlier)

-- what comes of the rows at the place that is measured: of those that are heard, and of those before them
abbrev pub input_fates : WantedPorts → PlaceName → List PlacedRow → List Fate
input_fates w place rows = option_map_or (λ watched. fates watched (heard_at w rows)) (input_watched w rows) []
    ++ early_at w place (drop (length (heard_at w rows)) (rows_at place rows))

-- Of which datagrams something is told: of those at the place that is measured; while none is, of those that were met at none that
-- has a name.
abbrev pub told_fates : WantedPorts → List PlacedRow → List Fate
told_fates w rows = option_map_or (λ place. input_fates w place rows) (chosen w rows) (early_at w None (rows_looked_at None rows))

-- ---- what the numbers are worth
-- what is noted of it
abbrev pub noted_of : Fate → Noted
noted_of fate = record {
  line = fate.datagram.line;
  time = fate.datagram.time;
  refusal = result_err fate.datagram.said;
  reported = option_map (λ m. record { by = m.by; report = m.report; exchange = m.exchange }) fate.measured;
}

-- ---- who else is there
-- what it tells of whom it is, if it tells that
abbrev pub meeting_said : (line time : ℕ) → Option NoReport → (begins : Bool) → Reading → Option Meeting
meeting_said line time why begins (Ok m) = meeting_at line time m.body m.header why begins
meeting_said line time why begins (Err refusal) = None

-- what a datagram tells of whom it is, for who else is there
abbrev pub meeting_of : Fate → Option Meeting
meeting_of fate =
    meeting_said fate.datagram.line fate.datagram.time fate.why (fate.slave_anew || fate.master_anew) fate.datagram.said

-- ---- how many there are
-- so many, as far as is counted
abbrev pub at_most : ℕ → ℕ
at_most count = min count (2 ^ 64 - 1)

-- a datagram of this kind gave no report for this reason
abbrev pub is_so : Kind → NoReport → Fate → Bool
is_so kind why fate = option_map_or (λ own. place_of fate.kind own == place_of kind why) fate.why false

-- how many of these there are of each, what they are worth, who else is there by them, and what the master announces
pub record IsCounts (all : List Fate) (counts : Counts) : Type 0 where
  pub reports : counts.reports ≡ at_most (count_by (λ fate. is_some fate.measured) all)
  pub unreported : (kind : Kind) (why : NoReport) → count_at counts kind why ≡ at_most (count_by (is_so kind why) all)
  pub places : length counts.unreported ≡ 140
  pub quality : IsQuality (map noted_of all) counts.quality
  pub others : AreOthers (filter_map meeting_of all) counts.others
  pub announces : AreAnnounces (filter_map (λ fate. fate.announced) all) counts.announces
