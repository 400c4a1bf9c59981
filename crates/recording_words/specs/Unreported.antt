-- How many reports there are, and which datagrams gave none, in words.
use Rattle.std.specs.Prelude.{ℕ, ◌==◌, List, [], ◌∷◌, ◌++◌, codes, flat_map, if◌then◌else◌}
use Rattle.std.specs.Fmt.{decimal}
use Rattle.recording_summary.specs.declared.counts.Counts.{Counts}
use Rattle.recording_summary.specs.declared.kind.Kind.{Kind}
use Rattle.recording_summary.specs.declared.kind.Kind.TheVariants as kinds
use Rattle.recording_summary.specs.declared.no_report.NoReport.{NoReport}
use Rattle.recording_summary.specs.declared.no_report.NoReport.TheVariants as whys
use Rattle.recording_summary.specs.Counts.{count_at}

-- how many reports there are
unfoldable pub reports_text : (count : ℕ) → List ℕ
reports_text count =
    if count == 0 then codes "ptpx: no report\n"
    else if count == 1 then codes "ptpx: 1 report\n"
    else codes "ptpx: " ++ decimal count ++ codes " reports\n"

-- one datagram of a kind
unfoldable pub name_of : Kind → List ℕ
name_of kinds.Sync = codes "Sync"
name_of kinds.FollowUp = codes "Follow_Up"
name_of kinds.DelayReq = codes "Delay_Req"
name_of kinds.DelayResp = codes "Delay_Resp"
name_of kinds.Pdelay = codes "Pdelay message"
name_of kinds.Announce = codes "Announce message"
name_of kinds.Signaling = codes "Signaling message"
name_of kinds.Management = codes "Management message"
name_of kinds.Reserved = codes "message of a reserved type"
name_of kinds.Malformed = codes "datagram that is no message"

-- more of them
unfoldable pub names_of : Kind → List ℕ
names_of kinds.Sync = codes "Syncs"
names_of kinds.FollowUp = codes "Follow_Ups"
names_of kinds.DelayReq = codes "Delay_Reqs"
names_of kinds.DelayResp = codes "Delay_Resps"
names_of kinds.Pdelay = codes "Pdelay messages"
names_of kinds.Announce = codes "Announce messages"
names_of kinds.Signaling = codes "Signaling messages"
names_of kinds.Management = codes "Management messages"
names_of kinds.Reserved = codes "messages of reserved types"
names_of kinds.Malformed = codes "datagrams that are no messages"

-- what so many of a kind are called
unfoldable pub name_for : (count : ℕ) → Kind → List ℕ
name_for count kind = if count == 1 then name_of kind else names_of kind

-- so many of a kind
unfoldable pub many_text : (count : ℕ) → Kind → List ℕ
many_text count kind = decimal count ++ codes " " ++ name_for count kind

-- which half of a report wasn't there when the other one was completed
unfoldable pub alone_text : Kind → List ℕ
alone_text kinds.DelayResp = codes " that came while no Sync was complete"
alone_text _ = codes " that came while no path delay was known"

-- why a datagram of a kind gave no report, behind its name
unfoldable pub why_text : NoReport → Kind → List ℕ
why_text whys.Held kind = codes " that waited for the other half of the Sync"
why_text whys.Alone kind = alone_text kind
why_text whys.OfSlave kind = codes " of the slave"
why_text whys.Again kind = codes " of the slave, with the number of the last one"
why_text whys.Before kind = codes " with a number that came before"
why_text whys.OtherDomain kind = codes " of another domain"
why_text whys.OtherMaster kind = codes " of another master"
why_text whys.OtherSlave kind = codes " of another slave"
why_text whys.TooBig kind = codes " with a correction that is too big to be represented"
why_text whys.NotNewer kind = codes " no newer than the last Sync that was completed"
why_text whys.Unrecorded kind = codes " to requests that weren't recorded"
why_text whys.PeerDelay kind = codes ": peer delay isn't measured"
why_text whys.TooEarly kind = codes " before it was known whom to watch"
why_text whys.NoPart kind = []

-- so many of a kind gave no report for a reason
unfoldable pub counted_text : (count : ℕ) → Kind → NoReport → List ℕ
counted_text count kind why = many_text count kind ++ why_text why kind

-- a line of these, where there are any
unfoldable pub counted_line : (count : ℕ) → Kind → NoReport → List ℕ
counted_line count kind why =
    if count == 0 then [] else codes "ptpx: " ++ counted_text count kind why ++ codes "\n"

-- all reasons, in the order in which they are told
abbrev pub told_reasons : List NoReport
told_reasons =
    whys.Held ∷ whys.Alone ∷ whys.OfSlave ∷ whys.Again ∷ whys.Before ∷ whys.OtherDomain ∷ whys.OtherMaster ∷ whys.OtherSlave
    ∷ whys.TooBig ∷ whys.NotNewer ∷ whys.Unrecorded ∷ whys.PeerDelay ∷ whys.TooEarly ∷ whys.NoPart ∷ []

-- all kinds, in this order
abbrev pub told_kinds : List Kind
told_kinds =
    kinds.Sync ∷ kinds.FollowUp ∷ kinds.DelayReq ∷ kinds.DelayResp ∷ kinds.Pdelay ∷ kinds.Announce ∷ kinds.Signaling
    ∷ kinds.Management ∷ kinds.Reserved ∷ kinds.Malformed ∷ []

-- the line of a kind and a reason
abbrev pub line_at : Counts → Kind → NoReport → List ℕ
line_at counts kind why = counted_line (count_at counts kind why) kind why

-- the lines of a kind
unfoldable pub kind_lines : Counts → Kind → List ℕ
kind_lines counts kind = flat_map (line_at counts kind) told_reasons

-- all lines of datagrams that gave no report
unfoldable pub unreported_text : Counts → List ℕ
unreported_text counts = flat_map (kind_lines counts) told_kinds
