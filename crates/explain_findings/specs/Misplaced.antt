-- What breaks 701, in a sentence: the report's own event, a tag of it, or when its Delay_Req left.
use Rattle.std.specs.Prelude.{ℕ, Bool, true, false, nat_lt, List, [], ◌++◌, codes, if◌then◌else◌, Option, Some, None}
use Rattle.std.specs.Prelude.{option_map, option_and_then}
use Rattle.std.specs.Fmt.{decimal}
use Rattle.std.specs.Option.{option_map_or}
use Rattle.slave_port.specs.declared.heard.Report.{Report}
use Rattle.network_model.specs.Network.{NodeName}
use Rattle.trace_model.specs.declared.finding.Lack.{Lack}
use Rattle.trace_model.specs.declared.finding.Lack.TheVariants as lacks
use Rattle.trace_model.specs.declared.finding.Part.{Part}
use Rattle.trace_model.specs.declared.finding.Part.TheVariants as parts
use Rattle.exchange_check.specs.Transcript.{Transcript}
use Rattle.explain_findings.specs.declared.heard.Heard.{Heard}
use Rattle.explain_findings.specs.declared.heard.Met.{Met}
use Rattle.explain_findings.specs.declared.known.Named.{Named}
use Rattle.explain_findings.specs.declared.known.Place.{Place}
use Rattle.explain_findings.specs.declared.misplaced.Misplaced.{Misplaced}
use Rattle.explain_findings.specs.declared.misplaced.Misplaced.TheVariants as misplaced
use Rattle.explain_findings.specs.declared.misplaced.OtherLine.{OtherLine}
use Rattle.explain_findings.specs.declared.misplaced.Unstamped.{Unstamped}
use Rattle.explain_findings.specs.declared.misplaced.Unstamped.TheVariants as unstamped
use Rattle.explain_findings.specs.declared.misplaced.WrongTag.{WrongTag}
use Rattle.explain_findings.specs.declared.misplaced.WrongTag.TheVariants as wrong
use Rattle.explain_findings.specs.declared.reported.Reported.{Reported}
use Rattle.explain_findings.specs.Broken.{number_of}
use Rattle.explain_findings.specs.Heard.{heard_at, heard_text, is_tagged, met_at, met_text, name_text, sender_text, tag_of, tag_text}
use Rattle.explain_findings.specs.Heard.{wanted_text}
use Rattle.explain_findings.specs.Known.{named_if_at, named_text, place_at, place_text}

-- ---- which sentence it is

-- the tag of a message that was heard
abbrev pub heard_tag : Report → Option Heard → Option ℕ
heard_tag report heard = option_and_then (λ message. tag_of report message.part) heard

-- what a tag names
abbrev pub tag_met : Transcript → (tag : Option ℕ) → Option Met
tag_met transcript tag = option_map (λ number. met_at transcript number number) tag

abbrev pub tag_met_at : Transcript → Report → Option Heard → Option Met
tag_met_at transcript report heard = tag_met transcript (heard_tag report heard)

-- that no tag is of the event that reports: which message this heard, and what the tag of such a message names
abbrev pub other_line_at : Transcript → Reported → OtherLine
other_line_at transcript reported = record {
  event = reported.event;
  heard = heard_at transcript reported.event;
  tag = tag_met_at transcript reported.report (heard_at transcript reported.event);
}

-- what a tag at this place lacks: where it is of an event as the report needs it, something of the copy that is heard there
abbrev pub tag_names : Part → (is_tagged came_to_nothing : Bool) → Place → Met → NodeName → WrongTag
tag_names part is_tagged came_to_nothing place met node =
    if is_tagged then wrong.OtherSender part place met
    else (if came_to_nothing then wrong.CameToNothing part met node else wrong.OtherEvent part met node)

-- the message of this event completed nothing
abbrev pub useless : Part → Named → WrongTag
useless parts.Sync named = wrong.SyncAlone named
useless parts.FollowUp named = wrong.Useless parts.FollowUp named
useless parts.DelayReq named = wrong.Useless parts.DelayReq named
useless parts.DelayResp named = wrong.Useless parts.DelayResp named

abbrev pub tag_lacks : Part → Lack → (is_tagged : Bool) → Place → Met → NodeName → WrongTag
tag_lacks part (lacks.NotBefore number) is_tagged place met node = tag_names part is_tagged false place met node
tag_lacks part (lacks.CameToNothing number) is_tagged place met node = tag_names part is_tagged true place met node
tag_lacks part (lacks.OtherEvent number) is_tagged place met node = tag_names part is_tagged false place met node
tag_lacks part (lacks.CompletedNothing number) is_tagged place met node = useless part met.named

-- the event that lacks it stands beside what is heard at the event of the tag
abbrev pub tag_named_at : Transcript → Reported → Part → (tag : ℕ) → Lack → WrongTag
tag_named_at transcript reported part tag lack = tag_lacks
    part
    lack
    (is_tagged transcript reported.node part tag)
    (place_at transcript tag)
    (met_at transcript (number_of lack) tag)
    reported.node

-- what a tag lacks that there may be
abbrev pub tag_if : Transcript → Reported → Part → Lack → Option ℕ → WrongTag
tag_if transcript reported part lack tag =
    option_map_or (λ number. tag_named_at transcript reported part number lack) tag wrong.NotThere

abbrev pub tag_at : Transcript → Reported → Part → Lack → WrongTag
tag_at transcript reported part lack = tag_if transcript reported part lack (tag_of reported.report part)

-- when the slave learned the departure of the Delay_Req of this place, which an event told it first
abbrev pub stamped_by : (response : ℕ) → Place → Option Named → Unstamped
stamped_by response place None = unstamped.Never place
stamped_by response place (Some stamp) = unstamped.Later stamp response

abbrev pub unstamped_in : (request response : ℕ) → Place → Option Named → Unstamped
unstamped_in request response place first =
    if nat_lt request response then stamped_by response place first else unstamped.NotBefore place response

abbrev pub unstamped_at : Transcript → Report → (first : Option ℕ) → Unstamped
unstamped_at transcript report first = unstamped_in
    report.request_tag
    report.response_tag
    (place_at transcript report.request_tag)
    (named_if_at transcript first)

-- ---- its text

-- what the tag of a message is, where it names this
abbrev pub tag_is_text : Option Met → List ℕ
tag_is_text None = codes "is null"
tag_is_text (Some met) = codes "names " ++ met_text met

-- which message the event heard that reports, and what the tag of this names
abbrev pub own_text : Option Heard → Option Met → List ℕ
own_text None tag =
    codes "; wanted is that the Sync (1st), the Follow_Up (2nd) or the Delay_Resp (4th) came by the event that reports"
own_text (Some heard) tag =
    heard_text (Some heard) ++ (codes "; the " ++ (tag_text heard.part ++ (codes ", of the " ++ (name_text heard.part
    ++ (codes ", " ++ tag_is_text tag)))))

abbrev pub other_line_text : OtherLine → List ℕ
other_line_text other = codes "none of \"tags\" is " ++ (decimal other.event ++ own_text other.heard other.tag)

-- what is wanted where a tag is of another event
abbrev pub names_text : Part → Met → NodeName → List ℕ → List ℕ
names_text part met node end =
    codes "the " ++ (tag_text part ++ (codes " of \"tags\", of the " ++ (name_text part ++ (codes ", names "
    ++ (met_text met ++ (codes "; wanted is " ++ (wanted_text part ++ (codes " at " ++ (node ++ end)))))))))

abbrev pub tag_sentence_text : WrongTag → List ℕ
tag_sentence_text wrong.NotThere = []
tag_sentence_text (wrong.SyncAlone named) =
    codes "the 2nd of \"tags\" is null, but the Sync of " ++ (named_text named ++ codes ", completed nothing by itself")
tag_sentence_text (wrong.Useless part named) =
    codes "the " ++ (name_text part ++ (codes " of " ++ (named_text named ++ codes ", completed nothing")))
tag_sentence_text (wrong.OtherSender part place met) =
    codes "the " ++ (name_text part ++ (codes " of " ++ (place_text place ++ (codes " is of " ++ (met_text met
    ++ (codes "; wanted is " ++ (sender_text part ++ codes " before it that sent it")))))))
tag_sentence_text (wrong.OtherEvent part met node) = names_text part met node []
tag_sentence_text (wrong.CameToNothing part met node) = names_text part met node (codes " that came to something")

abbrev pub unstamped_text : Unstamped → List ℕ
unstamped_text (unstamped.NotBefore request response) =
    codes "the Delay_Req of " ++ (place_text request ++ (codes " isn't before the Delay_Resp, event " ++ decimal response))
unstamped_text (unstamped.Later stamp response) =
    named_text stamp ++ (codes ", tells when the Delay_Req left; wanted is that before the Delay_Resp, event "
    ++ decimal response)
unstamped_text (unstamped.Never request) =
    codes "no event before the report tells when the Delay_Req of " ++ (place_text request ++ codes " left")

abbrev pub misplaced_text : Misplaced → List ℕ
misplaced_text (misplaced.CantReport own) =
    named_text own ++ codes ", can't report; wanted is an arrive or a hear at a slave"
misplaced_text (misplaced.OtherLine other) = other_line_text other
misplaced_text (misplaced.WrongTag tag) = tag_sentence_text tag
misplaced_text (misplaced.Unstamped request) = unstamped_text request
