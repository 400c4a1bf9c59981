-- Messages of an exchange, as they are told, and what the tags of a report are to name.
use Rattle.std.specs.Prelude.{ℕ, Bool, false, ◌&&◌, nat_lt, List, [], ◌++◌, reverse, codes, if◌then◌else◌, Option, Some, None}
use Rattle.std.specs.Prelude.{option_map, option_and_then}
use Rattle.std.specs.Fmt.{decimal}
use Rattle.std.specs.Option.{option_map_or}
use Rattle.slave_port.specs.declared.heard.Report.{Report}
use Rattle.network_model.specs.declared.event.Event.{Event}
use Rattle.network_model.specs.Network.{NodeName, is_named}
use Rattle.network_model.specs.Kinds.{heard_copy, is_arrival, is_follow, is_hearing, is_request}
use Rattle.network_model.specs.Run.{site_of}
use Rattle.trace_model.specs.declared.finding.Part.{Part}
use Rattle.trace_model.specs.declared.finding.Part.TheVariants.{Sync, FollowUp, DelayReq, DelayResp}
use Rattle.exchange_check.specs.declared.kept_line.KeptLine.{KeptLine}
use Rattle.exchange_check.specs.KeptLine.{kept_line_at, origin_at}
use Rattle.exchange_check.specs.Transcript.{Transcript}
use Rattle.explain_findings.specs.declared.heard.Heard.{Heard}
use Rattle.explain_findings.specs.declared.heard.Met.{Met}
use Rattle.explain_findings.specs.declared.heard.Numbered.{Numbered}
use Rattle.explain_findings.specs.declared.heard.Sent.{Sent}
use Rattle.explain_findings.specs.Known.{named_at, named_text}

-- the name of a message
abbrev pub name_text : Part → List ℕ
name_text Sync = codes "Sync"
name_text FollowUp = codes "Follow_Up"
name_text DelayReq = codes "Delay_Req"
name_text DelayResp = codes "Delay_Resp"

-- the place of its tag among the four
abbrev pub tag_text : Part → List ℕ
tag_text Sync = codes "1st"
tag_text FollowUp = codes "2nd"
tag_text DelayReq = codes "3rd"
tag_text DelayResp = codes "4th"

-- what the event of its tag is to be
abbrev pub wanted_text : Part → List ℕ
wanted_text Sync = codes "an arrive"
wanted_text FollowUp = codes "a hear"
wanted_text DelayReq = codes "a request"
wanted_text DelayResp = codes "a hear"

-- what is to have sent it
abbrev pub sender_text : Part → List ℕ
sender_text Sync = codes "a sync"
sender_text FollowUp = codes "a follow"
sender_text DelayReq = codes "a request"
sender_text DelayResp = codes "an arrive at a master"

-- what leads from a message to the Sync or the Delay_Req that it is of
abbrev pub of_text : Part → List ℕ
of_text Sync = []
of_text FollowUp = codes "the Follow_Up of "
of_text DelayReq = []
of_text DelayResp = codes "the Delay_Resp to "

-- the tag of a message; none of the Follow_Up where the report has none
abbrev pub tag_of : Report → Part → Option ℕ
tag_of report Sync = Some report.sync_tag
tag_of report FollowUp = report.follow_tag
tag_of report DelayReq = Some report.request_tag
tag_of report DelayResp = Some report.response_tag

-- whether an event is as the tag of a message needs it
abbrev pub is_wanted : Event → Part → Bool
is_wanted event Sync = is_arrival event
is_wanted event FollowUp = is_hearing event
is_wanted event DelayReq = is_request event
is_wanted event DelayResp = is_hearing event

-- whether the tag of a message of a slave is that of such an event at the slave, which counts
abbrev pub is_tagged : Transcript → (slave : NodeName) → Part → (tag : ℕ) → Bool
is_tagged transcript slave part tag = option_map_or
    (λ line. is_wanted line.event part && is_named (site_of line.event) slave)
    (kept_line_at transcript.network (reverse transcript.lines) tag)
    false

-- the name and the number of the message that a line sent: a Delay_Req, or a Sync
abbrev pub numbered_of : KeptLine → Numbered
numbered_of line = record { is_request = is_request line.event; number = line.sequence.0 }

abbrev pub numbered_text : Numbered → List ℕ
numbered_text numbered =
    if numbered.is_request then (codes "Delay_Req " ++ decimal numbered.number)
    else (codes "Sync " ++ decimal numbered.number)

-- those of the line of a number, where it counts
abbrev pub numbered_at : Transcript → ℕ → Option Numbered
numbered_at transcript number =
    option_map numbered_of (kept_line_at transcript.network (reverse transcript.lines) number)

-- a Sync or a Delay_Req, by the number of the event that sent it
abbrev pub sent_at : Transcript → ℕ → Sent
sent_at transcript number =
    record { numbered = numbered_at transcript number; named = named_at transcript number }

-- its name and number where there are any, and this event
abbrev pub sent_text_of : Option Numbered → List ℕ → List ℕ
sent_text_of None named = named
sent_text_of (Some numbered) named = numbered_text numbered ++ (codes ", " ++ named)

abbrev pub sent_text : Sent → List ℕ
sent_text sent = sent_text_of sent.numbered (named_text sent.named)

-- the number of the line that sent the message of which the line of this number made a copy
abbrev pub origin_of : Transcript → ℕ → Option ℕ
origin_of transcript number = origin_at transcript.network (reverse transcript.lines) number

-- which general message a line sent, a Follow_Up or a Delay_Resp, and the number of the line that sent the Sync or the
-- Delay_Req that it is of
abbrev pub sent_message : Transcript → KeptLine → Option (Part × ℕ)
sent_message transcript sender =
    if is_follow sender.event then option_map (λ sync. (FollowUp, sync)) sender.last_sync
    else (if sender.made
    then option_and_then (λ request. option_map (λ origin. (DelayResp, origin)) (origin_of transcript request))
    (heard_copy sender.event)
    else None)

-- which message came with a copy to the event of a number
abbrev pub copy_message : Transcript → (hearing : ℕ) → Event → (copy : ℕ) → Option (Part × ℕ)
copy_message transcript hearing event copy =
    if nat_lt copy hearing
    then (if is_arrival event then option_map (λ origin. (Sync, origin)) (origin_of transcript copy)
    else option_and_then (sent_message transcript) (kept_line_at transcript.network (reverse transcript.lines) copy))
    else None

-- which message the event of a number heard, and the number of the event that sent the Sync or the Delay_Req that this is or
-- is of; none where that can't be followed back
abbrev pub heard_message : Transcript → ℕ → Option (Part × ℕ)
heard_message transcript number = option_and_then
    (λ line. option_and_then (copy_message transcript number line.event) (heard_copy line.event))
    (kept_line_at transcript.network (reverse transcript.lines) number)

-- the same, to be told
abbrev pub heard_at : Transcript → ℕ → Option Heard
heard_at transcript number =
    option_map (λ message. record { part = message.0; of = numbered_at transcript message.1 })
    (heard_message transcript number)

-- what stands behind an event that heard a message
abbrev pub which_text : Part → Option Numbered → List ℕ
which_text part None = []
which_text part (Some numbered) = codes ", which is " ++ (of_text part ++ numbered_text numbered)

abbrev pub heard_text : Option Heard → List ℕ
heard_text None = []
heard_text (Some heard) = which_text heard.part heard.of

-- an event, and which message was heard at another one
abbrev pub met_at : Transcript → (number hearing : ℕ) → Met
met_at transcript number hearing =
    record { named = named_at transcript number; heard = heard_at transcript hearing }

abbrev pub met_text : Met → List ℕ
met_text met = named_text met.named ++ heard_text met.heard
