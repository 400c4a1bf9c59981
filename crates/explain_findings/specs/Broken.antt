-- What breaks 704, in a sentence: where the journey of a message stops, or which stay was left twice.
use Rattle.std.specs.Prelude.{ℕ, Bool, false, ◌||◌, is_some, List, ◌++◌, codes, if◌then◌else◌, Option}
use Rattle.std.specs.Fmt.{decimal}
use Rattle.std.specs.Option.{option_map_or}
use Rattle.network_model.specs.declared.event.Event.{Event}
use Rattle.network_model.specs.Kinds.{draws_sync, is_request, named_transit}
use Rattle.trace_model.specs.declared.finding.Lack.{Lack}
use Rattle.trace_model.specs.declared.finding.Lack.TheVariants as lacks
use Rattle.trace_model.specs.declared.finding.Part.{Part}
use Rattle.exchange_check.specs.Transcript.{Transcript}
use Rattle.explain_findings.specs.declared.broken.Broken.{Broken}
use Rattle.explain_findings.specs.declared.broken.Broken.TheVariants as broken
use Rattle.explain_findings.specs.declared.broken.End.{End}
use Rattle.explain_findings.specs.declared.broken.End.TheVariants as ends
use Rattle.explain_findings.specs.declared.known.Named.{Named}
use Rattle.explain_findings.specs.Heard.{name_text}
use Rattle.explain_findings.specs.Known.{event_at, named_at, named_text, place_at, place_text}

-- ---- which sentence it is

-- whether an event is there, and a message left a clock by it
abbrev pub is_leave : Option Event → Bool
is_leave event = option_map_or (λ e. is_some (named_transit e)) event false

-- whether an event is there, and sent a Sync or a Delay_Req
abbrev pub sends : Option Event → Bool
sends event = option_map_or (λ e. draws_sync e || is_request e) event false

-- why a journey stops at an event that names another one than is needed there
abbrev pub other_end : (by : Option Event) → Named → End
other_end by named =
    if is_leave by then ends.NoEnter named
    else (if sends named.event then ends.Sent named else ends.SentNothing named)

-- the number that lacks this
abbrev pub number_of : Lack → ℕ
number_of (lacks.NotBefore number) = number
number_of (lacks.CameToNothing number) = number
number_of (lacks.OtherEvent number) = number
number_of (lacks.CompletedNothing number) = number

-- why a journey stops at an event that names another one, which lacks this
abbrev pub end_of : Lack → (by : Option Event) → Named → End
end_of (lacks.NotBefore number) by named = ends.NotBefore number
end_of (lacks.CameToNothing number) by named = ends.Names named
end_of (lacks.OtherEvent number) by named = other_end by named
end_of (lacks.CompletedNothing number) by named = ends.Names named

-- why a journey stops at the event of a number, which lacks this
abbrev pub end_at : Transcript → (by : ℕ) → Lack → End
end_at transcript by lack = end_of lack (event_at transcript by) (named_at transcript (number_of lack))

-- where a journey stops
abbrev pub stops_at : Transcript → Part → (by : ℕ) → Lack → Broken
stops_at transcript part by lack = broken.Stops part (named_at transcript by) (end_at transcript by lack)

-- which stay was left twice
abbrev pub left_twice_at : Transcript → Part → (entered first second : ℕ) → Broken
left_twice_at transcript part entered first second = broken.LeftTwice
    part
    (place_at transcript entered)
    (place_at transcript first)
    (named_at transcript second)

-- ---- its text

abbrev pub end_text : End → List ℕ
end_text (ends.NotBefore number) = codes "it names event " ++ (decimal number ++ codes "; wanted is one before it")
end_text (ends.Names named) = codes "it names " ++ named_text named
end_text (ends.NoEnter named) = codes "it names " ++ (named_text named ++ codes ", which is no enter of this clock")
end_text (ends.Sent named) = codes "what arrives there was sent by " ++ named_text named
end_text (ends.SentNothing named) = codes "it names " ++ (named_text named ++ codes ", which sent no such message")

abbrev pub broken_text : Broken → List ℕ
broken_text (broken.Stops part by end) =
    codes "the journey of the " ++ (name_text part ++ (codes " stops at " ++ (named_text by ++ (codes ": "
    ++ end_text end))))
broken_text (broken.LeftTwice part entered first second) =
    codes "the " ++ (name_text part ++ (codes " entered a clock by " ++ (place_text entered
    ++ (codes ", and left it twice: by " ++ (place_text first ++ (codes " and by " ++ named_text second))))))
