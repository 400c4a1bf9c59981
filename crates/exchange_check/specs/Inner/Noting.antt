-- What is noted of lines by what is kept of them. This crate's own functions cite these; what its callers are told is
-- said by the lines alone, as proofs/Noted and what it stands on show.
use Rattle.std.specs.Prelude.{◌≡◌, ℕ, Bool, true, false, ◌||◌, ◌&&◌, not, List, nat_lt, ◌==◌, is_some, if◌then◌else◌}
use Rattle.std.specs.Prelude.{Option, Some, None, option_map, option_and_then}
use Rattle.std.specs.Option.{option_or, option_map_or}
use Rattle.std.specs.BTreeMap.{get}
use Rattle.std.specs.Ordering.{nat_cmp}
use Rattle.event_codec.specs.Packet.{Contents, Packet}
use Rattle.network_model.specs.Network.{Network, is_named}
use Rattle.network_model.specs.Run.{site_of, true_moment}
use Rattle.network_model.specs.declared.event.Event.{Event}
use Rattle.network_model.specs.Kinds.{draws_sync, is_request, entered_copy, named_transit}
use Rattle.trace_model.specs.declared.finding.Lack.TheVariants.{NotBefore, CameToNothing, OtherEvent}
use Rattle.trace_model.specs.declared.line.TraceLine.{TraceLine}
use Rattle.trace_model.specs.declared.line.TraceOut.{TraceOut}
use Rattle.trace_model.specs.ByMessages.{tells_message}
use Rattle.trace_model.specs.Finding.{Stop, stop}
use Rattle.exchange_check.specs.declared.facts.Fact.{Fact}
use Rattle.exchange_check.specs.declared.facts.Site.{Site}
use Rattle.exchange_check.specs.declared.kept_line.Uncounted.{Uncounted}
use Rattle.exchange_check.specs.declared.kept_line.WrongReading.{WrongReading}
use Rattle.exchange_check.specs.declared.kept_line.KeptLine.{KeptLine}
use Rattle.exchange_check.specs.declared.exceptions.Exceptions.{Exceptions}
use Rattle.exchange_check.specs.declared.kept.Kept.{Kept}
use Rattle.exchange_check.specs.Evidence.{Table, octets_in, octets_told, stops_in, came_of}
use Rattle.exchange_check.specs.Inner.Machine.{facts_of, firsts_of}
use Rattle.exchange_check.specs.Inner.Telling.{message_at_by}
use Rattle.exchange_check.specs.Inner.Kept.{Facts}
use Rattle.copy_stays.specs.Leaves.{Firsts}

-- what is told of a line
abbrev pub line_of_fact : Fact → KeptLine
line_of_fact fact = record {
  number = fact.line;
  event = fact.event;
  reading = fact.reading;
  sequence = fact.number;
  made = fact.made;
  completes = fact.completes;
  reads_right = fact.reads_right;
  writes_right = fact.writes_right;
  last_sync = fact.last_sync;
}

-- a table in other words
abbrev pub mapped : {X Y : Type 0} → (X → Y) → Table X → Table Y
mapped f table n = option_map f (table n)

-- with what is put under a number, if anything
abbrev pub with_entry : {X : Type 0} → ℕ → Option X → Table X → Table X
with_entry number entry table n = option_or (if number == n then entry else None) (table n)

-- what there is to note of one line: of octets
abbrev pub octets_entry : Fact → TraceOut → Option (List ℕ)
octets_entry fact out = if fact.writes_right then None else octets_in out

-- of a reading
abbrev pub reading_entry : Site → Fact → Option ℕ → Option WrongReading
reading_entry site fact reading =
    if fact.reads_right || not (is_some (true_moment fact.event)) then None
    else Some (record { reading = reading; set = site.last_step })

-- of a stay
abbrev pub is_left_again : Firsts → Table ℕ → (number transit : ℕ) → Bool
is_left_again firsts seconds number transit =
    option_map_or (λ first. nat_lt first number) (firsts transit) false && not (is_some (seconds transit))

abbrev pub seconds_with : Firsts → Fact → Table ℕ → Table ℕ
seconds_with firsts fact seconds = option_map_or
    (λ transit. if is_left_again firsts seconds fact.line transit then with_entry transit (Some fact.line) seconds else seconds)
    (named_transit fact.event) seconds

-- the first line on a journey, from the first before and from what is found of the last line itself
abbrev pub first_left : Facts → Table ℕ → (own : Option ℕ) → Option ℕ → Option ℕ
first_left facts firsts own None = own
first_left facts firsts own (Some transit) =
    option_and_then (λ entered. option_and_then (λ copy. option_or (firsts copy) own) (entered_copy entered.event))
    (facts transit)

-- octets that tell otherwise than the message of their line; a message that has no journey is one by itself
abbrev pub otherwise_found : Network → Facts → Fact → TraceOut → Option ℕ
otherwise_found network facts fact out =
    if fact.writes_right || not fact.made || tells_message (message_at_by network facts fact.line) out then None
    else Some fact.line

abbrev pub first_otherwise_by : Network → Facts → Table ℕ → Fact → TraceOut → Option ℕ
first_otherwise_by network facts firsts fact out =
    if is_some fact.journey
    then first_left facts firsts (otherwise_found network facts fact out) (named_transit fact.event)
    else otherwise_found network facts fact out

-- where the journey of a copy stops, which a line names
abbrev pub stop_made_by : Table Stop → (by copy : ℕ) → Event → Option Stop
stop_made_by stops by copy event =
    if is_some (named_transit event) then stops copy
    else (if draws_sync event || is_request event then None else Some (stop by (OtherEvent copy)))

abbrev pub stop_of_copy : Table Stop → (by copy : ℕ) → Option Fact → Option Stop
stop_of_copy stops by copy None = Some (stop by (CameToNothing copy))
stop_of_copy stops by copy (Some fact) = stop_made_by stops by copy fact.event

-- where the journey of a copy stops that left a clock, from where it entered
abbrev pub entered_stop : Facts → Table Stop → (left entered : Fact) → Option ℕ → Option Stop
entered_stop facts stops left entered None = Some (stop left.line (OtherEvent entered.line))
entered_stop facts stops left entered (Some copy) =
    if is_named (site_of entered.event) (site_of left.event)
    then (if nat_lt copy entered.line then stop_of_copy stops entered.line copy (facts copy)
    else Some (stop entered.line (NotBefore copy)))
    else Some (stop left.line (OtherEvent entered.line))

abbrev pub left_stop_by : Facts → Table Stop → (left : Fact) → (transit : ℕ) → Option Fact → Option Stop
left_stop_by facts stops left transit None = Some (stop left.line (CameToNothing transit))
left_stop_by facts stops left transit (Some entered) =
    entered_stop facts stops left entered (entered_copy entered.event)

abbrev pub left_stop : Facts → Table Stop → (left : Fact) → (transit : ℕ) → Option Stop
left_stop facts stops left transit =
    if nat_lt transit left.line then left_stop_by facts stops left transit (facts transit)
    else Some (stop left.line (NotBefore transit))

abbrev pub stop_entry : Facts → Table Stop → Fact → Option Stop
stop_entry facts stops fact = option_and_then (left_stop facts stops fact) (named_transit fact.event)

-- octets are those of a message, whatever octets that is
abbrev pub IsWrittenAs : Option Contents → Option (List ℕ) → Type 0
IsWrittenAs message octets = (m : Contents) (b : List ℕ) → message ≡ Some m → Packet m b → octets ≡ Some b

-- the line of this number counts and made a message
abbrev pub is_made_at : Facts → ℕ → Bool
is_made_at facts number = option_map_or (λ fact. fact.made) (facts number) false

-- octets are those that the line of this number made
pub record IsMadeAt (network : Network) (kept : Kept) (exceptions : Exceptions) (number : ℕ)
    (octets : Option (List ℕ)) : Type 0 where
  pub none : is_made_at (facts_of kept) number ≡ false → octets ≡ None
  pub kept_so : (b : List ℕ) → is_made_at (facts_of kept) number ≡ true → octets_told exceptions number ≡ Some b
      → octets ≡ Some b
  pub written : is_made_at (facts_of kept) number ≡ true → octets_told exceptions number ≡ None
      → IsWrittenAs (message_at_by network (facts_of kept) number) octets

-- nothing was noted yet
pub record AreNone (e : Exceptions) : Type 0 where
  pub octets : get nat_cmp e.octets ≡ (λ n. None)
  pub readings : get nat_cmp e.readings ≡ (λ n. None)
  pub uncounted : get nat_cmp e.uncounted ≡ (λ n. None)
  pub seconds : get nat_cmp e.seconds ≡ (λ n. None)
  pub first_otherwise : get nat_cmp e.first_otherwise ≡ (λ n. None)
  pub stops : get nat_cmp e.stops ≡ (λ n. None)

-- what is noted of a line that counts
pub record NotesLine (network : Network) (kept : Kept) (site : Site) (fact : Fact) (line : TraceLine)
    (old new : Exceptions) : Type 0 where
  pub octets : octets_told new
      ≡ with_entry fact.line (octets_entry fact line.out) (octets_told old)
  pub readings : get nat_cmp new.readings
      ≡ with_entry fact.line (reading_entry site fact line.reading) (get nat_cmp old.readings)
  pub uncounted : get nat_cmp new.uncounted ≡ get nat_cmp old.uncounted
  pub seconds : get nat_cmp new.seconds ≡ seconds_with (firsts_of kept) fact (get nat_cmp old.seconds)
  pub first_otherwise : get nat_cmp new.first_otherwise
      ≡ with_entry fact.line (first_otherwise_by network (facts_of kept) (get nat_cmp old.first_otherwise) fact line.out)
      (get nat_cmp old.first_otherwise)
  pub stops : stops_in (get nat_cmp new.stops)
      ≡ with_entry fact.line (stop_entry (facts_of kept) (stops_in (get nat_cmp old.stops)) fact)
      (stops_in (get nat_cmp old.stops))

-- what is noted of a line that doesn't count
abbrev pub slim : TraceLine → Uncounted
slim line = record { event = line.event; came = came_of line.out }
