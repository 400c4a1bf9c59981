-- Events, moments and lengths of time in words.
use Rattle.std.specs.Prelude.{ℕ, ◌==◌, ℤ, pos, ◌*ℤ◌, List, [], ◌++◌, codes, if◌then◌else◌}
use Rattle.std.specs.Fmt.{decimal}
use Rattle.std.specs.Int.{saturate_signed, w128}
use Rattle.ptp_units.specs.Moment.{stamp_of, fraction_of}
use Rattle.ptp_units.specs.Nanoseconds.{nanoseconds_text}
use Rattle.datagram_text.specs.Shown.{stamp_text}
use Rattle.network_model.specs.declared.event.Event.{Event}
use Rattle.network_model.specs.declared.event.Event.TheVariants.{Sync, SyncOne, Follow, Enter, Leave, Arrive}
use Rattle.network_model.specs.declared.event.Event.TheVariants.{Hear, Request, Stamped, Tick, SetMaster, StepClock}

-- what an event is, as its line calls it, with an article
abbrev pub event_words : Event → List ℕ
event_words (Sync node at) = codes "a sync"
event_words (SyncOne node at) = codes "a syncone"
event_words (Follow node) = codes "a follow"
event_words (Enter node copy at) = codes "an enter"
event_words (Leave node transit at) = codes "a leave"
event_words (Arrive node copy at) = codes "an arrive"
event_words (Hear node copy) = codes "a hear"
event_words (Request node at) = codes "a request"
event_words (Stamped node) = codes "a stamped"
event_words (Tick node) = codes "a tick"
event_words (SetMaster node master) = codes "a setmaster"
event_words (StepClock node difference) = codes "a stepclock"

-- the fraction of a nanosecond, where there is one
abbrev pub fraction_text : ℕ → List ℕ
fraction_text fraction = if fraction == 0 then [] else (codes " + " ++ decimal fraction ++ codes "/65536 ns")

-- seconds with nine decimals, and the fraction of a nanosecond
abbrev pub moment_text : (time : ℕ) → List ℕ
moment_text time = stamp_text (stamp_of time) ++ fraction_text (fraction_of time)

-- units of 2^-16 ns as nanoseconds, with all their decimals; twice as many stay within 128 bits
abbrev pub length_text : ℤ → List ℕ
length_text units = nanoseconds_text (saturate_signed w128 (units *ℤ pos 2)) ++ codes " ns"
