-- What breaks 705 and 707, in a sentence: a reading that isn't that of its clock, or a message that was in clocks for too long.
use Rattle.std.specs.Prelude.{ℕ, ◌+◌, ◌-◌, ◌^◌, min, ℤ, pos, ◌-ℤ◌, Bool, List, ◌++◌, reverse, codes, if◌then◌else◌}
use Rattle.std.specs.Prelude.{Option, Some, None, option_map, option_and_then, unwrap_or}
use Rattle.ptp_units.specs.Moment.{fraction_of}
use Rattle.std.specs.Option.{option_map_or}
use Rattle.network_model.specs.declared.event.Event.{Event}
use Rattle.network_model.specs.Kinds.{is_one_step_sync, named_difference}
use Rattle.network_model.specs.Run.{true_moment}
use Rattle.trace_model.specs.declared.finding.Part.{Part}
use Rattle.trace_model.specs.declared.finding.Part.TheVariants.{Sync, FollowUp, DelayReq, DelayResp}
use Rattle.exchange_check.specs.declared.exchange.Exchange.{Exchange}
use Rattle.exchange_check.specs.declared.exchange.Leg.{Leg}
use Rattle.exchange_check.specs.declared.kept_line.WrongReading.{WrongReading}
use Rattle.exchange_check.specs.Evidence.{wrong_reading_at}
use Rattle.exchange_check.specs.KeptLine.{kept_line_at}
use Rattle.exchange_check.specs.Transcript.{Transcript}
use Rattle.explain_words.specs.Words.{length_text, moment_text}
use Rattle.explain_findings.specs.declared.known.Named.{Named}
use Rattle.explain_findings.specs.declared.known.Place.{Place}
use Rattle.explain_findings.specs.declared.misread.Fall.{Fall}
use Rattle.explain_findings.specs.declared.misread.Misread.{Misread}
use Rattle.explain_findings.specs.declared.misread.TooLong.{TooLong}
use Rattle.explain_findings.specs.Heard.{name_text}
use Rattle.explain_findings.specs.Known.{event_at, named_at, named_text, place_at, place_text}

-- ---- which sentence it is

-- the true moment of an event
abbrev pub moment_in : Option Event → Option ℕ
moment_in event = option_and_then true_moment event

abbrev pub true_moment_at : Transcript → ℕ → Option ℕ
true_moment_at transcript number = moment_in (event_at transcript number)

-- what a clock is said to have read, where that is wrong
abbrev pub read_in : Option WrongReading → Option ℕ
read_in wrong = option_and_then (λ it. it.reading) wrong

abbrev pub wrong_reading : Transcript → ℕ → Option ℕ
wrong_reading transcript number =
    read_in (wrong_reading_at transcript.network (reverse transcript.lines) number)

-- what an event set its clock to differ by; nothing where there is none
abbrev pub difference_in : Option Event → ℤ
difference_in event = unwrap_or (option_and_then named_difference event) (pos 0)

abbrev pub difference_set : Transcript → (set : Option ℕ) → ℤ
difference_set transcript set = option_map_or (λ number. difference_in (event_at transcript number)) set (pos 0)

-- where that event is
abbrev pub setter_at : Transcript → (set : Option ℕ) → Option Place
setter_at transcript set = option_map (place_at transcript) set

-- the reading of the event of a number, which isn't that of its clock, and what is wanted
abbrev pub misread_at : Transcript → ℕ → (set : Option ℕ) → Misread
misread_at transcript number set = record {
  named = named_at transcript number;
  reading = record { read = wrong_reading transcript number; at = true_moment_at transcript number };
  wanted = record { 0 = difference_set transcript set };
  set = setter_at transcript set;
}

-- what the line of a number says that the clock read, where it counts
abbrev pub reading_at : Transcript → ℕ → Option ℕ
reading_at transcript number =
    option_map (λ line. line.reading) (kept_line_at transcript.network (reverse transcript.lines) number)

-- how much less a clock read as a message left than as it entered
abbrev pub fall_by : ℤ → Named → Place → Fall
fall_by less left entered = record { less = record { 0 = less }; left = left; entered = entered }

abbrev pub fall_in : (before after : Option ℕ) → Named → Place → Option Fall
fall_in None after left entered = None
fall_in (Some before) None left entered = None
fall_in (Some before) (Some after) left entered = Some (fall_by (pos before -ℤ pos after) left entered)

abbrev pub fall_at : Transcript → (entered left : ℕ) → Option Fall
fall_at transcript entered left = fall_in
    (reading_at transcript entered)
    (reading_at transcript left)
    (named_at transcript left)
    (place_at transcript entered)

-- what a message is to have in its correctionField: how long it was in clocks, and of a one-step Sync the fraction of a
-- nanosecond of its departure, at most 2^127 - 1 units
abbrev pub sum_of : Leg → ℤ
sum_of leg = pos (min
    (leg.residence + (if is_one_step_sync leg.departed.event then fraction_of leg.departed.reading else 0))
    (2 ^ 127 - 1))

-- the journey of this message
abbrev pub leg_of : Exchange → Part → Leg
leg_of exchange Sync = exchange.sync
leg_of exchange FollowUp = exchange.request
leg_of exchange DelayReq = exchange.request
leg_of exchange DelayResp = exchange.request

-- how long it was in clocks
abbrev pub long_at : Part → Leg → TooLong
long_at part leg =
    record { part = part; sum = record { 0 = sum_of leg }; is_one_step = is_one_step_sync leg.departed.event }

abbrev pub too_long_at : Option Exchange → Part → Option TooLong
too_long_at exchange part = option_map (λ x. long_at part (leg_of x part)) exchange

-- ---- its text

-- what is read, and what the true moment is
abbrev pub reading_text : (read at : Option ℕ) → List ℕ
reading_text None None = codes "no reading"
reading_text None (Some at) = codes "no reading, the true moment is " ++ moment_text at
reading_text (Some read) None = codes "read is " ++ moment_text read
reading_text (Some read) (Some at) =
    codes "read is " ++ (moment_text read ++ (codes ", the true moment is " ++ (moment_text at
    ++ (codes ", and they differ by " ++ length_text (pos read -ℤ pos at)))))

-- who set the clock
abbrev pub setter_text : Option Place → List ℕ
setter_text None = codes ", since no event set the clock"
setter_text (Some set) = codes ", which " ++ (place_text set ++ codes " set")

abbrev pub misread_text : Misread → List ℕ
misread_text misread =
    named_text misread.named ++ (codes ": " ++ (reading_text misread.reading.read misread.reading.at
    ++ (codes "; wanted is " ++ (length_text misread.wanted.0 ++ setter_text misread.set))))

abbrev pub fall_text : Fall → List ℕ
fall_text fall =
    named_text fall.left ++ (codes ": the clock reads " ++ (length_text fall.less.0 ++ (codes " less than at "
    ++ (place_text fall.entered ++ codes "; wanted is no less"))))

-- of what there is too much
abbrev pub of_clocks_text : (is_one_step : Bool) → List ℕ
of_clocks_text is_one_step =
    if is_one_step then codes "of clocks and of its departure" else codes "of clocks"

abbrev pub too_long_text : TooLong → List ℕ
too_long_text long =
    codes "the " ++ (name_text long.part ++ (codes " is to have " ++ (length_text long.sum.0
    ++ (codes " in its correctionField, " ++ (of_clocks_text long.is_one_step ++ (codes "; it can say less than "
    ++ length_text (pos (2 ^ 63 - 1))))))))
