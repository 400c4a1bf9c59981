-- How many reports there are, how many fail which conditions, and what is told of that.
use Rattle.std.specs.Prelude.{◌≡◌, ℕ, ◌+◌, ◌-◌, ◌^◌, ◌==◌, ◌&&◌, min, nat_lt, Bool, true, false, List, [], ◌∷◌, ◌++◌}
use Rattle.std.specs.Prelude.{length, map, count_by, slice_index, codes, if◌then◌else◌, not}
use Rattle.std.specs.List.{list_any}
use Rattle.std.specs.Fmt.{decimal}
use Rattle.trace_model.specs.declared.verdict.Why.{Why}
use Rattle.trace_model.specs.declared.verdict.Why.TheVariants.{NoSuchLine, OtherNumber, OtherMaster, BrokenJourney}
use Rattle.trace_model.specs.declared.verdict.Why.TheVariants.{WrongReading, WrongValue, TooBig, Bytes}
use Rattle.trace_model.specs.Refusal.{code_of, words_of}
use Rattle.explain_words.specs.Lines.{are_lines}
use Rattle.explain_fields.specs.Differing.{TellsMessages, messages_text}

-- all reasons, in the order in which they are told
abbrev pub told_reasons : List Why
told_reasons =
    NoSuchLine ∷ BrokenJourney ∷ OtherNumber ∷ OtherMaster ∷ WrongReading ∷ TooBig ∷ WrongValue ∷ Bytes ∷ []

-- how many reports there are, how many of them are sound, against how many octets stand alone, how many have the results by
-- the readings, and against how many each reason stands, in that order
pub record Counts : Type 0 where
  pub reports : ℕ
  pub sound : ℕ
  pub octets_alone : ℕ
  pub by_readings : ℕ
  pub failing : List ℕ

-- a count, which stays at 2^64 - 1
abbrev pub counted : ℕ → ℕ
counted n = min n (2 ^ 64 - 1)

-- whether no reason stands against a report
abbrev pub is_sound : List Why → Bool
is_sound [] = true
is_sound (why ∷ others) = false

-- whether this reason is one of those against a report
abbrev pub stands : Why → List Why → Bool
stands why whys = list_any (λ other. code_of other == code_of why) whys

-- whether octets stand against a report, and no other reason does
abbrev pub is_octets_alone : List Why → Bool
is_octets_alone whys = (length whys == 1) && stands Bytes whys

-- whether a report has the two results by the readings: there are such results, since neither 701 nor 704 stands against it,
-- and it has these, since 706 doesn't
abbrev pub is_by_readings : List Why → Bool
is_by_readings whys = not (stands NoSuchLine whys) && not (stands BrokenJourney whys) && not (stands WrongValue whys)

-- the counts of reports, by the reasons against each
abbrev pub counts_of : List (List Why) → Counts
counts_of reports = record {
  reports = counted (length reports);
  sound = counted (count_by is_sound reports);
  octets_alone = counted (count_by is_octets_alone reports);
  by_readings = counted (count_by is_by_readings reports);
  failing = map (λ why. counted (count_by (stands why) reports)) told_reasons;
}

-- against how many reports this reason stands
abbrev pub against : Counts → Why → ℕ
against counts NoSuchLine = slice_index counts.failing 0
against counts BrokenJourney = slice_index counts.failing 1
against counts OtherNumber = slice_index counts.failing 2
against counts OtherMaster = slice_index counts.failing 3
against counts WrongReading = slice_index counts.failing 4
against counts TooBig = slice_index counts.failing 5
against counts WrongValue = slice_index counts.failing 6
against counts Bytes = slice_index counts.failing 7

-- whether octets stand against a report
abbrev pub has_octets : Counts → Bool
has_octets counts = nat_lt 0 (against counts Bytes)

-- the word for so many reports
abbrev pub noun_text : ℕ → List ℕ
noun_text reports = if reports == 1 then codes "report" else codes "reports"

-- the line that says how many reports there are, and how many are sound
abbrev pub reports_text : Counts → List ℕ
reports_text counts =
    decimal counts.reports ++ codes " " ++ noun_text counts.reports ++ codes ": " ++ decimal counts.sound
    ++ codes " sound\n"

-- the line of a reason that stands against so many reports; none where it stands against none
abbrev pub failing_text : Why → ℕ → List ℕ
failing_text why count = if count == 0 then [] else
    (codes "  " ++ decimal (code_of why) ++ codes " stands against " ++ decimal count ++ codes ": " ++ words_of why
    ++ codes "\n")

-- the lines of these reasons, by against how many reports each stands
abbrev pub failing_lines : (Why → ℕ) → List Why → List ℕ
failing_lines failing [] = []
failing_lines failing (why ∷ others) = failing_text why (failing why) ++ failing_lines failing others

-- how many of the reports, and the end of the line
abbrev pub of_reports_text : ℕ → Counts → List ℕ
of_reports_text count counts =
    decimal count ++ codes " of " ++ decimal counts.reports ++ codes " " ++ noun_text counts.reports ++ codes "\n"

-- where a report isn't sound, how many have the results of what the slave was told, and how many those of the readings
abbrev pub right_text : Counts → (by_messages : ℕ) → List ℕ
right_text counts by_messages = if counts.sound == counts.reports then [] else
    (codes "results equal to those by the messages that came to the slave: " ++ of_reports_text by_messages counts
    ++ codes "results equal to those by the readings of the clocks: " ++ of_reports_text counts.by_readings counts)

-- the line that says that octets can't be left aside, since a field that is read differs in so many messages
abbrev pub read_text : ℕ → List ℕ
read_text messages =
    codes "octets can't be left aside (708): a field that a slave or a master reads differs in " ++ decimal messages
    ++ codes " " ++ messages_text messages ++ codes "\n"

-- where octets stand against a report, the line that says how many reports would be sound were they left aside; or where a
-- field that is read differs in so many messages, that they can't be
abbrev pub aside_text : Counts → (messages : ℕ) → List ℕ
aside_text counts messages = if has_octets counts then
    (if nat_lt 0 messages then read_text messages else
    (codes "were octets left aside (708), " ++ decimal (counted (counts.sound + counts.octets_alone)) ++ codes " of "
    ++ decimal counts.reports ++ codes " " ++ noun_text counts.reports ++ codes " would be sound\n"))
    else []

-- what is told of reports, where so many have the results by the messages, and where a field that is read differs in so many
-- messages
abbrev pub counts_text : Counts → (by_messages messages : ℕ) → List ℕ
counts_text counts by_messages messages =
    if counts.reports == 0 then codes "there is no report, so nothing was judged\n"
    else (reports_text counts ++ (failing_lines (against counts) told_reasons
    ++ (right_text counts by_messages ++ aside_text counts messages)))

-- the word for so many completions
abbrev pub completions_text : ℕ → List ℕ
completions_text count = if count == 1 then codes "completion" else codes "completions"

-- the line that says how many completions had no report though both halves of one were there; none where none had none
abbrev pub unreported_text : ℕ → List ℕ
unreported_text count = if count == 0 then [] else
    (decimal count ++ codes " " ++ completions_text count
    ++ codes " had no report, though both halves of one were there; the verdict says nothing of these\n")

-- the line that says how many outcomes of messages that came to slaves, of how many, aren't those of a slave here; none where
-- none isn't
abbrev pub others_text : (others came : ℕ) → List ℕ
others_text others came = if others == 0 then [] else
    (codes "other outcomes than a slave here has for the messages that came: " ++ decimal others ++ codes " of "
    ++ decimal came ++ codes "; the verdict says nothing of these\n")

-- what is told of counts, with how many reports are said to have the results by the messages, in how many messages a field
-- that is read is said to differ, how many completions are said to have had no report, and how many outcomes of how many
-- messages are said not to be those of a slave here, behind which lines stand on the first of these
abbrev pub TellsCounts : Counts → List ℕ → Type 0
TellsCounts counts text =
    (by_messages : ℕ) × (differ : ℕ) × (unreported : ℕ) × (others : ℕ) × (came : ℕ) × (messages : List ℕ) × (first : List ℕ)
    × TellsMessages (has_octets counts) messages × (are_lines (codes "  the first: ") first ≡ true)
    × (text ≡ counts_text counts by_messages differ
    ++ (messages ++ (unreported_text unreported ++ (others_text others came ++ first))))
