-- What is told of a report.
use Rattle.std.specs.Prelude.{◌≡◌, ℕ, ◌^◌, ◌==◌, nat_lt, ℤ, pos, ◌-ℤ◌, int_lt, unsigned_abs, Bool, true, false, ◌&&◌, not, List}
use Rattle.std.specs.Prelude.{[], ◌∷◌, ◌++◌, codes, Option, Some, None, if◌then◌else◌, ⊤}
use Rattle.std.specs.Fmt.{decimal, signed_decimal}
use Rattle.std.specs.Ordering.{int_eq}
use Rattle.ptp_units.specs.Nanoseconds.{nanoseconds_text}
use Rattle.slave_port.specs.declared.heard.Report.{Report}
use Rattle.trace_model.specs.declared.judgement.Results.{Results}
use Rattle.trace_model.specs.declared.verdict.Why.{Why}
use Rattle.trace_model.specs.Refusal.{code_of, words_of}
use Rattle.explain_findings.specs.declared.reported.Reported.{Reported}
use Rattle.explain_words.specs.Lines.{are_lines}

-- whether two results are the same as two others
abbrev pub are_same : (offset2 path2 : ℤ) → Results → Bool
are_same offset2 path2 results = int_eq offset2 results.offset2 && int_eq path2 results.path2

-- whether the results of a report are those by the messages
abbrev pub is_as_told : Report → (by_messages : Option Results) → Bool
is_as_told report None = false
is_as_told report (Some told) = are_same report.offset2 report.path2 told

-- the beginning of a report's first line
abbrev pub begin_text : Reported → List ℕ
begin_text reported =
    codes "event " ++ decimal reported.event ++ codes ", line " ++ decimal reported.line
    ++ codes ": the report of " ++ reported.node ++ codes " is "

-- the line that says that the results are equal to those by the messages, where they are: below the reason that they aren't
-- those of the readings
abbrev pub as_told_text : (equal : Bool) → Why → List ℕ
as_told_text equal why = if equal && (code_of why == 706)
    then codes "    the results are equal to those by the messages that came to the slave\n" else []

-- a reason by its number and in words, behind what leads to it, and that line
abbrev pub reason_text : List ℕ → (equal : Bool) → Why → List ℕ
reason_text lead equal why =
    lead ++ decimal (code_of why) ++ codes ": " ++ words_of why ++ codes "\n" ++ as_told_text equal why

-- reasons in their order, this in front of the first; behind each lines that say what it met, which begin with four blanks,
-- so that no number of a reason stands among them
abbrev pub TellsReasons : (equal : Bool) → List ℕ → List Why → List ℕ → Type 0
TellsReasons equal lead [] text = text ≡ []
TellsReasons equal lead (why ∷ others) text =
    (met : List ℕ) × (behind : List ℕ) × (are_lines (codes "    ") met ≡ true)
    × TellsReasons equal (codes "  and ") others behind × (text ≡ reason_text lead equal why ++ (met ++ behind))

-- nanoseconds of so many halves of 2^-16 ns, exactly; of 2^127 halves, which are 2^110 ns, and more only that
abbrev pub amount_text : ℕ → List ℕ
amount_text size =
    if nat_lt size (2 ^ 127) then (nanoseconds_text (pos size) ++ codes " ns") else codes "2^110 ns or more"

abbrev pub side_text : (too_much : Bool) → List ℕ
side_text too_much = if too_much then codes "much" else codes "little"

-- by how much a result is wrong, and which way; nothing where it is right
abbrev pub wrong_text : ℕ → (too_much : Bool) → List ℕ
wrong_text size too_much = if size == 0 then [] else
    (codes "  " ++ amount_text size ++ codes " too " ++ side_text too_much)

-- what the first of two results has more than the second, as it is told
abbrev pub difference_text : ℤ → ℤ → List ℕ
difference_text reported by_readings =
    wrong_text (unsigned_abs (reported -ℤ by_readings)) (int_lt by_readings reported)

-- a result as it stands in the transcript under this key, and as it is wanted there where that is another number
abbrev pub raw_text : List ℕ → ℤ → ℤ → List ℕ
raw_text key reported by_readings = if int_eq reported by_readings
    then codes "  (\"" ++ key ++ codes "\" " ++ signed_decimal reported ++ codes ")\n"
    else (codes "  (\"" ++ key ++ codes "\" " ++ signed_decimal reported
    ++ codes ", wanted " ++ signed_decimal by_readings ++ codes ")\n")

-- the row of a result, as it is reported and by the readings, and with its key in the transcript
abbrev pub row_text : (name key : List ℕ) → ℤ → ℤ → List ℕ
row_text name key reported by_readings =
    codes "  " ++ name ++ codes "  reported " ++ nanoseconds_text reported
    ++ codes " ns  by the readings " ++ nanoseconds_text by_readings ++ codes " ns"
    ++ difference_text reported by_readings ++ raw_text key reported by_readings

-- whether the results by the messages aren't those by the readings
abbrev pub tells_otherwise : (by_readings by_messages : Option Results) → Bool
tells_otherwise None by_messages = false
tells_otherwise (Some results) None = false
tells_otherwise (Some results) (Some told) = not (are_same told.offset2 told.path2 results)

-- that results are those that are reported
abbrev pub as_reported_text : (same : Bool) → List ℕ
as_reported_text same = if same then codes "  as reported" else []

-- the row of the results by the messages
abbrev pub messages_row_text : Report → Results → List ℕ
messages_row_text report told =
    codes "  by the messages  offset " ++ nanoseconds_text told.offset2 ++ codes " ns  path " ++ nanoseconds_text told.path2
    ++ codes " ns" ++ as_reported_text (are_same report.offset2 report.path2 told)
    ++ codes "  (\"offset2\" " ++ signed_decimal told.offset2 ++ codes ", \"path2\" " ++ signed_decimal told.path2
    ++ codes ")\n"

-- the same, where there is one
abbrev pub told_row_text : Report → Option Results → List ℕ
told_row_text report None = []
told_row_text report (Some told) = messages_row_text report told

-- the rows of the two results; none where no readings are found
abbrev pub rows_text : Report → Option Results → List ℕ
rows_text report None = []
rows_text report (Some results) =
    row_text (codes "offset") (codes "offset2") report.offset2 results.offset2
    ++ row_text (codes "path  ") (codes "path2") report.path2 results.path2

-- behind them the row of the results by the messages, where these aren't those by the readings
abbrev pub all_rows_text : Report → (by_readings by_messages : Option Results) → List ℕ
all_rows_text report by_readings by_messages =
    rows_text report by_readings
    ++ (if tells_otherwise by_readings by_messages then told_row_text report by_messages else [])

-- lines on which message tells otherwise, by whether one does: none where none does
abbrev pub TellsWhich : Bool → List ℕ → Type 0
TellsWhich true text = ⊤
TellsWhich false text = text ≡ []

-- what is told of a report that is refused, where these are its results by the messages: the reasons, lines on its moments and
-- stays, which begin with two blanks and a t or with three blanks, the results, and lines on which message tells otherwise,
-- which begin with four blanks
abbrev pub TellsRefused : Reported → (by_messages : Option Results) → List ℕ → Type 0
TellsRefused reported by_messages text =
    (reasons : List ℕ) × (lines : List ℕ) × (which : List ℕ)
    × TellsReasons (is_as_told reported.report by_messages) (codes "refused, ") reported.judgement.reasons reasons
    × (are_lines (codes "  t") lines ≡ true)
    × (are_lines (codes "    ") which ≡ true)
    × TellsWhich (tells_otherwise reported.judgement.by_readings by_messages) which
    × (text ≡ begin_text reported ++ (reasons ++ (lines
    ++ (all_rows_text reported.report reported.judgement.by_readings by_messages ++ which))))

-- what is told of a report against which these reasons stand: nothing of a sound one
abbrev pub TellsJudged : Reported → (by_messages : Option Results) → List Why → List ℕ → Type 0
TellsJudged reported by_messages [] text = text ≡ []
TellsJudged reported by_messages (why ∷ others) text = TellsRefused reported by_messages text

-- what is told of a report, with what are said to be its results by the messages
abbrev pub TellsReport : Reported → List ℕ → Type 0
TellsReport reported text =
    (by_messages : Option Results) × TellsJudged reported by_messages reported.judgement.reasons text
