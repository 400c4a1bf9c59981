-- Counts of reports, after one more, and what is told of them, piece by piece.
use Rattle.std.proofs.Common.{◌≡◌, ◌≢◌, ◌∙◌, ℕ, ◌+◌, ◌<◌, ◌≤◌, ◌||◌, Bool, true, false, List, [], ◌∷◌, ◌++◌, length, get_or, drop, map, Result, Ok, Err}
use Rattle.std.proofs.Common.{refl, sym, ap, subst, append_assoc, append-nil, arith, if◌then◌else◌}
use Rattle.std.specs.Prelude.{cond, count_by, codes, is_ok, OnOk}
use Rattle.std.specs.Fmt.{decimal}
use Rattle.std.specs.List.{list_any}
use Rattle.std.proofs.lemmas.List.{drop_more, drop_all}
use Rattle.std.proofs.lemmas.List.Sums.{sum_by-cons}
use Rattle.std.proofs.lemmas.Bool.{ne_eqb, eq-eqb, le-ltb, lt-ltb}
use Rattle.trace_model.specs.declared.verdict.Why.{Why}
use Rattle.trace_model.specs.declared.verdict.Why.TheVariants.{NoSuchLine, OtherNumber, OtherMaster, BrokenJourney}
use Rattle.trace_model.specs.declared.verdict.Why.TheVariants.{WrongReading, WrongValue, TooBig, Bytes}
use Rattle.trace_model.specs.Refusal.{code_of, words_of}
use Rattle.explain_words.specs.Lines.{are_lines}
use Rattle.explain_fields.specs.Differing.{TellsMessages, messages_text}
use Rattle.explain_story.specs.Counts.{Counts, against, counted, is_sound, is_octets_alone, stands, counts_of, counts_text, failing_lines, failing_text}
use Rattle.explain_story.specs.Counts.{has_octets, noun_text, aside_text, read_text}
use Rattle.explain_story.specs.Counts.{TellsCounts, told_reasons, is_by_readings, right_text, of_reports_text, completions_text, others_text, unreported_text}
use Rattle.explain_story.specs.declared.tally.Failing.{Failing}
use Rattle.explain_story.specs.declared.tally.Tally.{Tally}
use Rattle.explain_story.specs.Inner.Tally.{counts_in, failing_in}

-- ---- a reason among those against a report

-- none of those before this one is, and this one is not
pub any_later : (p : Why → Bool) (whys : List Why) (i : ℕ) (d : Why) → i < length whys → p (get_or whys i d) ≡ false
    → list_any p (drop i whys) ≡ list_any p whys → list_any p (drop (i + 1) whys) ≡ list_any p whys
any_later p whys i d more other so_far =
    let here : list_any p (drop i whys) ≡ p (get_or whys i d) || list_any p (drop (i + 1) whys) =
    ap (list_any p) (drop_more whys i d more) in
    (rw other at (sym here)) ∙ so_far

-- or this one is
pub any_here : (p : Why → Bool) (whys : List Why) (i : ℕ) (d : Why) → i < length whys → p (get_or whys i d) ≡ true
    → list_any p (drop i whys) ≡ list_any p whys → true ≡ list_any p whys
any_here p whys i d more same so_far =
    let here : list_any p (drop i whys) ≡ p (get_or whys i d) || list_any p (drop (i + 1) whys) =
    ap (list_any p) (drop_more whys i d more) in
    (rw same at (sym here)) ∙ so_far

-- or none is
pub any_none : (p : Why → Bool) (whys : List Why) (i : ℕ) → length whys ≤ i
    → list_any p (drop i whys) ≡ list_any p whys → false ≡ list_any p whys
any_none p whys i none so_far = sym (ap (list_any p) (drop_all i whys none)) ∙ so_far

-- ---- one more report

-- a count, with one more where it is to count
abbrev pub with_one : Bool → ℕ → ℕ
with_one counts n = if counts then counted (n + 1) else n

abbrev one_if : Bool → ℕ
one_if counts = cond counts 1 0

one_counted : (counts : Bool) (n : ℕ) → with_one counts (counted n) ≡ counted (one_if counts + n)
one_counted true n = omega arith
one_counted false n = omega arith

-- a count of the reports of which this is so, with one more of them
pub count_more : (p : List Why → Bool) (whys : List Why) (reports : List (List Why)) (n : ℕ)
    → n ≡ counted (count_by p reports) → with_one (p whys) n ≡ counted (count_by p (whys ∷ reports))
count_more p whys reports n is =
    ap (with_one (p whys)) is ∙ one_counted (p whys) (count_by p reports)
    ∙ ap counted (sym (sum_by-cons (λ (x : List Why). one_if (p x)) whys reports))

length_more : (n later : ℕ) (whys : List Why) (reports : List (List Why)) → n ≡ counted (length reports)
    → later ≡ counted (n + 1) → later ≡ counted (length (whys ∷ reports))
length_more n later whys reports is more = omega arith

-- counts of one report more
pub record IsAfter (whys : List Why) (old new : Tally) : Type 0 where
  pub reports : new.reports ≡ counted (old.reports + 1)
  pub sound : new.sound ≡ with_one (is_sound whys) old.sound
  pub octets_alone : new.octets_alone ≡ with_one (is_octets_alone whys) old.octets_alone
  pub by_readings : new.by_readings ≡ with_one (is_by_readings whys) old.by_readings
  pub failing : (why : Why) → failing_in new.failing why ≡ with_one (stands why whys) (failing_in old.failing why)

failing_of : (tally : Tally) (reports : List (List Why)) → counts_in tally ≡ counts_of reports → (why : Why)
    → failing_in tally.failing why ≡ counted (count_by (stands why) reports)
failing_of tally reports is NoSuchLine = λ i. against (is i) NoSuchLine
failing_of tally reports is BrokenJourney = λ i. against (is i) BrokenJourney
failing_of tally reports is OtherNumber = λ i. against (is i) OtherNumber
failing_of tally reports is OtherMaster = λ i. against (is i) OtherMaster
failing_of tally reports is WrongReading = λ i. against (is i) WrongReading
failing_of tally reports is TooBig = λ i. against (is i) TooBig
failing_of tally reports is WrongValue = λ i. against (is i) WrongValue
failing_of tally reports is Bytes = λ i. against (is i) Bytes

pub counts_more : (old new : Tally) (whys : List Why) (reports : List (List Why)) → IsAfter whys old new
    → counts_in old ≡ counts_of reports → counts_in new ≡ counts_of (whys ∷ reports)
counts_more old new whys reports after is =
    let reports_are = length_more old.reports new.reports whys reports (λ i. (is i).reports) after.reports in
    let sound_are = after.sound ∙ count_more is_sound whys reports old.sound (λ i. (is i).sound) in
    let alone_are = after.octets_alone
    ∙ count_more is_octets_alone whys reports old.octets_alone (λ i. (is i).octets_alone) in
    let readings_are = after.by_readings
    ∙ count_more is_by_readings whys reports old.by_readings (λ i. (is i).by_readings) in
    let failing_are = λ (why : Why). after.failing why
    ∙ count_more (stands why) whys reports (failing_in old.failing why) (failing_of old reports is why) in
    λ i. record {
      reports = reports_are i;
      sound = sound_are i;
      octets_alone = alone_are i;
      by_readings = readings_are i;
      failing = map (λ (why : Why). failing_are why i) told_reasons;
    }

pub counted_by : (counts counts' : Bool) (n later : ℕ) → later ≡ with_one counts n → counts ≡ counts' → later ≡ with_one counts' n
counted_by counts counts' n later is same = is ∙ ap (λ (b : Bool). with_one b n) same

-- no report yet
pub counts_none : (failing : Failing) → ((why : Why) → failing_in failing why ≡ 0)
    → counts_in (record { reports = 0; sound = 0; octets_alone = 0; by_messages = 0; by_readings = 0; failing = failing })
    ≡ counts_of []
counts_none failing none = λ i. record {
  reports = 0;
  sound = 0;
  octets_alone = 0;
  by_readings = 0;
  failing = map (λ (why : Why). none why i) told_reasons;
}

-- ---- what is told

-- after one reason more the lines of those that are left end in the same
pub lines_left : (failing : Why → ℕ) (whys : List Why) (i : ℕ) (d : Why) (text after all : List ℕ) → i < length whys
    → after ≡ text ++ failing_text (get_or whys i d) (failing (get_or whys i d))
    → text ++ failing_lines failing (drop i whys) ≡ all → after ++ failing_lines failing (drop (i + 1) whys) ≡ all
lines_left failing whys i d text after all more is so_far =
    let line : List ℕ = failing_text (get_or whys i d) (failing (get_or whys i d)) in
    ap (λ (t : List ℕ). t ++ failing_lines failing (drop (i + 1) whys)) is
    ∙ append_assoc text line (failing_lines failing (drop (i + 1) whys))
    ∙ ap (λ (ws : List Why). text ++ failing_lines failing ws) (sym (drop_more whys i d more)) ∙ so_far

pub lines_done : (failing : Why → ℕ) (whys : List Why) (i : ℕ) (text all : List ℕ) → length whys ≤ i
    → text ++ failing_lines failing (drop i whys) ≡ all → text ≡ all
lines_done failing whys i text all none so_far =
    sym (ap (λ (ws : List Why). text ++ failing_lines failing ws) (drop_all i whys none) ∙ append-nil text) ∙ so_far

-- the line of a reason that stands against a report
pub line_told : {E : Type 0} (r : Result (Unit {0}) E) (why : Why) (count code : ℕ) (old new : List ℕ) → count ≢ 0
    → code ≡ code_of why
    → OnOk r (new ≡ old ++ (codes "  " ++ (decimal code ++ (codes " stands against " ++ (decimal count ++ (codes ": " ++ (words_of why ++ codes "\n")))))))
    → OnOk r (new ≡ old ++ failing_text why count)
line_told (Ok x) why count code old new some code_is is =
    is
    ∙ (λ i. old ++ (codes "  " ++ (decimal (code_is i) ++ (codes " stands against " ++ (decimal count ++ (codes ": " ++ (words_of why ++ codes "\n")))))))
    ∙ rw (ne_eqb count 0 some) (simp append_assoc)
line_told (Err e) why count code old new some code_is is = tt

pub aside_told : {E : Type 0} (r : Result (Unit {0}) E) (counts : Counts) (messages sum : ℕ) (noun old new : List ℕ) → has_octets counts ≡ true
    → messages ≤ 0 → sum ≡ counted (counts.sound + counts.octets_alone) → noun ≡ noun_text counts.reports
    → OnOk r (new ≡ old ++ (codes "were octets left aside (708), " ++ (decimal sum ++ (codes " of " ++ (decimal counts.reports
    ++ (codes " " ++ (noun ++ codes " would be sound\n")))))))
    → OnOk r (new ≡ old ++ aside_text counts messages)
aside_told (Ok x) counts messages sum noun old new octets none sum_is noun_is is =
    is
    ∙ (λ i. old ++ (codes "were octets left aside (708), " ++ (decimal (sum_is i) ++ (codes " of " ++ (decimal counts.reports
    ++ (codes " " ++ (noun_is i ++ codes " would be sound\n")))))))
    ∙ rw (octets, le-ltb 0 messages none) (simp append_assoc)
aside_told (Err e) counts messages sum noun old new octets none sum_is noun_is is = tt

-- the line that says that octets can't be left aside
pub read_line_told : {E : Type 0} (r : Result (Unit {0}) E) (messages : ℕ) (noun old new : List ℕ) → noun ≡ messages_text messages
    → OnOk r (new ≡ old ++ (codes "octets can't be left aside (708): a field that a slave or a master reads differs in "
    ++ (decimal messages ++ (codes " " ++ (noun ++ codes "\n")))))
    → OnOk r (new ≡ old ++ read_text messages)
read_line_told (Ok x) messages noun old new noun_is is =
    is
    ∙ (λ i. old ++ (codes "octets can't be left aside (708): a field that a slave or a master reads differs in "
    ++ (decimal messages ++ (codes " " ++ (noun_is i ++ codes "\n")))))
    ∙ simp append_assoc
read_line_told (Err e) messages noun old new noun_is is = tt

-- or that they can't be left aside
pub read_told : {E : Type 0} (r : Result (Unit {0}) E) (counts : Counts) (messages : ℕ) (old new : List ℕ) → has_octets counts ≡ true
    → 0 < messages → OnOk r (new ≡ old ++ read_text messages) → OnOk r (new ≡ old ++ aside_text counts messages)
read_told (Ok x) counts messages old new octets some is = is ∙ rw (octets, lt-ltb 0 messages some) refl
read_told (Err e) counts messages old new octets some is = tt

-- how many of the reports
pub of_reports_told : {E : Type 0} (r : Result (Unit {0}) E) (counts : Counts) (count : ℕ) (noun old new : List ℕ) → noun ≡ noun_text counts.reports
    → OnOk r (new ≡ old ++ (decimal count ++ (codes " of " ++ (decimal counts.reports ++ (codes " " ++ (noun ++ codes "\n"))))))
    → OnOk r (new ≡ old ++ of_reports_text count counts)
of_reports_told (Ok x) counts count noun old new noun_is is =
    is ∙ (λ i. old ++ (decimal count ++ (codes " of " ++ (decimal counts.reports ++ (codes " " ++ (noun_is i ++ codes "\n"))))))
    ∙ simp append_assoc
of_reports_told (Err e) counts count noun old new noun_is is = tt

-- how many are right by the messages, and how many by the readings
pub right_told : {E : Type 0} (r : Result (Unit {0}) E) (counts : Counts) (by_messages : ℕ) (old first second third fourth : List ℕ)
    → counts.sound ≢ counts.reports
    → first ≡ old ++ codes "results equal to those by the messages that came to the slave: " → second ≡ first ++ of_reports_text by_messages counts
    → third ≡ second ++ codes "results equal to those by the readings of the clocks: "
    → OnOk r (fourth ≡ third ++ of_reports_text counts.by_readings counts)
    → OnOk r (fourth ≡ old ++ right_text counts by_messages)
right_told (Ok x) counts by_messages old first second third fourth some first_is second_is third_is fourth_is =
    fourth_is ∙ rw (third_is, second_is, first_is, ne_eqb counts.sound counts.reports some) (simp append_assoc)
right_told (Err e) counts by_messages old first second third fourth some first_is second_is third_is fourth_is = tt

-- or nothing, where each report is sound
pub right_untold : (counts : Counts) (by_messages : ℕ) (old : List ℕ) → counts.sound ≡ counts.reports → old ≡ old ++ right_text counts by_messages
right_untold counts by_messages old all = rw (eq-eqb counts.sound counts.reports all) (sym (append-nil old))

none_told : (counts : Counts) (by_messages messages : ℕ) → counts.reports ≡ 0
    → codes "there is no report, so nothing was judged\n" ≡ counts_text counts by_messages messages
none_told counts by_messages messages none = rw (eq-eqb counts.reports 0 none) refl

pub no_report_told : {E : Type 0} (r : Result (Unit {0}) E) (counts : Counts) (by_messages messages : ℕ) (old new : List ℕ) → counts.reports ≡ 0
    → new ≡ (if is_ok r then old ++ codes "there is no report, so nothing was judged\n" else old)
    → OnOk r (new ≡ old ++ counts_text counts by_messages messages)
no_report_told (Ok x) counts by_messages messages old new none is =
    is ∙ ap (λ (t : List ℕ). old ++ t) (none_told counts by_messages messages none)
no_report_told (Err e) counts by_messages messages old new none is = tt

pub reports_told : {E : Type 0} (r : Result (Unit {0}) E) (counts : Counts) (by_messages messages : ℕ) (noun old first second third fourth : List ℕ)
    → counts.reports ≢ 0 → noun ≡ noun_text counts.reports
    → first ≡ old ++ (decimal counts.reports ++ (codes " " ++ (noun ++ (codes ": " ++ (decimal counts.sound ++ codes " sound\n")))))
    → second ≡ first ++ failing_lines (against counts) told_reasons → third ≡ second ++ right_text counts by_messages
    → OnOk r (fourth ≡ third ++ aside_text counts messages)
    → OnOk r (fourth ≡ old ++ counts_text counts by_messages messages)
reports_told (Ok x) counts by_messages messages noun old first second third fourth some noun_is first_is second_is third_is fourth_is =
    fourth_is ∙ rw (third_is, second_is, first_is, noun_is, ne_eqb counts.reports 0 some) (simp append_assoc)
reports_told (Err e) counts by_messages messages noun old first second third fourth some noun_is first_is second_is third_is fourth_is = tt

-- and of these, where octets stand against a report
pub messages_told : {E : Type 0} (r : Result (Unit {0}) E) (octets : Bool) (old new : List ℕ) → octets ≡ true
    → OnOk r ((told : List ℕ) × TellsMessages true told × (new ≡ old ++ told))
    → OnOk r ((told : List ℕ) × TellsMessages octets told × (new ≡ old ++ told))
messages_told r octets old new some told =
    subst (λ (o : Bool). OnOk r ((told : List ℕ) × TellsMessages o told × (new ≡ old ++ told))) (sym some) told

-- and none where they don't
pub messages_untold : (octets : Bool) (old : List ℕ) → octets ≡ false → (told : List ℕ) × TellsMessages octets told × (old ≡ old ++ told)
messages_untold octets old none = ([], subst (λ (o : Bool). TellsMessages o []) (sym none) refl, sym (append-nil old))

-- how many completions had no report
pub unreported_told : {E : Type 0} (r : Result (Unit {0}) E) (count : ℕ) (noun old new : List ℕ) → count ≢ 0 → noun ≡ completions_text count
    → OnOk r (new ≡ old ++ (decimal count ++ (codes " " ++ (noun
    ++ codes " had no report, though both halves of one were there; the verdict says nothing of these\n"))))
    → OnOk r (new ≡ old ++ unreported_text count)
unreported_told (Ok x) count noun old new some noun_is is =
    is ∙ (λ i. old ++ (decimal count ++ (codes " " ++ (noun_is i
    ++ codes " had no report, though both halves of one were there; the verdict says nothing of these\n"))))
    ∙ rw (ne_eqb count 0 some) (simp append_assoc)
unreported_told (Err e) count noun old new some noun_is is = tt

-- how many outcomes aren't those of a slave here, and lines behind it
pub others_line_told : {E : Type 0} (r : Result (Unit {0}) E) (others came : ℕ) (old new : List ℕ) → others ≢ 0
    → OnOk r (new ≡ old ++ (codes "other outcomes than a slave here has for the messages that came: " ++ (decimal others
    ++ (codes " of " ++ (decimal came ++ codes "; the verdict says nothing of these\n")))))
    → OnOk r (new ≡ old ++ others_text others came)
others_line_told (Ok x) others came old new some is = is ∙ rw (ne_eqb others 0 some) (simp append_assoc)
others_line_told (Err e) others came old new some is = tt

pub others_told : {E : Type 0} (r : Result (Unit {0}) E) (others came : ℕ) (old first new : List ℕ) → first ≡ old ++ others_text others came
    → OnOk r ((line : List ℕ) × (are_lines (codes "  the first: ") line ≡ true) × (new ≡ first ++ line))
    → OnOk r ((others : ℕ) × (came : ℕ) × (line : List ℕ) × (are_lines (codes "  the first: ") line ≡ true)
    × (new ≡ old ++ (others_text others came ++ line)))
others_told (Ok x) others came old first new first_is (line, below, is) =
    (others, came, line, below, is ∙ ap (λ (t : List ℕ). t ++ line) first_is ∙ append_assoc old (others_text others came) line)
others_told (Err e) others came old first new first_is told = tt

-- all of it
pub counts_told : {E : Type 0} (r : Result (Unit {0}) E) (counts : Counts) (by_messages differ unreported : ℕ)
    (old first second third new messages : List ℕ)
    → first ≡ old ++ counts_text counts by_messages differ → TellsMessages (has_octets counts) messages → second ≡ first ++ messages
    → third ≡ second ++ unreported_text unreported
    → OnOk r ((others : ℕ) × (came : ℕ) × (line : List ℕ) × (are_lines (codes "  the first: ") line ≡ true)
    × (new ≡ third ++ (others_text others came ++ line)))
    → OnOk r ((told : List ℕ) × TellsCounts counts told × (new ≡ old ++ told))
counts_told (Ok x) counts by_messages differ unreported old first second third new messages first_is tells second_is third_is
    (others, came, line, below, is) = (
      counts_text counts by_messages differ ++ (messages ++ (unreported_text unreported ++ (others_text others came ++ line))),
      (by_messages, differ, unreported, others, came, messages, line, tells, below, refl),
      is ∙ rw (third_is, second_is, first_is) (simp append_assoc),
    )
counts_told (Err e) counts by_messages differ unreported old first second third new messages first_is tells second_is third_is told = tt
