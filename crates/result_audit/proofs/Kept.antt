-- Results are kept, whatever comes.
use Rattle.std.proofs.Common.{◌≡◌, ◌∙◌, ◌++◌, ℕ, ℤ, Bool, true, false, not, List, [], ◌∷◌, map, length, Option, Some, None, ◌-◌, max, ◌||◌, refl, sym, ap, subst, append_assoc, append-nil}
use Rattle.std.specs.Bool.{⊤}
use Rattle.std.specs.Prelude.{if◌then◌else◌, ◌==◌, ◌&&◌, nat_lt}
use Rattle.std.specs.List.Sorted.{IsPermutation}
use Rattle.std.proofs.lemmas.List.{map-append}
use Rattle.std.proofs.lemmas.List.Sorted.{IsPermutation-refl, IsPermutation-trans, IsPermutation-sym, IsPermutation-cons, IsPermutation-middle, IsPermutation-to_front, IsPermutation-append_right}
use Rattle.ptp_units.specs.declared.sequence.Seq.{Seq}
use Rattle.recording_lines.specs.declared.measurement.Half.{Half}
use Rattle.recording_lines.specs.declared.measurement.Half.TheVariants as halves
use Rattle.result_verdict.specs.declared.judged.Judged.{Judged}
use Rattle.result_verdict.specs.Verdict.{judged}
use Rattle.result_audit.specs.declared.answer.Answer.{Answer}
use Rattle.result_audit.specs.declared.auditor.Stand.{Stand}
use Rattle.result_audit.specs.declared.auditor.Stand.TheVariants as stands
use Rattle.result_audit.specs.declared.course.AtReport.{AtReport}
use Rattle.result_audit.specs.declared.course.Gap.{Gap}
use Rattle.result_audit.specs.declared.course.Gap.TheVariants as gaps
use Rattle.result_audit.specs.declared.held.Held.{Held}
use Rattle.result_audit.specs.declared.report_at.ReportAt.{ReportAt}
use Rattle.result_audit.specs.declared.told.Of.{Of}
use Rattle.result_audit.specs.declared.told.Of.TheVariants as of
use Rattle.result_audit.specs.declared.told.Told.{Told}
use Rattle.result_audit.specs.declared.why.Why.{Why}
use Rattle.result_audit.specs.declared.why.Why.TheVariants as why
use Rattle.result_audit.specs.Coverage.{with_half}
use Rattle.result_audit.specs.Course.{first_of}
use Rattle.result_audit.specs.Held.{held_at, rank_of, held_by, held_for, answer_by, doubted, with_behind, with_doubt, with_gap, told_of, awaits, learned, last_word, path_of, why_wrong, is_verdict_wrong, is_wrong, is_beyond_doubt, is_decided, excused, is_of_offset}
use Rattle.result_audit.specs.Auditor.{Auditing, settled, settled_from, settled_with, held_now, held_as, held_of, held_of_newest, with_judged, stand, stand_of_number, stand_behind}
use Rattle.result_audit.specs.Auditor.{all_learned, learned_gaps, TakesReportAt, HandsOut, told_as, passed_by}
use Rattle.result_audit.specs.Law.{Runs, Begun, Reported, Took, Passed, Ended, Answered, kept, answered, NoResultIsPassedOver}

-- ---- of which result something is
-- that of a held one
abbrev told_in : Held → Told
told_in held = held.answer.told

-- whichever of two it is
either : (test : Bool) (x y : Held) (told : Told) → told_in x ≡ told → told_in y ≡ told → told_in (if test then x else y) ≡ told
either true x y told first second = first
either false x y told first second = second

of_doubt : (because : Why) (held : Held) → told_in (with_doubt because held) ≡ told_in held
of_doubt because held = either (is_wrong held.answer) (record held { answer = excused because held.answer }) held (told_in held) refl refl

of_gap : (half : Half) (gap : Gap) (held : Held) → told_in (with_gap half gap held) ≡ told_in held
of_gap half gaps.None held = refl
of_gap half (gaps.Missing number) held = of_doubt (why.Missing half number) held
of_gap half gaps.Anew held = of_doubt (why.BeganAnew half) held

of_told : (half : Half) (held : Held) → told_in (told_of half held) ≡ told_in held
of_told halves.Sync held = refl
of_told halves.Response held = refl

of_learned : (half : Half) (gap : Gap) (held : Held) → told_in (learned half gap held) ≡ told_in held
of_learned half gap held = either (awaits half held) (with_gap half gap (told_of half held)) held (told_in held)
    (of_gap half gap (told_of half held) ∙ of_told half held) refl

of_behind : (gap : Option Gap) (held : Held) → told_in (with_behind gap held) ≡ told_in held
of_behind None held = refl
of_behind (Some gap) held = of_gap halves.Response gap (record held { awaits_sync = true; awaits_exchange = true })

of_doubted : (at : AtReport) (because : Why) (held : Held) → told_in (doubted at because held) ≡ told_in held
of_doubted at because held = either (not at.is_whole && not (is_beyond_doubt because)) (record held { answer = excused why.Unknown held.answer })
    (with_behind at.behind_exchange (record held { answer = record held.answer { why = Some because } })) (told_in held) refl
    (of_behind at.behind_exchange (record held { answer = record held.answer { why = Some because } }))

of_by : (told : Told) (at : AtReport) (tolerance : ℤ) (j : Judged) → told_in (held_by told at tolerance j) ≡ told
of_by told at tolerance j = either (is_verdict_wrong (Some j.verdict)) (doubted at (why_wrong told j tolerance) (held_for (answer_by told at j)))
    (held_for (answer_by told at j)) told (of_doubted at (why_wrong told j tolerance) (held_for (answer_by told at j))) refl

of_path : (told : Told) (at : AtReport) (tolerance : ℤ) (path : Option ℤ) → path_of told at.known ≡ path → told_in (held_at told at tolerance) ≡ told
of_path told at tolerance None is = rw is refl
of_path told at tolerance (Some path) is = rw is (of_by told at tolerance (judged at.known told.offset path tolerance))

pub of_at : (told : Told) (at : AtReport) (tolerance : ℤ) → told_in (held_at told at tolerance) ≡ told
of_at told at tolerance = of_path told at tolerance (path_of told at.known) refl

of_two : (a : Auditing) (told : Told) (newest behind : Option AtReport) → told_in (held_of a told newest behind) ≡ told
of_two a told None None = refl
of_two a told (Some at) None = of_at told at a.tolerance
of_two a told None (Some at) = of_at told at a.tolerance
of_two a told (Some at) (Some behind) =
    let first : Held = held_at told at a.tolerance in
    let second : Held = held_at told behind a.tolerance in
    either (nat_lt (rank_of second.answer.verdict) (rank_of first.answer.verdict)) second first told
    (of_at told behind a.tolerance) (of_at told at a.tolerance)

of_newest : (a : Auditing) (told : Told) → told_in (held_of_newest a told) ≡ told
of_newest a told = of_two a told a.course.newest a.course.behind

abbrev told_or : Told → Option Held → Told
told_or told None = told
told_or told (Some held) = told_in held

-- nothing is there
abbrev IsNone : {X : Type 0} → Option X → Type 0
IsNone None = ⊤
IsNone (Some x) = ⊥

of_stand : (a : Auditing) (told : Told) (stands_so : Stand) (one : Held) → held_as a told stands_so ≡ Some one → told_in one ≡ told
of_stand a told stands.Newest one is = ap (told_or told) (sym is) ∙ of_newest a told
of_stand a told (stands.Nowhere because) one is = ap (told_or told) (sym is)
of_stand a told stands.Later one is = absurd (subst IsNone is tt)

of_now : (a : Auditing) (told : Told) (one : Held) → held_now a told ≡ Some one → told_in one ≡ told
of_now a told one is = of_stand a told (stand a told.of) one is

said_either : (test : Bool) (x y : Answer) (told : Told) → x.told ≡ told → y.told ≡ told → (if test then x else y).told ≡ told
said_either true x y told first second = first
said_either false x y told first second = second

of_last_word : (held : Held) → (last_word held).told ≡ told_in held
of_last_word held = said_either (held.awaits_sync && (is_wrong held.answer && is_of_offset held.answer.why))
    (excused (why.NothingBehind halves.Sync) held.answer)
    (if held.awaits_exchange && is_wrong held.answer then excused (why.NothingBehind halves.Response) held.answer else held.answer)
    (told_in held) refl (said_either (held.awaits_exchange && is_wrong held.answer)
    (excused (why.NothingBehind halves.Response) held.answer) held.answer (told_in held) refl refl)

-- ---- none of those that are held is another one
all_of : (half : Half) (gap : Gap) (held : List Held) → map told_in (map (learned half gap) held) ≡ map told_in held
all_of half gap [] = refl
all_of half gap (one ∷ others) = ap (λ (them : List Told). told_in (learned half gap one) ∷ them) (all_of half gap others)
    ∙ ap (λ (it : Told). it ∷ map told_in others) (of_learned half gap one)

all_of_some : (half : Half) (gap : Option Gap) (held : List Held) → map told_in (all_learned half gap held) ≡ map told_in held
all_of_some half None held = refl
all_of_some half (Some gap) held = all_of half gap held

-- one more that is judged
judged_more : (held : List Held) (one : Held) (waiting : List Told) → map told_in (held ++ one ∷ []) ++ waiting ≡ map told_in held ++ told_in one ∷ waiting
judged_more held one waiting = ap (λ (them : List Told). them ++ waiting) (map-append told_in held (one ∷ []))
    ∙ append_assoc (map told_in held) (told_in one ∷ []) waiting

-- ---- settling
kept_with : (told : Told) (others : List Told) (a : Auditing) (now : Option Held) → a.awaiting ≡ told ∷ others
    → ((one : Held) → now ≡ Some one → told_in one ≡ told)
    → ((b : Auditing) → b.awaiting ≡ others → kept (settled_from others b) ≡ kept b)
    → kept (settled_with now others (settled_from others) a) ≡ kept a
kept_with told others a None are of rest = refl
kept_with told others a (Some one) are of rest =
    rest (with_judged one (record a { awaiting = others })) refl
    ∙ judged_more a.held one others
    ∙ ap (λ (it : Told). map told_in a.held ++ it ∷ others) (of one refl)
    ∙ ap (λ (them : List Told). map told_in a.held ++ them) (sym are)

kept_from : (waiting : List Told) (a : Auditing) → a.awaiting ≡ waiting → kept (settled_from waiting a) ≡ kept a
unfolding settled_from
kept_from [] a are = refl
kept_from (told ∷ others) a are = kept_with told others a (held_now a told) are (of_now a told) (kept_from others)

-- what settling leaves is the same
pub kept_settled : (a : Auditing) → kept (settled a) ≡ kept a
kept_settled a = kept_from a.awaiting a refl

same_with : (others : List Told) (a : Auditing) (now : Option Held)
    → ((b : Auditing) → ((settled_from others b).course ≡ b.course) × ((settled_from others b).has_ended ≡ b.has_ended)
    × ((settled_from others b).tolerance ≡ b.tolerance))
    → ((settled_with now others (settled_from others) a).course ≡ a.course)
    × ((settled_with now others (settled_from others) a).has_ended ≡ a.has_ended)
    × ((settled_with now others (settled_from others) a).tolerance ≡ a.tolerance)
same_with others a None rest = (refl, refl, refl)
same_with others a (Some one) rest = rest (with_judged one (record a { awaiting = others }))

same_from : (waiting : List Told) (a : Auditing) → ((settled_from waiting a).course ≡ a.course) × ((settled_from waiting a).has_ended ≡ a.has_ended)
    × ((settled_from waiting a).tolerance ≡ a.tolerance)
unfolding settled_from
same_from [] a = (refl, refl, refl)
same_from (told ∷ others) a = same_with others a (held_now a told) (same_from others)

-- and so is what else is known
pub course_settled : (a : Auditing) → (settled a).course ≡ a.course
course_settled a = (same_from a.awaiting a).0

pub ended_settled : (a : Auditing) → (settled a).has_ended ≡ a.has_ended
ended_settled a = (same_from a.awaiting a).1

-- ---- once nothing comes any more
-- it isn't waited for
abbrev IsSettled : Stand → Type 0
IsSettled stands.Newest = ⊤
IsSettled stands.Later = ⊥
IsSettled (stands.Nowhere because) = ⊤

either_settled : (test : Bool) (x y : Stand) → IsSettled x → IsSettled y → IsSettled (if test then x else y)
either_settled true x y first second = first
either_settled false x y first second = second

settled_behind : (line : ℕ) (newest : Option AtReport) → IsSettled (stand_behind line newest)
settled_behind line None = tt
settled_behind line (Some at) = either_settled (nat_lt line at.at.line) (stands.Nowhere (why.Passed line)) stands.Newest tt tt

settled_number : (newest : Option Seq) (number : Seq) → IsSettled (stand_of_number newest number true)
settled_number None number = tt
settled_number (Some newest) number = either_settled (newest.0 == number.0) stands.Newest (stands.Nowhere (why.NoSync number)) tt tt

settled_at_end : (a : Auditing) (of_what : Option Of) → a.has_ended ≡ true → IsSettled (stand a of_what)
settled_at_end a None ended = tt
settled_at_end a (Some (of.Line line)) ended = rw ended (settled_behind line (first_of a.course))
settled_at_end a (Some (of.Sequence number)) ended = rw ended (settled_number _ number)

-- each result is judged
judged_so : (a : Auditing) (told : Told) (stands_so : Stand) → IsSettled stands_so → IsNone (held_as a told stands_so) → ⊥
judged_so a told stands.Newest it none = none
judged_so a told (stands.Nowhere because) it none = none
judged_so a told stands.Later it none = it

none_with : (others : List Told) (a : Auditing) (now : Option Held) → (IsNone now → ⊥) → a.has_ended ≡ true
    → ((b : Auditing) → b.awaiting ≡ others → b.has_ended ≡ true → (settled_from others b).awaiting ≡ [])
    → (settled_with now others (settled_from others) a).awaiting ≡ []
none_with others a None some ended rest = absurd (some tt)
none_with others a (Some one) some ended rest = rest (with_judged one (record a { awaiting = others })) refl ended

none_from : (waiting : List Told) (a : Auditing) → a.awaiting ≡ waiting → a.has_ended ≡ true → (settled_from waiting a).awaiting ≡ []
unfolding settled_from
none_from [] a are ended = are
none_from (told ∷ others) a are ended =
    none_with others a (held_now a told) (judged_so a told (stand a told.of) (settled_at_end a told.of ended)) ended (none_from others)

-- none is left
pub none_settled : (a : Auditing) → a.has_ended ≡ true → (settled a).awaiting ≡ []
none_settled a ended = none_from a.awaiting a refl ended

-- ---- calls
kept_report : (c : ReportAt) (before after : Auditing) → TakesReportAt c before after → kept after ≡ kept before
kept_report c before after (course, gaps, takes, is) =
    let passed : Auditing = passed_by (c.line - 1) before in
    let learned_first : List Held = all_learned halves.Response gaps.exchange passed.held in
    ap kept is
    ∙ kept_settled (record passed {
      course = course;
      held = learned_gaps gaps passed.held;
      coverage = with_half c.by gaps.sync passed.coverage;
    })
    ∙ ap (λ (them : List Told). them ++ passed.awaiting) (all_of_some halves.Sync gaps.sync learned_first
    ∙ all_of_some halves.Response gaps.exchange passed.held)
    ∙ kept_settled (record before { passed = max before.passed (c.line - 1) })

-- one more result among those that are kept
kept_told : (of_what : Option Of) (one : Told) (a : Auditing) → IsPermutation (one ∷ kept a) (kept (told_as of_what one a))
kept_told None one a =
    let held = held_of_newest a one in
    subst (IsPermutation (one ∷ kept a)) (ap (λ (it : Told). map told_in a.held ++ it ∷ a.awaiting) (sym (of_newest a one))
    ∙ sym (judged_more a.held held a.awaiting))
    (IsPermutation-sym _ _ (IsPermutation-middle (map told_in a.held) one a.awaiting))
kept_told (Some it) one a =
    subst (IsPermutation (one ∷ kept a)) (append_assoc (map told_in a.held) a.awaiting (one ∷ [])
    ∙ sym (kept_settled (record a { awaiting = a.awaiting ++ one ∷ [] })))
    (IsPermutation-sym _ _ (IsPermutation-to_front (kept a) one))

-- what is handed out was the first of those that are held
-- something is there, or nothing: not both
abbrev IsSome : {X : Type 0} → Option X → Type 0
IsSome None = ⊥
IsSome (Some x) = ⊤

hands_kept : (before after : Auditing) (answer : Answer) (held : List Held) → before.held ≡ held → HandsOut before (Some answer) after held
    → kept before ≡ answer.told ∷ kept after
hands_kept before after answer [] are hands = absurd (subst IsSome (hands.0) tt)
hands_kept before after answer (one ∷ others) are hands =
    ap (λ (them : List Held). map told_in them ++ before.awaiting) are
    ∙ ap (λ (it : Told). it ∷ (map told_in others ++ before.awaiting)) (sym (ap (λ (a : Answer). a.told) hands.1 ∙ of_last_word one))
    ∙ ap (λ (a : Auditing). answer.told ∷ kept a) (sym hands.2)

hands_ended : (before after : Auditing) (answer : Answer) (held : List Held) → HandsOut before (Some answer) after held
    → (after.has_ended ≡ before.has_ended) × (after.awaiting ≡ before.awaiting)
hands_ended before after answer [] hands = absurd (subst IsSome (hands.0) tt)
hands_ended before after answer (one ∷ others) hands =
    (ap (λ (a : Auditing). a.has_ended) hands.2, ap (λ (a : Auditing). a.awaiting) hands.2)

none_told : (of_what : Option Of) (one : Told) (a : Auditing) → (told_as of_what one a).has_ended ≡ true
    → (a.has_ended ≡ true → a.awaiting ≡ []) → (told_as of_what one a).awaiting ≡ []
none_told None one a ended so = so ended
none_told (Some it) one a ended so =
    let waiting : Auditing = record a { awaiting = a.awaiting ++ one ∷ [] } in
    none_settled waiting (sym (ended_settled waiting) ∙ ended)

-- where none is handed out at the end, none is held
abbrev IsTrue : Bool → Type 0
IsTrue true = ⊤
IsTrue false = ⊥

at_the_end : (first last : Bool) → (first || true || last) ≡ true
at_the_end true last = refl
at_the_end false last = refl

true_not_false : true ≡ false → ⊥
true_not_false same = subst IsTrue same tt

hands_all : (a : Auditing) (held : List Held) → a.has_ended ≡ true → HandsOut a None a held → held ≡ []
hands_all a [] ended hands = refl
hands_all a (one ∷ others) ended hands = absurd (true_not_false (sym (at_the_end (is_decided one) (nat_lt 1024 (length a.held))) ∙ ap (λ (it : Bool). is_decided one || it || nat_lt 1024 (length a.held)) (sym ended) ∙ hands.0))

-- ---- all calls
module _ (tolerance : ℤ) where
  pub each_kept : (told : List Told) (answers : List Answer) (a : Auditing) → Runs tolerance told answers a
      → IsPermutation told (answered answers ++ kept a)
  each_kept _ _ _ (Begun a begins) =
      subst (IsPermutation []) (sym (ap (λ (them : List Held). map told_in them ++ a.awaiting) begins.held ∙ begins.awaiting)) (IsPermutation-refl [])
  each_kept _ _ _ (Reported told answers before after c runs takes) =
      subst (λ (them : List Told). IsPermutation told (answered answers ++ them)) (sym (kept_report c before after takes)) (each_kept _ _ _ runs)
  each_kept _ _ _ (Took told answers before one runs) =
      IsPermutation-trans _ _ _ (IsPermutation-cons one _ _ (each_kept _ _ _ runs))
      (IsPermutation-trans _ _ _ (IsPermutation-sym _ _ (IsPermutation-middle (answered answers) one (kept before)))
      (IsPermutation-append_right (answered answers) _ _ (kept_told one.of one before)))
  each_kept _ _ _ (Passed told answers before number runs) =
      subst (λ (them : List Told). IsPermutation told (answered answers ++ them))
      (sym (kept_settled (record before { passed = max before.passed number }))) (each_kept _ _ _ runs)
  each_kept _ _ _ (Ended told answers before runs) =
      subst (λ (them : List Told). IsPermutation told (answered answers ++ them))
      (sym (kept_settled (record before { has_ended = true }))) (each_kept _ _ _ runs)
  each_kept _ _ _ (Answered told answers before after answer runs hands) =
      IsPermutation-trans _ _ _ (subst (λ (them : List Told). IsPermutation told (answered answers ++ them))
      (hands_kept before after answer before.held refl hands) (each_kept _ _ _ runs))
      (IsPermutation-middle (answered answers) answer.told (kept after))

  pub none_waits : (told : List Told) (answers : List Answer) (a : Auditing) → Runs tolerance told answers a → a.has_ended ≡ true → a.awaiting ≡ []
  none_waits _ _ _ (Begun a begins) ended = begins.awaiting
  none_waits _ _ _ (Reported told answers before after c runs (course, gaps, takes, is)) ended =
      let passed : Auditing = passed_by (c.line - 1) before in
      let learned : Auditing = record passed {
        course = course;
        held = learned_gaps gaps passed.held;
        coverage = with_half c.by gaps.sync passed.coverage;
      } in
      ap (λ (a : Auditing). a.awaiting) is
      ∙ none_settled learned (sym (ended_settled learned) ∙ sym (ap (λ (a : Auditing). a.has_ended) is) ∙ ended)
  none_waits _ _ _ (Took told answers before one runs) ended = none_told one.of one before ended (none_waits _ _ _ runs)
  none_waits _ _ _ (Passed told answers before number runs) ended =
      let passed : Auditing = record before { passed = max before.passed number } in
      none_settled passed (sym (ended_settled passed) ∙ ended)
  none_waits _ _ _ (Ended told answers before runs) ended = none_settled (record before { has_ended = true }) refl
  none_waits _ _ _ (Answered told answers before after answer runs hands) ended =
      let same = hands_ended before after answer before.held hands in
      same.1 ∙ none_waits _ _ _ runs (sym same.0 ∙ ended)

  pub all_answered : (told : List Told) (answers : List Answer) (a : Auditing) → Runs tolerance told answers a → a.has_ended ≡ true
      → HandsOut a None a a.held → IsPermutation told (answered answers)
  all_answered told answers a runs ended hands =
      let nothing : kept a ≡ [] = ap (λ (them : List Held). map told_in them ++ a.awaiting) (hands_all a a.held ended hands) ∙ none_waits told answers a runs ended in
      subst (IsPermutation told) (ap (λ (them : List Told). answered answers ++ them) nothing ∙ append-nil (answered answers)) (each_kept told answers a runs)

pub none_passed_over : NoResultIsPassedOver
none_passed_over = record { each = each_kept; none_waits = none_waits; all = all_answered }
