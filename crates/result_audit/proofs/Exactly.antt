-- A port's own results are exact.
use Rattle.std.proofs.Common.{◌≡◌, ◌∙◌, ℤ, ◌+ℤ◌, ◌-ℤ◌, Bool, true, false, List, Option, Some, None, MatchOption, FitsSigned, not, ◌||◌, ◌&&◌, ◌-◌, if◌then◌else◌, arith, refl, sym, ap, subst}
use Rattle.std.specs.Bool.{⊤}
use Rattle.std.specs.Prelude.{nat_lt, option_map}
use Rattle.std.specs.Option.{option_map_or}
use Rattle.std.specs.Int.{w128}
use Rattle.std.proofs.lemmas.Int.{ints}
use Rattle.recording_lines.specs.declared.measurement.Half.{Half}
use Rattle.recording_lines.specs.declared.measurement.Half.TheVariants as halves
use Rattle.result_verdict.specs.Exact.{of_twice, exact_within}
use Rattle.result_verdict.specs.declared.judged.Judged.{Judged}
use Rattle.result_verdict.specs.Verdict.{judged, verdict_of}
use Rattle.result_verdict.specs.declared.verdict.Verdict.{Verdict}
use Rattle.result_verdict.specs.declared.verdict.Verdict.TheVariants as verdicts
use Rattle.result_verdict.proofs.Verdicts.{latest_exact}
use Rattle.result_audit.specs.declared.course.AtReport.{AtReport}
use Rattle.result_audit.specs.declared.course.Course.{Course}
use Rattle.result_audit.specs.declared.course.Gaps.{Gaps}
use Rattle.result_audit.specs.declared.held.Held.{Held}
use Rattle.result_audit.specs.declared.report_at.ReportAt.{ReportAt}
use Rattle.result_audit.specs.declared.told.Of.{Of}
use Rattle.result_audit.specs.declared.told.Told.{Told}
use Rattle.result_audit.specs.declared.why.Why.TheVariants as why
use Rattle.result_audit.specs.Course.{IsAtReport, IsTooFar, TakesHalf, bracket2_of}
use Rattle.result_audit.specs.declared.answer.Answer.{Answer}
use Rattle.result_audit.specs.declared.answer.Found.{Found}
use Rattle.result_audit.specs.Held.{held_at, held_by, held_for, answer_by, doubted, why_wrong, is_verdict_wrong, held_without_sync, better, rank_of, is_decided, last_word, excused, is_of_offset}
use Rattle.result_audit.specs.Auditor.{Auditing, with_judged, told_as, held_of, held_of_newest, passed_by, learned_gaps}
use Rattle.result_audit.specs.Coverage.{with_half}
use Rattle.result_audit.specs.Law.{IsResultOf, IsExactAtOnce, OwnResultsAreExact}
use Rattle.result_audit.proofs.Kept.{course_settled, of_at}

-- ---- by the readings at a Sync
offset_by : (offset2 path2 : ℤ) → of_twice offset2 ≡ of_twice (offset2 +ℤ path2) -ℤ of_twice path2
offset_by offset2 path2 = omega (arith, ints)

verdict_at : (c : ReportAt) (delays : List (Option ℤ)) (at : AtReport) (told : Told) (tolerance : ℤ) → IsAtReport c delays at → IsResultOf c told
    → verdict_of at.known told.offset (of_twice c.report.path2) tolerance ≡ verdicts.Exact
verdict_at c delays at told tolerance is result =
    let offset : told.offset ≡ at.known.bracket -ℤ at.known.latest =
    result.offset ∙ offset_by c.report.offset2 c.report.path2 ∙ sym (ap (λ (it : ℤ). it -ℤ of_twice c.report.path2) is.bracket) ∙ ap (λ (it : ℤ). at.known.bracket -ℤ it) (sym is.latest) in
    ap (λ (it : ℤ). verdict_of at.known it (of_twice c.report.path2) tolerance) offset
    ∙ ap (λ (it : ℤ). verdict_of at.known (at.known.bracket -ℤ at.known.latest) it tolerance) (sym is.latest)
    ∙ latest_exact at.known tolerance

abbrev IsTrue : Bool → Type 0
IsTrue true = ⊤
IsTrue false = ⊥

-- of two the second
second_of : (test : Bool) (x y : Held) → test ≡ false → (if test then x else y) ≡ y
second_of true x y is = absurd (subst IsTrue is tt)
second_of false x y is = refl

-- what is held of it
abbrev exactly : AtReport → Told → (tolerance path : ℤ) → Held
exactly at told tolerance path = held_for (answer_by told at (judged at.known told.offset path tolerance))

held_exact : (at : AtReport) (told : Told) (tolerance path : ℤ) → verdict_of at.known told.offset path tolerance ≡ verdicts.Exact
    → held_by told at tolerance (judged at.known told.offset path tolerance) ≡ exactly at told tolerance path
held_exact at told tolerance path exact =
    let j : Judged = judged at.known told.offset path tolerance in
    second_of (is_verdict_wrong (Some j.verdict)) (doubted at (why_wrong told j tolerance) (held_for (answer_by told at j)))
    (held_for (answer_by told at j)) (ap (λ (it : Verdict). is_verdict_wrong (Some it)) exact)

abbrev by_path : AtReport → Told → (tolerance : ℤ) → Option ℤ → Held
by_path at told tolerance path = option_map_or (λ path. held_by told at tolerance (judged at.known told.offset path tolerance))
    (option_map_or (λ path. Some path) path (exact_within (at.known.bracket -ℤ told.offset))) (held_without_sync told why.TooFar)

-- ---- behind a report
at_newest : (c : ReportAt) (delays : List (Option ℤ)) (newest : Option AtReport) → FitsSigned w128 (bracket2_of c)
    → MatchOption newest (IsTooFar c) (IsAtReport c delays) → (at : AtReport) × (newest ≡ Some at) × IsAtReport c delays at
at_newest c delays None fits is = absurd (is fits)
at_newest c delays (Some at) fits is = (at, refl, is)

-- what is held of it
abbrev exact_by : AtReport → Told → (tolerance : ℤ) → (c : ReportAt) → Held
exact_by at told tolerance c = exactly at told tolerance (of_twice c.report.path2)

held_is : (c : ReportAt) (delays : List (Option ℤ)) (at : AtReport) (told : Told) (tolerance : ℤ) → IsAtReport c delays at → IsResultOf c told
    → held_at told at tolerance ≡ exact_by at told tolerance c
held_is c delays at told tolerance is result =
    ap (by_path at told tolerance) result.path ∙ held_exact at told tolerance (of_twice c.report.path2) (verdict_at c delays at told tolerance is result)

-- one with the best verdict
pub record IsBest (told : Told) (held : Held) : Type 0 where
  pub result : held.answer.told ≡ told
  pub verdict : held.answer.verdict ≡ Some verdicts.Exact

best_at : (c : ReportAt) (delays : List (Option ℤ)) (at : AtReport) (told : Told) (tolerance : ℤ) → IsAtReport c delays at → IsResultOf c told
    → IsBest told (held_at told at tolerance)
best_at c delays at told tolerance is result =
    subst (IsBest told) (sym (held_is c delays at told tolerance is result)) (record {
      result = refl;
      verdict = ap (λ (it : Verdict). Some it) (verdict_at c delays at told tolerance is result);
    })

-- the better of two, of which the second is best
best_verdict : (first : Option Verdict) → nat_lt 0 (rank_of first) ≡ false → first ≡ Some verdicts.Exact
best_verdict None is = absurd (subst IsTrue is tt)
best_verdict (Some verdicts.Exact) is = refl
best_verdict (Some verdicts.Within) is = absurd (subst IsTrue is tt)
best_verdict (Some verdicts.Filtered) is = absurd (subst IsTrue is tt)
best_verdict (Some verdicts.Older) is = absurd (subst IsTrue is tt)
best_verdict (Some verdicts.Wrong) is = absurd (subst IsTrue is tt)

better_of : (told : Told) (first second : Held) (test : Bool) → test ≡ nat_lt 0 (rank_of first.answer.verdict) → first.answer.told ≡ told
    → IsBest told second → IsBest told (if test then second else first)
better_of told first second true is of_it best = best
better_of told first second false is of_it best = record { result = of_it; verdict = best_verdict first.answer.verdict (sym is) }

best_better : (told : Told) (first second : Held) → first.answer.told ≡ told → IsBest told second → IsBest told (better first second)
best_better told first second of_it best =
    better_of told first second (nat_lt (rank_of second.answer.verdict) (rank_of first.answer.verdict))
    (ap (λ (it : Option Verdict). nat_lt (rank_of it) (rank_of first.answer.verdict)) best.verdict) of_it best

-- nothing may change it
decided : (told : Told) (held : Held) → IsBest told held → is_decided held ≡ true
decided told held best = ap (λ (it : Option Verdict). not (is_verdict_wrong it) || (not held.awaits_sync && not held.awaits_exchange)) best.verdict

last_of : (sync exchange of_offset : Bool) (answer first second : Answer)
    → (if sync && (false && of_offset) then first else if exchange && false then second else answer) ≡ answer
last_of true true of_offset answer first second = refl
last_of true false of_offset answer first second = refl
last_of false true of_offset answer first second = refl
last_of false false of_offset answer first second = refl

said_last : (told : Told) (held : Held) → IsBest told held → last_word held ≡ held.answer
said_last told held best =
    let first : Answer = excused (why.NothingBehind halves.Sync) held.answer in
    let second : Answer = excused (why.NothingBehind halves.Response) held.answer in
    ap (λ (it : Option Verdict). if held.awaits_sync && (is_verdict_wrong it && is_of_offset held.answer.why) then first
    else if held.awaits_exchange && is_verdict_wrong it then second else held.answer) best.verdict
    ∙ last_of held.awaits_sync held.awaits_exchange (is_of_offset held.answer.why) held.answer first second

at_once : (c : ReportAt) (told : Told) (after : Auditing) → IsBest told (held_of_newest after told)
    → (c.by ≡ halves.Sync → option_map (λ (found : Found). found.at) (held_of_newest after told).answer.found ≡ Some c)
    → IsExactAtOnce c told after (with_judged (held_of_newest after told) after)
at_once c told after best sync = record {
  one = held_of_newest after told;
  held = refl;
  result = best.result;
  sync = sync;
  verdict = best.verdict;
  decided = decided told (held_of_newest after told) best;
  said = said_last told (held_of_newest after told) best;
}

-- of two reports, of which one or the other is this
abbrev two : Auditing → Told → (newest behind : Option AtReport) → Held
two after told newest behind = held_of after told newest behind

of_sync : (c : ReportAt) (delays : List (Option ℤ)) (at : AtReport) (told : Told) (after : Auditing) → after.course.newest ≡ Some at
    → after.course.behind ≡ None → IsAtReport c delays at → IsResultOf c told → held_of_newest after told ≡ held_at told at after.tolerance
of_sync c delays at told after newest behind is result =
    ap (λ (it : Option AtReport). two after told it after.course.behind) newest ∙ ap (two after told (Some at)) behind

found_at : (c : ReportAt) (delays : List (Option ℤ)) (at : AtReport) (told : Told) (tolerance : ℤ) → IsAtReport c delays at → IsResultOf c told
    → option_map (λ (found : Found). found.at) (held_at told at tolerance).answer.found ≡ Some c
found_at c delays at told tolerance is result =
    ap (λ (held : Held). option_map (λ (found : Found). found.at) held.answer.found) (held_is c delays at told tolerance is result)
    ∙ ap (λ (it : ReportAt). Some it) is.at_is

of_response : (c : ReportAt) (delays : List (Option ℤ)) (at : AtReport) (told : Told) (after : Auditing) (newest : Option AtReport)
    → IsAtReport c delays at → IsResultOf c told → IsBest told (two after told newest (Some at))
of_response c delays at told after None is result = best_at c delays at told after.tolerance is result
of_response c delays at told after (Some first) is result =
    best_better told (held_at told first after.tolerance) (held_at told at after.tolerance) (of_at told first after.tolerance)
    (best_at c delays at told after.tolerance is result)

abbrev reported : ReportAt → Course → Gaps → Auditing → Auditing
reported c course gaps passed = record passed {
  course = course;
  held = learned_gaps gaps passed.held;
  coverage = with_half c.by gaps.sync passed.coverage;
}

abbrev IsHalf : Half → Half → Type 0
IsHalf halves.Sync halves.Sync = ⊤
IsHalf halves.Response halves.Response = ⊤
IsHalf halves.Sync halves.Response = ⊥
IsHalf halves.Response halves.Sync = ⊥

exact_half : (half : Half) (c : ReportAt) (old course : Course) (gaps : Gaps) (told : Told) (after : Auditing) → c.by ≡ half
    → FitsSigned w128 (bracket2_of c) → TakesHalf half c old course gaps → after.course ≡ course → IsResultOf c told
    → IsExactAtOnce c told after (with_judged (held_of_newest after told) after)
exact_half halves.Sync c old course gaps told after by fits takes is result =
    let (at, there, known) = at_newest c course.delays.delays.items course.newest fits takes.1.newest in
    let same = of_sync c course.delays.delays.items at told after (ap (λ (it : Course). it.newest) is ∙ there)
    (ap (λ (it : Course). it.behind) is ∙ takes.1.behind) known result in
    at_once c told after (subst (IsBest told) (sym same) (best_at c course.delays.delays.items at told after.tolerance known result))
    (λ sync. ap (λ (held : Held). option_map (λ (found : Found). found.at) held.answer.found) same
    ∙ found_at c course.delays.delays.items at told after.tolerance known result)
exact_half halves.Response c old course gaps told after by fits takes is result =
    let (at, there, known) = at_newest c course.delays.delays.items course.behind fits takes.1.behind in
    at_once c told after (subst (λ (it : Option AtReport). IsBest told (two after told after.course.newest it))
    (sym (ap (λ (it : Course). it.behind) is ∙ there)) (of_response c course.delays.delays.items at told after after.course.newest known result))
    (λ sync. absurd (subst (IsHalf halves.Response) (sym by ∙ sync) tt))

pub own_exact : OwnResultsAreExact
own_exact c before after told fits (course, gaps, takes, is) names result =
    let passed : Auditing = passed_by (c.line - 1) before in
    let taken : after.course ≡ course = ap (λ (a : Auditing). a.course) is ∙ course_settled (reported c course gaps passed) in
    subst (λ (it : Option Of). IsExactAtOnce c told after (told_as it told after)) (sym names)
    (exact_half c.by c passed.course course gaps told after refl fits takes taken result)
