-- The laws of results: a port's own ones are exact, and none is passed over. `laws::own_results_are_exact` and
-- `laws::no_result_is_passed_over` promise them. Lists of what came have the newest in front.
use Rattle.std.specs.Prelude.{◌≡◌, ℕ, true, ℤ, List, [], ◌∷◌, ◌++◌, map, Some, None, option_map, FitsSigned}
use Rattle.std.specs.List.Sorted.{IsPermutation}
use Rattle.std.specs.Int.{w128}
use Rattle.recording_lines.specs.declared.measurement.Half.TheVariants as halves
use Rattle.result_verdict.specs.Exact.{of_twice}
use Rattle.result_verdict.specs.declared.verdict.Verdict.TheVariants as verdicts
use Rattle.result_audit.specs.declared.answer.Answer.{Answer}
use Rattle.result_audit.specs.declared.held.Held.{Held}
use Rattle.result_audit.specs.declared.report_at.ReportAt.{ReportAt}
use Rattle.result_audit.specs.declared.told.Told.{Told}
use Rattle.result_audit.specs.Course.{bracket2_of}
use Rattle.result_audit.specs.Held.{is_decided, last_word}
use Rattle.result_audit.specs.Auditor.{Auditing, Begins, TakesReportAt, HandsOut, passed_by, with_told, at_end}

-- ---- a port's own results
-- a result has the two numbers of a report
pub record IsResultOf (c : ReportAt) (told : Told) : Type 0 where
  pub offset : told.offset ≡ of_twice c.report.offset2
  pub path : told.path ≡ Some (of_twice c.report.path2)

-- a result that was taken is exact, at a Sync by the report at it, and nothing may change that
pub record IsExactAtOnce (c : ReportAt) (told : Told) (before after : Auditing) : Type 0 where
  pub one : Held
  pub held : after.held ≡ before.held ++ one ∷ []
  pub result : one.answer.told ≡ told
  pub sync : c.by ≡ halves.Sync → option_map (λ found. found.at) one.answer.found ≡ Some c
  pub verdict : one.answer.verdict ≡ Some verdicts.Exact
  pub decided : is_decided one ≡ true
  pub said : last_word one ≡ one.answer

-- A report was taken, at a Sync or at a response, of which the bracket is a number of 128 bits, and then a result that has its numbers and
-- names nothing: it is exact whatever the tolerance.
abbrev pub OwnResultsAreExact : Type 0
OwnResultsAreExact = (c : ReportAt) (before after : Auditing) (told : Told) → FitsSigned w128 (bracket2_of c)
    → TakesReportAt c before after → told.of ≡ None → IsResultOf c told → IsExactAtOnce c told after (with_told told after)

-- ---- what becomes of results
-- these results were taken and these answers handed out, in whatever order calls came
pub data Runs (tolerance : ℤ) : (told : List Told) → (answers : List Answer) → Auditing → Type 0 where
  Begun : (a : Auditing) → Begins tolerance a → Runs tolerance [] [] a
  Reported : (told : List Told) (answers : List Answer) (before after : Auditing) (c : ReportAt) → Runs tolerance told answers before
      → TakesReportAt c before after → Runs tolerance told answers after
  Took : (told : List Told) (answers : List Answer) (before : Auditing) (one : Told) → Runs tolerance told answers before
      → Runs tolerance (one ∷ told) answers (with_told one before)
  Passed : (told : List Told) (answers : List Answer) (before : Auditing) (number : ℕ) → Runs tolerance told answers before
      → Runs tolerance told answers (passed_by number before)
  Ended : (told : List Told) (answers : List Answer) (before : Auditing) → Runs tolerance told answers before
      → Runs tolerance told answers (at_end before)
  Answered : (told : List Told) (answers : List Answer) (before after : Auditing) (answer : Answer) → Runs tolerance told answers before
      → HandsOut before (Some answer) after before.held → Runs tolerance told (answer ∷ answers) after

-- the results that are held, and those whose Sync may come yet
abbrev pub kept : Auditing → List Told
kept a = map (λ held. held.answer.told) a.held ++ a.awaiting

-- those of which these answers are
abbrev pub answered : List Answer → List Told
answered answers = map (λ answer. answer.told) answers

-- Each result that was taken was answered once, or is kept once, and no other was. Once nothing comes any more, none waits for its Sync, and
-- where no answer is handed out any more, each was answered.
pub record NoResultIsPassedOver : Type 0 where
  pub each : (tolerance : ℤ) (told : List Told) (answers : List Answer) (a : Auditing) → Runs tolerance told answers a
      → IsPermutation told (answered answers ++ kept a)
  pub none_waits : (tolerance : ℤ) (told : List Told) (answers : List Answer) (a : Auditing) → Runs tolerance told answers a
      → a.has_ended ≡ true → a.awaiting ≡ []
  pub all : (tolerance : ℤ) (told : List Told) (answers : List Answer) (a : Auditing) → Runs tolerance told answers a
      → a.has_ended ≡ true → HandsOut a None a a.held → IsPermutation told (answered answers)
