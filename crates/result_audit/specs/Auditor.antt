-- What becomes of results, as reports and results come.
use Rattle.std.specs.Prelude.{◌≡◌, ◌==◌, ◌||◌, ◌&&◌, ℕ, nat_lt, max, Bool, true, false, not, ℤ, List, [], ◌∷◌, ◌++◌, ◌-◌, length, map, Option, Some, None, if◌then◌else◌, MatchOption}
use Rattle.ptp_units.specs.Sequence.{is_newer}
use Rattle.ptp_units.specs.declared.sequence.Seq.{Seq}
use Rattle.result_audit.specs.declared.answer.Answer.{Answer}
use Rattle.result_audit.specs.declared.auditor.Auditor.{Auditor}
use Rattle.result_audit.specs.declared.auditor.Stand.{Stand}
use Rattle.result_audit.specs.declared.auditor.Stand.TheVariants as stands
use Rattle.result_audit.specs.declared.course.AtReport.{AtReport}
use Rattle.result_audit.specs.declared.course.Course.{Course}
use Rattle.result_audit.specs.declared.course.Gap.{Gap}
use Rattle.result_audit.specs.declared.course.Gaps.{Gaps}
use Rattle.result_audit.specs.declared.coverage.Coverage.{Coverage}
use Rattle.result_audit.specs.declared.held.Held.{Held}
use Rattle.result_audit.specs.declared.report_at.ReportAt.{ReportAt}
use Rattle.result_audit.specs.declared.told.Of.{Of}
use Rattle.result_audit.specs.declared.told.Of.TheVariants as of
use Rattle.result_audit.specs.declared.told.Told.{Told}
use Rattle.result_audit.specs.declared.why.Why.TheVariants as why
use Rattle.result_audit.specs.Course.{IsUntold, TakesReport, first_of}
use Rattle.recording_lines.specs.declared.measurement.Half.{Half}
use Rattle.recording_lines.specs.declared.measurement.Half.TheVariants as halves
use Rattle.result_audit.specs.Coverage.{covers_nothing, with_half, with_held}
use Rattle.result_audit.specs.Held.{held_at, held_without_sync, better, learned, is_decided, last_word}

-- what was read; the results whose Sync may come yet, and those that are judged, both in order; and how many Syncs have results
pub record Auditing : Type 0 where
  pub tolerance : ℤ
  pub course : Course
  pub awaiting : List Told
  pub held : List Held
  pub passed : ℕ
  pub has_ended : Bool
  pub coverage : Coverage

abbrev pub auditing_of : Auditor → Auditing
auditing_of auditor = record {
  tolerance = auditor.tolerance;
  course = auditor.course;
  awaiting = auditor.awaiting.items;
  held = auditor.held.items;
  passed = auditor.passed;
  has_ended = auditor.has_ended;
  coverage = auditor.coverage;
}

-- nothing was told
pub record Begins (tolerance : ℤ) (a : Auditing) : Type 0 where
  pub tolerance_is : a.tolerance ≡ tolerance
  pub course : IsUntold a.course
  pub awaiting : a.awaiting ≡ []
  pub held : a.held ≡ []
  pub passed : a.passed ≡ 0
  pub ended : a.has_ended ≡ false
  pub coverage : a.coverage ≡ covers_nothing

-- ---- where the Sync of a result stands
-- the newest one, which came at this line or in front of it
abbrev pub stand_behind : (line : ℕ) → Option AtReport → Stand
stand_behind line None = stands.Nowhere why.NothingCame
stand_behind line (Some at) =
    if nat_lt line at.at.line then stands.Nowhere (why.Passed line) else stands.Newest

-- that of this number: the newest one, or one that comes yet, which is newer
abbrev pub stand_of_number : Option Seq → (number : Seq) → (has_ended : Bool) → Stand
stand_of_number None number has_ended = if has_ended then stands.Nowhere (why.NoSync number) else stands.Later
stand_of_number (Some newest) number has_ended =
    if newest.0 == number.0 then stands.Newest
    else if not has_ended && is_newer number.0 newest.0 then stands.Later
    else stands.Nowhere (why.NoSync number)

-- that which a result names
abbrev pub stand_of : Auditing → Of → Stand
stand_of a (of.Line line) =
    if not a.has_ended && nat_lt a.passed line then stands.Later else stand_behind line (first_of a.course)
stand_of a (of.Sequence number) = stand_of_number a.course.sync number a.has_ended

-- that of a result: where it names none, the newest one
abbrev pub stand : Auditing → Option Of → Stand
stand a None = stands.Newest
stand a (Some it) = stand_of a it

-- ---- what is said of it
-- by the report at the newest Sync, or by that behind it
abbrev pub held_of : Auditing → Told → (newest behind : Option AtReport) → Held
held_of a told None None = held_without_sync told why.NothingCame
held_of a told (Some at) None = held_at told at a.tolerance
held_of a told None (Some at) = held_at told at a.tolerance
held_of a told (Some at) (Some behind) = better (held_at told at a.tolerance) (held_at told behind a.tolerance)

abbrev pub held_of_newest : Auditing → Told → Held
held_of_newest a told = held_of a told a.course.newest a.course.behind

-- one whose Sync stands so; none where that may come yet
abbrev pub held_as : Auditing → Told → Stand → Option Held
held_as a told stands.Newest = Some (held_of_newest a told)
held_as a told stands.Later = None
held_as a told (stands.Nowhere because) = Some (held_without_sync told because)

abbrev pub held_now : Auditing → Told → Option Held
held_now a told = held_as a told (stand a told.of)

-- one more is judged, and its Sync has a result
abbrev pub with_judged : Held → Auditing → Auditing
with_judged one a = record a { held = a.held ++ one ∷ []; coverage = with_held one a.coverage }

-- the first of those whose Sync may come yet is judged, and then the rest; or it waits on, and so do the others
abbrev pub settled_with : Option Held → (others : List Told) → (rest : Auditing → Auditing) → Auditing → Auditing
settled_with None others rest a = a
settled_with (Some one) others rest a = rest (with_judged one (record a { awaiting = others }))

-- the first ones of those that wait, up to one whose Sync may come yet, are judged
unfoldable pub settled_from : List Told → Auditing → Auditing
settled_from [] a = a
settled_from (told ∷ others) a = settled_with (held_now a told) others (settled_from others) a

abbrev pub settled : Auditing → Auditing
settled a = settled_from a.awaiting a

-- ---- what comes
-- all up to this line or packet was taken
abbrev pub passed_by : ℕ → Auditing → Auditing
passed_by number a = settled (record a { passed = max a.passed number })

-- those that are held learn what lies before a message of a half, where one came
abbrev pub all_learned : Half → Option Gap → List Held → List Held
all_learned half None held = held
all_learned half (Some gap) held = map (learned half gap) held

-- they learn what lies before the exchange of a report and before its Sync, where these are new
abbrev pub learned_gaps : Gaps → List Held → List Held
learned_gaps gaps held = all_learned halves.Sync gaps.sync (all_learned halves.Response gaps.exchange held)

-- a report
abbrev pub with_report : ReportAt → Course → Gaps → Auditing → Auditing
with_report c course gaps a = settled (record a {
  course = course;
  held = learned_gaps gaps a.held;
  coverage = with_half c.by gaps.sync a.coverage;
})

abbrev pub TakesReportNow : ReportAt → (before after : Auditing) → Type 0
TakesReportNow c before after =
    (course : Course) × (gaps : Gaps) × TakesReport c before.course course gaps × (after ≡ with_report c course gaps before)

-- all in front of it was taken
abbrev pub TakesReportAt : ReportAt → (before after : Auditing) → Type 0
TakesReportAt c before after = TakesReportNow c (passed_by (c.line - 1) before) after

-- a result, which names its Sync, or is of the newest one
abbrev pub awaiting_with : Told → Auditing → Auditing
awaiting_with told a = settled (record a { awaiting = a.awaiting ++ told ∷ [] })

abbrev pub told_as : Option Of → Told → Auditing → Auditing
told_as None told a = with_judged (held_of_newest a told) a
told_as (Some it) told a = awaiting_with told a

abbrev pub with_told : Told → Auditing → Auditing
with_told told a = told_as told.of told a

-- nothing comes any more
abbrev pub at_end : Auditing → Auditing
at_end a = settled (record a { has_ended = true })

-- ---- what is handed out
-- so many are held at the most
abbrev pub held_most : ℕ
held_most = 1024

-- the first of those that are held: nothing may change it, or nothing comes any more, or too many are held
abbrev pub is_ready : Auditing → Held → Bool
is_ready a held = is_decided held || a.has_ended || nat_lt held_most (length a.held)

-- it is handed out
abbrev pub HandsOut : (before : Auditing) → Option Answer → (after : Auditing) → List Held → Type 0
HandsOut before answer after [] = (answer ≡ None) × (after ≡ before)
HandsOut before answer after (held ∷ others) =
    MatchOption answer ((is_ready before held ≡ false) × (after ≡ before))
    (λ a. (is_ready before held ≡ true) × (a ≡ last_word held) × (after ≡ record before { held = others }))
