-- What is said of a result by the report that it is of, and what a message that is missing changes of it.
use Rattle.std.specs.Prelude.{◌&&◌, ◌||◌, Bool, true, false, not, ℤ, ◌-ℤ◌, pos, unsigned_abs, int_le, ℕ, nat_lt, Option, Some, None, is_none, if◌then◌else◌}
use Rattle.std.specs.Option.{option_map_or, option_or}
use Rattle.recording_lines.specs.declared.measurement.Half.{Half}
use Rattle.recording_lines.specs.declared.measurement.Half.TheVariants as halves
use Rattle.result_verdict.specs.declared.judged.Judged.{Judged}
use Rattle.result_verdict.specs.declared.known.Known.{Known}
use Rattle.result_verdict.specs.declared.verdict.Verdict.{Verdict}
use Rattle.result_verdict.specs.declared.verdict.Verdict.TheVariants as verdicts
use Rattle.result_verdict.specs.Exact.{exact_within}
use Rattle.result_verdict.specs.Seconds.{whole_seconds}
use Rattle.result_verdict.specs.Verdict.{judged}
use Rattle.result_audit.specs.declared.answer.Answer.{Answer}
use Rattle.result_audit.specs.declared.course.AtReport.{AtReport}
use Rattle.result_audit.specs.declared.course.Gap.{Gap}
use Rattle.result_audit.specs.declared.held.Held.{Held}
use Rattle.result_audit.specs.declared.told.Told.{Told}
use Rattle.result_audit.specs.declared.why.Why.{Why}
use Rattle.result_audit.specs.declared.why.Why.TheVariants as why
use Rattle.result_audit.specs.declared.course.Gap.TheVariants as gaps

-- the verdict of an answer is that it is wrong
abbrev pub is_verdict_wrong : Option Verdict → Bool
is_verdict_wrong None = false
is_verdict_wrong (Some verdicts.Exact) = false
is_verdict_wrong (Some verdicts.Within) = false
is_verdict_wrong (Some verdicts.Filtered) = false
is_verdict_wrong (Some verdicts.Older) = false
is_verdict_wrong (Some verdicts.Wrong) = true

abbrev pub is_wrong : Answer → Bool
is_wrong answer = is_verdict_wrong answer.verdict

-- one of which no Sync is known isn't judged
abbrev pub answer_without_sync : Told → Why → Answer
answer_without_sync told because = record { told = told; found = None; verdict = None; why = Some because }

abbrev pub held_without_sync : Told → Why → Held
held_without_sync told because =
    record { answer = answer_without_sync told because; awaits_sync = false; awaits_exchange = false }

-- it isn't judged after all
abbrev pub excused : Why → Answer → Answer
excused because answer = record answer { verdict = None; why = Some because }

-- ---- by its Sync
-- The path delay of a result: that which it tells, or where none is read that by which its offset is.
abbrev pub path_of : Told → Known → Option ℤ
path_of told known = option_map_or (λ path. Some path) told.path (exact_within (known.bracket -ℤ told.offset))

-- so many whole seconds the offset is off by, from that by the path delay or else from that by the newest delay
abbrev pub seconds_off : Judged → (tolerance : ℤ) → Option ℕ
seconds_off j tolerance = option_or (whole_seconds tolerance j.sum_error) (whole_seconds tolerance j.offset_error)

-- why a wrong result is wrong, where its path delay is read
abbrev pub why_with_path : (sum offset : Bool) → Judged → (tolerance : ℤ) → Why
why_with_path true offset j tolerance = why.PathBeyond j.beyond
why_with_path false true j tolerance = why.PathOff j.path_error
why_with_path false false j tolerance = why.OffsetOff j.sum_error j.offset_error (seconds_off j tolerance)

-- why it is wrong
abbrev pub why_wrong : Told → Judged → (tolerance : ℤ) → Why
why_wrong told j tolerance =
    if is_none told.path then why.NoDelay j.offset_error (whole_seconds tolerance j.offset_error)
    else why_with_path (int_le (pos (unsigned_abs j.sum_error)) tolerance) (int_le (pos (unsigned_abs j.offset_error)) tolerance) j tolerance

-- It is so whatever the delays were that aren't known: the offset is by none of its own path delay and the newest delay.
abbrev pub is_beyond_doubt : Why → Bool
is_beyond_doubt (why.OffsetOff sum offset seconds) = true
is_beyond_doubt because = false

-- ---- what is missing
-- it waits for the next message of a half
abbrev pub awaits : Half → Held → Bool
awaits halves.Sync held = held.awaits_sync
awaits halves.Response held = held.awaits_exchange

-- it doesn't any more
abbrev pub told_of : Half → Held → Held
told_of halves.Sync held = record held { awaits_sync = false }
told_of halves.Response held = record held { awaits_exchange = false }

-- a wrong one isn't judged for this reason
abbrev pub with_doubt : Why → Held → Held
with_doubt because held = if is_wrong held.answer then record held { answer = excused because held.answer } else held

-- what lies beside its own message of a half, where that is anything
abbrev pub with_gap : Half → Gap → Held → Held
with_gap half gaps.None held = held
with_gap half (gaps.Missing number) held = with_doubt (why.Missing half number) held
with_gap half gaps.Anew held = with_doubt (why.BeganAnew half) held

-- what lies between its message of a half and the next one
abbrev pub learned : Half → Gap → Held → Held
learned half gap held = if awaits half held then with_gap half gap (told_of half held) else held

-- a wrong one waits for the next messages, unless something is missing before an exchange that came
abbrev pub with_behind : Option Gap → Held → Held
with_behind None held = record held { awaits_sync = true; awaits_exchange = true }
with_behind (Some gap) held = with_gap halves.Response gap (record held { awaits_sync = true; awaits_exchange = true })

-- a wrong one, for this reason: it waits, or isn't judged where a delay isn't known
abbrev pub doubted : AtReport → Why → Held → Held
doubted at because held =
    if not at.is_whole && not (is_beyond_doubt because) then record held { answer = excused why.Unknown held.answer }
    else with_behind at.behind_exchange (record held { answer = record held.answer { why = Some because } })

-- what is said of a result at once, by this path delay
abbrev pub answer_by : Told → AtReport → Judged → Answer
answer_by told at j =
    record { told = told; found = Some (record { at = at.at; judged = j }); verdict = Some j.verdict; why = None }

-- one that waits for nothing
abbrev pub held_for : Answer → Held
held_for answer = record { answer = answer; awaits_sync = false; awaits_exchange = false }

abbrev pub held_by : Told → AtReport → (tolerance : ℤ) → Judged → Held
held_by told at tolerance j =
    if is_verdict_wrong (Some j.verdict) then doubted at (why_wrong told j tolerance) (held_for (answer_by told at j))
    else held_for (answer_by told at j)

-- one of this report
abbrev pub held_at : Told → AtReport → (tolerance : ℤ) → Held
held_at told at tolerance =
    option_map_or (λ path. held_by told at tolerance (judged at.known told.offset path tolerance))
    (path_of told at.known) (held_without_sync told why.TooFar)

-- how good a verdict is: 0 is best, and none is better than a wrong one
abbrev pub rank_of : Option Verdict → ℕ
rank_of (Some verdicts.Exact) = 0
rank_of (Some verdicts.Within) = 1
rank_of (Some verdicts.Filtered) = 2
rank_of (Some verdicts.Older) = 3
rank_of None = 4
rank_of (Some verdicts.Wrong) = 5

-- of a result that may be of two reports that with the better verdict, and of equal ones the first
abbrev pub better : Held → Held → Held
better first second = if nat_lt (rank_of second.answer.verdict) (rank_of first.answer.verdict) then second else first

-- nothing may change what is said of it
abbrev pub is_decided : Held → Bool
is_decided held = not (is_wrong held.answer) || (not held.awaits_sync && not held.awaits_exchange)

-- an offset alone is wrong, which may be that of another Sync
abbrev pub is_of_offset : Option Why → Bool
is_of_offset None = false
is_of_offset (Some (why.OffsetOff sum offset seconds)) = true
is_of_offset (Some (why.NoDelay offset seconds)) = true
is_of_offset (Some because) = false

-- what is said of it when it is handed out: where no Sync came behind its own, an offset alone accuses nobody, and where no exchange did, nothing
abbrev pub last_word : Held → Answer
last_word held =
    if held.awaits_sync && (is_wrong held.answer && is_of_offset held.answer.why) then excused (why.NothingBehind halves.Sync) held.answer
    else if held.awaits_exchange && is_wrong held.answer then excused (why.NothingBehind halves.Response) held.answer
    else held.answer
