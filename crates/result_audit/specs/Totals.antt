-- What results come to that were answered.
use Rattle.std.specs.Prelude.{ℕ, ℤ, pos, unsigned_abs, int_lt, Option, Some, None, if◌then◌else◌}
use Rattle.result_verdict.specs.declared.judged.Judged.{Judged}
use Rattle.result_verdict.specs.declared.verdict.Verdict.{Verdict}
use Rattle.result_verdict.specs.declared.verdict.Verdict.TheVariants as verdicts
use Rattle.result_audit.specs.declared.answer.Answer.{Answer}
use Rattle.result_audit.specs.declared.answer.Found.{Found}
use Rattle.result_audit.specs.declared.totals.Counts.{Counts}
use Rattle.result_audit.specs.declared.totals.Worst.{Worst}
use Rattle.result_audit.specs.declared.totals.Totals.{Totals}
use Rattle.result_audit.specs.Coverage.{one_more}
use Rattle.result_audit.specs.Held.{is_wrong}

-- one more has this verdict, or isn't judged
abbrev pub counted : Option Verdict → Counts → Counts
counted (Some verdicts.Exact) c = record c { exact = one_more c.exact }
counted (Some verdicts.Within) c = record c { within = one_more c.within }
counted (Some verdicts.Filtered) c = record c { filtered = one_more c.filtered }
counted (Some verdicts.Older) c = record c { older = one_more c.older }
counted (Some verdicts.Wrong) c = record c { wrong = one_more c.wrong }
counted None c = record c { unjudged = one_more c.unjudged }

-- an error without its sign
abbrev pub size : ℤ → ℤ
size error = pos (unsigned_abs error)

abbrev pub lesser : ℤ → ℤ → ℤ
lesser first second = if int_lt first second then first else second

abbrev pub greater : ℤ → ℤ → ℤ
greater first second = if int_lt first second then second else first

-- By how much a result is off at the least: its offset from that by its path delay or this from the newest delays, or else its offset from that
-- by the newest delay or its path delay from this. Of each pair the greater counts.
abbrev pub off_of : Judged → ℤ
off_of j = lesser (greater (size j.sum_error) j.beyond) (greater (size j.offset_error) (size j.path_error))

-- the worst once one more is wrong by so much, of equal ones the first
abbrev pub noticed : (line : ℕ) → (off : ℤ) → Option Worst → Worst
noticed line off None = record { line = line; off = off }
noticed line off (Some worst) = if int_lt worst.off off then record { line = line; off = off } else worst

-- the worst once one more was answered, of which a report is known or none
abbrev pub worst_with : Answer → Option Found → Option Worst → Option Worst
worst_with answer None worst = worst
worst_with answer (Some found) worst =
    if is_wrong answer then Some (noticed answer.told.line (off_of found.judged) worst) else worst

abbrev pub with_answer : Answer → Totals → Totals
with_answer answer t = record { counts = counted answer.verdict t.counts; worst = worst_with answer answer.found t.worst }

-- none was answered
abbrev pub no_answers : Totals
no_answers = record { counts = record { exact = 0; within = 0; filtered = 0; older = 0; wrong = 0; unjudged = 0 }; worst = None }
