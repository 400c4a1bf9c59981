-- Results worked by hand: a port's own ones at its Sync and at the next response, and one that names a later Sync which never comes, to the end; and a slave that
-- begins anew.
use Rattle.std.proofs.Common.{◌≡◌, ◌*◌, ◌^◌, ℕ, ℤ, pos, [], ◌∷◌, true, false, Some, None, FitsSigned, refl, rules}
use Rattle.std.specs.Int.{w128}
use Rattle.std.specs.List.Sorted.{IsPermutation}
use Rattle.std.specs.Option.{option_map_or}
use Rattle.slave_port.specs.declared.exchange.LastExchange.{LastExchange}
use Rattle.recording_lines.specs.declared.measurement.Half.TheVariants as halves
use Rattle.result_audit.specs.declared.answer.Answer.{Answer}
use Rattle.result_audit.specs.declared.answer.Found.{Found}
use Rattle.result_audit.specs.declared.course.AtReport.{AtReport}
use Rattle.result_audit.specs.declared.course.Course.{Course}
use Rattle.result_audit.specs.declared.course.Gap.TheVariants as gaps
use Rattle.result_audit.specs.declared.report_at.ReportAt.{ReportAt}
use Rattle.result_audit.specs.declared.told.Of.TheVariants as of
use Rattle.result_audit.specs.declared.told.Told.{Told}
use Rattle.result_audit.specs.declared.why.Why.TheVariants as why
use Rattle.result_audit.specs.Course.{sync_gaps, gap_to_other, delays_at_other, since_at_other, bracket2_of}
use Rattle.result_audit.specs.Coverage.{covers_nothing, with_half, with_result, without_result}
use Rattle.result_audit.specs.Held.{last_word, answer_without_sync, held_without_sync}
use Rattle.result_audit.specs.Auditor.{Auditing, Begins, TakesReportAt, with_told, at_end, settled_from, held_of_newest}
use Rattle.result_audit.specs.Law.{IsExactAtOnce, Runs, Begun, Reported, Took, Ended, Answered}
use Rattle.result_audit.proofs.Exactly.{own_exact}
use Rattle.result_audit.proofs.Kept.{all_answered}

-- so many nanoseconds, and twice them as a report has them
abbrev ns : ℕ → ℤ
ns n = pos (n * 10 ^ 17)

abbrev twice : ℕ → ℤ
twice n = pos (n * 131072)

-- a report by Sync 10 and exchange 7, of line 4: offset 350 ns, path delay 850 ns
abbrev exchange : LastExchange
exchange = record {
  t1 = 0;
  t2 = 1200 * 65536;
  t3 = 1200 * 65536;
  t4 = 1700 * 65536;
  sync_correction = pos 0;
  follow_correction = pos 0;
  response_correction = pos 0;
  sync_number = record { 0 = 10 };
  request_number = record { 0 = 7 };
}

abbrev report : ReportAt
report = record {
  by = halves.Sync;
  line = 4;
  report = record { offset2 = twice 350; path2 = twice 850; sync_tag = 4; follow_tag = None; request_tag = 2; response_tag = 3 };
  exchange = exchange;
}

-- its results, and a result of Sync 12
abbrev own : Told
own = record { line = 5; of = None; offset = ns 350; path = Some (ns 850) }

abbrev late : Told
late = record { line = 6; of = Some (of.Sequence (record { 0 = 12 })); offset = ns 1; path = Some (ns 1) }

-- ---- from the beginning
abbrev begun : Auditing
begun = record {
  tolerance = ns 1;
  course = record { newest = None; behind = None; sync = None; request = None; delays = record { delays = record { items = [] } }; since = 0 };
  awaiting = [];
  held = [];
  passed = 0;
  has_ended = false;
  coverage = covers_nothing;
}

begins : Begins (ns 1) begun
begins = record {
  tolerance_is = refl;
  course = record { newest = refl; behind = refl; sync = refl; request = refl; delays = refl; since = refl };
  awaiting = refl;
  held = refl;
  passed = refl;
  ended = refl;
  coverage = refl;
}

-- ---- the report is taken
abbrev at : AtReport
at = record {
  at = report;
  known = record { bracket = ns 1200; latest = ns 850; responses = record { items = [] } };
  is_whole = false;
  behind_exchange = None;
}

abbrev course : Course
course = record {
  newest = Some at;
  behind = None;
  sync = Some (record { 0 = 10 });
  request = Some (record { 0 = 7 });
  delays = record { delays = record { items = [] } };
  since = 0;
}

abbrev reported : Auditing
reported = record begun { course = course; passed = 3; coverage = record { syncs = 1; with_result = 0; is_open = true } }

taken : TakesReportAt report begun reported
unfolding settled_from
taken = (
  course,
  sync_gaps report begun.course,
  (
    refl,
    record {
      delays = refl;
      newest = record { at_is = refl; bracket = refl; latest = refl; responses = refl; whole = refl; behind = refl };
      behind = refl;
      sync = refl;
      request = refl;
      since = refl;
    },
  ),
  refl,
)

-- ---- its own result is exact at once
fits : FitsSigned w128 (bracket2_of report)
fits = search rules

exact : IsExactAtOnce report own reported (with_told own reported)
exact = own_exact report begun reported own fits taken refl (record { offset = refl; path = refl })

-- ---- that of Sync 12 waits, and is answered at the end
abbrev judged : Auditing
judged = with_told own reported

abbrev waiting : Auditing
waiting = record judged { awaiting = late ∷ [] }

waits : with_told late judged ≡ waiting
unfolding settled_from
waits = refl

-- the answers, and what is left behind each
abbrev ended : Auditing
ended = at_end (with_told late judged)

abbrev own_answer : Answer
own_answer = last_word (held_of_newest reported own)

abbrev late_answer : Answer
late_answer = answer_without_sync late (why.NoSync (record { 0 = 12 }))

abbrev left : Auditing
left = record ended { held = held_without_sync late (why.NoSync (record { 0 = 12 })) ∷ [] }

abbrev last : Auditing
last = record left { held = [] }

run : Runs (ns 1) (late ∷ own ∷ []) (late_answer ∷ own_answer ∷ []) last
unfolding settled_from
run = Answered _ _ left last late_answer (Answered _ _ ended left own_answer
    (Ended _ _ (with_told late judged) (Took _ _ judged late (Took _ _ reported own (Reported _ _ begun reported report (Begun begun begins) taken))))
    (refl, refl, refl)) (refl, refl, refl)

all_of_both : IsPermutation (late ∷ own ∷ []) (late ∷ own ∷ [])
unfolding settled_from
all_of_both = all_answered (ns 1) (late ∷ own ∷ []) (late_answer ∷ own_answer ∷ []) last run refl (refl, refl)

-- ---- an exchange that only a report at a Sync tells: the same one, the first, one behind a missing one, and one of a slave that began anew
same_exchange : gap_to_other (Some (record { 0 = 7 })) (record { 0 = 7 }) ≡ None
same_exchange = refl

first_exchange : gap_to_other None (record { 0 = 7 }) ≡ None
first_exchange = refl

next_exchange : gap_to_other (Some (record { 0 = 7 })) (record { 0 = 8 }) ≡ Some gaps.None
next_exchange = refl

past_missing : gap_to_other (Some (record { 0 = 7 })) (record { 0 = 9 }) ≡ Some (gaps.Missing (record { 0 = 8 }))
past_missing = refl

begun_anew : gap_to_other (Some (record { 0 = 7 })) (record { 0 = 264 }) ≡ Some gaps.Anew
begun_anew = refl

marks : delays_at_other (Some (gaps.Missing (record { 0 = 8 }))) (Some (ns 850) ∷ []) ≡ None ∷ None ∷ Some (ns 850) ∷ []
marks = refl

forgets : delays_at_other (Some gaps.Anew) (Some (ns 850) ∷ []) ≡ None ∷ []
forgets = refl

since_then : since_at_other (Some gaps.Anew) 5 ≡ 1
since_then = refl

-- ---- two Syncs, an exchange, and two results of the second Sync
one_without : without_result (with_result (with_result (with_half halves.Sync (Some gaps.None) (with_half halves.Response None (with_half halves.Sync (Some gaps.None) covers_nothing))))) ≡ 1
one_without = refl

-- a Sync of which the next response alone tells leaves the one before it without a result
other_sync : without_result (with_result (with_half halves.Response (Some gaps.Anew) (with_half halves.Sync (Some gaps.None) covers_nothing))) ≡ 1
other_sync = refl

-- ---- a report at the next response, by Sync 10 and exchange 8: offset 250 ns, path delay 950 ns
abbrev next_report : ReportAt
next_report = record {
  by = halves.Response;
  line = 7;
  report = record { offset2 = twice 250; path2 = twice 950; sync_tag = 4; follow_tag = None; request_tag = 6; response_tag = 7 };
  exchange = record exchange { t4 = 1900 * 65536; request_number = record { 0 = 8 } };
}

abbrev at_response : AtReport
at_response = record {
  at = next_report;
  known = record { bracket = ns 1200; latest = ns 950; responses = record { items = ns 950 ∷ [] } };
  is_whole = false;
  behind_exchange = None;
}

abbrev next_course : Course
next_course = record {
  newest = Some (record at { behind_exchange = Some gaps.None });
  behind = Some at_response;
  sync = Some (record { 0 = 10 });
  request = Some (record { 0 = 8 });
  delays = record { delays = record { items = Some (ns 950) ∷ [] } };
  since = 1;
}

abbrev next_reported : Auditing
next_reported = record reported { course = next_course; passed = 6 }

next_taken : TakesReportAt next_report reported next_reported
unfolding settled_from
next_taken = (
  next_course,
  record { exchange = Some gaps.None; sync = None },
  (
    refl,
    record {
      delays = refl;
      newest = refl;
      behind = record { at_is = refl; bracket = refl; latest = refl; responses = refl; whole = refl; behind = refl };
      sync = refl;
      request = refl;
      since = refl;
    },
  ),
  refl,
)

-- its result is exact, by itself, and so is that of the Sync, by that
abbrev next_own : Told
next_own = record { line = 8; of = None; offset = ns 250; path = Some (ns 950) }

next_fits : FitsSigned w128 (bracket2_of next_report)
next_fits = search rules

next_exact : IsExactAtOnce next_report next_own next_reported (with_told next_own next_reported)
next_exact = own_exact next_report reported next_reported next_own next_fits next_taken refl (record { offset = refl; path = refl })

abbrev found_line : Told → ℕ
found_line told = option_map_or (λ (found : Found). found.at.line) (held_of_newest next_reported told).answer.found 0

by_response : found_line next_own ≡ 7
by_response = refl

by_sync : found_line own ≡ 4
by_sync = refl
