-- What is told of results at the end, in words, a line each.
use Rattle.std.specs.Prelude.{ℕ, ◌==◌, Bool, List, [], ◌++◌, codes, Option, Some, None, if◌then◌else◌}
use Rattle.std.specs.Fmt.{decimal}
use Rattle.recording_measure.specs.declared.aside.Aside.{Aside}
use Rattle.recording_measure.specs.AsideText.{aside_text}
use Rattle.result_audit.specs.declared.totals.Counts.{Counts}
use Rattle.result_audit.specs.declared.totals.Worst.{Worst}
use Rattle.result_verdict.specs.Exact.{exact_text}
use Rattle.audit_command.specs.declared.ending.Ending.{Ending}
use Rattle.audit_command.specs.Ending.{unanswered}

-- so many of one
abbrev pub several_text : ℕ → (one : List ℕ) → List ℕ
several_text count one = decimal count ++ codes " " ++ one ++ (if count == 1 then [] else codes "s")

-- how many have a verdict, where any has
abbrev pub counted_text : ℕ → (verdict : List ℕ) → List ℕ
counted_text count verdict = if count == 0 then [] else (codes ", " ++ decimal count ++ codes " " ++ verdict)

unfoldable pub counts_text : Counts → List ℕ
counts_text c =
    counted_text c.exact (codes "exact") ++ counted_text c.within (codes "within") ++ counted_text c.filtered (codes "filtered")
    ++ counted_text c.older (codes "older") ++ counted_text c.wrong (codes "wrong") ++ counted_text c.unjudged (codes "unjudged")

-- how many results there are, and of each verdict how many
unfoldable pub results_text : (results : ℕ) → Counts → List ℕ
results_text results c =
    codes "ptpx: " ++ several_text results (codes "result") ++ counts_text c
    ++ counted_text (unanswered results c) (codes "not answered") ++ codes "\n"

-- the worst, where one is wrong
unfoldable pub worst_text : Option Worst → List ℕ
worst_text None = []
worst_text (Some worst) =
    codes "ptpx: the worst is that of line " ++ decimal worst.line ++ codes ", which is " ++ exact_text worst.off
    ++ codes " ns off at the least\n"

-- of how many Syncs there is no result, where there are such
unfoldable pub without_text : ℕ → List ℕ
without_text count = if count == 0 then [] else (codes "ptpx: no result of " ++ several_text count (codes "Sync") ++ codes "\n")

-- by what they were judged
abbrev pub by_text : (is_own : Bool) → List ℕ
by_text is_own = if is_own then codes "ptpx: by the slave's own readings\n"
    else codes "ptpx: beware: by what was captured, and not by the slave's own readings: a wrong result may be the fault of the capture's stamps\n"

-- the same once a report was measured, and what was left aside: without a report nothing was judged by one
unfoldable pub judged_by_text : (is_own : Bool) → Option Aside → List ℕ
judged_by_text is_own None = []
judged_by_text is_own (Some aside) = by_text is_own ++ aside_text is_own aside

-- all that is told of results; where there is none, how one is told
abbrev pub ending_text : Ending → List ℕ
ending_text e =
    if e.results == 0 then codes "ptpx: no result: a line as {\"offset\":\"-12.5\",\"path\":\"1000\"} is one\n"
    else (results_text e.results e.totals.counts ++ worst_text e.totals.worst ++ without_text e.without_result ++ judged_by_text e.is_own e.aside)
