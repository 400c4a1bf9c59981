-- The law: no report mixes what came before a beginning with what came after it. `laws::no_report_mixes_lives` promises
-- it.
use Rattle.std.specs.Prelude.{◌≡◌, ℕ, ◌≤◌, List, ◌∷◌, Some, option_to_list}
use Rattle.std.specs.List.{All}
use Rattle.slave_port.specs.declared.heard.Report.{Report}
use Rattle.recording_model.specs.declared.watched.Watched.{Watched}
use Rattle.recording_model.specs.Recorded.{Recorded}
use Rattle.recording_model.specs.Listening.{after_all, report_at}
use Rattle.recording_model.specs.Told.{AreNumbered}

-- the lines that a report names
abbrev pub lines_of : Report → List ℕ
lines_of report =
    report.sync_tag ∷ report.request_tag ∷ report.response_tag ∷ option_to_list report.follow_tag

-- Whatever is recorded, in lines with growing numbers: each line that a report names is that at which the port began
-- last, or one behind it. A port begins at the start, where the slave began anew, and where the master did.
abbrev pub NoReportMixesLives : Type 0
NoReportMixesLives =
    (w : Watched) (earlier : List Recorded) (d : Recorded) (report : Report) → AreNumbered (d ∷ earlier)
    → report_at w earlier d ≡ Some report
    → All (λ line. (after_all w (d ∷ earlier)).begun ≤ line) (lines_of report)
