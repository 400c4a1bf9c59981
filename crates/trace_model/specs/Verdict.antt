-- The verdict on lines: how many reports there are, or the first that isn't sound.
use Rattle.std.specs.Prelude.{ℕ, ◌+◌, [], ◌∷◌, Option, Some, None, option_map}
use Rattle.slave_port.specs.declared.heard.Report.{Report}
use Rattle.network_model.specs.Network.{Network}
use Rattle.trace_model.specs.declared.line.TraceOut.{TraceOut}
use Rattle.trace_model.specs.declared.line.TraceOut.TheVariants as outs
use Rattle.trace_model.specs.declared.judgement.Judgement.{Judgement}
use Rattle.trace_model.specs.declared.verdict.Verdict.{Verdict}
use Rattle.trace_model.specs.declared.verdict.Verdict.TheVariants.{Accepted, Refused}
use Rattle.trace_model.specs.declared.verdict.Why.{Why}
use Rattle.trace_model.specs.Line.{Lines}
use Rattle.trace_model.specs.Record.{LinePlace, line_place, line_number}
use Rattle.trace_model.specs.Sound.{reason, judgement}

-- the report of a line that has one, good or not
abbrev pub report_in : TraceOut → Option Report
report_in (outs.Report report) = Some report
report_in _ = None

-- what the report of a line is judged to be, by this line and those before it; nothing where it has no report
abbrev pub line_judgement : Network → LinePlace → Option Judgement
line_judgement network e = option_map (judgement network e) (report_in e.line.out)

-- the verdict after one more line, where all report lines before it are sound
abbrev pub one_more : (count number : ℕ) → Option (Option Why) → Verdict
one_more count number None = Accepted count
one_more count number (Some None) = Accepted (count + 1)
one_more count number (Some (Some why)) = Refused number why

-- the verdict after one more line
abbrev pub with_line : Network → LinePlace → Verdict → Verdict
with_line network e (Accepted count) =
    one_more count (line_number e) (option_map (reason network e) (report_in e.line.out))
with_line network e (Refused number why) = Refused number why

-- the verdict on all lines
abbrev pub verdict : Network → Lines → Verdict
verdict network [] = Accepted 0
verdict network (line ∷ earlier) = with_line network (line_place line earlier) (verdict network earlier)
