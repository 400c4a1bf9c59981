-- What a verdict says of lines: statements on all lines. The functions of `laws` promise them.
use Rattle.std.specs.Prelude.{◌≡◌, ◌↔◌, ℕ, [], ◌∷◌, ◌++◌, count_by, is_some, Some, None}
use Rattle.slave_port.specs.declared.heard.Report.{Report}
use Rattle.network_model.specs.Network.{Network}
use Rattle.trace_model.specs.declared.verdict.Verdict.{Verdict}
use Rattle.trace_model.specs.declared.verdict.Verdict.TheVariants.{Accepted, Refused}
use Rattle.trace_model.specs.declared.verdict.Why.{Why}
use Rattle.trace_model.specs.Line.{Lines}
use Rattle.trace_model.specs.Record.{LinePlace, line_number}
use Rattle.trace_model.specs.Sound.{Sound, reasons, reason}
use Rattle.trace_model.specs.Verdict.{report_in, verdict}

-- no reason stands against a report line, and so no first one, exactly where it is sound
pub record HasReasons (network : Network) (e : LinePlace) (report : Report) : Type 0 where
  pub none : reasons network e report ≡ [] ↔ Sound network e report
  pub no_first : reason network e report ≡ None ↔ Sound network e report

-- there is no reason exactly where all eight conditions hold
abbrev pub ReasonsMissNothing : Type 0
ReasonsMissNothing = (network : Network) (e : LinePlace) (report : Report) → HasReasons network e report

-- a line among these lines has this report; it need not be good
pub record ReportLine (lines : Lines) (e : LinePlace) (report : Report) : Type 0 where
  pub later : Lines
  pub there : lines ≡ later ++ e.line ∷ e.earlier
  pub reports : report_in e.line.out ≡ Some report

-- each report line is sound
abbrev pub AllSound : Network → Lines → Type 0
AllSound network lines = (e : LinePlace) (report : Report) → ReportLine lines e report → Sound network e report

-- how many report lines there are
abbrev pub report_count : Lines → ℕ
report_count lines = count_by (λ line. is_some (report_in line.out)) lines

-- the line of this number has the first report that isn't sound, and this is the first condition that it fails
pub record FirstUnsound (network : Network) (lines : Lines) (number : ℕ) (why : Why) : Type 0 where
  pub e : LinePlace
  pub report : Report
  pub there : ReportLine lines e report
  pub number_is : line_number e ≡ number
  pub before : AllSound network e.earlier
  pub unsound : Sound network e report → ⊥
  pub fails : reason network e report ≡ Some why

-- A verdict is Accepted(n) exactly where each report line is sound and there are n of them, and Refused exactly
-- where one isn't: it names the first such line, and the first condition that it fails.
pub record TellsSoundness (network : Network) (lines : Lines) (answer : Verdict) : Type 0 where
  pub accepted : (count : ℕ) → answer ≡ Accepted count ↔ (AllSound network lines × (count ≡ report_count lines))
  pub refused : (number : ℕ) (why : Why) → answer ≡ Refused number why ↔ FirstUnsound network lines number why

-- the verdict on lines of any origin tells which report lines are sound
abbrev pub VerdictsTellSoundness : Type 0
VerdictsTellSoundness = (network : Network) (lines : Lines) → TellsSoundness network lines (verdict network lines)
