-- The checker misses nothing: of lines that tell a run, each report line is sound. In two parts: all but the octets
-- follows from the definitions of runs and from what exact reports are, and the octets from readings, numbers and
-- what ports and clocks write. `laws::verdicts_miss_nothing`, `laws::verdicts_miss_nothing_within_one_turn` and
-- `laws::each_message_is_written` promise it.
use Rattle.std.specs.Prelude.{◌≡◌, ℕ, ◌+◌, Bool, true, false, [], ◌∷◌, IsTrue, Ok, Err, Result, if◌then◌else◌}
use Rattle.slave_port.specs.declared.heard.Heard.{Heard}
use Rattle.slave_port.specs.declared.heard.Heard.TheVariants as answers
use Rattle.slave_port.specs.declared.heard.Report.{Report}
use Rattle.network_model.specs.declared.refusal.WorldRefusal.{WorldRefusal}
use Rattle.network_model.specs.declared.stepped.Outcome.{Outcome}
use Rattle.network_model.specs.declared.stepped.Outcome.TheVariants as outcomes
use Rattle.network_model.specs.Network.{Network}
use Rattle.network_model.specs.Run.{Run, Place, until}
use Rattle.network_model.specs.Outcome.{outcome_of}
use Rattle.network_model.specs.Premises.{Premise, exact_limits, IsFreshAndTicked, IsWithinTurn}
use Rattle.network_model.specs.Reported.{Reports}
use Rattle.trace_model.specs.declared.verdict.Verdict.{Verdict}
use Rattle.trace_model.specs.declared.verdict.Verdict.TheVariants.{Accepted}
use Rattle.trace_model.specs.Line.{Lines}
use Rattle.trace_model.specs.Record.{LinePlace}
use Rattle.trace_model.specs.Octets.{writes_right}
use Rattle.trace_model.specs.Sound.{HasExchange, are_octets}
use Rattle.trace_model.specs.Verdict.{verdict}
use Rattle.trace_model.specs.Told.{TellsRun}
use Rattle.trace_model.specs.Faithful.{TellsPlace}

-- Each line that tells of a message that was made has the octets (IEEE 1588-2019, 13.3 and 13.6 to 13.8) that its port
-- or its clock writes, by the lines before it.
abbrev pub EachMessageIsWritten : Type 0
EachMessageIsWritten =
    (network : Network) (p : Place) (e : LinePlace) → TellsPlace network p e
    → outcome_of network p.earlier p.event ≡ Ok outcomes.Made
    → IsTrue (writes_right network e)

-- Each line that tells a report has its exchange.
abbrev pub EachReportHasExchange : Premise → Type 0
EachReportHasExchange premise =
    (network : Network) (answered : Place) (e : LinePlace) (report : Report) → premise network (until answered)
    → TellsPlace network answered e
    → Reports network answered report → HasExchange network e report

-- Whatever exchange a line has by lines that tell a run, its octets are those that ports and clocks write.
abbrev pub EachExchangeIsWritten : Type 0
EachExchangeIsWritten =
    (network : Network) (p : Place) (e : LinePlace) (report : Report) → TellsPlace network p e
    → (has : HasExchange network e report)
    → IsTrue (are_octets network has.x has.sync has.request)

-- a slave answers a report
abbrev pub is_report : Heard → Bool
is_report answers.Held = false
is_report answers.Completed = false
is_report (answers.Report report) = true
is_report (answers.Ignored reason) = false

-- an event answers a report
abbrev pub answers_report : Result Outcome WorldRefusal → Bool
answers_report (Ok outcomes.Done) = false
answers_report (Ok outcomes.Made) = false
answers_report (Ok outcomes.Entered) = false
answers_report (Ok (outcomes.Heard heard)) = is_report heard
answers_report (Ok (outcomes.Refused code)) = false
answers_report (Err refusal) = false

-- how many reports there are in a run
abbrev pub reports_in : Network → Run → ℕ
reports_in network [] = 0
reports_in network (event ∷ earlier) =
    if answers_report (outcome_of network earlier event) then reports_in network earlier + 1
    else reports_in network earlier

-- a verdict accepts the truth: where its lines tell a run that meets the premise, it is accepted, with the number
-- of the run's reports
abbrev pub AcceptsTruth : Premise → Network → Lines → Verdict → Type 0
AcceptsTruth premise network lines answer =
    (run : Run) → premise network run → TellsRun network run lines → answer ≡ Accepted (reports_in network run)

-- Each verdict accepts the truth.
abbrev pub MissesNothing : Premise → Type 0
MissesNothing premise = (network : Network) (lines : Lines)
    → AcceptsTruth premise network lines (verdict network lines)

-- Over runs of any length that are fresh and ticked, each report line has its exchange, and all lines are accepted.
pub record Complete : Type 0 where
  pub exchanges : EachReportHasExchange (IsFreshAndTicked exact_limits)
  pub verdicts : MissesNothing (IsFreshAndTicked exact_limits)

-- The same where the numbers of no port have come round, however old what is heard and however rare the ticks.
pub record CompleteWithinOneTurn : Type 0 where
  pub exchanges : EachReportHasExchange IsWithinTurn
  pub verdicts : MissesNothing IsWithinTurn
