-- Each line that tells an event of a run is within its ranges.
use Rattle.std.proofs.Common.{◌≡◌, ◌∙◌, ℕ, zero, suc, ℤ, pos, negsuc, ◌^◌, ◌<◌, ◌≤◌, List, [], ◌∷◌, length, slice_index, Option, Some, None, IfSome, Ok, refl, sym, ap, subst, arith}
use Rattle.std.specs.Prelude.{EachIndex, is_some, unsigned_abs}
use Rattle.hex.specs.Hex.{IsBytes}
use Rattle.ptp_units.specs.Moment.{bound}
use Rattle.event_codec.specs.Packet.{Contents}
use Rattle.slave_port.specs.declared.heard.Heard.{Heard}
use Rattle.slave_port.specs.declared.heard.Heard.TheVariants as answers
use Rattle.slave_port.specs.declared.heard.Report.{Report}
use Rattle.network_model.specs.declared.event.Event.{Event}
use Rattle.network_model.specs.declared.stepped.Outcome.{Outcome}
use Rattle.network_model.specs.declared.stepped.Outcome.TheVariants as outcomes
use Rattle.network_model.specs.Network.{Network}
use Rattle.network_model.specs.Run.{Run, place, site_of, true_moment}
use Rattle.network_model.specs.Clock.{reading_of}
use Rattle.network_model.specs.Truth.{copy_of}
use Rattle.network_model.specs.Premises.{Premise, IsAcceptedRun}
use Rattle.network_model.specs.Reported.{Reports}
use Rattle.network_model.specs.Exact.{IsMeasurement}
use Rattle.network_model.proofs.ExactPremises.{IsExact}
use Rattle.network_model.proofs.Readings.{reading_there}
use Rattle.trace_model.specs.declared.line.TraceLine.{TraceLine}
use Rattle.trace_model.specs.declared.line.TraceOut.{TraceOut}
use Rattle.trace_model.specs.declared.line.TraceOut.TheVariants as outs
use Rattle.trace_model.specs.Told.{TellsOctets, TellsMade, TellsOutcome, TellsEvent, heard_out}
use Rattle.schedule_lines.specs.Ranges.{IsEvent, IsOut, IsRecorded, IsShort, EachToldLineIsRecorded, EachToldLineIsTagged}
use Rattle.network_model.proofs.BareCopies.{IsBare, bare_copy, few_octets}
use Rattle.network_model.proofs.OutcomeCodes.{IsCoded, coded_outcome, coded_reason}
use Rattle.schedule_lines.proofs.ToldTags.{tagged_line}
use Rattle.network_model.proofs.ReportRanges.{IsSmallReport, reading_below, small_report}

-- ---- the octets of a copy

bytes_of : (b : List ℕ) → EachIndex b (λ k. slice_index b k < 256) → IsBytes b
bytes_of [] h zero = omega arith
bytes_of [] h (suc i) = omega arith
bytes_of (x ∷ xs) h zero = h zero (omega arith)
bytes_of (x ∷ xs) h (suc i) = bytes_of xs (λ k within. h (suc k) (omega arith)) i

abbrev AreFew : List ℕ → Type 0
AreFew octets = (length octets ≤ 54) × IsBytes octets

none_few : AreFew []
none_few = (omega arith, bytes_of [] (λ k within. absurd (omega arith)))

told_octets : (copy : Option Contents) (octets : List ℕ) → IfSome copy IsBare → TellsOctets copy octets → AreFew octets
told_octets None octets bare told = subst AreFew (sym told) none_few
told_octets (Some m) octets bare told = (few_octets m octets bare told, bytes_of octets told.octets)

told_made : (copy : Option Contents) (out : TraceOut) → IfSome copy IsBare → TellsMade copy out → IsOut out
told_made copy (outs.Made octets) bare told = told_octets copy octets.items bare told
told_made copy _ bare told = absurd told

-- ---- the outcome

short : (z : ℤ) → unsigned_abs z < 10 ^ 31 → IsShort z
short (pos n) small = omega (arith, small)
short (negsuc n) small = omega (arith, small)

abbrev HasSmallReports : Outcome → Type 0
HasSmallReports outcome = (report : Report) → outcome ≡ outcomes.Heard (answers.Report report) → IsSmallReport report

told_heard : (heard : Heard) → HasSmallReports (outcomes.Heard heard) → IsOut (heard_out heard)
told_heard (answers.Report report) small = (short report.offset2 (small report refl).0, short report.path2 (small report refl).1)
told_heard (answers.Ignored reason) small = coded_reason reason
told_heard _ small = tt

told_out : (copy : Option Contents) (outcome : Outcome) (out : TraceOut) → IfSome copy IsBare → IsCoded (Ok outcome) → HasSmallReports outcome
    → TellsOutcome copy outcome out → IsOut out
told_out copy outcomes.Made out bare coded small told = told_made copy out bare told
told_out copy (outcomes.Heard heard) out bare coded small told = subst IsOut (sym told) (told_heard heard small)
told_out copy (outcomes.Refused code) out bare coded small told = subst IsOut (sym told) coded
told_out copy _ out bare coded small told = subst IsOut (sym told) tt

-- ---- the line

told_line : (network : Network) (event : Event) (earlier : Run) (line : TraceLine) → IsAcceptedRun network (event ∷ earlier)
    → ((report : Report) → Reports network (place event earlier) report → IsMeasurement (event ∷ earlier) (site_of event) report)
    → IsEvent event → TellsEvent network event earlier line → IsRecorded line
told_line network event earlier line accepted measured ranges told =
    let stepped = told.stepped in
    let reading_is : line.reading ≡ reading_of (place event earlier) = told.told.reading ∙ told.answered.reading in
    let copy : Option Contents = copy_of network (event ∷ earlier) stepped.tag in
    record {
      event = subst IsEvent (sym told.told.event) ranges;
      timed = ap (λ (o : Option ℕ). is_some o) reading_is ∙ reading_there network event earlier accepted.accepted ∙ sym (ap (λ (v : Event). is_some (true_moment v)) told.told.event);
      reading = subst (λ (o : Option ℕ). IfSome o (λ time. time < bound)) (sym reading_is) (reading_below (place event earlier));
      out = told_out copy stepped.outcome line.out (bare_copy network (event ∷ earlier) stepped.tag)
          (subst IsCoded told.answered.outcome (coded_outcome network earlier event))
          (λ report is.
          let reports : Reports network (place event earlier) report = told.answered.outcome ∙ ap Ok is in
          small_report network (place event earlier) report accepted reports (measured report reports))
          told.told.outcome;
    }

pub lines_recorded : (premise : Premise) → IsExact premise → EachToldLineIsRecorded premise
lines_recorded premise is network event earlier line holds ranges told =
    told_line network event earlier line (is.accepted network (event ∷ earlier) holds) (λ report reports. is.exact network (place event earlier) report holds reports) ranges told

pub lines_tagged : (premise : Premise) → IsExact premise → EachToldLineIsTagged premise
lines_tagged premise is network event earlier line holds small told =
    tagged_line network event earlier line (is.accepted network (event ∷ earlier) holds) (λ report reports. is.exact network (place event earlier) report holds reports) small told
