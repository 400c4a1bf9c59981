-- How many lines of an input were read.
use Rattle.std.proofs.Common.{◌≡◌, ◌∙◌, ℕ, suc, ◌+◌, List, [], ◌∷◌, length, Option, ap, arith, length-append}
use Rattle.world_model.specs.State.{State}
use Rattle.trace_model.specs.Line.{Lines}
use Rattle.schedule_lines.specs.declared.reading.transcript.TranscriptLine.TheVariants as recorded
use Rattle.text_lines.specs.Lines.{without_cr}
use Rattle.text_lines.specs.Task.{TakesLines}
use Rattle.schedule_reading.specs.declared.transcript.Judged.{Judged}
use Rattle.schedule_reading.specs.Transcript.{Recorded}
use Rattle.explain_input.specs.declared.input.Input.{Input}
use Rattle.explain_input.specs.declared.input.Input.TheVariants.{Transcript, Schedule}
use Rattle.explain_input.specs.Input.{lines_in, Takes}
use Rattle.explain_input.proofs.AsRead.{input_rules}

pub counted : (line : List ℕ) (input later : Input) (judged : Option Judged) → Takes line input later judged → lines_in later ≡ lines_in input + 1
counted line (Transcript s) (Transcript later) judged (recorded.Node node, is, ((none, follows), report)) =
    let nodes : length later.nodes ≡ length s.nodes + 1 = ap (λ (r : Recorded). length r.nodes) follows ∙ simp length-append in
    let lines : length later.lines ≡ 0 = ap (λ (r : Recorded). length r.lines) follows in
    let empty : length s.lines ≡ 0 = ap (λ (l : Lines). length l) none in
    omega (arith, nodes, lines, empty)
counted line (Transcript s) (Transcript later) judged (recorded.Event number event, is, ((place, network, follows), report)) =
    let nodes : length later.nodes ≡ length s.nodes = ap (λ (r : Recorded). length r.nodes) follows in
    let lines : length later.lines ≡ suc (length s.lines) = ap (λ (r : Recorded). length r.lines) follows in
    omega (arith, nodes, lines)
counted line (Transcript s) (Schedule later) judged (event, begins, happens, none) =
    let nodes : length later.network ≡ length s.nodes = ap (λ (u : State). length u.network) happens.2 in
    let run : length later.run ≡ 1 = ap (λ (u : State). length u.run) happens.2 in
    let empty : length s.lines ≡ 0 = ap (λ (l : Lines). length l) begins.0 in
    omega (arith, nodes, run, empty)
counted line (Schedule s) (Schedule later) judged ((event, is, happens), none) =
    let nodes : length later.network ≡ length s.network = ap (λ (u : State). length u.network) happens.2 in
    let run : length later.run ≡ suc (length s.run) = ap (λ (u : State). length u.run) happens.2 in
    omega (arith, nodes, run)
counted line (Schedule s) (Transcript later) judged takes = absurd takes

pub all_counted : (number : ℕ) (lines : List (List ℕ)) (input later : Input) (text : List ℕ) → TakesLines input_rules number lines input later text
    → lines_in later ≡ lines_in input + length lines
all_counted number [] input later text (same, silent) = let one : lines_in later ≡ lines_in input = ap lines_in same in omega (arith, one)
all_counted number (line ∷ lines) input later text (next, first, others, fine, (judged, takes, silent), rest, whole) =
    let one = counted (without_cr line) input next judged takes in
    let more = all_counted (number + 1) lines next later others rest in
    omega (arith, one, more)
