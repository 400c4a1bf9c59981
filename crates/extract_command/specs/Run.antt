-- How `extract` runs.
use Rattle.std.specs.Prelude.{◌≡◌, ℕ, Bool, true, false, List, Option, Result, MatchResult, if◌then◌else◌}
use Rattle.text_lines.specs.declared.counted.Counted.{Counted}
use Rattle.text_lines.specs.declared.line_fault.LineFault.{LineFault}
use Rattle.text_lines.specs.Counted.{HasNotFailed}
use Rattle.capture_file.specs.declared.fault.CaptureStop.{CaptureStop}
use Rattle.capture_file.specs.declared.name.InterfaceName.{InterfaceName}
use Rattle.capture_file.specs.Task.{FailedAt}
use Rattle.capture_extract.specs.declared.extracting.Extraction.{Extraction}
use Rattle.capture_extract.specs.declared.line.ExtractForm.{ExtractForm}
use Rattle.capture_extract.specs.declared.line.ExtractForm.TheVariants.{Octets, Timed}
use Rattle.capture_extract.specs.Extracted.{ExtractsAnswer, extract_rules}
use Rattle.capture_extract.specs.Listed.{ListsAnswer}
use Rattle.datagram_source.specs.Rules.{packet_rules}
use Rattle.command_options.specs.declared.ExtractOptions.{ExtractOptions}
use Rattle.fault_report.specs.Status.{status_of}

-- how the lines of `extract` are asked for
abbrev pub form_of : ExtractOptions → ExtractForm
form_of options = if options.octets then Octets else Timed

-- what `extract` is asked for
abbrev pub extraction_of : ExtractOptions → Extraction
extraction_of options = record { form = form_of options; interface = options.interface }

-- which of the two devices failed at this answer of `extract`
abbrev pub ExtractFailedWith : {R W : Type 0} → Result ℕ (CaptureStop LineFault)
    → (input input' : Counted R) (output output' : Counted W) → Type 0
ExtractFailedWith answer input input' output output' = MatchResult answer
    (λ _. HasNotFailed input input' × HasNotFailed output output')
    (λ stop. FailedAt (packet_rules extract_rules) stop.what input input' output output')

-- `extract --list` ran: its answer gave the status, and says what was read and written
abbrev pub RunsList : {R W : Type 0} → Option InterfaceName → (R → Option (List ℕ)) → (W → Option (List ℕ)) → ℕ
    → (input input' : Counted R) (output output' : Counted W) → Type 0
RunsList interface remaining contents status input input' output output' =
    (answer : Result ℕ (CaptureStop LineFault)) × (status ≡ status_of answer)
    × ListsAnswer interface remaining contents answer input input' output output'

-- `extract` ran without it: its answer gave the status, and says what was read and written
abbrev pub RunsLines : {R W : Type 0} → (R → Option (List ℕ)) → (W → Option (List ℕ)) → ExtractOptions → ℕ
    → (input input' : Counted R) (output output' : Counted W) → Type 0
RunsLines remaining contents options status input input' output output' =
    (answer : Result ℕ (CaptureStop LineFault)) × (status ≡ status_of answer)
    × ExtractFailedWith answer input input' output output'
    × ExtractsAnswer (extraction_of options) remaining contents answer input input' output output'

-- `extract` ran by these options, with a table or with lines
abbrev pub RunsListed : {R W : Type 0} → Bool → (R → Option (List ℕ)) → (W → Option (List ℕ)) → ExtractOptions → ℕ
    → (input input' : Counted R) (output output' : Counted W) → Type 0
RunsListed true remaining contents options = RunsList options.interface remaining contents
RunsListed false remaining contents options = RunsLines remaining contents options

-- `extract` ran by these options: its answer gave the status, and says what was read and written
abbrev pub RunsExtract : {R W : Type 0} → (R → Option (List ℕ)) → (W → Option (List ℕ)) → ExtractOptions → ℕ
    → (input input' : Counted R) (output output' : Counted W) → Type 0
RunsExtract remaining contents options = RunsListed options.list remaining contents options
