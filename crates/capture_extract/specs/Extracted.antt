-- What `extract` writes, by the datagrams of a capture.
use Rattle.std.specs.Prelude.{◌≡◌, ◌≢◌, ℕ, List, [], Option, Result}
use Rattle.std.specs.Option.{ForSome}
use Rattle.text_lines.specs.declared.counted.Counted.{Counted}
use Rattle.text_lines.specs.declared.line_fault.LineFault.{LineFault}
use Rattle.text_lines.specs.declared.line_fault.LineFault.TheVariants.{Field}
use Rattle.text_lines.specs.Counted.{device_of}
use Rattle.text_lines.specs.Fault.{is_write}
use Rattle.capture_file.specs.declared.fault.CaptureStop.{CaptureStop}
use Rattle.capture_file.specs.Task.{Answers}
use Rattle.datagram_source.specs.declared.lines.LineForm.TheVariants as forms
use Rattle.datagram_source.specs.Rules.{DatagramRules, is_field, packet_rules}
use Rattle.capture_extract.specs.declared.extracting.Extraction.{Extraction}
use Rattle.capture_extract.specs.Line.{line_text}

-- Each datagram at the interface that is asked for has its line alone, as it is asked for, unless memory or the writer fails. Lines
-- aren't read.
abbrev pub extract_rules : DatagramRules Extraction LineFault
extract_rules = record {
  line_form = forms.Timed;
  asked = λ e. e.interface;
  Takes = λ d e later written. (later ≡ e) × (written ≡ line_text e.form d.written d.octets);
  Stops = λ d e fault written. (fault ≢ Field) × (written ≡ []);
  Ends = λ e later written. (later ≡ e) × (written ≡ []);
  StopsAtEnd = λ e fault written. ⊥;
  is_of_writer = is_write;
  keeps = is_field;
  fault_of = λ fault. fault;
}

-- what an answer of `extract` over these octets says, of what is left of them and of what was written
abbrev pub Extracts : Extraction → List ℕ → (left before after : Option (List ℕ)) → Result ℕ (CaptureStop LineFault)
    → Type 0
Extracts = Answers (packet_rules extract_rules)

-- what an answer of `extract` says where the reader tells its octets, and where the writer does
abbrev pub ExtractsAnswer : {R W : Type 0} → Extraction → (R → Option (List ℕ)) → (W → Option (List ℕ))
    → Result ℕ (CaptureStop LineFault) → (input input' : Counted R) (output output' : Counted W) → Type 0
ExtractsAnswer e remaining contents answer input input' output output' =
    ForSome (remaining (device_of input)) (λ octets.
    Extracts e octets (remaining (device_of input')) (contents (device_of output)) (contents (device_of output'))
    answer)
