-- What `list` answers and writes, by the datagrams of a capture.
use Rattle.std.specs.Prelude.{◌≡◌, ◌≢◌, ◌⊎◌, ℕ, List, [], ◌∷◌, Bool, true, false, Option, Result, Ok, Err, MatchResult}
use Rattle.std.specs.Io.KnownBytes.{Appends}
use Rattle.std.specs.Option.{ForSome}
use Rattle.text_lines.specs.declared.counted.Counted.{Counted}
use Rattle.text_lines.specs.declared.line_fault.LineFault.{LineFault}
use Rattle.text_lines.specs.declared.line_fault.LineFault.TheVariants.{Field, Memory}
use Rattle.text_lines.specs.Counted.{device_of, HasFailed, HasNotFailed}
use Rattle.text_lines.specs.Fault.{is_write}
use Rattle.capture_file.specs.declared.fault.CaptureStop.{CaptureStop}
use Rattle.capture_file.specs.Task.{Answers, FailedAt, is_of_writer}
use Rattle.capture_file.specs.declared.name.InterfaceName.{InterfaceName}
use Rattle.datagram_source.specs.Datagram.{DatagramOf}
use Rattle.datagram_source.specs.declared.lines.LineForm.TheVariants as forms
use Rattle.datagram_source.specs.Left.{LeavesPacketsUntil}
use Rattle.datagram_source.specs.Rules.{DatagramRules, is_field, packet_rules}
use Rattle.capture_extract.specs.Table.{TableOf, table_of}
use Rattle.capture_extract.specs.Text.{IsTableText}

-- the interface that is asked for, if one is, and the datagrams that came, the newest in front
pub record Came : Type 0 where
  pub asked : Option InterfaceName
  pub datagrams : List DatagramOf

abbrev pub none_came : Option InterfaceName → Came
none_came asked = record { asked = asked; datagrams = [] }

-- No datagram at the interface that is asked for writes anything, and one stops only where memory is refused. At the end the table of
-- all that came is written; memory or the writer may fail there. Lines aren't read.
abbrev pub list_rules : DatagramRules Came LineFault
list_rules = record {
  line_form = forms.Timed;
  asked = λ came. came.asked;
  Takes = λ d came later written. (later ≡ record came { datagrams = d ∷ came.datagrams }) × (written ≡ []);
  Stops = λ d came fault written. (fault ≡ Memory) × (written ≡ []);
  Ends = λ came later written. (later ≡ came) × IsTableText (table_of came.datagrams) written;
  StopsAtEnd = λ came fault written. (fault ≢ Field) × (written ≡ []);
  is_of_writer = is_write;
  keeps = is_field;
  fault_of = λ fault. fault;
}

-- all packets of these octets were read, or those before a fault
abbrev pub Lists : Option InterfaceName → List ℕ → (left before after : Option (List ℕ)) → Result ℕ (CaptureStop LineFault) → Type 0
Lists asked = Answers (packet_rules list_rules) (none_came asked)

-- Behind a fault some text was written, or the writer failed at that. It isn't tried where the writer had failed already.
abbrev pub TableFollows : {W : Type 0} → (writer_failed : Bool) → (W → Option (List ℕ)) → (between output : Counted W) → Type 0
TableFollows true contents between output = output ≡ between
TableFollows false contents between output =
    ((text : List ℕ) × Appends (contents (device_of between)) (contents (device_of output)) text × HasNotFailed between output)
    ⊎ HasFailed between output

-- the text of this table was written, or nothing where memory was refused for it, or the writer failed at that
abbrev pub TableGoesOut : {W : Type 0} → TableOf → (W → Option (List ℕ)) → (between output : Counted W) → Type 0
TableGoesOut t contents between output =
    ((text : List ℕ) × (IsTableText t text ⊎ (text ≡ [])) × Appends (contents (device_of between)) (contents (device_of output)) text
    × HasNotFailed between output)
    ⊎ HasFailed between output

-- A fault is that of the capture, or of memory or a device. Up to it nothing was written: `between` is the output as it was then.
-- Behind it follows the table of what came before it. Of what follows where a datagram was refused memory it isn't said which text it is.
pub record ListsUntil {R W : Type 0} (asked : Option InterfaceName) (remaining : R → Option (List ℕ)) (contents : W → Option (List ℕ))
    (stop : CaptureStop LineFault) (input input' : Counted R) (output output' : Counted W) : Type 0 where
  pub between : Counted W
  pub answered : ForSome (remaining (device_of input)) (λ octets.
      Lists asked octets (remaining (device_of input')) (contents (device_of output)) (contents (device_of between)) (Err stop))
  pub failures : FailedAt (packet_rules list_rules) stop.what input input' output between
  pub follows : TableFollows (is_of_writer (packet_rules list_rules) stop.what) contents between output'
  pub table : ForSome (remaining (device_of input)) (λ octets.
      LeavesPacketsUntil list_rules (none_came asked) octets stop.packets stop.what
      (λ came. TableGoesOut (table_of came.datagrams) contents between output'))

-- what an answer of `list` says of a capture, of what is left of it, of what was written, and of which device failed
abbrev pub ListsAnswer : {R W : Type 0} → Option InterfaceName → (R → Option (List ℕ)) → (W → Option (List ℕ))
    → Result ℕ (CaptureStop LineFault) → (input input' : Counted R) (output output' : Counted W) → Type 0
ListsAnswer asked remaining contents answer input input' output output' = MatchResult answer
    (λ packets. ForSome (remaining (device_of input)) (λ octets.
    Lists asked octets (remaining (device_of input')) (contents (device_of output)) (contents (device_of output')) (Ok packets))
    × HasNotFailed input input' × HasNotFailed output output')
    (λ stop. ListsUntil asked remaining contents stop input input' output output')
