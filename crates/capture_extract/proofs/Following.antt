-- What follows a fault of a capture.
use Rattle.std.proofs.Common.{◌≡◌, ℕ, false, List, [], Option, Result, Ok, Err, refl, inl, inr}
use Rattle.std.specs.Prelude.{MatchResult}
use Rattle.std.specs.Option.{ForSome}
use Rattle.text_lines.specs.declared.counted.Counted.{Counted}
use Rattle.text_lines.specs.declared.line_fault.LineFault.{LineFault}
use Rattle.text_lines.specs.declared.line_fault.LineFault.TheVariants as faults
use Rattle.text_lines.specs.Counted.{device_of, HasNotFailed}
use Rattle.capture_file.specs.declared.fault.CaptureCause.{CaptureCause}
use Rattle.capture_file.specs.declared.fault.CaptureCause.TheVariants as causes
use Rattle.capture_file.specs.declared.fault.CaptureStop.{CaptureStop}
use Rattle.capture_file.specs.Task.{FailedAt, is_of_writer}
use Rattle.capture_file.specs.declared.name.InterfaceName.{InterfaceName}
use Rattle.datagram_source.specs.Left.{LeavesCapture, LeavesPacketsUntil}
use Rattle.datagram_source.specs.Rules.{packet_rules}
use Rattle.capture_extract.specs.declared.table.Table.{Table}
use Rattle.capture_extract.specs.Listed.{Came, Lists, ListsAnswer, TableFollows, TableGoesOut, list_rules, none_came}
use Rattle.capture_extract.specs.Table.{TableOf, table_of}
use Rattle.capture_extract.specs.Text.{IsTableText}
use Rattle.capture_extract.specs.Inner.Going.{GoesOut}
use Rattle.capture_extract.specs.Inner.Rows.{IsTable}

-- what is so of the state before a fault brings what follows
brought : (start : Came) (octets : List ℕ) (packets : ℕ) (what : CaptureCause LineFault) (Is Brings : Came → Type 0)
    → (is_of_writer (packet_rules list_rules) what ≡ false → (came : Came) → Is came → Brings came)
    → LeavesPacketsUntil list_rules start octets packets what Is → LeavesPacketsUntil list_rules start octets packets what Brings
brought start octets packets causes.Read Is Brings brings (parts, rest, came, text, taken, count, is) =
    (parts, rest, came, text, taken, count, brings refl came is)
brought start octets packets causes.Memory Is Brings brings (parts, rest, came, text, taken, count, is) =
    (parts, rest, came, text, taken, count, brings refl came is)
brought start octets packets (causes.Capture fault) Is Brings brings (parts, rest, came, text, taken, count, is) =
    (parts, rest, came, text, taken, count, brings refl came is)
brought start octets packets (causes.Task faults.Field) Is Brings brings (parts, rest, came, text, taken, count, is) =
    (parts, rest, came, text, taken, count, brings refl came is)
brought start octets packets (causes.Task faults.Memory) Is Brings brings left = left
brought start octets packets (causes.Task faults.Write) Is Brings brings left = left

-- this state is held
abbrev pub IsHeld : Option InterfaceName → Table → Came → Type 0
IsHeld asked table came = (asked ≡ came.asked) × IsTable (table_of came.datagrams) table

-- nothing more was written behind an answer without a fault
abbrev pub Behind : {W : Type 0} → Table → (W → Option (List ℕ)) → Result ℕ (CaptureStop LineFault) → (between output : Counted W)
    → Type 0
Behind table contents answer between output = MatchResult answer
    (λ packets. output ≡ between)
    (λ stop. TableFollows (is_of_writer (packet_rules list_rules) stop.what) contents between output
    × ((t : TableOf) → IsTable t table → is_of_writer (packet_rules list_rules) stop.what ≡ false
    → TableGoesOut t contents between output))

pub listed : {R W : Type 0} (asked interface : Option InterfaceName) (table : Table) (remaining : R → Option (List ℕ)) (contents : W → Option (List ℕ))
    (answer : Result ℕ (CaptureStop LineFault)) (input input' : Counted R) (output between output' : Counted W)
    → ForSome (remaining (device_of input)) (λ octets.
    Lists asked octets (remaining (device_of input')) (contents (device_of output)) (contents (device_of between)) answer)
    → MatchResult answer
    (λ packets. HasNotFailed input input' × HasNotFailed output between)
    (λ stop. FailedAt (packet_rules list_rules) stop.what input input' output between)
    → ForSome (remaining (device_of input)) (λ octets. LeavesCapture list_rules (none_came asked) octets answer (IsHeld interface table))
    → Behind table contents answer between output'
    → ListsAnswer asked remaining contents answer input input' output output'
listed asked interface table remaining contents (Ok packets) input input' output between output' answered failures left same =
    rw same (answered, failures.0, failures.1)
listed asked interface table remaining contents (Err stop) input input' output between output' answered failures left (follows, goes) = record {
  between = between;
  answered = answered;
  failures = failures;
  follows = follows;
  table = λ octets are. brought (none_came asked) octets stop.packets stop.what (IsHeld interface table)
      (λ came. TableGoesOut (table_of came.datagrams) contents between output')
      (λ not came is. goes (table_of came.datagrams) is.1 not)
      (left octets are);
}

-- a table that goes out
pub goes : {T W : Type 0} (contents : W → Option (List ℕ)) (t : TableOf) (result : Result T LineFault) (between output : Counted W)
    → GoesOut contents (IsTableText t) result between output → TableGoesOut t contents between output
goes contents t (Ok done) between output ((text, is, appends), not) = inl (text, inl is, appends, not)
goes contents t (Err faults.Field) between output (other, went, failed) = absurd (other refl)
goes contents t (Err faults.Memory) between output (other, went, failed) = inl ([], inr refl, went, failed)
goes contents t (Err faults.Write) between output (other, went, failed) = inr failed
