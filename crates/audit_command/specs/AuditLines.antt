-- What `audit` makes of lines, each of which tells a datagram or a result.
use Rattle.std.specs.Prelude.{◌≡◌, ◌⊎◌, ℕ, ◌+◌, ◌-◌, ◌^◌, Bool, true, false, ◌==◌, List, [], ◌∷◌, Some, None, ⊤}
use Rattle.std.specs.Str.{IsUtf8}
use Rattle.text_lines.specs.declared.line_fault.LineFault.{LineFault}
use Rattle.text_lines.specs.declared.line_fault.LineFault.TheVariants.{Write, Field, Memory}
use Rattle.text_lines.specs.Fault.{is_write}
use Rattle.text_lines.specs.Task.{Rules}
use Rattle.datagram_source.specs.declared.lines.LineForm.TheVariants.{Timed}
use Rattle.datagram_source.specs.Datagram.{DatagramOf, IsDatagramLine}
use Rattle.datagram_source.specs.Unread.{IsUnread}
use Rattle.result_audit.specs.declared.told.Told.{Told}
use Rattle.result_audit.specs.Told.{IsTold}
use Rattle.audit_command.specs.Audit.{Audited, Ends, StopsDatagram, StopsSaying, StopsTold, TakesDatagram, TakesTold}
use Rattle.audit_command.specs.Ending.{IsEnding}
use Rattle.audit_command.specs.declared.lines.Finished.{Finished}
use Rattle.result_audit.specs.Auditor.{at_end}

-- how many lines were taken, and what came of them
pub record LinesRead : Type 0 where
  pub count : ℕ
  pub state : Audited

-- none was
abbrev pub nothing_read : Audited → LinesRead
nothing_read start = record { count = 0; state = start }

-- a line tells a result where it begins as an object does
abbrev pub is_told : List ℕ → Bool
is_told [] = false
is_told (octet ∷ others) = octet == 123

-- a line of this number tells this result
abbrev pub IsResult : (has_path : Bool) → (number : ℕ) → List ℕ → Told → Type 0
IsResult has_path number line told = IsUtf8 line × IsTold has_path number line (Some told)

-- of a line of this number the result that it tells is taken, or its datagram
abbrev pub TakesAs : (tells_result : Bool) → (number : ℕ) → List ℕ → (s later : Audited) → List ℕ → Type 0
TakesAs true number line s later out = (told : Told) × IsResult s.form.has_path number line told × TakesTold told s later out
TakesAs false number line s later out = (d : DatagramOf) × IsDatagramLine Timed number line d × TakesDatagram d s later out

-- a line is taken
abbrev pub TakesLine : List ℕ → LinesRead → LinesRead → List ℕ → Type 0
TakesLine line r later out = (later.count ≡ r.count + 1) × TakesAs (is_told line) (r.count + 1) line r.state later.state out

-- why the result of a line isn't read: it tells none, or memory failed
abbrev pub IsNoResult : LineFault → (has_path : Bool) → (number : ℕ) → List ℕ → Type 0
IsNoResult Write has_path number line = ⊥
IsNoResult Field has_path number line = (IsUtf8 line → ⊥) ⊎ IsTold has_path number line None
IsNoResult Memory has_path number line = ⊤

-- why a line of this number isn't taken: it tells nothing that is asked for, or what it tells isn't taken
abbrev pub StopsAs : (tells_result : Bool) → (number : ℕ) → List ℕ → Audited → LineFault → List ℕ → Type 0
StopsAs true number line s fault out =
    (IsNoResult fault s.form.has_path number line × (out ≡ []))
    ⊎ ((told : Told) × IsResult s.form.has_path number line told × StopsTold told s fault out)
StopsAs false number line s fault out =
    (IsUnread fault Timed number line × (out ≡ []))
    ⊎ ((d : DatagramOf) × IsDatagramLine Timed number line d × StopsDatagram d s fault out)

-- at the end nothing comes any more
pub record EndsLines (lines : ℕ) (r : LinesRead) (answer : Finished) (out : List ℕ) : Type 0 where
  pub count : answer.lines ≡ r.count
  pub later : Audited
  pub ends : Ends r.state later out
  pub ending : IsEnding later answer.ending

abbrev pub line_rules : Rules LinesRead Finished LineFault
line_rules = record {
  lines_limit = 2 ^ 64 - 2;
  Takes = TakesLine;
  Stops = λ line r fault out. StopsAs (is_told line) (r.count + 1) line r.state fault out;
  Ends = EndsLines;
  StopsAtEnd = λ r fault out. StopsSaying r.state.form.is_table (at_end r.state.audit) fault out;
  is_of_writer = is_write;
}
