-- Lines that tell no datagram.
use Rattle.std.specs.Prelude.{ℕ, ◌≤◌, ◌^◌, List}
use Rattle.text_lines.specs.declared.line_fault.LineFault.{LineFault}
use Rattle.text_lines.specs.declared.line_fault.LineFault.TheVariants.{Write, Field, Memory}
use Rattle.datagram_source.specs.declared.lines.LineForm.{LineForm}
use Rattle.datagram_source.specs.Datagram.{DatagramOf, IsDatagramLine}

-- a line tells no datagram, whatever its number
abbrev pub NoDatagram : LineForm → List ℕ → Type 0
NoDatagram form line = (number : ℕ) (d : DatagramOf) → IsDatagramLine form number line d → ⊥

-- why a line of this form and this number isn't read
abbrev pub IsUnread : LineFault → LineForm → (number : ℕ) → List ℕ → Type 0
IsUnread Write form number line = ⊥
IsUnread Field form number line = NoDatagram form line
IsUnread Memory form number line = (d : DatagramOf) × IsDatagramLine form number line d × (2 ^ 64 ≤ number)
