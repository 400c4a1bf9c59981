-- What is made of the datagrams of an input, by what a task does with each of them, and at the end.
use Rattle.std.specs.Prelude.{◌≡◌, ◌⊎◌, ℕ, ◌+◌, ◌-◌, ◌^◌, ◌≤◌, List, [], Bool, true, false, Option}
use Rattle.text_lines.specs.declared.line_fault.LineFault.{LineFault}
use Rattle.text_lines.specs.declared.line_fault.LineFault.TheVariants.{Field, Memory}
use Rattle.text_lines.specs.Counted.{greatest_count}
use Rattle.text_lines.specs.Task.{Rules}
use Rattle.capture_file.specs.declared.name.InterfaceName.{InterfaceName}
use Rattle.capture_file.specs.Name.{is_asked}
use Rattle.capture_file.specs.Packet.{PacketOf, Captured, Timeless, Simple}
use Rattle.capture_file.specs.Task.{PacketRules}
use Rattle.datagram_source.specs.declared.lines.LineForm.{LineForm}
use Rattle.datagram_source.specs.Datagram.{DatagramOf, IsDatagramLine, IsDatagramPacket}

-- The rules of a task: which form lines have; the interface of which packets are asked for, if one is; from which state to
-- which a datagram takes it, with what is written; at which fault one stops it, with what is written before; to which state the
-- end takes it, with what is written; at which fault the end stops it; which of these faults say that the writer failed; which
-- leave the task in its state; and what a fault of a line is among them.
pub record DatagramRules (S F : Type 0) : Type 1 where
  pub line_form : LineForm
  pub asked : S → Option InterfaceName
  pub Takes : DatagramOf → S → S → List ℕ → Type 0
  pub Stops : DatagramOf → S → F → List ℕ → Type 0
  pub Ends : S → S → List ℕ → Type 0
  pub StopsAtEnd : S → F → List ℕ → Type 0
  pub is_of_writer : F → Bool
  pub keeps : F → Bool
  pub fault_of : LineFault → F

-- whether a fault of a line says that this isn't what is asked for
abbrev pub is_field : LineFault → Bool
is_field Field = true
is_field fault = false

-- ---- lines
-- how many lines were read, and the state that their datagrams took a task to
pub record LinesRead (S : Type 0) : Type 0 where
  pub count : ℕ
  pub state : S

-- nothing was read
abbrev pub nothing_read : {S : Type 0} → (start : S) → LinesRead S
nothing_read start = record { count = 0; state = start }

-- the next line is this datagram
abbrev pub IsNext : {S F : Type 0} → DatagramRules S F → LinesRead S → List ℕ → DatagramOf → Type 0
IsNext rules r line d = IsDatagramLine rules.line_form (r.count + 1) line d

-- a line tells a datagram, which is taken
abbrev pub TakesLine : {S F : Type 0} → DatagramRules S F → List ℕ → LinesRead S → LinesRead S → List ℕ → Type 0
TakesLine rules line r later out =
    (d : DatagramOf) × IsNext rules r line d × (later.count ≡ r.count + 1) × rules.Takes d r.state later.state out

-- a line isn't given to the task: it tells no datagram, or there are more lines than can be counted
abbrev pub IsNotGiven : {S F : Type 0} → DatagramRules S F → List ℕ → LinesRead S → F → Type 0
IsNotGiven rules line r fault =
    (((d : DatagramOf) → IsNext rules r line d → ⊥) × (fault ≡ rules.fault_of Field))
    ⊎ ((d : DatagramOf) × IsNext rules r line d × (greatest_count ≤ r.count) × (fault ≡ rules.fault_of Memory))

-- why a line isn't taken: it isn't given to the task, or its datagram stops that
abbrev pub StopsAtLine : {S F : Type 0} → DatagramRules S F → List ℕ → LinesRead S → F → List ℕ → Type 0
StopsAtLine rules line r fault out =
    (IsNotGiven rules line r fault × (out ≡ []))
    ⊎ ((d : DatagramOf) × IsNext rules r line d × rules.Stops d r.state fault out)

-- the lines of an input, as many as can be counted
abbrev pub line_rules : {S F : Type 0} → DatagramRules S F → Rules (LinesRead S) ℕ F
line_rules {S} rules = record {
  lines_limit = 2 ^ 64 - 2;
  Takes = TakesLine rules;
  Stops = StopsAtLine rules;
  Ends = λ lines r answer out. (answer ≡ lines) × ((later : S) × rules.Ends r.state later out);
  StopsAtEnd = λ r fault out. rules.StopsAtEnd r.state fault out;
  is_of_writer = rules.is_of_writer;
}

-- ---- packets
-- a packet is of the interface that is asked for, if one is
abbrev pub IsAsked : Option InterfaceName → PacketOf → Type 0
IsAsked asked (Captured interface time link octets) = is_asked asked interface ≡ true
IsAsked asked Timeless = ⊥
IsAsked asked Simple = ⊥

-- a task in this state is given this datagram, which the packet of this number carries
abbrev pub IsGiven : {S F : Type 0} → DatagramRules S F → (state : S) → (number : ℕ) → PacketOf → DatagramOf → Type 0
IsGiven rules state number packet d = IsDatagramPacket number packet d × IsAsked (rules.asked state) packet

-- a packet gives the task a datagram, which is taken, or gives none and changes nothing
abbrev pub TakesPacket : {S F : Type 0} → DatagramRules S F → (number : ℕ) → PacketOf → S → S → List ℕ → Type 0
TakesPacket rules number packet state later out =
    ((d : DatagramOf) × IsGiven rules state number packet d × rules.Takes d state later out)
    ⊎ (((d : DatagramOf) → IsGiven rules state number packet d → ⊥) × (later ≡ state) × (out ≡ []))

-- why a packet isn't taken: the datagram that it gives stops the task
abbrev pub StopsAtPacket : {S F : Type 0} → DatagramRules S F → (number : ℕ) → PacketOf → S → F → List ℕ → Type 0
StopsAtPacket rules number packet state fault out =
    (d : DatagramOf) × IsGiven rules state number packet d × rules.Stops d state fault out

-- the packets of a capture
abbrev pub packet_rules : {S F : Type 0} → DatagramRules S F → PacketRules S ℕ F
packet_rules {S} rules = record {
  Takes = TakesPacket rules;
  Stops = StopsAtPacket rules;
  Ends = λ packets state answer out. (answer ≡ packets) × ((later : S) × rules.Ends state later out);
  StopsAtEnd = rules.StopsAtEnd;
  is_of_writer = rules.is_of_writer;
}
