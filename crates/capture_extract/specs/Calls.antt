-- The calls of `ptpx measure` below a table.
use Rattle.std.specs.Prelude.{ℕ, nat_lt, if◌then◌else◌}
use Rattle.std.specs.Prelude.{List, [], ◌∷◌, ◌++◌, length, take, codes, Option, Some, None, option_map}
use Rattle.std.specs.Fmt.{decimal}
use Rattle.std.specs.List.{concat, cons_option}
use Rattle.capture_file.specs.Packet.{InterfaceOf}
use Rattle.event_codec.specs.declared.port.PortIdentity.{PortIdentity}
use Rattle.datagram_source.specs.declared.stream.Stream.{Stream}
use Rattle.datagram_source.specs.Stream.{is_same_stream, plain}
use Rattle.datagram_text.specs.Shown.{identity_text}
use Rattle.capture_extract.specs.declared.message_type.MessageType.{MessageType}
use Rattle.capture_extract.specs.declared.message_type.MessageType.TheVariants as types
use Rattle.capture_extract.specs.declared.row.RowKey.{RowKey}
use Rattle.capture_extract.specs.declared.calls.Measured.{Measured}
use Rattle.capture_extract.specs.Labels.{argument_text, interface_at}
use Rattle.capture_extract.specs.Streams.{stream_text}

-- ---- a call
-- whom the messages of a row answer
abbrev pub answered_by : MessageType → Option PortIdentity → Option PortIdentity
answered_by types.DelayResp requesting = requesting
answered_by _ requesting = None

abbrev pub answered : RowKey → Option PortIdentity
answered key = answered_by key.message key.requesting

-- the one who answers is the master
abbrev pub measured_of : RowKey → PortIdentity → Measured
measured_of key slave = record { domain = key.domain; master = key.source; slave = slave }

-- the options that name whom it measures
abbrev pub measured_text : Measured → List ℕ
measured_text m =
    codes " --domain " ++ decimal m.domain ++ codes " --master " ++ identity_text m.master ++ codes " --slave " ++ identity_text m.slave

-- the interface has to be named where several were met
abbrev pub interface_of_call : List InterfaceOf → RowKey → Option InterfaceOf
interface_of_call interfaces key = if nat_lt 1 (length interfaces) then interface_at interfaces key.interface else None

abbrev pub interface_option : Option InterfaceOf → List ℕ
interface_option None = []
interface_option (Some i) = codes " --interface " ++ argument_text i

-- a remark tells the stream, where anything tells it from that of sdoId 0 in no VLAN by multicast
abbrev pub remark : Option Stream → List ℕ
remark None = []
remark (Some stream) = if is_same_stream stream plain then [] else codes " # stream " ++ stream_text stream

unfoldable pub call_text : Option InterfaceOf → Measured → Option Stream → List ℕ
call_text interface measured stream =
    codes "ptpx measure" ++ interface_option interface ++ measured_text measured ++ remark stream

-- ---- all calls
-- the line of the call that measures whom the messages of a row answer
abbrev pub call_line : List InterfaceOf → RowKey → (slave : PortIdentity) → List ℕ
call_line interfaces key slave =
    call_text (interface_of_call interfaces key) (measured_of key slave) key.stream ++ codes "\n"

-- one for each row whose messages answer anyone
abbrev pub calls_of : List InterfaceOf → List RowKey → List (List ℕ)
calls_of interfaces [] = []
calls_of interfaces (key ∷ keys) = cons_option (option_map (call_line interfaces key) (answered key)) (calls_of interfaces keys)

-- the most calls that are written
abbrev pub calls_limit : ℕ
calls_limit = 8

-- the first of them behind an empty line, and a sentence where there are more
abbrev pub calls_text : List (List ℕ) → List ℕ
calls_text [] = []
calls_text (call ∷ calls) =
    codes "\n" ++ concat (take calls_limit (call ∷ calls))
    ++ (if nat_lt calls_limit (length (call ∷ calls)) then codes "and so on, for each row of Delay_Resp\n" else [])
