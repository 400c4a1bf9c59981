use Rattle.std.proofs.Common.{rules, subst, arith}
use Rattle.capture_file.specs.declared.reader.Magic.{Magic}
use Rattle.capture_file.specs.Pcapng.{BeginsSection}
use Rattle.capture_file.specs.Inner.Front.{front_of}
use Rattle.capture_file.specs.Inner.Reading.{TellsMagic}
use Rattle.capture_file.proofs.Packets.{reads_no_part}
use Rattle.capture_file.proofs.Starts.{first_header_stops}
use Rattle.capture_file.proofs.reader.read_start.Goals as goal

pub returns-in_err-order-in-Section-clause-part : goal.returns-in_err-order-in-Section-clause-part
returns-in_err-order-in-Section-clause-part g c =
    let front = front_of c.read_magic.new.front in
    let (read, size, tells) = c.in_ok-order.ensures.magic in
    let begins : BeginsSection front = subst (λ (m : Magic). TellsMagic m front) c.in-Section.is tells in
    reads_no_part _ _ _ _ _ c.in_err-order-in-Section.field-0.0 (search rules)
    (first_header_stops _ _ _ front c.in_err-order-in-Section.field-0.0 read (omega (arith, size)) begins c.in_err-order-in-Section.ensures.header)
