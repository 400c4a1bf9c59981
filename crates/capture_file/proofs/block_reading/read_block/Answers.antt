use Rattle.std.proofs.Common.{rules, ◌≡◌, ◌≢◌, false, arith, ◌∙◌}
use Rattle.capture_file.specs.declared.order.ByteOrder.TheVariants.{Big}
use Rattle.capture_file.specs.Order.{number32}
use Rattle.capture_file.specs.Pcapng.{BeginsSection, is_length_of}
use Rattle.capture_file.specs.Inner.Front.{front_of}
use Rattle.capture_file.specs.Inner.Section.{section_in}
use Rattle.capture_file.proofs.Packets.{reads_no_part}
use Rattle.capture_file.proofs.Fronts.{consumes_from}
use Rattle.capture_file.proofs.Blocks.{block_head_is}
use Rattle.capture_file.proofs.Starts.{header_stops, sized_stops, wrong_total}
use Rattle.capture_file.proofs.block_reading.read_block.Goals as goal

pub returns-in_err-order-clause-part : goal.returns-in_err-order-clause-part
returns-in_err-order-clause-part g c =
    let front = front_of c.read_block_head.new.front in
    let (read, size) = block_head_is _ _ c.in_ok-read_block_head.field-0 front (search rules) c.in_ok-read_block_head.ensures.head in
    let begins : BeginsSection front = search rules in
    reads_no_part _ _ _ _ _ c.in_err-order.field-0.0 (search rules)
    (header_stops _ _ _ (section_in c.args.section.now) front c.in_err-order.field-0.0 read (omega (arith, size)) begins c.in_err-order.ensures.header)

pub returns-then-not-is_length_of-clause-part : goal.returns-then-not-is_length_of-clause-part
returns-then-not-is_length_of-clause-part g c =
    let front = front_of c.read_block_head.new.front in
    let (read, size) = block_head_is _ _ c.in_ok-read_block_head.field-0 front (search rules) c.in_ok-read_block_head.ensures.head in
    let s = section_in c.args.section.now in
    let other : number32 Big front 0 ≢ 168627466 = search rules in
    let wrong : is_length_of (number32 s.order front 0) (number32 s.order front 4) ≡ false = search rules in
    wrong_total _ _ s front read (omega (arith, size)) other wrong

pub returns-in-Ok-clause-part : goal.returns-in-Ok-clause-part
returns-in-Ok-clause-part g c =
    let front = front_of c.read_block_head.new.front in
    let (read, size) = block_head_is _ _ c.in_ok-read_block_head.field-0 front (search rules) c.in_ok-read_block_head.ensures.head in
    let (octets, both, whole, part) = c.in-Ok.ensures.block in
    (octets, consumes_from _ _ _ front octets read both, whole ∙ search rules, part)

pub returns-in-Err-clause-part : goal.returns-in-Err-clause-part
returns-in-Err-clause-part g c =
    let front = front_of c.read_block_head.new.front in
    let (read, size) = block_head_is _ _ c.in_ok-read_block_head.field-0 front (search rules) c.in_ok-read_block_head.ensures.head in
    sized_stops _ _ _ (section_in c.args.section.now) front c.in-Err.stop read c.in-Err.ensures.block
