use Rattle.std.proofs.Common.{rules, ◌≡◌, ◌≤◌, ◌+◌, ◌-◌, arith, ◌∙◌, min, ◌++◌, refl}
use Rattle.std.proofs.Common.{length-append}
use Rattle.std.proofs.KnownBytes.{Consumes-trans}
use Rattle.capture_file.specs.Order.{number32}
use Rattle.capture_file.specs.Inner.Front.{front_of}
use Rattle.capture_file.specs.Inner.Reading.{pcap_of}
use Rattle.capture_file.specs.Packet.{packet_of}
use Rattle.capture_file.proofs.Fronts.{number32_front}
use Rattle.capture_file.proofs.Packets.{head_is, packet_stops, rest_stops, reads_no_part, is_packet}
use Rattle.capture_file.proofs.pcap_reading.read_packet.Goals as goal

pub returns-in_err-want-clause-part : goal.returns-in_err-want-clause-part
returns-in_err-want-clause-part g c =
    let front = front_of c.read_packet_head.new.front in
    let (read, size) = head_is _ _ c.in_ok-read_packet_head.field-0 front (search rules) c.in_ok-read_packet_head.ensures.head in
    let captured : c.u32_at-captured.result ≡ number32 c.args.head.order front 8 = search rules in
    let kept : c.min-kept.result ≤ c.u32_at-captured.result = search rules in
    reads_no_part _ _ _ _ _ c.in_err-want.field-0.0 (search rules)
    (packet_stops _ _ _ (pcap_of c.args.head) (16 + c.min-kept.result) front (front_of c.want.new.self) c.in_err-want.field-0.0 read size
    (omega (arith, kept, captured)) c.in_err-want.ensures.wanted)

pub returns-in_err-pass_rest-clause-part : goal.returns-in_err-pass_rest-clause-part
returns-in_err-pass_rest-clause-part g c =
    let front = front_of c.read_packet_head.new.front in
    let (read, size) = head_is _ _ c.in_ok-read_packet_head.field-0 front (search rules) c.in_ok-read_packet_head.ensures.head in
    let captured : c.u32_at-captured.result ≡ number32 c.args.head.order front 8 = search rules in
    let kept : c.min-kept.result ≤ c.u32_at-captured.result = search rules in
    let ((more, is, next), whole) = c.in_ok-want.ensures.wanted in
    let same : number32 c.args.head.order (front_of c.want.new.self) 8 ≡ number32 c.args.head.order front 8 =
    rw is (number32_front c.args.head.order front more 8 (omega (arith, size))) in
    reads_no_part _ _ _ _ _ c.in_err-pass_rest.field-0.0 (search rules)
    (rest_stops _ _ _ (pcap_of c.args.head) (c.u32_at-captured.result - c.min-kept.result) (front_of c.want.new.self) c.in_err-pass_rest.field-0.0
    (rw is (Consumes-trans _ _ _ front more read next)) (omega (arith, whole)) (omega (arith, whole, kept, captured, same)) c.in_err-pass_rest.ensures.passed)

pub returns-clause-part : goal.returns-clause-part
returns-clause-part g c =
    let front = front_of c.read_packet_head.new.front in
    let (read, size) = head_is _ _ c.in_ok-read_packet_head.field-0 front (search rules) c.in_ok-read_packet_head.ensures.head in
    let captured : c.u32_at-captured.result ≡ number32 c.args.head.order front 8 = search rules in
    let kept : c.min-kept.result ≡ min c.u32_at-captured.result 65536 = search rules in
    let ((more, is, next), whole) = c.in_ok-want.ensures.wanted in
    let all = front_of c.want.new.self in
    let same : number32 c.args.head.order all 8 ≡ number32 c.args.head.order front 8 =
    rw is (number32_front c.args.head.order front more 8 (omega (arith, size))) in
    let (passed, last, count) = c.in_ok-pass_rest.ensures.passed in (
      all ++ passed,
      Consumes-trans _ _ _ all passed (rw is (Consumes-trans _ _ _ front more read next)) last,
      length-append all passed ∙ search rules,
      (
        refl,
        is_packet (pcap_of c.args.head) all passed (packet_of c.packet_in.result) (omega (arith, whole)) (λ some. omega (arith, whole, kept, count, some))
            (omega (arith, whole, kept, count, captured, same)) (search rules),
      ),
    )
