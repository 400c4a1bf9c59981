use Rattle.std.proofs.Common.{rules, ◌≡◌, true, false, arith, ◌∙◌}
use Rattle.text_lines.specs.Counted.{device_of}
use Rattle.capture_file.specs.Pcap.{is_pcap_version}
use Rattle.capture_file.specs.Inner.Front.{front_of}
use Rattle.capture_file.proofs.Heads.{begun, begun_more, version_more, head_stops, reads_none, wrong_version}
use Rattle.capture_file.proofs.pcap_reading.read_pcap_head.Goals as goal

pub returns-in_err-want-clause-head : goal.returns-in_err-want-clause-head
returns-in_err-want-clause-head g c =
    let stop = c.in_err-want.field-0.0 in
    let first = begun (g.R.Read.remaining (device_of c.args.input.now)) c.args.order c.args.unit (front_of c.args.front.now) (c.requires.size, c.requires.magic) in
    reads_none _ _ _ stop (search rules)
    (head_stops _ _ _ 8 _ _ _ (front_of c.want.new.self) stop (omega arith) first c.in_err-want.ensures.wanted (λ short least fills. absurd (omega (arith, short, least))))

pub returns-then-not-is_pcap_version-clause-head : goal.returns-then-not-is_pcap_version-clause-head
returns-then-not-is_pcap_version-clause-head g c =
    let first = begun (g.R.Read.remaining (device_of c.args.input.now)) c.args.order c.args.unit (front_of c.args.front.now) (c.requires.size, c.requires.magic) in
    let (fills, size) = c.in_ok-want.ensures.wanted in
    let next = begun_more _ _ _ _ _ _ _ first fills in
    let wrong : is_pcap_version c.args.order (front_of c.want.new.self) ≡ false = search rules in
    wrong_version _ _ c.args.order c.args.unit (front_of c.want.new.self) next (omega (arith, size)) wrong

pub returns-in_err-want-2-clause-head : goal.returns-in_err-want-2-clause-head
returns-in_err-want-2-clause-head g c =
    let stop = c.in_err-want-2.field-0.0 in
    let first = begun (g.R.Read.remaining (device_of c.args.input.now)) c.args.order c.args.unit (front_of c.args.front.now) (c.requires.size, c.requires.magic) in
    let (fills, size) = c.in_ok-want.ensures.wanted in
    let next = begun_more _ _ _ _ _ _ _ first fills in
    let known : is_pcap_version c.args.order (front_of c.want.new.self) ≡ true = search rules in
    reads_none _ _ _ stop (search rules)
    (head_stops _ _ _ 24 _ _ _ (front_of c.want-2.new.self) stop (omega arith) next c.in_err-want-2.ensures.wanted
    (λ short least more. version_more _ _ c.args.order _ _ (omega (arith, size)) more ∙ known))

pub returns-clause-head : goal.returns-clause-head
returns-clause-head g c =
    let first = begun (g.R.Read.remaining (device_of c.args.input.now)) c.args.order c.args.unit (front_of c.args.front.now) (c.requires.size, c.requires.magic) in
    let (fills, size) = c.in_ok-want.ensures.wanted in
    let next = begun_more _ _ _ _ _ _ _ first fills in
    let known : is_pcap_version c.args.order (front_of c.want.new.self) ≡ true = search rules in
    let (more, whole) = c.in_ok-want-2.ensures.wanted in
    let last = begun_more _ _ _ _ _ _ _ next more in (
      front_of c.want-2.new.self,
      last.read,
      record {
        size = whole;
        magic = last.magic;
        version = version_more _ _ c.args.order _ _ (omega (arith, size)) more ∙ known;
        link_type = search rules;
      },
    )
