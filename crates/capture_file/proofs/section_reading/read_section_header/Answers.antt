use Rattle.std.proofs.Common.{rules, ◌≡◌, ◌≤◌, ◌∙◌, ap, true, false, Some, None, arith}
use Rattle.text_lines.specs.Counted.{device_of}
use Rattle.capture_file.specs.Pcapng.{section_type, is_length_of, order_of_magic, is_section_version}
use Rattle.capture_file.specs.Wrong.{total_of}
use Rattle.capture_file.specs.Inner.Front.{front_of}
use Rattle.capture_file.proofs.Headers.{in_header, in_header_more, twelve_sound, so_far_filled, total_filled, reads_no_header, twelve_stop}
use Rattle.capture_file.proofs.Headers.{wrong_magic, wrong_size, sixteen_stop, wrong_version, end_stops, reads_header}
use Rattle.capture_file.proofs.section_reading.read_section_header.Goals as goal

pub returns-in_err-want-clause-header : goal.returns-in_err-want-clause-header
returns-in_err-want-clause-header g c =
    let stop = c.in_err-want.field-0.0 in
    let start = in_header (g.R.Read.remaining (device_of c.args.input.now)) (front_of c.args.front.now) c.requires.least c.requires.kind in
    reads_no_header _ _ _ stop (search rules) (twelve_stop _ _ _ _ (front_of c.want.new.self) stop start c.in_err-want.ensures.wanted)

pub returns-in_default-clause-header : goal.returns-in_default-clause-header
returns-in_default-clause-header g c =
    let start = in_header (g.R.Read.remaining (device_of c.args.input.now)) (front_of c.args.front.now) c.requires.least c.requires.kind in
    let (fills, there) = c.in_ok-want.ensures.wanted in
    let none : order_of_magic (front_of c.want.new.self) ≡ None = search rules in
    wrong_magic _ _ (front_of c.want.new.self) (in_header_more _ _ _ _ _ start fills) there none

pub returns-then-not-is_length_of-clause-header : goal.returns-then-not-is_length_of-clause-header
returns-then-not-is_length_of-clause-header g c =
    let front = front_of c.want.new.self in
    let order = c.in-Some.order in
    let start = in_header (g.R.Read.remaining (device_of c.args.input.now)) (front_of c.args.front.now) c.requires.least c.requires.kind in
    let (fills, there) = c.in_ok-want.ensures.wanted in
    let magic : order_of_magic front ≡ Some order = search rules in
    let total : total_of order front ≡ c.u32_at-total.result = search rules in
    let wrong : is_length_of section_type c.u32_at-total.result ≡ false = search rules in
    wrong_size _ _ order front (in_header_more _ _ _ _ _ start fills) there magic (ap (is_length_of section_type) total ∙ wrong)

pub returns-in_err-want-2-clause-header : goal.returns-in_err-want-2-clause-header
returns-in_err-want-2-clause-header g c =
    let stop = c.in_err-want-2.field-0.0 in
    let front = front_of c.want.new.self in
    let order = c.in-Some.order in
    let start = in_header (g.R.Read.remaining (device_of c.args.input.now)) (front_of c.args.front.now) c.requires.least c.requires.kind in
    let (fills, there) = c.in_ok-want.ensures.wanted in
    let magic : order_of_magic front ≡ Some order = search rules in
    let total : total_of order front ≡ c.u32_at-total.result = search rules in
    let size : is_length_of section_type c.u32_at-total.result ≡ true = search rules in
    let least : 16 ≤ c.u32_at-total.result = search rules in
    reads_no_header _ _ _ stop (search rules)
    (sixteen_stop _ _ _ order front (front_of c.want-2.new.self) stop (in_header_more _ _ _ _ _ start fills)
    (twelve_sound order front there magic (ap (is_length_of section_type) total ∙ size)) (omega (arith, least, total)) c.in_err-want-2.ensures.wanted)

pub returns-then-not-is_section_version-clause-header : goal.returns-then-not-is_section_version-clause-header
returns-then-not-is_section_version-clause-header g c =
    let front = front_of c.want.new.self in
    let order = c.in-Some.order in
    let start = in_header (g.R.Read.remaining (device_of c.args.input.now)) (front_of c.args.front.now) c.requires.least c.requires.kind in
    let (fills, there) = c.in_ok-want.ensures.wanted in
    let magic : order_of_magic front ≡ Some order = search rules in
    let total : total_of order front ≡ c.u32_at-total.result = search rules in
    let size : is_length_of section_type c.u32_at-total.result ≡ true = search rules in
    let (more, whole) = c.in_ok-want-2.ensures.wanted in
    let wrong : is_section_version order (front_of c.want-2.new.self) ≡ false = search rules in
    wrong_version _ _ _ order front (front_of c.want-2.new.self) (in_header_more _ _ _ _ _ start fills)
    (twelve_sound order front there magic (ap (is_length_of section_type) total ∙ size)) more whole wrong

pub returns-in_err-close-clause-header : goal.returns-in_err-close-clause-header
returns-in_err-close-clause-header g c =
    let stop = c.in_err-close.field-0.0 in
    let front = front_of c.want.new.self in
    let all = front_of c.want-2.new.self in
    let order = c.in-Some.order in
    let start = in_header (g.R.Read.remaining (device_of c.args.input.now)) (front_of c.args.front.now) c.requires.least c.requires.kind in
    let (fills, there) = c.in_ok-want.ensures.wanted in
    let magic : order_of_magic front ≡ Some order = search rules in
    let total : total_of order front ≡ c.u32_at-total.result = search rules in
    let size : is_length_of section_type c.u32_at-total.result ≡ true = search rules in
    let (more, whole) = c.in_ok-want-2.ensures.wanted in
    let version : is_section_version order all ≡ true = search rules in
    let header = in_header_more _ _ _ _ _ (in_header_more _ _ _ _ _ start fills) more in
    reads_no_header _ _ _ stop (search rules)
    (end_stops _ _ _ order c.u32_at-total.result all stop header.read whole
    (so_far_filled order _ _ front all (twelve_sound order front there magic (ap (is_length_of section_type) total ∙ size)) more (λ least. version))
    (total_filled order _ _ front all (omega (arith, there)) more ∙ total) c.in_err-close.ensures.closed)

pub returns-clause-header : goal.returns-clause-header
returns-clause-header g c =
    let front = front_of c.want.new.self in
    let all = front_of c.want-2.new.self in
    let order = c.in-Some.order in
    let start = in_header (g.R.Read.remaining (device_of c.args.input.now)) (front_of c.args.front.now) c.requires.least c.requires.kind in
    let (fills, there) = c.in_ok-want.ensures.wanted in
    let magic : order_of_magic front ≡ Some order = search rules in
    let total : total_of order front ≡ c.u32_at-total.result = search rules in
    let size : is_length_of section_type c.u32_at-total.result ≡ true = search rules in
    let (more, whole) = c.in_ok-want-2.ensures.wanted in
    let version : is_section_version order all ≡ true = search rules in
    reads_header _ _ _ order c.u32_at-total.result all (in_header_more _ _ _ _ _ (in_header_more _ _ _ _ _ start fills) more) whole
    (so_far_filled order _ _ front all (twelve_sound order front there magic (ap (is_length_of section_type) total ∙ size)) more (λ least. version))
    (total_filled order _ _ front all (omega (arith, there)) more ∙ total) c.in_ok-close.ensures.closed
