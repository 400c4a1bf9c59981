use Rattle.std.proofs.Common.{rules, ◌≡◌, ◌-◌, ◌++◌, min, drop, sym, inl, inr, Ok, Err, true, false, arith, ◌∙◌, ap}
use Rattle.text_lines.specs.Counted.{device_of}
use Rattle.capture_file.specs.Pcapng.{description_type}
use Rattle.capture_file.specs.Inner.Front.{front_of}
use Rattle.capture_file.specs.Inner.Section.{section_in}
use Rattle.capture_file.proofs.Blocks.{in_block, in_block_filled, in_block_more, block_stops, close_stops, reads_no_block, is_block}
use Rattle.capture_file.proofs.Descriptions.{least_description, sound_head, sound_whole, cut_options, wrong_option, is_description, filled_as, fills_any, longer}
use Rattle.capture_file.proofs.OptionSteps.{rest_is}
use Rattle.capture_file.specs.Order.{number16}
use Rattle.capture_file.specs.Options.{found_in}
use Rattle.capture_file.specs.Parts.{Section}
use Rattle.capture_file.specs.Section.{description_of}
use Rattle.capture_file.proofs.block_reading.read_description.Goals as goal

pub returns-in_err-want-clause-block : goal.returns-in_err-want-clause-block
returns-in_err-want-clause-block g c =
    let s = section_in c.args.section.now in
    let total = c.args.total in
    let least = least_description total c.requires.head.size in
    let i = in_block (g.R.Read.remaining (device_of c.args.input.now)) s description_type total (front_of c.args.front.now) c.requires.head in
    reads_no_block _ _ s s total _ c.in_err-want.field-0.0 (search rules)
    (block_stops _ _ _ s description_type total 16 (front_of c.args.front.now) (front_of c.want.new.self) c.in_err-want.field-0.0 i (omega (arith, least))
    c.in_err-want.ensures.wanted (λ short fills. sound_head s _ short))

pub returns-in-Err-default-clause-block : goal.returns-in-Err-default-clause-block
returns-in-Err-default-clause-block g c =
    let s = section_in c.args.section.now in
    let total = c.args.total in
    let least = least_description total c.requires.head.size in
    let i = in_block (g.R.Read.remaining (device_of c.args.input.now)) s description_type total (front_of c.args.front.now) c.requires.head in
    let (fills, size) = c.in_ok-want.ensures.wanted in
    let next = in_block_filled _ _ _ s description_type total _ _ i fills in
    let head = front_of c.want.new.self in
    let front = front_of c.fill_to-filled.new.self in
    let kept : c.min-kept.result ≡ min (total - 4) 65600 = search rules in
    let filled = filled_as c.min-kept.result c.fill_to-filled.result (Err c.in-Err-default.field-0-0) head front _ _ c.in-Err-default.is-0 c.fill_to-filled.ensures.filled in
    (front, (in_block_filled _ _ _ s description_type total head front next filled).read)

pub returns-in-Ok-Err-clause-block : goal.returns-in-Ok-Err-clause-block
returns-in-Ok-Err-clause-block g c =
    let s = section_in c.args.section.now in
    let total = c.args.total in
    let least = least_description total c.requires.head.size in
    let i = in_block (g.R.Read.remaining (device_of c.args.input.now)) s description_type total (front_of c.args.front.now) c.requires.head in
    let (fills, size) = c.in_ok-want.ensures.wanted in
    let next = in_block_filled _ _ _ s description_type total _ _ i fills in
    let head = front_of c.want.new.self in
    let front = front_of c.fill_to-filled.new.self in
    let kept : c.min-kept.result ≡ min (total - 4) 65600 = search rules in
    let there = rest_is c.octets.result.now 16 ∙ ap (drop 16) c.octets.ensures in
    let filled = filled_as c.min-kept.result c.fill_to-filled.result (Ok c.in-Ok-Err.field-0-0) head front _ _ c.in-Ok-Err.is-0 c.fill_to-filled.ensures.filled in
    let any = fills_any c.min-kept.result c.in-Ok-Err.field-0-0 head front _ _ filled in
    let last = in_block_filled _ _ _ s description_type total head front next any in
    let some = longer head front _ _ any in
    wrong_option _ _ _ s total c.min-kept.result c.in-Ok-Err.place head front c.in-Ok-Err.field-0-0 last least (omega (arith, size, some)) kept (omega (arith, size, kept, least)) filled
    _ there c.in-Ok-Err.ensures

pub returns-in-Ok-false-Ok-clause-block : goal.returns-in-Ok-false-Ok-clause-block
returns-in-Ok-false-Ok-clause-block g c =
    let s = section_in c.args.section.now in
    let total = c.args.total in
    let least = least_description total c.requires.head.size in
    let i = in_block (g.R.Read.remaining (device_of c.args.input.now)) s description_type total (front_of c.args.front.now) c.requires.head in
    let (fills, size) = c.in_ok-want.ensures.wanted in
    let next = in_block_filled _ _ _ s description_type total _ _ i fills in
    let head = front_of c.want.new.self in
    let front = front_of c.fill_to-filled.new.self in
    let kept : c.min-kept.result ≡ min (total - 4) 65600 = search rules in
    let there = rest_is c.octets.result.now 16 ∙ ap (drop 16) c.octets.ensures in
    let filled = filled_as c.min-kept.result c.fill_to-filled.result (Ok false) head front _ _ (search rules) c.fill_to-filled.ensures.filled in
    let last = in_block_filled _ _ _ s description_type total head front next filled.0 in
    let (options, are, found) = c.in-Ok-false-Ok.ensures in
    cut_options _ _ s total c.min-kept.result front options last least _ there filled.2 filled.1 kept are

pub returns-in_err-close-clause-block : goal.returns-in_err-close-clause-block
returns-in_err-close-clause-block g c =
    let s = section_in c.args.section.now in
    let total = c.args.total in
    let least = least_description total c.requires.head.size in
    let i = in_block (g.R.Read.remaining (device_of c.args.input.now)) s description_type total (front_of c.args.front.now) c.requires.head in
    let (fills, size) = c.in_ok-want.ensures.wanted in
    let next = in_block_filled _ _ _ s description_type total _ _ i fills in
    let head = front_of c.want.new.self in
    let front = front_of c.fill_to-filled.new.self in
    let kept : c.min-kept.result ≡ min (total - 4) 65600 = search rules in
    let there = rest_is c.octets.result.now 16 ∙ ap (drop 16) c.octets.ensures in
    let filled = filled_as c.min-kept.result c.fill_to-filled.result (Ok true) head front _ _ (search rules) c.fill_to-filled.ensures.filled in
    let last = in_block_filled _ _ _ s description_type total head front next filled.0 in
    let full = filled.1 (omega (arith, size, kept, least)) in
    let (options, are, found) = c.in-Ok-true-Ok.ensures in
    reads_no_block _ _ s s total _ c.in_err-close.field-0.0 (search rules)
    (close_stops _ _ _ s description_type total c.min-kept.result front c.in_err-close.field-0.0 last (sym full)
    (λ rest. sound_whole _ _ s total c.min-kept.result front rest options last least full kept _ there are) c.in_err-close.ensures.closed)

pub returns-in-Ok-clause-block : goal.returns-in-Ok-clause-block
returns-in-Ok-clause-block g c =
    let s = section_in c.args.section.now in
    let total = c.args.total in
    let least = least_description total c.requires.head.size in
    let i = in_block (g.R.Read.remaining (device_of c.args.input.now)) s description_type total (front_of c.args.front.now) c.requires.head in
    let (fills, size) = c.in_ok-want.ensures.wanted in
    let next = in_block_filled _ _ _ s description_type total _ _ i fills in
    let head = front_of c.want.new.self in
    let front = front_of c.fill_to-filled.new.self in
    let kept : c.min-kept.result ≡ min (total - 4) 65600 = search rules in
    let there = rest_is c.octets.result.now 16 ∙ ap (drop 16) c.octets.ensures in
    let filled = filled_as c.min-kept.result c.fill_to-filled.result (Ok true) head front _ _ (search rules) c.fill_to-filled.ensures.filled in
    let last = in_block_filled _ _ _ s description_type total head front next filled.0 in
    let full = filled.1 (omega (arith, size, kept, least)) in
    let (options, are, found) = c.in-Ok-true-Ok.ensures in
    let (rest, read, least-4, whole, same) = c.in_ok-close.ensures.closed in
    let all = in_block_more _ _ _ s description_type total front rest last read in
    let (length_is, block) = is_block _ _ _ s description_type total c.min-kept.result front rest last (sym full) read least-4 whole same in
    let link : c.u16_at-link.result ≡ number16 s.order front 8 = search rules in (
      front ++ rest,
      all.read,
      length_is,
      inr (inl (
        description_of c.u16_at-link.result s.interfaces (found_in s.order options),
        is_description _ _ s total c.min-kept.result front rest options c.u16_at-link.result last least (omega (arith, full, kept, least)) full kept length_is block _ there are link,
        ap Section (search rules),
      )),
    )

pub returns-in-Err-clause-block : goal.returns-in-Err-clause-block
returns-in-Err-clause-block g c =
    let s = section_in c.args.section.now in
    let total = c.args.total in
    let least = least_description total c.requires.head.size in
    let i = in_block (g.R.Read.remaining (device_of c.args.input.now)) s description_type total (front_of c.args.front.now) c.requires.head in
    let (fills, size) = c.in_ok-want.ensures.wanted in
    let next = in_block_filled _ _ _ s description_type total _ _ i fills in
    let head = front_of c.want.new.self in
    let front = front_of c.fill_to-filled.new.self in
    let kept : c.min-kept.result ≡ min (total - 4) 65600 = search rules in
    let filled = filled_as c.min-kept.result c.fill_to-filled.result (Ok true) head front _ _ (search rules) c.fill_to-filled.ensures.filled in
    let last = in_block_filled _ _ _ s description_type total head front next filled.0 in
    let full = filled.1 (omega (arith, size, kept, least)) in
    let (rest, read, least-4, whole, same) = c.in_ok-close.ensures.closed in
    (front ++ rest, (in_block_more _ _ _ s description_type total front rest last read).read)
