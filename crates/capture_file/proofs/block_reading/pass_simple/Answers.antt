use Rattle.std.proofs.Common.{rules, ◌++◌, sym, refl, inr}
use Rattle.capture_file.specs.Inner.Front.{front_of}
use Rattle.capture_file.specs.Inner.Section.{section_in}
use Rattle.capture_file.proofs.Blocks.{in_block, in_block_more, close_stops, reads_no_block, is_block, sound_type, not_enhanced, not_description, is_simple}
use Rattle.capture_file.proofs.block_reading.pass_simple.Goals as goal

pub returns-in_err-close-clause-block : goal.returns-in_err-close-clause-block
returns-in_err-close-clause-block g c =
    let s = section_in c.args.section.now in
    reads_no_block _ _ s s c.args.total _ c.in_err-close.field-0.0 (search rules)
    (close_stops _ _ _ s c.args.kind c.args.total 8 (front_of c.args.front.now) c.in_err-close.field-0.0
    (in_block _ s c.args.kind c.args.total (front_of c.args.front.now) c.requires.head) (sym c.requires.head.length_is)
    (λ rest. sound_type s c.args.kind _ (not_enhanced c.args.kind c.requires.kind) (not_description c.args.kind c.requires.kind)) c.in_err-close.ensures.closed)

pub returns-clause-block : goal.returns-clause-block
returns-clause-block g c =
    let s = section_in c.args.section.now in
    let front = front_of c.args.front.now in
    let (rest, read, least, size, same) = c.in_ok-close.ensures.closed in
    let i = in_block _ s c.args.kind c.args.total front c.requires.head in
    let (whole, block) = is_block _ _ _ s c.args.kind c.args.total 8 front rest i (sym c.requires.head.length_is) read least size same in
    let all = in_block_more _ _ _ s c.args.kind c.args.total front rest i read in
    (front ++ rest, all.read, whole, (inr (is_simple s c.args.kind (front ++ rest) c.requires.kind block, refl), refl))
