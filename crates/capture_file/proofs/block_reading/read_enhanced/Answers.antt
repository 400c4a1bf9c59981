use Rattle.std.proofs.Common.{rules, ◌≡◌, ◌+◌, ◌≤◌, ◌<◌, sym, refl, inl, Some, None, arith, ◌∙◌, min, ◌++◌, length-append}
use Rattle.std.specs.Prelude.{slice_get}
use Rattle.text_lines.specs.Counted.{device_of}
use Rattle.capture_file.specs.Order.{number32}
use Rattle.capture_file.specs.Pcapng.{enhanced_packet_type, padded}
use Rattle.capture_file.specs.Inner.Front.{front_of}
use Rattle.capture_file.specs.Inner.Described.{described_in}
use Rattle.capture_file.specs.Inner.Section.{section_in}
use Rattle.capture_file.proofs.Blocks.{in_block, in_block_filled, block_stops, reads_no_block, least_enhanced, enhanced_head, enhanced_described, found_more, undescribed, does_not_fit, padded_least, sound_more, sound_behind, behind_interface, same_captured, packet_kept, close_stops, in_block_more, is_block, no_memory}
use Rattle.capture_file.proofs.block_reading.read_enhanced.Goals as goal

pub returns-in_err-want-clause-block : goal.returns-in_err-want-clause-block
returns-in_err-want-clause-block g c =
    let s = section_in c.args.section.now in
    let total = c.args.total in
    let least = least_enhanced total c.requires.head.size in
    let i = in_block (g.R.Read.remaining (device_of c.args.input.now)) s enhanced_packet_type total (front_of c.args.front.now) c.requires.head in
    reads_no_block _ _ s s total _ c.in_err-want.field-0.0 (search rules)
    (block_stops _ _ _ s enhanced_packet_type total 12 (front_of c.args.front.now) (front_of c.want.new.self) c.in_err-want.field-0.0 i (omega (arith, least))
    c.in_err-want.ensures.wanted (λ short fills. enhanced_head s _ short))

pub returns-in_default-clause-block : goal.returns-in_default-clause-block
returns-in_default-clause-block g c =
    let s = section_in c.args.section.now in
    let total = c.args.total in
    let i = in_block (g.R.Read.remaining (device_of c.args.input.now)) s enhanced_packet_type total (front_of c.args.front.now) c.requires.head in
    let (fills, size) = c.in_ok-want.ensures.wanted in
    let next = in_block_filled _ _ _ s enhanced_packet_type total _ _ i fills in
    let none : slice_get s.interfaces (number32 s.order (front_of c.want.new.self) 8) ≡ None = search rules in
    undescribed _ _ s total (front_of c.want.new.self) next (omega (arith, size)) none

pub returns-in_err-want-2-clause-block : goal.returns-in_err-want-2-clause-block
returns-in_err-want-2-clause-block g c =
    let s = section_in c.args.section.now in
    let total = c.args.total in
    let least = least_enhanced total c.requires.head.size in
    let d = described_in c.in-Some.interface.now in
    let i = in_block (g.R.Read.remaining (device_of c.args.input.now)) s enhanced_packet_type total (front_of c.args.front.now) c.requires.head in
    let (fills, size) = c.in_ok-want.ensures.wanted in
    let next = in_block_filled _ _ _ s enhanced_packet_type total _ _ i fills in
    let found : slice_get s.interfaces (number32 s.order (front_of c.want.new.self) 8) ≡ Some d = search rules in
    reads_no_block _ _ s s total _ c.in_err-want-2.field-0.0 (search rules)
    (block_stops _ _ _ s enhanced_packet_type total 24 (front_of c.want.new.self) (front_of c.want-2.new.self) c.in_err-want-2.field-0.0 next (omega (arith, least))
    c.in_err-want-2.ensures.wanted (λ short more. enhanced_described s _ d (found_more _ _ s _ _ d (omega (arith, size)) more found) short))

pub returns-then-from-padded-clause-block : goal.returns-then-from-padded-clause-block
returns-then-from-padded-clause-block g c =
    let s = section_in c.args.section.now in
    let total = c.args.total in
    let least = least_enhanced total c.requires.head.size in
    let d = described_in c.in-Some.interface.now in
    let i = in_block (g.R.Read.remaining (device_of c.args.input.now)) s enhanced_packet_type total (front_of c.args.front.now) c.requires.head in
    let (fills, size) = c.in_ok-want.ensures.wanted in
    let next = in_block_filled _ _ _ s enhanced_packet_type total _ _ i fills in
    let found : slice_get s.interfaces (number32 s.order (front_of c.want.new.self) 8) ≡ Some d = search rules in
    let (fills-2, size-2) = c.in_ok-want-2.ensures.wanted in
    let next-2 = in_block_filled _ _ _ s enhanced_packet_type total _ _ next fills-2 in
    let found-2 = found_more _ _ s (front_of c.want.new.self) (front_of c.want-2.new.self) d (omega (arith, size)) fills-2 found in
    let long : total < 32 + padded (number32 s.order (front_of c.want-2.new.self) 20) = search rules in
    does_not_fit _ _ s total (front_of c.want-2.new.self) d next-2 (omega (arith, size-2)) found-2 long

pub returns-in_err-want-3-clause-block : goal.returns-in_err-want-3-clause-block
returns-in_err-want-3-clause-block g c =
    let s = section_in c.args.section.now in
    let total = c.args.total in
    let least = least_enhanced total c.requires.head.size in
    let d = described_in c.in-Some.interface.now in
    let i = in_block (g.R.Read.remaining (device_of c.args.input.now)) s enhanced_packet_type total (front_of c.args.front.now) c.requires.head in
    let (fills, size) = c.in_ok-want.ensures.wanted in
    let next = in_block_filled _ _ _ s enhanced_packet_type total _ _ i fills in
    let found : slice_get s.interfaces (number32 s.order (front_of c.want.new.self) 8) ≡ Some d = search rules in
    let (fills-2, size-2) = c.in_ok-want-2.ensures.wanted in
    let next-2 = in_block_filled _ _ _ s enhanced_packet_type total _ _ next fills-2 in
    let found-2 = found_more _ _ s (front_of c.want.new.self) (front_of c.want-2.new.self) d (omega (arith, size)) fills-2 found in
    let captured : c.u32_at-captured.result ≡ number32 s.order (front_of c.want-2.new.self) 20 = search rules in
    let fits : 32 + padded c.u32_at-captured.result ≤ total = search rules in
    let kept : c.min-kept.result ≤ c.u32_at-captured.result = search rules in
    let within = padded_least c.u32_at-captured.result in
    reads_no_block _ _ s s total _ c.in_err-want-3.field-0.0 (search rules)
    (block_stops _ _ _ s enhanced_packet_type total (28 + c.min-kept.result) (front_of c.want-2.new.self) (front_of c.want-3.new.self) c.in_err-want-3.field-0.0 next-2
    (omega (arith, fits, kept, within)) c.in_err-want-3.ensures.wanted
    (λ short more. sound_more _ _ s total (front_of c.want-2.new.self) (front_of c.want-3.new.self) d c.u32_at-captured.result next-2 (omega (arith, size-2)) _ _ more found-2 captured fits))

pub returns-in_err-close-clause-block : goal.returns-in_err-close-clause-block
returns-in_err-close-clause-block g c =
    let s = section_in c.args.section.now in
    let total = c.args.total in
    let least = least_enhanced total c.requires.head.size in
    let d = described_in c.in-Some.interface.now in
    let i = in_block (g.R.Read.remaining (device_of c.args.input.now)) s enhanced_packet_type total (front_of c.args.front.now) c.requires.head in
    let (fills, size) = c.in_ok-want.ensures.wanted in
    let next = in_block_filled _ _ _ s enhanced_packet_type total _ _ i fills in
    let found : slice_get s.interfaces (number32 s.order (front_of c.want.new.self) 8) ≡ Some d = search rules in
    let (fills-2, size-2) = c.in_ok-want-2.ensures.wanted in
    let next-2 = in_block_filled _ _ _ s enhanced_packet_type total _ _ next fills-2 in
    let found-2 = found_more _ _ s (front_of c.want.new.self) (front_of c.want-2.new.self) d (omega (arith, size)) fills-2 found in
    let captured : c.u32_at-captured.result ≡ number32 s.order (front_of c.want-2.new.self) 20 = search rules in
    let fits : 32 + padded c.u32_at-captured.result ≤ total = search rules in
    let kept : c.min-kept.result ≤ c.u32_at-captured.result = search rules in
    let within = padded_least c.u32_at-captured.result in
    let (fills-3, size-3) = c.in_ok-want-3.ensures.wanted in
    let next-3 = in_block_filled _ _ _ s enhanced_packet_type total _ _ next-2 fills-3 in
    reads_no_block _ _ s s total _ c.in_err-close.field-0.0 (search rules)
    (close_stops _ _ _ s enhanced_packet_type total (28 + c.min-kept.result) (front_of c.want-3.new.self) c.in_err-close.field-0.0 next-3 (sym size-3)
    (λ rest. sound_behind _ _ s total (front_of c.want-2.new.self) (front_of c.want-3.new.self) rest d c.u32_at-captured.result next-2 (omega (arith, size-2)) _ _ fills-3 found-2 captured fits)
    c.in_err-close.ensures.closed)

pub returns-in_err-keep_name-clause-block : goal.returns-in_err-keep_name-clause-block
returns-in_err-keep_name-clause-block g c =
    let s = section_in c.args.section.now in
    let total = c.args.total in
    let least = least_enhanced total c.requires.head.size in
    let d = described_in c.in-Some.interface.now in
    let i = in_block (g.R.Read.remaining (device_of c.args.input.now)) s enhanced_packet_type total (front_of c.args.front.now) c.requires.head in
    let (fills, size) = c.in_ok-want.ensures.wanted in
    let next = in_block_filled _ _ _ s enhanced_packet_type total _ _ i fills in
    let found : slice_get s.interfaces (number32 s.order (front_of c.want.new.self) 8) ≡ Some d = search rules in
    let (fills-2, size-2) = c.in_ok-want-2.ensures.wanted in
    let next-2 = in_block_filled _ _ _ s enhanced_packet_type total _ _ next fills-2 in
    let found-2 = found_more _ _ s (front_of c.want.new.self) (front_of c.want-2.new.self) d (omega (arith, size)) fills-2 found in
    let captured : c.u32_at-captured.result ≡ number32 s.order (front_of c.want-2.new.self) 20 = search rules in
    let fits : 32 + padded c.u32_at-captured.result ≤ total = search rules in
    let kept : c.min-kept.result ≤ c.u32_at-captured.result = search rules in
    let within = padded_least c.u32_at-captured.result in
    let (fills-3, size-3) = c.in_ok-want-3.ensures.wanted in
    let next-3 = in_block_filled _ _ _ s enhanced_packet_type total _ _ next-2 fills-3 in
    let (rest, read, least-4, whole, same) = c.in_ok-close.ensures.closed in
    let front = front_of c.want-3.new.self in
    let all = in_block_more _ _ _ s enhanced_packet_type total front rest next-3 read in
    reads_no_block _ _ s s total _ c.in_err-keep_name.field-0.0 (search rules)
    (no_memory _ _ s c.in_err-keep_name.field-0.0 (front ++ rest) c.in_err-keep_name.ensures.name all.read)

pub returns-clause-block : goal.returns-clause-block
returns-clause-block g c =
    let s = section_in c.args.section.now in
    let total = c.args.total in
    let least = least_enhanced total c.requires.head.size in
    let d = described_in c.in-Some.interface.now in
    let i = in_block (g.R.Read.remaining (device_of c.args.input.now)) s enhanced_packet_type total (front_of c.args.front.now) c.requires.head in
    let (fills, size) = c.in_ok-want.ensures.wanted in
    let next = in_block_filled _ _ _ s enhanced_packet_type total _ _ i fills in
    let found : slice_get s.interfaces (number32 s.order (front_of c.want.new.self) 8) ≡ Some d = search rules in
    let (fills-2, size-2) = c.in_ok-want-2.ensures.wanted in
    let next-2 = in_block_filled _ _ _ s enhanced_packet_type total _ _ next fills-2 in
    let found-2 = found_more _ _ s (front_of c.want.new.self) (front_of c.want-2.new.self) d (omega (arith, size)) fills-2 found in
    let captured : c.u32_at-captured.result ≡ number32 s.order (front_of c.want-2.new.self) 20 = search rules in
    let fits : 32 + padded c.u32_at-captured.result ≤ total = search rules in
    let kept : c.min-kept.result ≤ c.u32_at-captured.result = search rules in
    let within = padded_least c.u32_at-captured.result in
    let (fills-3, size-3) = c.in_ok-want-3.ensures.wanted in
    let next-3 = in_block_filled _ _ _ s enhanced_packet_type total _ _ next-2 fills-3 in
    let (rest, read, least-4, whole, same) = c.in_ok-close.ensures.closed in
    let front = front_of c.want-3.new.self in
    let all = in_block_more _ _ _ s enhanced_packet_type total front rest next-3 read in
    let (length_is, block) = is_block _ _ _ s enhanced_packet_type total (28 + c.min-kept.result) front rest next-3 (sym size-3) read least-4 whole same in
    let minimum : c.min-kept.result ≡ min c.u32_at-captured.result 65536 = search rules in
    let captured-3 : number32 s.order front 20 ≡ c.u32_at-captured.result = same_captured _ _ s (front_of c.want-2.new.self) front (omega (arith, size-2)) fills-3 ∙ sym captured in
    let sound = sound_behind _ _ s total (front_of c.want-2.new.self) front rest d c.u32_at-captured.result next-2 (omega (arith, size-2)) _ _ fills-3 found-2 captured fits in (
      front ++ rest,
      all.read,
      length_is,
      (
        inl (record {
          block = block;
          interface = d;
          described = behind_interface _ _ s (front_of c.want-2.new.self) front rest d (omega (arith, size-2)) fills-3 found-2;
          fits = (let within = sound.fits refl (rw (length-append front rest) (omega (arith, size-3, size-2))) in let is = block.total_length in omega arith);
          packet_is = packet_kept s d front rest c.u32_at-captured.result c.min-kept.result size-3 minimum captured-3 _ (search rules);
        }),
        refl,
      ),
    )
