use Rattle.std.proofs.Common.{rules, ◌≡◌, length, true, false}
use Rattle.capture_file.specs.Inner.Front.{front_of}
use Rattle.capture_file.proofs.Fronts.{fills_front, filled_is}
use Rattle.capture_file.proofs.Starts.{reads_magic, reads_no_magic}
use Rattle.capture_file.proofs.reader.read_magic.Goals as goal

pub returns-in-Ok-true-clause-magic : goal.returns-in-Ok-true-clause-magic
returns-in-Ok-true-clause-magic g c =
    let front = front_of c.fill_to.new.self in
    let (fills, there) = filled_is 4 c.in-Ok-true.field-0 true _ front _ _ c.in-Ok-true.field-0-test c.in-Ok-true.ensures.filled in
    let size : length front ≡ 4 = there c.requires in
    reads_magic _ _ front c.magic_in.result c.ok_or.result c.ok_or.ensures.value (fills_front _ _ _ front fills) size (search rules)

pub returns-in-Ok-false-clause-magic : goal.returns-in-Ok-false-clause-magic
returns-in-Ok-false-clause-magic g c =
    let (fills, short, end) = filled_is 4 c.in-Ok-false.field-0 false _ (front_of c.fill_to.new.self) _ _ c.in-Ok-false.field-0-test c.in-Ok-false.ensures.filled in
    reads_no_magic _ _ (front_of c.fill_to.new.self) (fills_front _ _ _ _ fills) short end

pub returns-in-Err-clause-magic : goal.returns-in-Err-clause-magic
returns-in-Err-clause-magic g c = (front_of c.fill_to.new.self, fills_front _ _ _ _ c.in-Err.ensures.filled)
