use Rattle.std.proofs.Common.{rules, ◌≤◌, ◌++◌, length, take}
use Rattle.std.proofs.KnownBytes.{Consumes-trans}
use Rattle.capture_file.proofs.Reading.{front_more, gives_front}
use Rattle.capture_file.proofs.octets.fill_behind.Goals as goal

pub loop-size-preserved : goal.loop-size-preserved
loop-size-preserved g c =
    let o = c.loop-size in
    let count : c.in-Ok.count ≤ length c.read.new.buf = search rules in
    let (more, there, before) = o.invariant.read in
    record {
      read = (
        more ++ take c.in-Ok.count c.read.new.buf,
        front_more _ more o.room c.read.new.buf _ o.size c.in-Ok.count o.invariant.fits count there,
        Consumes-trans _ _ _ more (take c.in-Ok.count c.read.new.buf) before c.in-Ok.ensures.bytes.0,
      );
      given = gives_front _ _ o.input c.read.new.self _ o.size c.in-Ok.count c.read.new.buf o.invariant.behind count o.invariant.given c.in-Ok.ensures.bytes.0 c.in-Ok.ensures.given;
      behind = search rules;
      failures = search rules;
      fits = search rules;
      same = search rules;
      within = search rules;
    }
