use Rattle.std.proofs.Common.{refl}
use Rattle.recording_measure.proofs.measuring.Measuring.new.Goals as goal

pub returns : goal.returns
returns c = record {
  form = c.new-2.ensures.form;
  wanted = refl;
  stage = (refl, c.new.ensures c.args.wanted.now, refl);
  whom = refl;
  counts = c.new-2.ensures.counted;
  recents = c.new-2.ensures.recents;
  handing = c.new-2.ensures.handing;
}
