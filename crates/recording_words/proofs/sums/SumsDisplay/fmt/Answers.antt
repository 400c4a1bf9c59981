use Rattle.std.specs.Prelude.{codes}
use Rattle.recording_words.specs.Sums.{front_text, object_text, slave_text}
use Rattle.recording_words.proofs.Between.{displays_between}
use Rattle.recording_words.proofs.sums.SumsDisplay.fmt.Goals as goal

pub returns-clause-writes : goal.returns-clause-writes
unfolding object_text
returns-clause-writes g c =
    let x = c.args.self.now in
    displays_between _ _ _ _ (codes "{")
    (front_text x.whom x.counts.now x.bewares x.offset x.path x.request_interval)
    (codes ",") (codes ",")
    (slave_text x.whom x.counts.now x.sync_interval x.is_own)
    (codes "}") (g.P.Display.output x.places) c.write.ensures.writes
