use Rattle.std.proofs.Common.{ℕ, map, None, Option, sym, subst}
use Rattle.recording_measure.specs.Counts.{told_fates, IsCounts}
use Rattle.recording_measure.specs.Told.{place_in}
use Rattle.recording_measure.specs.declared.tally.Tally.{Tally}
use Rattle.recording_measure.specs.Inner.Recordings.{IsFoundAt}
use Rattle.recording_measure.proofs.KeptRows.{one_there}
use Rattle.recording_measure.proofs.Summaries.{is_looking, counts_there}
use Rattle.recording_measure.proofs.measuring.Measuring.counts.Goals as goal

pub returns-in-Some : goal.returns-in-Some
returns-in-Some c = λ r at.
    let known = c.args.self.now.recordings.recordings.items in
    let (none, are) = is_looking r.wanted r.rows known c.args.self.now.stage at.stage c.in_default.not-Hearing in
    let found = subst (λ (o : Option ℕ). IsFoundAt None (map place_in known) o known) c.in-Some.is c.find_nameless.ensures in
    one_there known c.in-Some.index found.1 (λ d. subst (λ (t : Tally). IsCounts (told_fates r.wanted r.rows) t.counts)
    (sym (c.early.ensures d)) (counts_there r.wanted r.rows none known are c.in-Some.index found d))
