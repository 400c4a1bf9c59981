use Rattle.std.proofs.Common.{◌∷◌, ℕ, Some, sym, subst}
use Rattle.recording_measure.specs.Made.{Measured}
use Rattle.recording_measure.specs.Inner.Hearing.{made_of}
use Rattle.recording_measure.specs.Counts.{IsCounts}
use Rattle.recording_measure.proofs.Counting.{written_counts, written_quality}
use Rattle.recording_measure.proofs.tally.Tally.count_report.Goals as goal

pub returns : goal.returns
returns c = λ fate all unmeasured of_line of_time so.
    let m : Measured = made_of c.args.made.now in
    subst (λ (n : ℕ). IsCounts (record fate { measured = Some m } ∷ all)
    (record c.args.self.now.counts { reports = n; quality = c.report.new.self })) (sym c.count_one.ensures)
    (written_counts fate all c.args.self.now.counts c.report.new.self m unmeasured so
    (written_quality fate all c.args.made.now.measured.line c.args.time m c.args.self.now.counts.quality c.report.new.self unmeasured
    of_line of_time so.quality c.report.ensures))
