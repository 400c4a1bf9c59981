use Rattle.std.proofs.Common.{◌∙◌, Option, sym, subst}
use Rattle.recording_model.specs.declared.watched.Watched.{Watched}
use Rattle.recording_measure.specs.Counts.{early_with, IsCounts}
use Rattle.recording_measure.specs.Inner.Hearing.{recorded_of}
use Rattle.recording_measure.proofs.recording.Recording.count_early.Goals as goal

pub returns-in-None-clause-counted : goal.returns-in-None-clause-counted
returns-in-None-clause-counted c = λ w ds all noticed so.
    subst (λ (known : Option Watched). IsCounts (early_with known (recorded_of c.args.datagram.now) all) c.count_early.new.self.counts)
    (sym c.in-None.is ∙ c.watched.ensures w ds noticed) (c.count_early.ensures all so)

pub returns-in-Some-clause-counted : goal.returns-in-Some-clause-counted
returns-in-Some-clause-counted c = λ w ds all noticed so.
    subst (λ (known : Option Watched). IsCounts (early_with known (recorded_of c.args.datagram.now) all) c.args.self.now.early.counts)
    (sym c.in-Some.is ∙ c.watched.ensures w ds noticed) so
