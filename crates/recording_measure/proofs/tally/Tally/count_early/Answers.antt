use Rattle.std.proofs.Common.{◌∙◌, ◌∷◌, refl, sym, ap, subst}
use Rattle.event_codec.specs.Packet.{contents}
use Rattle.recording_model.specs.Recorded.{Recorded}
use Rattle.recording_summary.specs.declared.kind.Kind.{Kind}
use Rattle.recording_summary.specs.declared.no_report.NoReport.TheVariants.{TooEarly}
use Rattle.recording_measure.specs.Counts.{early_fate, IsCounts}
use Rattle.recording_summary.specs.Counts.{with_unreported}
use Rattle.datagram_source.specs.Said.{reading_of}
use Rattle.recording_measure.specs.Inner.Hearing.{recorded_of}
use Rattle.recording_measure.proofs.Counting.{early_counts, early_refused_counts, noted_counts}
use Rattle.recording_measure.proofs.tally.Tally.count_early.Goals as goal

pub returns-in-Ok : goal.returns-in-Ok
returns-in-Ok c = λ all so.
    let d : Recorded = recorded_of c.args.datagram.now in
    subst (IsCounts (early_fate d ∷ all))
    (sym (c.count.ensures ∙ ap (λ (k : Kind). with_unreported k TooEarly c.note.new.self.counts) c.kind_of.ensures))
    (early_counts d (contents c.in-Ok.message) all c.note.new.self.counts (ap reading_of c.in-Ok.is)
    (noted_counts (early_fate d) all c.args.self.now.counts c.note.new.self.counts so c.note.ensures.others
    (c.note.ensures.quality (early_fate d) all refl refl so.quality)))

pub returns-in-Err : goal.returns-in-Err
returns-in-Err c = λ all so.
    let d : Recorded = recorded_of c.args.datagram.now in
    subst (IsCounts (early_fate d ∷ all)) (sym c.count_refused.ensures)
    (early_refused_counts d c.in-Err.refusal all c.note.new.self.counts (ap reading_of c.in-Err.is)
    (noted_counts (early_fate d) all c.args.self.now.counts c.note.new.self.counts so c.note.ensures.others
    (c.note.ensures.quality (early_fate d) all refl refl so.quality)))
