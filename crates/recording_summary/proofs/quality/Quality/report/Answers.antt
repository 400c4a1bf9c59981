use Rattle.std.proofs.Common.{◌∙◌, Some, None, refl, ap}
use Rattle.recording_summary.specs.Noted.{Noted}
use Rattle.recording_summary.specs.Quality.{is_cut}
use Rattle.statistics.specs.Wide.{at_most}
use Rattle.statistics.proofs.Counts.{same_head}
use Rattle.recording_summary.proofs.Noting.{reported_times}
use Rattle.recording_summary.proofs.quality.Quality.report.Goals as goal

pub returns : goal.returns
returns c = λ refusal earlier so.
    let before : Noted = record { line = c.args.line; time = c.args.time; refusal = refusal; reported = None } in
    let after : Noted = record before { reported = Some (record { by = c.args.by; report = c.args.report.now; exchange = c.args.exchange }) } in
    record {
      statistics = c.take.ensures refusal earlier so.statistics;
      times = reported_times before after.reported earlier c.args.self.now.times so.times;
      cut = so.cut ∙ ap at_most (same_head (λ n. is_cut n.refusal) before after earlier refl);
    }
