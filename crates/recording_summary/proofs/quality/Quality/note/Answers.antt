use Rattle.std.proofs.Common.{◌∙◌, sym, ap}
use Rattle.recording_summary.specs.Quality.{is_cut}
use Rattle.statistics.proofs.Counts.{count_more}
use Rattle.recording_summary.proofs.Noting.{noted_statistics}
use Rattle.recording_summary.proofs.quality.Quality.note.Goals as goal

pub returns : goal.returns
returns c = λ noted earlier of_time of_refusal none so. record {
  statistics = noted_statistics noted earlier c.args.self.now.statistics none so.statistics;
  times = c.take.ensures noted earlier of_time so.times;
  cut = c.count_if-self.ensures ∙ count_more (λ n. is_cut n.refusal) noted earlier c.args.self.now.cut c.is_cut.result
      (c.is_cut.ensures ∙ ap is_cut (sym of_refusal)) so.cut;
}
