use Rattle.std.proofs.Common.{◌∙◌, ℕ, ◌∷◌, Option, Some, None, false, refl, sym, ap, subst}
use Rattle.std.specs.Prelude.{filter_map, max, unsigned_abs}
use Rattle.std.specs.Option.{option_map_or}
use Rattle.std.specs.List.{cons_option}
use Rattle.recording_lines.specs.declared.measurement.Half.{Half}
use Rattle.recording_lines.specs.declared.measurement.Half.TheVariants.{Sync, Response}
use Rattle.recording_summary.specs.declared.quality.Statistics.{Statistics}
use Rattle.statistics.specs.declared.series.Point.{Point}
use Rattle.recording_summary.specs.Noted.{Noted}
use Rattle.recording_summary.specs.Quality.{offset_of, path_of, sync_correction_of, delay_correction_of, age_of, if_stale, is_sync_at_once, is_request_at_once, AreStatistics}
use Rattle.statistics.specs.Cases.{AreCases}
use Rattle.statistics.specs.Series.{IsSpread}
use Rattle.statistics.specs.Spike.{AreSpikes}
use Rattle.statistics.specs.Step.{IsStep}
use Rattle.statistics.specs.Trend.{IsTrend}
use Rattle.statistics.specs.Wide.{at_most}
use Rattle.statistics.proofs.Counts.{count_none, count_more}
use Rattle.recording_summary.proofs.Noting.{still_unreported}
use Rattle.recording_summary.proofs.quality.Statistics.take.Goals as goal

pub returns-in-Sync : goal.returns-in-Sync
returns-in-Sync c = λ refusal earlier so.
    let before : Statistics = c.args.self.now in
    let own : AreStatistics earlier before =
    still_unreported (record { line = c.args.line; time = c.args.time; refusal = refusal; reported = None }) earlier before so in
    let noted : Half → Noted = λ (by : Half). record {
      line = c.args.line;
      time = c.args.time;
      refusal = refusal;
      reported = Some (record { by = by; report = c.args.report.now; exchange = c.args.exchange });
    } in
    let after : Statistics = record before {
      offsets = c.take.new.self;
      trend = c.take-in-Sync.new.self;
      spikes = c.take-in-Sync-2.new.self;
      sync_corrections = c.take_some.new.self;
      ages = c.take_some-in-Sync.new.self;
      stale = c.take_some-in-Sync-2.new.self;
      syncs_at_once = c.count_if-self.result;
      farthest = c.farther-self.result;
      last = Some c.args.time;
    } in
    subst (λ (by : Half). AreStatistics (noted by ∷ earlier) after) (sym c.in-Sync.is) (record {
      offsets = subst (λ (p : Point). IsStep (p ∷ filter_map offset_of earlier) c.take.new.self) c.offset_at-offset.ensures
          (c.take.ensures (filter_map offset_of earlier) own.offsets);
      trend = subst (λ (p : Point). IsTrend (p ∷ filter_map offset_of earlier) c.take-in-Sync.new.self) c.offset_at-offset.ensures
          (c.take-in-Sync.ensures (filter_map offset_of earlier) own.trend);
      spikes = subst (λ (p : Point). AreSpikes (p ∷ filter_map offset_of earlier) c.take-in-Sync-2.new.self) c.offset_at-offset.ensures
          (c.take-in-Sync-2.ensures (filter_map offset_of earlier) own.spikes);
      paths = own.paths;
      path_trend = own.path_trend;
      sync_corrections = subst (λ (p : Option Point). IsSpread (cons_option p (filter_map sync_correction_of earlier)) c.take_some.new.self)
          c.sync_correction_at.ensures (c.take_some.ensures (filter_map sync_correction_of earlier) own.sync_corrections);
      delay_corrections = own.delay_corrections;
      ages = subst (λ (p : Option Point). IsSpread (cons_option p (filter_map age_of earlier)) c.take_some-in-Sync.new.self)
          c.age_at.ensures (c.take_some-in-Sync.ensures (filter_map age_of earlier) own.ages);
      stale = subst (λ (p : Option Point). AreCases (cons_option p (filter_map (λ n. if_stale (age_of n)) earlier)) c.take_some-in-Sync-2.new.self)
          c.stale_at.ensures
          (c.take_some-in-Sync-2.ensures (filter_map (λ n. if_stale (age_of n)) earlier) own.stale);
      requests_at_once = own.requests_at_once ∙ ap at_most (sym (count_none
          (λ n. option_map_or (λ r. is_request_at_once r.by r) n.reported false) (noted Sync) earlier refl));
      syncs_at_once = c.count_if-self.ensures ∙ count_more
          (λ n. option_map_or (λ r. is_sync_at_once r.by r) n.reported false) (noted Sync) earlier before.syncs_at_once
          c.is_sync_at_once.result c.is_sync_at_once.ensures own.syncs_at_once;
      farthest = c.farther-self.ensures ∙ ap (λ (far : ℕ). max far (unsigned_abs c.args.report.now.offset2)) own.farthest;
      last = refl;
    })

pub returns-in-Response : goal.returns-in-Response
returns-in-Response c = λ refusal earlier so.
    let before : Statistics = c.args.self.now in
    let own : AreStatistics earlier before =
    still_unreported (record { line = c.args.line; time = c.args.time; refusal = refusal; reported = None }) earlier before so in
    let noted : Half → Noted = λ (by : Half). record {
      line = c.args.line;
      time = c.args.time;
      refusal = refusal;
      reported = Some (record { by = by; report = c.args.report.now; exchange = c.args.exchange });
    } in
    let after : Statistics = record before {
      paths = c.take-in-Response.new.self;
      path_trend = c.take-in-Response-2.new.self;
      delay_corrections = c.take_some-in-Response.new.self;
      requests_at_once = c.count_if-self-in-Response.result;
      farthest = c.farther-self.result;
      last = Some c.args.time;
    } in
    subst (λ (by : Half). AreStatistics (noted by ∷ earlier) after) (sym c.in-Response.is) (record {
      offsets = own.offsets;
      trend = own.trend;
      spikes = own.spikes;
      paths = subst (λ (p : Point). IsStep (p ∷ filter_map path_of earlier) c.take-in-Response.new.self) c.path_at-path.ensures
          (c.take-in-Response.ensures (filter_map path_of earlier) own.paths);
      path_trend = subst (λ (p : Point). IsTrend (p ∷ filter_map path_of earlier) c.take-in-Response-2.new.self) c.path_at-path.ensures
          (c.take-in-Response-2.ensures (filter_map path_of earlier) own.path_trend);
      ages = own.ages;
      stale = own.stale;
      sync_corrections = own.sync_corrections;
      delay_corrections = subst
          (λ (p : Option Point). IsSpread (cons_option p (filter_map delay_correction_of earlier)) c.take_some-in-Response.new.self)
          c.delay_correction_at.ensures
          (c.take_some-in-Response.ensures (filter_map delay_correction_of earlier) own.delay_corrections);
      requests_at_once = c.count_if-self-in-Response.ensures ∙ count_more
          (λ n. option_map_or (λ r. is_request_at_once r.by r) n.reported false) (noted Response) earlier before.requests_at_once
          c.is_request_at_once.result c.is_request_at_once.ensures own.requests_at_once;
      syncs_at_once = own.syncs_at_once ∙ ap at_most (sym (count_none
          (λ n. option_map_or (λ r. is_sync_at_once r.by r) n.reported false) (noted Response) earlier refl));
      farthest = c.farther-self.ensures ∙ ap (λ (far : ℕ). max far (unsigned_abs c.args.report.now.offset2)) own.farthest;
      last = refl;
    })
