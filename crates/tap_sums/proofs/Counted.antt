-- What is kept of crossings, once there is one more of a kind.
use Rattle.std.proofs.Common.{◌≡◌, ◌∷◌, List, map, refl, sym, subst}
use Rattle.statistics.specs.Series.{IsSeries}
use Rattle.statistics.specs.Trend.{IsTrend}
use Rattle.tap_crossing.specs.declared.crossing.Crossing.{Crossing}
use Rattle.tap_crossing.specs.declared.sighting.Kind.TheVariants as kinds
use Rattle.tap_sums.specs.Sums.{of_kind}
use Rattle.tap_sums.specs.declared.figures.Figures.{Figures}
use Rattle.tap_sums.specs.Changed.{AreChanged, changes_in}
use Rattle.tap_sums.specs.Figures.{AreFigures, AreKept, point_of}

pub sync_more : (x : Crossing) (earlier : List Crossing) (new : Figures) → x.kind ≡ kinds.Sync
    → AreKept (x ∷ of_kind kinds.Sync earlier) new.syncs → AreKept (of_kind kinds.DelayReq earlier) new.requests
    → IsSeries (point_of x ∷ map point_of (of_kind kinds.Sync earlier)) new.rests
    → IsTrend (point_of x ∷ map point_of (of_kind kinds.Sync earlier)) new.trend
    → AreChanged (changes_in (x ∷ earlier)) new.changed → AreFigures (x ∷ earlier) new
sync_more x earlier new is syncs requests rests trend changed =
    let own : of_kind kinds.Sync (x ∷ earlier) ≡ x ∷ of_kind kinds.Sync earlier = rw is refl in
    let others : of_kind kinds.DelayReq (x ∷ earlier) ≡ of_kind kinds.DelayReq earlier = rw is refl in
    record {
      syncs = subst (λ those. AreKept those new.syncs) (sym own) syncs;
      requests = subst (λ those. AreKept those new.requests) (sym others) requests;
      rests = subst (λ (those : List Crossing). IsSeries (map point_of those) new.rests) (sym own) rests;
      trend = subst (λ (those : List Crossing). IsTrend (map point_of those) new.trend) (sym own) trend;
      changed = changed;
    }

pub request_more : (x : Crossing) (earlier : List Crossing) (new : Figures) → x.kind ≡ kinds.DelayReq
    → AreKept (of_kind kinds.Sync earlier) new.syncs → AreKept (x ∷ of_kind kinds.DelayReq earlier) new.requests
    → IsSeries (map point_of (of_kind kinds.Sync earlier)) new.rests
    → IsTrend (map point_of (of_kind kinds.Sync earlier)) new.trend
    → AreChanged (changes_in (x ∷ earlier)) new.changed → AreFigures (x ∷ earlier) new
request_more x earlier new is syncs requests rests trend changed =
    let own : of_kind kinds.DelayReq (x ∷ earlier) ≡ x ∷ of_kind kinds.DelayReq earlier = rw is refl in
    let others : of_kind kinds.Sync (x ∷ earlier) ≡ of_kind kinds.Sync earlier = rw is refl in
    record {
      syncs = subst (λ those. AreKept those new.syncs) (sym others) syncs;
      requests = subst (λ those. AreKept those new.requests) (sym own) requests;
      rests = subst (λ (those : List Crossing). IsSeries (map point_of those) new.rests) (sym others) rests;
      trend = subst (λ (those : List Crossing). IsTrend (map point_of those) new.trend) (sym others) trend;
      changed = changed;
    }
