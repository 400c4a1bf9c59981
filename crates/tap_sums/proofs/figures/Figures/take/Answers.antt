use Rattle.std.proofs.Common.{map, List}
use Rattle.statistics.specs.declared.series.Point.{Point}
use Rattle.tap_crossing.specs.declared.sighting.Kind.TheVariants.{Sync, DelayReq}
use Rattle.tap_sums.specs.Sums.{of_kind}
use Rattle.tap_sums.specs.Changed.{changes_in}
use Rattle.tap_sums.specs.Figures.{point_of}
use Rattle.tap_sums.proofs.Counted.{sync_more, request_more}
use Rattle.tap_sums.proofs.figures.Figures.take.Goals as goal

pub returns-in_ok-take-in-Sync : goal.returns-in_ok-take-in-Sync
returns-in_ok-take-in-Sync c = λ earlier at.
    let points : List Point = map point_of (of_kind Sync earlier) in
    sync_more c.args.crossing.now earlier _ c.in-Sync.is (c.in_ok-take-in-Sync.ensures (of_kind Sync earlier) at.syncs) at.requests
    (rw c.point_of-point.ensures at (c.take-in-Sync.ensures points at.rests))
    (rw c.point_of-point.ensures at (c.take-in-Sync-2.ensures points at.trend))
    (c.take-2.ensures _ (c.take.ensures (changes_in earlier) at.changed))

pub returns-in_ok-take-in-DelayReq : goal.returns-in_ok-take-in-DelayReq
returns-in_ok-take-in-DelayReq c = λ earlier at.
    request_more c.args.crossing.now earlier _ c.in-DelayReq.is at.syncs
    (c.in_ok-take-in-DelayReq.ensures (of_kind DelayReq earlier) at.requests) at.rests at.trend
    (c.take-2.ensures _ (c.take.ensures (changes_in earlier) at.changed))
