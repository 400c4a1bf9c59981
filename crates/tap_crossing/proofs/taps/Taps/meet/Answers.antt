use Rattle.std.proofs.Common.{sym, subst}
use Rattle.tap_crossing.specs.StandsFor.{Tables, StandsFor}
use Rattle.tap_crossing.proofs.Tables.{stands-sync, stands-request}
use Rattle.tap_crossing.proofs.taps.Taps.meet.Goals as goal

pub returns-in-Sync-clause-stands : goal.returns-in-Sync-clause-stands
returns-in-Sync-clause-stands g c = λ capacity met stands.
    stands-sync c.args.placed _ _ c.in-Sync.is
    (subst (λ (v : Tables). StandsFor capacity v met) (sym c.self.view_is) stands) c.come.ensures.kept c.come.ensures.counted

pub returns-in-DelayReq-clause-stands : goal.returns-in-DelayReq-clause-stands
returns-in-DelayReq-clause-stands g c = λ capacity met stands.
    stands-request c.args.placed _ _ c.in-DelayReq.is
    (subst (λ (v : Tables). StandsFor capacity v met) (sym c.self.view_is) stands) c.come-in-DelayReq.ensures.kept
    c.come-in-DelayReq.ensures.counted
