use Rattle.std.proofs.Common.{◌≡◌, ℤ, sym, ap, ◌∙◌, subst}
use Rattle.std.specs.Int.{w8}
use Rattle.std.proofs.lemmas.Int.{to_z-of_z}
use Rattle.sync_watch.specs.declared.arrival.Arrival.{Arrival}
use Rattle.sync_watch.specs.Told.{arrival}
use Rattle.sync_watch.specs.Judged.{judged_follow_up, after_follow_up}
use Rattle.ptpx_c.specs.Watches.{with_watch, IsJudged}
use Rattle.ptpx_c.proofs.Watches.{judged_by_handle}
use Rattle.ptpx_c.proofs.watch.ptpx_raw_watch_follow_up.Goals as goal

pub returns-clause-judged : goal.returns-clause-judged
returns-clause-judged c = λ within.
    let a = c.arrival_of-arrival.result in
    let handle = c.args.watch.now in
    let is : a ≡ arrival c.args.number c.args.is_unicast c.args.log c.in-Ok.moment =
    c.arrival_of-arrival.ensures
    ∙ ap (λ (z : ℤ). arrival c.args.number c.args.is_unicast z c.in-Ok.moment) (to_z-of_z w8 c.args.log c.ranges.log) in
    rw (sym c.in-Ok.ensures.0) (subst (λ (x : Arrival). IsJudged (judged_follow_up x) (after_follow_up x) handle
    (with_watch handle (record { watch = c.follow_up.new.self })) c.code_of.result) is
    (judged_by_handle (judged_follow_up a) (after_follow_up a) handle c.port-ring.result.now
    (record { watch = c.follow_up.new.self }) c.follow_up.result c.code_of.result c.port-ring.ensures.value c.code_of.ensures
    c.follow_up.ensures.judgement c.follow_up.ensures.stands))
