use Rattle.std.proofs.Common.{◌≡◌, ◌∙◌, ◌<◌, ap, sym, length, arith}
use Rattle.std.specs.Prelude.{reverse}
use Rattle.exchange_check.specs.Exchange.{last_exchange}
use Rattle.exchange_check.specs.Transcript.{Transcript}
use Rattle.exchange_check.proofs.Telling.{exchange-kept}
use Rattle.exchange_check.proofs.checker.Checker.exchange.Goals as goal

pub returns-in_default : goal.returns-in_default
returns-in_default c =
    let inside = c.self.inside in
    let counted : c.len.result ≡ length (reverse inside.fed) =
    c.len.ensures ∙ sym (ap (λ (t : Transcript). length t.lines) c.self.view_is) in
    let some : 0 < c.len.result = omega arith in
    c.exchange.ensures
    ∙ exchange-kept inside.nodes inside.fed inside.kept c.self.invariant c.args.report.now c.len.result counted some
    ∙ ap (λ (t : Transcript). last_exchange t.network (reverse t.lines) c.args.report.now) c.self.view_is
