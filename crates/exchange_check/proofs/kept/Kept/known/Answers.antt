use Rattle.std.proofs.Common.{◌≡◌, ◌∙◌, ap}
use Rattle.network_model.specs.Run.{site_of}
use Rattle.exchange_check.specs.declared.facts.Site.{Site}
use Rattle.exchange_check.specs.Inner.Kept.{shown_by}
use Rattle.exchange_check.specs.Inner.Machine.{sites_of}
use Rattle.trace_model.specs.Record.{is_reading}
use Rattle.exchange_check.proofs.kept.Kept.known.Goals as goal

pub returns : goal.returns
returns c =
    let line = c.args.line.now in
    let at_site : c.site-site.result ≡ sites_of c.args.nodes.now c.args.self.now (site_of line.event) =
    c.site-site.ensures ∙ ap (sites_of c.args.nodes.now c.args.self.now) c.node.ensures in
    let moment = c.true_moment.ensures in
    let reads : c.is_reading.result ≡ is_reading line.reading (shown_by c.site-site.result line.event) =
    rw moment at c.is_reading.ensures in
    let shown = ap (λ (site : Site). is_reading line.reading (shown_by site line.event)) at_site in
    λ i. record {
      line = c.args.number;
      reading = c.moment_or_zero.ensures i;
      number = record { 0 = c.number.ensures i };
      reads = (reads ∙ shown) i;
      last_sync = (at_site i).last_sync;
    }
