use Rattle.std.proofs.Common.{◌≡◌, ◌∙◌, ◌++◌, ◌∷◌, [], ◌<◌, List, true, length, is_some, slice_set, ap, arith, rules}
use Rattle.std.proofs.lemmas.Grind.{common_steps}
use Rattle.network_model.specs.Network.{node_of}
use Rattle.exchange_check.specs.declared.facts.Site.{Site}
use Rattle.exchange_check.specs.Inner.Kept.{new_site, site_in}
use Rattle.exchange_check.proofs.KeptSites.{site-more, site-moved, place-within, kept-read}
use Rattle.exchange_check.proofs.sites.move_site.Goals as goal

pub loop-preserved : goal.loop-preserved
loop-preserved c =
    let pushed : c.push.new.self.items ≡ c.loop.sites.items ++ new_site ∷ [] = search rules in
    record {
      same = ap (λ (items : List Site). site_in items c.args.nodes.now) pushed
          ∙ site-more c.loop.sites.items c.args.nodes.now ∙ c.loop.invariant.same;
      grown = let before = c.loop.invariant.grown in grind (arith, common_steps);
    }

pub index-site-requires : goal.index-site-requires
index-site-requires c =
    let there : is_some (node_of c.args.nodes.now c.node.result) ≡ true = search rules in
    let within = place-within c.args.nodes.now c.node.result c.in-Some.place c.in-Some.ensures.node there in
    let grown = c.loop.invariant.grown in
    grind (arith, common_steps)

pub index_mut-requires : goal.index_mut-requires
index_mut-requires c =
    let there : is_some (node_of c.args.nodes.now c.node.result) ≡ true = search rules in
    let within = place-within c.args.nodes.now c.node.result c.in-Some.place c.in-Some.ensures.node there in
    let grown = c.loop.invariant.grown in
    grind (arith, common_steps)

pub returns-clause-moved : goal.returns-clause-moved
returns-clause-moved c = λ known.
    let there : is_some (node_of c.args.nodes.now c.node.result) ≡ true = search rules in
    let within = place-within c.args.nodes.now c.node.result c.in-Some.place c.in-Some.ensures.node there in
    let grown = c.loop.invariant.grown in
    let low : c.in-Some.place < length c.loop.sites.items = grind (arith, common_steps) in
    ap (λ (site : Site). site_in (slice_set c.loop.sites.items c.in-Some.place site) c.args.nodes.now) c.moved.ensures
    ∙ site-moved c.args.event.now c.args.number c.args.sites.now.items c.loop.sites.items c.args.nodes.now
    c.node.result c.in-Some.place c.index-site.result.now c.node.ensures c.in-Some.ensures.network.names
    c.in-Some.ensures.node known low
    (kept-read c.loop.sites.items c.in-Some.place c.index-site.result.now low c.index-site.ensures)
    c.loop.invariant.same
