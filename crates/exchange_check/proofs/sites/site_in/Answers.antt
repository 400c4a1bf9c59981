use Rattle.std.proofs.Common.{◌≡◌, ◌∙◌, true, false, is_some, slice_index_or, arith, rules}
use Rattle.network_model.specs.Network.{node_of}
use Rattle.exchange_check.specs.Inner.Kept.{new_site}
use Rattle.exchange_check.proofs.KeptSites.{site-found, site-absent}
use Rattle.exchange_check.proofs.sites.site_in.Goals as goal

pub returns-in_default : goal.returns-in_default
returns-in_default c =
    let fresh : c.default.result ≡ new_site = search rules in
    let none : is_some (node_of c.args.nodes.now c.args.name.now) ≡ false = search rules in
    fresh ∙ site-absent c.args.sites.now c.args.nodes.now c.args.name.now none

pub returns-in-Some-get : goal.returns-in-Some-get
returns-in-Some-get c =
    let kept : c.in-Some-get.site.now ≡ slice_index_or c.args.sites.now c.in-Some.place new_site =
    c.in-Some-get.ensures.lookup.4 (omega arith) new_site in
    let there : is_some (node_of c.args.nodes.now c.args.name.now) ≡ true = search rules in
    kept
    ∙ site-found c.args.sites.now c.args.nodes.now c.args.name.now c.in-Some.place c.in-Some.ensures.network.names
    c.in-Some.ensures.node there

pub returns-in-None : goal.returns-in-None
returns-in-None c =
    let fresh : c.default-in-None.result ≡ new_site = search rules in
    let kept : new_site ≡ slice_index_or c.args.sites.now c.in-Some.place new_site =
    c.in-None.ensures.lookup.4 (omega arith) new_site in
    let there : is_some (node_of c.args.nodes.now c.args.name.now) ≡ true = search rules in
    fresh ∙ kept
    ∙ site-found c.args.sites.now c.args.nodes.now c.args.name.now c.in-Some.place c.in-Some.ensures.network.names
    c.in-Some.ensures.node there
