use Rattle.std.proofs.Common.{◌∙◌, ◌∷◌, ◌++◌, sym, ap, subst}
use Rattle.sha2.specs.Hashers.{Holds256}
use Rattle.network_model.specs.Inner.Keyed.{octets_of_identity}
use Rattle.network_model.proofs.Digested.{appended, node_appended}
use Rattle.network_model.proofs.keyed.take_node.Goals as goal

pub returns-in-Some : goal.returns-in-Some
returns-in-Some c = λ octets held.
    let named = c.update-2.ensures _ (c.update.ensures octets held) in
    let port = ap (λ port. 10 ∷ c.in-Some.identity.clock ++ port) (sym c.to_be_bytes-port.ensures) in
    subst (Holds256 c.update-in-Some-3.new.self)
    (appended _ 10 c.in-Some.identity.clock c.to_be_bytes-port.result
    ∙ node_appended octets _ _ c.args.node.now (c.as_bytes-name.ensures.value ∙ c.text.ensures.value)
    (ap octets_of_identity (sym c.identity.ensures ∙ c.in-Some.is) ∙ port))
    (c.update-in-Some-3.ensures _ (c.update-in-Some-2.ensures _ (c.update-in-Some.ensures _ named)))

pub returns-in-None : goal.returns-in-None
returns-in-None c = λ octets held.
    subst (Holds256 c.update-in-None.new.self)
    (node_appended octets _ _ c.args.node.now (c.as_bytes-name.ensures.value ∙ c.text.ensures.value) (ap octets_of_identity (sym c.identity.ensures ∙ c.in-None.is)))
    (c.update-in-None.ensures _ (c.update-2.ensures _ (c.update.ensures octets held)))
