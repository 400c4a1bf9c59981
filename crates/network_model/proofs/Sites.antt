-- An event at a node, and the node of a name.
-- Tests of names become equations of names here.
use Rattle.std.proofs.Common.{◌≡◌, Bool, true, arith, subst}
use Rattle.std.proofs.lemmas.Bool.{and_parts, and_from}
use Rattle.std.proofs.lemmas.Slice.Eq.{bytes_eq-Decides}
use Rattle.network_model.specs.declared.event.Event.{Event}
use Rattle.network_model.specs.Network.{NodeName, is_named}
use Rattle.network_model.specs.Run.{site_of}
use Rattle.network_model.specs.Kinds.{is_at}

pub named-self : (name : NodeName) → is_named name name ≡ true
named-self name = grind (arith, bytes_eq-Decides name name)

pub named-same : (a b : NodeName) → is_named a b ≡ true → a ≡ b
named-same a b named = grind (arith, bytes_eq-Decides a b)

-- an event of a kind at a node
pub at_kind : (kind : Event → Bool) (node : NodeName) (event : Event) → is_at kind node event ≡ true → kind event ≡ true
at_kind kind node event is = (and_parts (kind event) (is_named (site_of event) node) is).0

pub at_site : (kind : Event → Bool) (node : NodeName) (event : Event) → is_at kind node event ≡ true → site_of event ≡ node
at_site kind node event is = named-same (site_of event) node (and_parts (kind event) (is_named (site_of event) node) is).1

pub at_node : (kind : Event → Bool) (node : NodeName) (event : Event) → kind event ≡ true → site_of event ≡ node → is_at kind node event ≡ true
at_node kind node event is here =
    and_from (kind event) (is_named (site_of event) node) is (subst (λ (name : NodeName). is_named (site_of event) name ≡ true) here (named-self (site_of event)))
