use Rattle.std.proofs.Common.{List, ℕ, ◌∙◌, take, drop, sym, subst}
use Rattle.std.proofs.lemmas.List.{take-append-drop}
use Rattle.capture_frame.specs.Found.{IsFound}
use Rattle.capture_frame.specs.Link.{link_numbered}
use Rattle.capture_frame.proofs.Fronts.{front_found}
use Rattle.capture_frame.proofs.laws.found_as_captured.Goals as goal

pub returns : goal.returns
returns c captured whole h is =
    let octets = c.args.octets.now in
    let count = c.args.count in
    let all = take-append-drop count octets in
    let only = c.find_datagram.ensures.only in
    front_found (link_numbered c.args.link) (take count octets) (drop count octets) whole
    (subst (λ (o : List ℕ). IsFound c.args.link o whole) (sym all) is)
    (λ answer k. only answer (subst (λ (o : List ℕ). IsFound c.args.link o answer) all k) ∙ sym (only whole is))
    captured h
