use Rattle.std.proofs.Common.{ℕ, ◌∙◌, ◌-◌, sym, ap}
use Rattle.capture_frame.specs.Octets.{two_octets}
use Rattle.capture_frame.specs.Inner.Walk.{payload_of}
use Rattle.capture_frame.specs.Tags.{CarriesByType, IsTagged, next_type, tag_size}
use Rattle.capture_frame.proofs.Chains.{chain_cut, chain_end, chain_step}
use Rattle.capture_frame.proofs.Tagged.{tags}
use Rattle.capture_frame.proofs.Only.{none_only, only_same, same_along}
use Rattle.capture_frame.proofs.ether.in_tags.Goals as goal

pub returns-in_err-tag : goal.returns-in_err-tag
returns-in_err-tag c =
    none_only payload_of (IsTagged c.args.first c.args.octets.now) c.from_residual.result c.from_residual.ensures
    (λ payload h. chain_cut tag_size next_type CarriesByType tags c.loop-size.kind c.loop-size.rest.now c.in-Some.size
    (sym c.in-Some.ensures) c.in_err-tag.ensures payload (c.loop-size.invariant.back payload h))

pub loop-size-preserved : goal.loop-size-preserved
loop-size-preserved c =
    let cut = c.in_ok-tag.ensures in
    same_along _ _ _
    (chain_step tag_size next_type CarriesByType tags c.loop-size.kind c.u16_at-kind.result c.loop-size.rest.now c.in-Some.size
    c.in_ok-tag.tag.now c.in_ok-tag.behind.now (sym c.in-Some.ensures) cut
    (c.u16_at-kind.ensures ∙ ap (λ (n : ℕ). two_octets c.in_ok-tag.tag.now (n - 2)) (sym cut.size)))
    c.loop-size.invariant

pub returns : goal.returns
returns c =
    only_same _ _ _
    (same_along _ _ _
    (chain_end tag_size next_type CarriesByType tags c.loop-size.kind c.loop-size.rest.now (sym c.in_default.ensures))
    c.loop-size.invariant)
    c.behind_tags.ensures
