-- The header that a link type puts in front.
use Rattle.std.proofs.Common.{◌≡◌, ◌∙◌, ℕ, List, sym, subst}
use Rattle.capture_frame.specs.Link.{IsFrame}
use Rattle.capture_frame.specs.Octets.{two_octets}
use Rattle.capture_frame.specs.Payload.{Payload}
use Rattle.capture_frame.specs.Tags.{IsTagged}
use Rattle.capture_frame.specs.Inner.Walk.{IsCut}
use Rattle.capture_frame.proofs.Cuts.{one_cut}
use Rattle.capture_frame.proofs.Only.{IsSame}

pub frame_at : (count place : ℕ) (octets header behind : List ℕ) (payload : Payload) → IsCut octets count header behind
    → IsFrame count place octets payload → IsTagged (two_octets header place) behind payload
frame_at count place octets header behind payload cut frame =
    let same = one_cut frame.header frame.behind header behind (sym frame.parts ∙ cut.parts) (frame.size ∙ sym cut.size) in
    subst (λ (b : List ℕ). IsTagged (two_octets header place) b payload) same.1
    (subst (λ (h : List ℕ). IsTagged (two_octets h place) frame.behind payload) same.0 frame.carries)

-- a packet carries what its tags do
pub frame_same : (count place kind : ℕ) (octets header behind : List ℕ) → IsCut octets count header behind → kind ≡ two_octets header place
    → IsSame (IsTagged kind behind) (IsFrame count place octets)
frame_same count place kind octets header behind cut is = record {
  to = λ payload h. record {
    header = header;
    behind = behind;
    parts = cut.parts;
    size = cut.size;
    carries = subst (λ (k : ℕ). IsTagged k behind payload) is h;
  };
  back = λ payload frame. subst (λ (k : ℕ). IsTagged k behind payload) (sym is) (frame_at count place octets header behind payload cut frame);
}
