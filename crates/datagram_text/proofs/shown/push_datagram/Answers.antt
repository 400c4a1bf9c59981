use Rattle.std.proofs.Common.{◌≡◌, ◌≤◌, ◌++◌, ℕ, List, length, take, Result, Ok, Err, OnOk, inl, refl}
use Rattle.event_codec.specs.Packet.{Contents, Packet, contents}
use Rattle.datagram_text.specs.Shown.{AppendsShown, message_text}
use Rattle.datagram_text.proofs.shown.push_datagram.Goals as goal

AppendsShown-message : {A E : Type 0} (r : Result A E) (octets old new : List ℕ) (m : Contents) (used : ℕ) → used ≤ length octets → Packet m (take used octets)
    → OnOk r (new ≡ old ++ message_text m used) → OnOk r (AppendsShown octets old new)
AppendsShown-message (Ok x) octets old new m used within packet appended =
    (message_text m used, inl (record { message = m; used = used; within = within; packet = packet; shown = refl }), appended)
AppendsShown-message (Err e) octets old new m used within packet appended = appended

pub returns-in-Ok : goal.returns-in-Ok
returns-in-Ok c =
    AppendsShown-message c.push_message.result _ _ _ (contents c.in-Ok.message) c.in-Ok.used c.in-Ok.ensures.read.0 c.in-Ok.ensures.read.1 c.push_message.ensures
