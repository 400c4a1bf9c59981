use Rattle.std.proofs.Common.{◌≡◌, ℕ, ◌≤◌, List, length, take, Result, Ok, Err, MatchResult, IfOk, IsOkAnd, None, Some, subst}
use Rattle.event_codec.specs.Layout.{number}
use Rattle.signaling_codec.specs.declared.refusal.SignalingRefusal.{SignalingRefusal}
use Rattle.signaling_codec.specs.declared.signaling.Signaling.{Signaling}
use Rattle.signaling_codec.specs.Packet.{IsSignaling}
use Rattle.signaling_codec.specs.Refusal.{signaling_refusal}
use Rattle.signaling_codec.proofs.Front.{signaling_same, front_length, signaling_none}
use Rattle.signaling_codec.proofs.decoding.decode_signaling.Goals as goal

only : (result : Result Signaling SignalingRefusal) (b : List ℕ)
    → IfOk result (λ m. (number b 2 2 ≤ length b) × IsSignaling m (take (number b 2 2) b))
    → MatchResult result (λ _. signaling_refusal b ≡ None) (λ e. signaling_refusal b ≡ Some e)
    → (m : Signaling) (n : ℕ) → n ≤ length b → IsSignaling m (take n b) → IsOkAnd result (λ it. it ≡ m)
only (Ok it) b read refused m n fits p =
    signaling_same it m (take n b) (subst (λ (k : ℕ). IsSignaling it (take k b)) (front_length m b n fits p) read.1) p
only (Err e) b read refused m n fits p = let none : signaling_refusal b ≡ None = signaling_none m b n fits p in absurd cc

pub returns-clause-only : goal.returns-clause-only
returns-clause-only c = only c.message_at_front.result c.args.octets.now c.message_at_front.ensures.read c.message_at_front.ensures.refused
