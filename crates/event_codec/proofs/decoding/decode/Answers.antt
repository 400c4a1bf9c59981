use Rattle.std.proofs.Common.{◌≡◌, ℕ, ◌≤◌, List, length, take, Result, Ok, Err, MatchResult, IfOk, IsOkAnd, None, Some, sym, ◌∙◌, subst}
use Rattle.event_codec.specs.declared.message.Message.{Message}
use Rattle.event_codec.specs.declared.refusal.DecodeRefusal.{DecodeRefusal}
use Rattle.event_codec.specs.Packet.{Contents, Packet, contents}
use Rattle.event_codec.specs.Reading.{Reading, IsReading, Answers}
use Rattle.event_codec.specs.Refusal.{decode_refusal, message_length}
use Rattle.event_codec.proofs.Same.{contents_same, front_length, decode_refusal-message}
use Rattle.event_codec.proofs.decoding.decode.Goals as goal

only : (result : Result (Message × ℕ) DecodeRefusal) (b : List ℕ)
    → IfOk result (λ r. (r.1 ≤ length b) × Packet (contents r.0) (take r.1 b))
    → MatchResult result (λ _. decode_refusal b ≡ None) (λ e. decode_refusal b ≡ Some e)
    → (m : Contents) (n : ℕ) → n ≤ length b → Packet m (take n b) → IsOkAnd result (λ r. (contents r.0 ≡ m) × (r.1 ≡ n))
only (Ok r) b read refused m n fits p =
    let same : r.1 ≡ n = sym (front_length (contents r.0) b r.1 read.0 read.1) ∙ front_length m b n fits p in
    (contents_same (contents r.0) m (take n b) (subst (λ k. Packet (contents r.0) (take k b)) same read.1) p, same)
only (Err e) b read refused m n fits p = let none : decode_refusal b ≡ None = decode_refusal-message m b n fits p in absurd cc

pub returns-clause-only : goal.returns-clause-only
returns-clause-only c = only c.message_at_front.result c.args.octets.now c.message_at_front.ensures.read c.message_at_front.ensures.refused

reading : (result : Result (Message × ℕ) DecodeRefusal) (b : List ℕ)
    → IfOk result (λ r. (r.1 ≤ length b) × Packet (contents r.0) (take r.1 b))
    → MatchResult result (λ _. decode_refusal b ≡ None) (λ e. decode_refusal b ≡ Some e)
    → (said : Reading) → IsReading b said → Answers result said
reading (Ok (m, used)) b read refused (Ok said) is = only (Ok (m, used)) b read refused said (message_length said) is.0 is.1
reading (Ok (m, used)) b read refused (Err e) is = absurd cc
reading (Err e) b read refused (Ok said) is = only (Err e) b read refused said (message_length said) is.0 is.1
reading (Err e) b read refused (Err f) is = cc

pub returns-clause-reading : goal.returns-clause-reading
returns-clause-reading c = reading c.message_at_front.result c.args.octets.now c.message_at_front.ensures.read c.message_at_front.ensures.refused
