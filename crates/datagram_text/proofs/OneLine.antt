-- A line of digits has one answer.
use Rattle.std.proofs.Common.{◌≡◌, ℕ, List, [], ◌∷◌, ◌++◌, sym, ap, ◌∙◌, subst}
use Rattle.datagram_text.specs.Shown.{IsShownAs}
use Rattle.datagram_text.proofs.OneText.{one_text}
use Rattle.datagram_text.specs.Show.{IsAnswer}

pub one_answer : (digits one other : List ℕ) → IsAnswer digits one → IsAnswer digits other → one ≡ other
one_answer digits one other a b =
    let datagram : a.datagram ≡ b.datagram = cc (a.hexadecimal, b.hexadecimal) in
    let text : a.text ≡ b.text = one_text b.datagram a.text b.text (subst (λ (d : List ℕ). IsShownAs d a.text) datagram a.shown) b.shown in
    a.ended ∙ ap (λ (t : List ℕ). t ++ 10 ∷ []) text ∙ sym b.ended
