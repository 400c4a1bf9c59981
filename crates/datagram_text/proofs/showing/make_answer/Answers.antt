use Rattle.std.proofs.Common.{◌≡◌, ◌∙◌, ℕ, ◌/◌, ◌%◌, ◌==◌, ◌++◌, Bool, true, false, cond, List, length, Result, Ok, Err, inr, lit<, refl, sym, ap}
use Rattle.std.specs.Prelude.{MatchResult}
use Rattle.std.specs.Result.{is_ok, is_err}
use Rattle.std.proofs.lemmas.Result.{err_from_is_err_and}
use Rattle.hex.specs.Hex.{decode_of, decode_sized, decode_pairs}
use Rattle.hex.specs.declared.FromHexError.{FromHexError}
use Rattle.hex.specs.declared.FromHexError.TheVariants.{OddLength, InvalidStringLength}
use Rattle.datagram_text.proofs.showing.make_answer.Goals as goal

decoded_by_cases : {A : Type 0} (odd fits : Bool) (pairs : Result (List ℕ) FromHexError) (bad short : FromHexError) (r : Result A FromHexError) (done : Result A FromHexError) (out : List ℕ) → is_err done ≡ false
    → MatchResult (cond odd (Err bad) (cond fits pairs (Err short))) (λ bytes. (r ≡ done) × (out ≡ bytes)) (λ e. r ≡ Err e) → is_err r ≡ false → cond odd (Err bad) pairs ≡ Ok out
decoded_by_cases true fits pairs bad short r done out fine h ok = absurd (cc (ap is_err h))
decoded_by_cases false true (Ok bytes) bad short r done out fine h ok = ap Ok (sym h.1)
decoded_by_cases false true (Err e) bad short r done out fine h ok = absurd (cc (ap is_err h))
decoded_by_cases false false pairs bad short r done out fine h ok = absurd (cc (ap is_err h))

decoded : (digits out : List ℕ) (room : ℕ) (r : Result (Unit {0}) FromHexError) → MatchResult (decode_sized digits room) (λ bytes. (r ≡ Ok tt) × (out ≡ bytes)) (λ e. r ≡ Err e)
    → is_err r ≡ false → decode_of digits ≡ Ok out
decoded digits out room r =
    decoded_by_cases (length digits % 2 == 1) (length digits / 2 == room) (decode_pairs 0 digits) OddLength InvalidStringLength r (Ok tt) out refl

pub returns-in_err-push : goal.returns-in_err-push
returns-in_err-push c =
    let e = err_from_is_err_and c.from_residual-in_err-push.result c.from_residual-in_err-push.ensures.1 in
    let datagram : decode_of c.args.digits.now ≡ Ok c.decode_to_slice.new.out =
    decoded c.args.digits.now c.decode_to_slice.new.out _ c.decode_to_slice.result c.decode_to_slice.ensures.value (sym c.is_err.ensures.value ∙ c.if-is_err.false) in
    rw (e.1, e.2) (inr refl, ap is_ok datagram)

pub returns : goal.returns
returns c =
    let shown = c.in_ok-push_datagram.ensures in
    record {
      datagram = c.decode_to_slice.new.out;
      hexadecimal = decoded c.args.digits.now c.decode_to_slice.new.out _ c.decode_to_slice.result c.decode_to_slice.ensures.value (sym c.is_err.ensures.value ∙ c.if-is_err.false);
      text = shown.0;
      shown = shown.1;
      ended = c.in_ok-push.ensures.bytes ∙ (λ j. (shown.2 ∙ ap (λ (x : List ℕ). x ++ shown.0) c.clear.ensures.bytes) j ++ c.in_ok-push.ensures.ascii (lit< tt) j);
    }
