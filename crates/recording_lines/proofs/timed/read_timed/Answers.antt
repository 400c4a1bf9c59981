use Rattle.std.proofs.Common.{◌≡◌, None, Result, Ok, Err, sym, take, ◌∙◌}
use Rattle.std.specs.Prelude.{MatchResult}
use Rattle.std.specs.Result.{result_ok}
use Rattle.std.specs.Str.{IsUtf8}
use Rattle.recording_lines.proofs.Times.{not_text}
use Rattle.recording_lines.proofs.timed.read_timed.Goals as goal

refused : {T E : Type 0} (r : Result T E) (P : T → Type 0) (Q : Type 0) (R : E → Type 0) → result_ok r ≡ None
    → MatchResult r P (λ e. Q × R e) → Q
refused (Ok x) P Q R none h = absurd cc
refused (Err e) P Q R none h = h.0

pub returns-in_err-text : goal.returns-in_err-text
returns-in_err-text c =
    let bad : ¬ (IsUtf8 (take c.in_ok-blank.blank c.args.line.now)) =
    refused c.from_utf8.result _ _ _ (sym c.ok.ensures.value ∙ c.in_err-text.was) c.from_utf8.ensures.cases in
    let none = not_text (take c.in_ok-blank.blank c.args.line.now) bad in
    rw (c.from_residual-in_err-text.ensures, sym c.in_ok-blank.ensures, none)
