-- The line that tells a verdict.
use Rattle.std.specs.Prelude.{ℕ, List, [], ◌∷◌, ◌++◌, codes, decimal}
use Rattle.trace_model.specs.declared.verdict.Verdict.{Verdict}
use Rattle.trace_model.specs.declared.verdict.Verdict.TheVariants as verdicts
use Rattle.trace_model.specs.Refusal.{code_of}

-- the line that tells a verdict
abbrev pub verdict_text : Verdict → List ℕ
verdict_text (verdicts.Accepted count) = codes "accepted " ++ (decimal count ++ 10 ∷ [])
verdict_text (verdicts.Refused number why) =
    codes "refused event " ++ (decimal number ++ (codes ": " ++ (decimal (code_of why) ++ 10 ∷ [])))
