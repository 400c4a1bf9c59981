-- What was written of sums.
use Rattle.std.proofs.Common.{◌≡◌, ◌∙◌, ℕ, List, [], ◌++◌, Option, Result, Ok, Err, ap, subst}
use Rattle.std.specs.Prelude.{MatchResult}
use Rattle.std.specs.Io.KnownBytes.{Appends}
use Rattle.text_lines.specs.declared.writing.WriteFailed.{WriteFailed}
use Rattle.tap_follow.specs.Course.{Course}
use Rattle.tap_follow.specs.SoFar.{crossings_so_far}
use Rattle.tap_sums.specs.Text.{sums_text}
use Rattle.tap_follow.specs.declared.fault.FollowFault.{FollowFault}
use Rattle.tap_follow.specs.declared.fault.FollowFault.TheVariants.{Write, Field, Memory, ThirdTap}
use Rattle.tap_follow.specs.Summed.{WritesSums}

pub wrote_sums : {T : Type 0} (r : Result T FollowFault) (c : Course) (before went : Option (List ℕ)) (start told text : List ℕ)
    → start ≡ [] → told ≡ start ++ sums_text (crossings_so_far c) → text ≡ told
    → MatchResult r (λ done. Appends before went text) (λ fault. (failed : WriteFailed) × (fault ≡ Write))
    → WritesSums r c before went
wrote_sums (Ok done) c before went start told text none is same out =
    subst (Appends before went) (same ∙ is ∙ ap (λ (t : List ℕ). t ++ sums_text (crossings_so_far c)) none) out
wrote_sums (Err Write) c before went start told text none is same failed = tt
wrote_sums (Err Field) c before went start told text none is same (failed, write) = absurd cc
wrote_sums (Err Memory) c before went start told text none is same (failed, write) = absurd cc
wrote_sums (Err (ThirdTap name)) c before went start told text none is same (failed, write) = absurd cc
